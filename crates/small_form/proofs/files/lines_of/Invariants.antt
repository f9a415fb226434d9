use Rattle.std.proofs.Common.{◌≡◌, suc, length, drop}
use Rattle.std.specs.FinMap as map
use Rattle.ruby_tree.specs.Views.{read_all}
use Rattle.small_form.specs.SmallForm.{behind, lines_from}
use Rattle.small_form.proofs.files.lines_of.Given as goal

abbrev pub invariant-loop-statement : goal.invariant-loop-statement
invariant-loop-statement l = behind l.lines (lines_from (suc (length l.lines)) l.names (read_all l.symbols (drop l.statement-index l.statements))) ≡ lines_from 1 map.empty (read_all l.symbols l.statements)
