use Rattle.std.proofs.Common.{◌≡◌, drop}
use Rattle.ruby_tree.specs.Names.{Texts}
use Rattle.ruby_tree.specs.Views.{read_params}
use Rattle.compile_table.specs.Sequences.{has_rest}
use Rattle.yarv_compile.proofs.params.has_rest.Given as goal

abbrev pub invariant-loop-param : goal.invariant-loop-param
invariant-loop-param l = (texts : Texts) → has_rest (read_params texts (drop l.param-index l.params)) ≡ has_rest (read_params texts l.params)
