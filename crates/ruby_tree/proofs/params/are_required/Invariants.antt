use Rattle.std.proofs.Common.{◌≡◌, drop}
use Rattle.ruby_tree.specs.Names.{Texts}
use Rattle.ruby_tree.specs.Placement.{are_required}
use Rattle.ruby_tree.specs.Views.{read_params}
use Rattle.ruby_tree.proofs.params.are_required.Given as goal

abbrev pub invariant-loop-param : goal.invariant-loop-param
invariant-loop-param l = (texts : Texts) → are_required (read_params texts (drop l.param-index l.params)) ≡ are_required (read_params texts l.params)
