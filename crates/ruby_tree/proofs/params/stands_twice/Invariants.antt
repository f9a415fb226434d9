use Rattle.std.proofs.Common.{◌≡◌, drop}
use Rattle.ruby_tree.specs.Placement.{names_of, stands_twice}
use Rattle.ruby_tree.specs.Views.{read_params}
use Rattle.ruby_tree.proofs.Twice.{meets, lent}
use Rattle.ruby_tree.proofs.params.stands_twice.Given as goal

abbrev pub invariant-loop-param : goal.invariant-loop-param
invariant-loop-param l = meets (lent l.seen.keys) (names_of (read_params l.symbols (drop l.param-index l.params))) ≡ stands_twice (names_of (read_params l.symbols l.params))
