use Rattle.std.proofs.Common.{◌≡◌, ◌++◌, drop}
use Rattle.ruby_tree.specs.Views.{read_params}
use Rattle.ruby_meaning.specs.Locals.{names_of_params}
use Rattle.local_scopes.proofs.environments.push_params.Given as goal

abbrev pub invariant-loop-param : goal.invariant-loop-param
invariant-loop-param l = l.locals ++ names_of_params (read_params l.symbols (drop l.param-index l.params)) ≡ l.initial.locals ++ names_of_params (read_params l.symbols l.params)
