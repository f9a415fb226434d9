use Rattle.std.proofs.Common.{◌≡◌, ◌++◌, take, reverse}
use Rattle.ruby_meaning.specs.Locals.{without_names}
use Rattle.local_scopes.specs.Environments.{seen_names}
use Rattle.local_scopes.proofs.KnownSteps.{lent}
use Rattle.local_scopes.proofs.environments.push_names.Given as goal

abbrev pub invariant-loop-name : goal.invariant-loop-name
invariant-loop-name l = l.locals ≡ l.initial.locals ++ without_names (l.initial.locals ++ seen_names l.mark (reverse l.seen)) (lent (take l.name-index l.names))
