use Rattle.std.proofs.Common.{◌≡◌, ℕ, drop, map}
use Rattle.ruby_tree.specs.Read.{goal_of}
use Rattle.ruby_meaning.specs.Locals.{of_goals}
use Rattle.local_scopes.specs.Gathering.{gathered}
use Rattle.local_scopes.proofs.gather.lists.targets.Given as goal

abbrev pub invariant-loop-each : goal.invariant-loop-each
invariant-loop-each l = (place : ℕ) → of_goals (map (goal_of l.symbols) (drop l.each-index l.targets)) (gathered l.known place) ≡ of_goals (map (goal_of l.symbols) l.targets) (gathered l.initial.known place)
