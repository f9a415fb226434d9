use Rattle.std.proofs.Common.{◌≡◌, ◌+◌, ◌≤◌, length, reverse}
use Rattle.ruby_meaning.specs.Levels.{level_of, slot_of}
use Rattle.local_scopes.specs.Environments.{scopes_in}
use Rattle.local_scopes.proofs.environments.find_in.Given as goal

abbrev pub invariant-loop-environment : goal.invariant-loop-environment
invariant-loop-environment l = record {
  slot : slot_of l.name (scopes_in (reverse l.rest)) ≡ slot_of l.name (scopes_in (reverse l.around));
  level : l.level + level_of l.name (scopes_in (reverse l.rest)) ≡ level_of l.name (scopes_in (reverse l.around));
  fits : l.level + length l.rest ≤ length l.around;
}

abbrev pub decreases-loop-environment : goal.decreases-loop-environment
decreases-loop-environment l = length l.rest
