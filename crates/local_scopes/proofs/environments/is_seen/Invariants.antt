use Rattle.std.proofs.Common.{◌≡◌, length, reverse}
use Rattle.ruby_lexer.specs.Bytes.{is_in}
use Rattle.local_scopes.specs.Environments.{seen_names}
use Rattle.local_scopes.proofs.environments.is_seen.Given as goal

abbrev pub invariant-loop-environment : goal.invariant-loop-environment
invariant-loop-environment l = is_in l.name (seen_names l.count (reverse l.rest)) ≡ is_in l.name (seen_names l.mark (reverse l.around))

abbrev pub decreases-loop-environment : goal.decreases-loop-environment
decreases-loop-environment l = length l.rest
