use Rattle.std.proofs.Common.{◌≡◌, length}
use Rattle.data_text.specs.Json.{behind_blanks}
use Rattle.data_text.proofs.blanks.skip_blanks.Given as goal

abbrev pub invariant-loop-first : goal.invariant-loop-first
invariant-loop-first l = behind_blanks l.rest ≡ behind_blanks l.bytes

abbrev pub decreases-loop-first : goal.decreases-loop-first
decreases-loop-first l = length l.rest
