use Rattle.std.proofs.Common.{length}
use Rattle.ruby_lexer.proofs.bytes.+starts.Given as goal

abbrev pub decreases-starts : goal.decreases-starts
decreases-starts l = length l.part.now
