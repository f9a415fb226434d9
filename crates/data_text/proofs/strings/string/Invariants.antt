use Rattle.std.proofs.Common.{length}
use Rattle.data_text.proofs.Letters.{Text}
use Rattle.data_text.proofs.strings.string.Given as goal

abbrev pub invariant-loop-text : goal.invariant-loop-text
invariant-loop-text l = Text l.text.items l.bytes l.rest

abbrev pub decreases-loop-text : goal.decreases-loop-text
decreases-loop-text l = length l.rest
