use Rattle.std.proofs.Common.{◌≡◌, ◌++◌, take}
use Rattle.data_text.proofs.blanks.word.Given as goal

abbrev pub invariant-loop-wanted : goal.invariant-loop-wanted
invariant-loop-wanted l = l.bytes ≡ take l.wanted-index l.word ++ l.rest
