use Rattle.std.proofs.Common.{◌≡◌, ◌≤◌, take}
use Rattle.data_text.specs.Lines.{newlines}
use Rattle.data_text.proofs.reading.newlines.Given as goal

abbrev pub invariant-loop-byte : goal.invariant-loop-byte
invariant-loop-byte l = (l.count ≡ newlines (take l.byte-index l.bytes)) × (l.count ≤ l.byte-index)
