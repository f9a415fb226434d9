use Rattle.std.proofs.Common.{get_or, arith}
use Rattle.data_text.proofs.Rows.{newline_more, is_newline, no_newline}
use Rattle.data_text.proofs.reading.newlines.Goals as goal
use Rattle.data_text.proofs.reading.newlines.Goals.{then-byte-eq10, else-byte-eq10}

pub loop-byte-preserved : goal.loop-byte-preserved
loop-byte-preserved c = elim c.if-byte-eq10.branch [
  | then-byte-eq10 w ↦
      let more = newline_more c.args.bytes.now c.loop-byte.byte-index c.loop-byte-test.true in
      let one = is_newline (get_or c.args.bytes.now c.loop-byte.byte-index 0) w.if-byte-eq10.true in
      (omega (arith, more, one), omega arith)
  | else-byte-eq10 w ↦
      let more = newline_more c.args.bytes.now c.loop-byte.byte-index c.loop-byte-test.true in
      let none = no_newline (get_or c.args.bytes.now c.loop-byte.byte-index 0) w.if-byte-eq10.false in
      (omega (arith, more, none), omega arith)
]
