use Rattle.std.proofs.Common.{ap, length, arith}
use Rattle.std.proofs.Math.ListN.{length-set}
use Rattle.iseq_dump.proofs.Heads.{eight_more, eight_done}
use Rattle.iseq_dump.proofs.head.take_eight.Goals as goal

pub loop-place-preserved : goal.loop-place-preserved
loop-place-preserved g c = record {
  so_far = eight_more c.loop-place.bytes c.loop-place.place c.take.result c.loop-place.cursor c.take.new.self _ (omega arith) c.take.ensures.byte c.loop-place.invariant.so_far;
  eight = omega (arith, length-set c.loop-place.bytes c.loop-place.place c.take.result);
  taken = omega (arith, ap length c.take.ensures.byte);
}

pub returns-clause-bytes : goal.returns-clause-bytes
returns-clause-bytes g c = eight_done c.loop-place.bytes c.loop-place.place c.loop-place.cursor _ (omega arith) c.loop-place.invariant.so_far
