use Rattle.std.proofs.Common.{arith}
use Rattle.std.proofs.lemmas.Result.{err_from_is_err_and}
use Rattle.iseq_dump.proofs.Loops.{times_go_on, times_end, times_done}
use Rattle.iseq_dump.proofs.part.read_times.Goals as goal

pub returns-in_err-read-clause-value : goal.returns-in_err-read-clause-value
returns-in_err-read-clause-value g c =
    let p = err_from_is_err_and c.from_residual.result c.from_residual.ensures.1 in
    rw (p.1, p.2) (times_end g.T.Part.at c.in_err-read.field-0.0 c.loop.items.items c.args.count c.loop.counter c.loop.cursor _ c.loop-test.true c.in_err-read.ensures.value c.loop.invariant.so_far)

pub loop-preserved : goal.loop-preserved
loop-preserved g c = record {
  so_far = rw c.in_ok-push.ensures.items (times_go_on g.T.Part.at c.loop.items.items c.args.count c.loop.counter c.loop.cursor c.in_ok-read.field-0 c.read.new.cursor _ c.loop-test.true c.in_ok-read.ensures.value c.loop.invariant.so_far);
  taken = omega arith;
}

pub returns-clause-value : goal.returns-clause-value
returns-clause-value g c = times_done g.T.Part.at c.loop.items.items c.args.count c.loop.counter c.loop.cursor _ c.loop-test.false c.loop.invariant.so_far
