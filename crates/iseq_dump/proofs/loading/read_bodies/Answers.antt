use Rattle.std.proofs.Common.{arith}
use Rattle.std.proofs.lemmas.Result.{err_from_is_err_and}
use Rattle.iseq_dump.proofs.Loads.{split_parts, bodies_short, bodies_fail, bodies_go_on, bodies_done}
use Rattle.iseq_dump.proofs.loading.read_bodies.Goals as goal

pub returns-then-len-entry-clause-value : goal.returns-then-len-entry-clause-value
returns-then-len-entry-clause-value g c =
    bodies_short c.loop-entry.bodies.items c.args.entries.now c.loop-entry.entry-index _ c.loop-entry.cursor _ c.loop-entry-test.true (rw c.len.ensures at c.if-len-entry.true) c.loop-entry.invariant.so_far

pub returns-in_err-body-clause-value : goal.returns-in_err-body-clause-value
returns-in_err-body-clause-value g c =
    let p = err_from_is_err_and c.from_residual.result c.from_residual.ensures.1 in
    rw (p.1, p.2) (bodies_fail c.in_err-body.field-0.0 c.loop-entry.bodies.items c.args.entries.now c.loop-entry.entry-index _ c.loop-entry.cursor _ c.loop-entry-test.true (rw c.len.ensures at c.if-len-entry.false) (rw c.split-front.ensures.front at c.in_err-body.ensures.value) c.loop-entry.invariant.so_far)

pub loop-entry-preserved : goal.loop-entry-preserved
loop-entry-preserved g c = record {
  so_far = rw c.in_ok-push.ensures.items (bodies_go_on c.loop-entry.bodies.items c.args.entries.now c.loop-entry.entry-index _ c.loop-entry.cursor c.split-front.new.self c.in_ok-body.body _ c.loop-entry-test.true (rw c.len.ensures at c.if-len-entry.false) c.split-front.ensures.rest (rw c.split-front.ensures.front at c.in_ok-body.ensures.value) c.loop-entry.invariant.so_far);
  taken = omega (arith, c.read_whole_body.ensures.taken, split_parts c.loop-entry.cursor c.split-front.result c.split-front.new.self _ (rw c.len.ensures at c.if-len-entry.false) c.split-front.ensures.front c.split-front.ensures.rest);
}

pub returns-clause-value : goal.returns-clause-value
returns-clause-value g c = bodies_done c.loop-entry.bodies.items c.args.entries.now c.loop-entry.entry-index c.loop-entry.cursor _ c.loop-entry-test.false c.loop-entry.invariant.so_far
