use Rattle.std.proofs.Common.{arith}
use Rattle.iseq_dump.specs.Dump.{IsBody}
use Rattle.iseq_dump.proofs.Dumps.{bodies_more, lengths_more, put_long, each_more, all_of}
use Rattle.iseq_dump.proofs.dumping.put_bodies.Goals as goal

pub loop-body-preserved : goal.loop-body-preserved
loop-body-preserved c = record {
  spelled = bodies_more c.args.bodies.now c.loop-body.body-index c.body-item.result c.args.out.now.items c.loop-body.out.items c.put.new.out.items c.loop-body-test.true c.body-item.is c.in_ok-put.ensures c.loop-body.invariant.spelled;
  each = each_more c.args.bodies.now c.loop-body.body-index c.body-item.result c.loop-body-test.true c.body-item.is c.in_ok-put.ensures.fits c.loop-body.invariant.each;
  sizes = lengths_more c.args.bodies.now c.loop-body.body-index c.body-item.result c.loop-body.lengths.items c.push.new.self.items _ c.loop-body-test.true c.body-item.is (omega (arith, put_long c.body-item.result c.loop-body.out.items c.put.new.out.items c.in_ok-put.ensures)) c.loop-body.invariant.sizes c.in_ok-push.ensures.items;
}

pub returns-clause-each : goal.returns-clause-each
returns-clause-each c = all_of IsBody c.args.bodies.now c.loop-body.body-index c.loop-body-test.false c.loop-body.invariant.each
