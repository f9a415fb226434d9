use Rattle.std.proofs.Common.{◌∙◌, arith}
use Rattle.iseq_dump.proofs.Numbers.{begins, goes_on, is_done}
use Rattle.iseq_dump.proofs.number.put_number.Goals as goal

pub loop-left-init : goal.loop-left-init
loop-left-init c = begins c.args.out.now.items c.args.number (omega arith)

pub loop-left-preserved : goal.loop-left-preserved
loop-left-preserved c = rw c.in_ok-push.ensures.items (goes_on c.loop-left.out.items c.loop-left.left _ c.loop-left.invariant c.loop-left-test.true)

pub returns : goal.returns
returns c = c.in_ok-push-2.ensures.items ∙ is_done c.loop-left.out.items c.loop-left.left _ c.loop-left.invariant c.loop-left-test.false
