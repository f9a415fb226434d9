use Rattle.std.proofs.Common.{arith}
use Rattle.iseq_dump.proofs.Lists.{list_put}
use Rattle.iseq_dump.proofs.part.put_list.Goals as goal

pub returns : goal.returns
returns g c =
    list_put g.T.Part.fits g.T.Part.bytes c.args.items.now c.loop-item.item-index c.args.out.now.items c.loop-item.out.items c.loop-item-test.false (omega arith) c.loop-item.invariant.spelled c.loop-item.invariant.fits
