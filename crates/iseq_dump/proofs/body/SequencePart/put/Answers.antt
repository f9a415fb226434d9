use Rattle.std.proofs.Common.{arith}
use Rattle.iseq_dump.proofs.Bodies.{body_put}
use Rattle.iseq_dump.proofs.body.SequencePart.put.Goals as goal

pub returns : goal.returns
returns c =
    body_put c.args.self.now _ _ _ _ _ _ _ _ _ (omega arith) (omega arith) c.in_ok-put.ensures c.in_ok-put_number.ensures (rw c.as_slice.ensures at c.in_ok-put_list.ensures) c.in_ok-put_number-2.ensures (rw c.as_slice-2.ensures at c.in_ok-put_list-2.ensures) (rw c.flags_of.ensures at c.in_ok-push.ensures.items) (rw c.as_slice-3.ensures at c.in_ok-put_list-3.ensures) (rw c.as_slice-4.ensures at c.in_ok-put_list-4.ensures)
