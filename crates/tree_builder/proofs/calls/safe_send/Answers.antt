use Rattle.std.proofs.Common.{arith}
use Rattle.tree_builder.proofs.calls.safe_send.Goals as goal
use Rattle.tree_builder.proofs.CallKinds.{safe_send_kind}

pub returns : goal.returns
returns c = record { made = λ T a ts v m b h_receiver h_arguments h_value h_name h_block. c.grown.ensures T _ (safe_send_kind T _ _ _ _ _ _ _ _ _ _ _ _ _ (c.in_ok-receiver.ensures T a h_receiver) h_arguments h_value h_name h_block (omega arith)) }
