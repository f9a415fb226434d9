use Rattle.parse_statements.proofs.StatementLoops.{ok_at}
use Rattle.parse_statements.proofs.modifiers.where_true.Goals as goal

pub returns : goal.returns
returns c = record { made = λ T o a t at h k. ok_at T c.if_else.result _ _ _ at (c.if_else.ensures.made T t _ _ k (c.in_ok-chosen.ensures.made T o a at h) (c.none.ensures T)) }
