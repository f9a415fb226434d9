use Rattle.parse_statements.proofs.StatementLoops.{ok_at}
use Rattle.parse_statements.proofs.modifiers.where_false.Goals as goal

pub returns : goal.returns
returns c = record { made = λ T o a t at h k. ok_at T c.if_else.result _ _ _ at (c.if_else.ensures.made T t _ _ k (c.or_empty-nothing.ensures.made T _ (c.none.ensures T)) (c.in_ok-other-2.ensures T _ (c.in_ok-other.ensures.made T o a at h))) }
