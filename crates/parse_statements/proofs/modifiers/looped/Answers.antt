use Rattle.parse_statements.proofs.StatementLoops.{ok_at, looped_ok}
use Rattle.parse_statements.proofs.modifiers.looped.Goals as goal

pub returns : goal.returns
returns c = record { made = λ T o b a t at told h k. looped_ok T c.while_loop.result o a t c.args.is_body b c.args.until told (ok_at T c.while_loop.result _ _ _ at (c.while_loop.ensures.made T _ t (c.in_ok-body.ensures.made T o a at h) k)) }
