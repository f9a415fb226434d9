use Rattle.parse_state.proofs.Steps.{and_then, failed, handed}
use Rattle.parse_statements.proofs.arguments.behind_operand.Goals as goal

pub returns-in_err-power : goal.returns-in_err-power
returns-in_err-power g c = record { reads = λ o t at h w s a. handed _ _ c.from_residual.ensures.1 (failed _ (c.in_err-power.ensures.reads o t at h w s a)) }

pub returns-in_err-part : goal.returns-in_err-part
returns-in_err-part g c = record { reads = λ o t at h w s a. handed _ _ c.from_residual-in_err-part.ensures.1 (and_then (c.in_ok-power.ensures.reads o t at h w s a) (λ t1 r1 z1 b1 h1. failed _ (c.in_err-part.ensures.reads o t1 at h1 r1 z1 b1))) }

pub returns : goal.returns
returns g c = record { reads = λ o t at h w s a. and_then (c.in_ok-power.ensures.reads o t at h w s a) (λ t1 r1 z1 b1 h1. and_then (c.in_ok-part.ensures.reads o t1 at h1 r1 z1 b1) (λ t2 r2 z2 b2 h2. c.unassigned.ensures.reads (g.N.Nested.readers c.args.nested.now c.args.context.source.now) t2 h2 r2 z2 b2)) }
