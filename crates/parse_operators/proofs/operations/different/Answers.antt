use Rattle.std.proofs.Common.{refl}
use Rattle.parse_state.proofs.Steps.{later_then, step, cut, handed, wanting}
use Rattle.parse_operators.proofs.Parts.{not_ok}
use Rattle.parse_operators.proofs.operations.different.Goals as goal

pub returns-in_err-arguments : goal.returns-in_err-arguments
returns-in_err-arguments c = record {
  gives = λ a b h k w s p. wanting _ c.from_residual.ensures.1;
  later = λ x is. absurd (not_ok _ _ c.from_residual.ensures.1 x is);
}

pub returns-in_err-same : goal.returns-in_err-same
returns-in_err-same c = record {
  gives = λ a b h k w s p. handed _ _ c.from_residual-in_err-same.ensures.1 (cut (c.in_err-same.ensures.gives a _ h (c.in_ok-arguments.ensures _ b k) w s p));
  later = λ x is. absurd (not_ok _ _ c.from_residual-in_err-same.ensures.1 x is);
}

pub returns : goal.returns
returns c = record {
  gives = λ a b h k w s p. step (c.in_ok-same.ensures.gives a _ h (c.in_ok-arguments.ensures _ b k) w s p) (λ n i. c.sent_alone.ensures.gives _ i w s n);
  later = λ x is. later_then (c.in_ok-same.ensures.later _ refl) (c.sent_alone.ensures.later x is);
}
