use Rattle.tree_builder.proofs.GoesOn.{later}
use Rattle.parse_state.proofs.Steps.{later_then, later_of, and_then, failed, handed}
use Rattle.parse_operators.proofs.Parts.{not_ok, read_as}
use Rattle.parse_operators.proofs.operations.made_with.Goals as goal

pub returns-in_err-right : goal.returns-in_err-right
returns-in_err-right c = record {
  gives = λ p o v a b at from sees h read. handed _ _ c.from_residual.ensures.1 (failed _ (read_as c.in_err-right.was read));
  later = λ p b x read is. absurd (not_ok _ _ c.from_residual.ensures.1 x is);
}

pub returns : goal.returns
returns c = record {
  gives = λ p o v a b at from sees h read.
      let done = read_as c.in_ok-right.was read in
      and_then done (λ t w s n k. c.made.ensures.gives o v a t at from sees (later _ _ (later_of done).names _ _ h) k w s n);
  later = λ p b x read is. later_then (later_of (read_as c.in_ok-right.was read)) (c.made.ensures.later x is);
}
