use Rattle.tree_builder.proofs.GoesOn.{later, all_later}
use Rattle.parse_state.specs.Gives.{gave}
use Rattle.parse_state.proofs.Steps.{here, later_same, later_of, step, cut, handed, wanting}
use Rattle.parse_operators.proofs.Parts.{not_ok}
use Rattle.parse_operators.proofs.operations.sent_to.Goals as goal

pub returns-in_err-name : goal.returns-in_err-name
returns-in_err-name c = record {
  gives = λ a ts h hs w s b. handed _ _ c.from_residual.ensures.1 (cut (c.in_err-name.ensures.gives w s b));
  later = λ x is. absurd (not_ok _ _ c.from_residual.ensures.1 x is);
}

pub returns-in_err-sent : goal.returns-in_err-sent
returns-in_err-sent c = record {
  gives = λ a ts h hs w s b. wanting _ c.from_residual-in_err-sent.ensures.1;
  later = λ x is. absurd (not_ok _ _ c.from_residual-in_err-sent.ensures.1 x is);
}

pub returns : goal.returns
returns c = record {
  gives = λ a ts h hs w s b.
      let l = later_of (c.in_ok-name.ensures.gives w s b) in
      step (c.in_ok-name.ensures.gives w s b) (λ n k. gave n (later_same _) (c.in_ok-sent.ensures.made _ _ _ _ (later _ _ l.names _ _ h) k (all_later _ _ l.names _ _ hs)));
  later = λ x is. later_of (c.in_ok-name.ensures.gives _ _ (here _));
}
