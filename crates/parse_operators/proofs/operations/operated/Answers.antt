use Rattle.std.proofs.Common.{ap, ◌∙◌}
use Rattle.ruby_lexer.specs.Pieces.{Toks}
use Rattle.ruby_tree.specs.Rules.{word, position_with}
use Rattle.tree_builder.proofs.GoesOn.{later}
use Rattle.parse_state.specs.Gives.{gave}
use Rattle.parse_state.proofs.Steps.{here, later_same, later_of, step, cut, handed, wanting}
use Rattle.parse_state.proofs.Seen.{seen_as}
use Rattle.parse_operators.proofs.Parts.{not_ok, named_by}
use Rattle.parse_operators.proofs.operations.operated.Goals as goal

pub returns-in_err-name : goal.returns-in_err-name
returns-in_err-name c = record {
  gives = λ o v a b at from sees h k w s p. handed _ _ c.from_residual.ensures.1 (cut (c.in_err-name.ensures.gives w s p));
  later = λ x is. absurd (not_ok _ _ c.from_residual.ensures.1 x is);
}

pub returns-in_err-binary : goal.returns-in_err-binary
returns-in_err-binary c = record {
  gives = λ o v a b at from sees h k w s p. wanting _ c.from_residual-in_err-binary.ensures.1;
  later = λ x is. absurd (not_ok _ _ c.from_residual-in_err-binary.ensures.1 x is);
}

pub returns : goal.returns
returns c = record {
  gives = λ o v a b at from sees h k w s p.
      let l = later_of (c.in_ok-name.ensures.gives w s p) in
      step (c.in_ok-name.ensures.gives w s p) (λ n is. gave n (later_same _) (c.in_ok-binary.ensures.made _ _ o v a b (c.position_with-position.ensures o at ∙ ap (λ (u : Toks). position_with o u) sees) (later _ _ l.names _ _ h) (named_by (seen_as (λ x t. word x t) c.word.ensures from sees) is) (later _ _ l.names _ _ k)));
  later = λ x is. later_of (c.in_ok-name.ensures.gives _ _ (here _));
}
