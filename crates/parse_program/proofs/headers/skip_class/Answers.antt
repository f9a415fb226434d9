use Rattle.std.proofs.Common.{refl, sym}
use Rattle.reference_parser.specs.Fronts.{is_constant}
use Rattle.reference_parser.specs.Stops.{class_header}
use Rattle.parse_state.proofs.Steps.{later_of, later_then}
use Rattle.parse_state.proofs.Seen.{sees, seen}
use Rattle.parse_program.proofs.Moving.{kept_closed, kept_failed, kept_fault, kept_no, kept_then, kept_unmet, kept_yes, moves_handed}
use Rattle.parse_program.proofs.headers.skip_class.Goals as goal

pub returns-then-not-is_constant : goal.returns-then-not-is_constant
unfolding class_header
returns-then-not-is_constant g c = record { moves = λ w s a. kept_no _ _ _ (seen (λ t. is_constant t) c.is_constant.ensures (sees c.lookahead.ensures.rest (c.bump.ensures.at w s a)) c.if-not-is_constant.true) (kept_fault _) }

pub returns-in_err-skip_superclass : goal.returns-in_err-skip_superclass
unfolding class_header
returns-in_err-skip_superclass g c = record {
  moves = λ w s a. moves_handed _ _ c.from_residual.ensures.1
      (kept_yes _ _ _ (seen (λ t. is_constant t) c.is_constant.ensures (sees c.lookahead.ensures.rest (c.bump.ensures.at w s a)) c.if-not-is_constant.false)
      (kept_failed _ _ (c.in_err-skip_superclass.ensures.reads _ _ (c.bump-2.ensures.at _ _ (c.bump.ensures.at w s a)))));
}

pub returns-in_err-expect_newline : goal.returns-in_err-expect_newline
unfolding class_header
returns-in_err-expect_newline g c = record {
  moves = λ w s a. moves_handed _ _ c.from_residual-in_err-expect_newline.ensures.1
      (kept_yes _ _ _ (seen (λ t. is_constant t) c.is_constant.ensures (sees c.lookahead.ensures.rest (c.bump.ensures.at w s a)) c.if-not-is_constant.false)
      (kept_then _ _ (c.in_ok-skip_superclass.ensures.reads _ _ (c.bump-2.ensures.at _ _ (c.bump.ensures.at w s a))) (λ t r z b. kept_unmet b _ _ (c.in_err-expect_newline.ensures.expects r z b))));
}

pub returns : goal.returns
unfolding class_header
returns g c = record {
  moves = λ w s a.
      let sup = c.in_ok-skip_superclass.ensures.reads _ _ (c.bump-2.ensures.at _ _ (c.bump.ensures.at w s a)) in
      let l = later_then c.bump.ensures.later (later_then c.bump-2.ensures.later (later_of sup)) in
      kept_yes _ _ _ (seen (λ t. is_constant t) c.is_constant.ensures (sees c.lookahead.ensures.rest (c.bump.ensures.at w s a)) c.if-not-is_constant.false)
      (kept_then _ _ sup (λ t r z b. kept_closed b _ _ l.rest (c.in_ok-expect_newline.ensures.expects r z b) (λ d m. c.close_block.ensures.at c.args.parser.now w _ s _ a (sym c.len-count.ensures) refl (later_then l m) d)));
}
