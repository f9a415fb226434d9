use Rattle.reference_parser.specs.Fronts.{is_constant}
use Rattle.reference_parser.specs.Stops.{module_header}
use Rattle.parse_state.proofs.Steps.{later_then}
use Rattle.parse_state.proofs.Seen.{sees, seen}
use Rattle.parse_program.specs.Turn.{stops}
use Rattle.parse_program.proofs.Moving.{moves_both, moves_neither, moves_newline}
use Rattle.parse_program.proofs.headers.skip_module.Goals as goal

pub returns-then-not-is_constant : goal.returns-then-not-is_constant
unfolding module_header
returns-then-not-is_constant c = record { moves = λ Q w s a. moves_neither _ _ (seen (λ t. is_constant t) c.is_constant.ensures (sees c.lookahead.ensures.rest (c.bump.ensures.at _ _ a)) c.if-not-is_constant.true) stops }

pub returns : goal.returns
unfolding module_header
returns c = record {
  moves = λ Q w s a.
      let b = c.bump-2.ensures.at _ _ (c.bump.ensures.at _ _ a) in
      moves_both _ _ _ (seen (λ t. is_constant t) c.is_constant.ensures (sees c.lookahead.ensures.rest (c.bump.ensures.at _ _ a)) c.if-not-is_constant.false)
      (moves_newline b (later_then c.bump.ensures.later c.bump-2.ensures.later).rest (c.expect_newline.ensures.expects _ _ b));
}
