use Rattle.std.proofs.Common.{sym, ◌∙◌}
use Rattle.reference_parser.specs.Fronts.{is_newline}
use Rattle.reference_parser.specs.Stops.{header_at}
use Rattle.parse_state.proofs.Seen.{sees, seen}
use Rattle.parse_program.specs.Turn.{goes, turn_at}
use Rattle.parse_program.proofs.Moving.{moves_no, moves_yes, newline_fewer, second_yes}
use Rattle.parse_program.proofs.turns.turn.Goals as goal

pub returns-then-is_newline : goal.returns-then-is_newline
unfolding turn_at
returns-then-is_newline g c = record {
  moves = λ w s a.
      let newline = seen (λ t. is_newline t) c.is_newline.ensures (sees c.lookahead.ensures.rest a) c.if-is_newline.true in
      let b = c.bump.ensures.at w s a in
      moves_yes _ newline (goes b (newline_fewer a b newline));
}

pub returns-then-is_word : goal.returns-then-is_word
unfolding turn_at header_at
returns-then-is_word g c = record { moves = λ w s a. moves_no _ (seen (λ t. is_newline t) c.is_newline.ensures (sees c.lookahead.ensures.rest a) c.if-is_newline.false) (second_yes _ _ _ (sym (c.is_word.ensures w s a) ∙ c.if-is_word.true) (c.class_turn.ensures.moves w s a (sym (c.is_word.ensures w s a) ∙ c.if-is_word.true))) }

pub returns : goal.returns
unfolding turn_at
returns g c = record { moves = λ w s a. moves_no _ (seen (λ t. is_newline t) c.is_newline.ensures (sees c.lookahead.ensures.rest a) c.if-is_newline.false) (c.plain_turn.ensures.moves w s a (sym (c.is_word.ensures w s a) ∙ c.if-is_word.false)) }
