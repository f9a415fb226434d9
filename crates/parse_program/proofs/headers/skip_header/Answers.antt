use Rattle.std.proofs.Common.{sym, ◌∙◌}
use Rattle.reference_parser.specs.Stops.{header_at}
use Rattle.parse_program.specs.Turn.{stops}
use Rattle.parse_program.proofs.Moving.{moves_no, moves_yes}
use Rattle.parse_program.proofs.headers.skip_header.Goals as goal

pub returns-then-is_word : goal.returns-then-is_word
unfolding header_at
returns-then-is_word g c = record { moves = λ w s a not. moves_no _ not (moves_yes _ (sym (c.is_word.ensures w _ a) ∙ c.if-is_word.true) (c.skip_module.ensures.moves _ w s a)) }

pub returns-then-is_word-2 : goal.returns-then-is_word-2
unfolding header_at
returns-then-is_word-2 g c = record { moves = λ w s a not. moves_no _ not (moves_no _ (sym (c.is_word.ensures w _ a) ∙ c.if-is_word.false) (moves_yes _ (sym (c.is_word-2.ensures w _ a) ∙ c.if-is_word-2.true) (c.skip_method.ensures.moves w s a (sym (c.is_word-2.ensures w _ a) ∙ c.if-is_word-2.true)))) }

pub returns : goal.returns
unfolding header_at
returns g c = record { moves = λ w s a not. moves_no _ not (moves_no _ (sym (c.is_word.ensures w _ a) ∙ c.if-is_word.false) (moves_no _ (sym (c.is_word-2.ensures w _ a) ∙ c.if-is_word-2.false) stops)) }
