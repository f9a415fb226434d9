use Rattle.std.proofs.Common.{refl}
use Rattle.reference_parser.proofs.ClassFirst.{class_first}
use Rattle.parse_program.specs.Turn.{statement_line}
use Rattle.parse_program.proofs.Moving.{class_back, class_enters, class_fails, class_fresh, moves_as, moves_first, moves_handed, moves_second}
use Rattle.parse_program.proofs.turns.class_turn.Goals as goal

pub returns-in_err-skip_class : goal.returns-in_err-skip_class
unfolding statement_line
returns-in_err-skip_class g c = record { moves = λ w s a is. moves_handed _ _ c.from_residual.ensures.1 (class_fails s _ _ (class_first _ _ w s is) (c.in_err-skip_class.ensures.moves w s a)) }

pub returns-then-is_fault : goal.returns-then-is_fault
returns-then-is_fault g c = record {
  moves = λ w s a is.
      let header = c.in_ok-skip_class.ensures.moves w s a in
      moves_second _ (moves_as refl (c.is_fault.ensures.fault c.if-is_fault.true) (c.line-outcome.ensures.moves w s (class_back _ a header))) (class_enters s (class_fresh _ _ w s) header c.enter.ensures.at c.enter.ensures.rest);
}

pub returns : goal.returns
returns g c = record { moves = λ w s a is. moves_first _ (c.is_fault.ensures.other c.if-is_fault.false) (c.line-outcome.ensures.moves w s (class_back _ a (c.in_ok-skip_class.ensures.moves w s a))) }
