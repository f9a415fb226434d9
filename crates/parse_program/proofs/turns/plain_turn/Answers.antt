use Rattle.std.proofs.Common.{refl, ap, ◌∙◌, length}
use Rattle.parse_program.proofs.Moving.{moves_as, moves_first, moves_second}
use Rattle.parse_program.proofs.turns.plain_turn.Goals as goal

pub returns-then-is_fault : goal.returns-then-is_fault
returns-then-is_fault g c = record {
  moves = λ w s a not.
      let e = c.enter.ensures.at in
      moves_second _ (moves_as refl (c.is_fault.ensures.fault c.if-is_fault.true) (c.line-outcome.ensures.moves w s a)) (moves_as (ap length c.enter.ensures.rest) refl (c.skip_header.ensures.moves w s (record { tokens = e.tokens ∙ a.tokens; locals = e.locals; clause = e.clause }) not));
}

pub returns : goal.returns
returns g c = record { moves = λ w s a not. moves_first _ (c.is_fault.ensures.other c.if-is_fault.false) (c.line-outcome.ensures.moves w s a) }
