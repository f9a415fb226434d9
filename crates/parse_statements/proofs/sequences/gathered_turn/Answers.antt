use Rattle.reference_parser.specs.Fronts.{is_newline}
use Rattle.tree_builder.proofs.GoesOn.{all_later}
use Rattle.parse_state.proofs.Steps.{later_of, later_same}
use Rattle.parse_state.proofs.Seen.{sees, seen}
use Rattle.parse_parts.specs.Turns.{goes_on, ends}
use Rattle.parse_parts.proofs.Turning.{turn_then, turn_failed, turn_yes, turn_no, turn_handed, turn_wanting}
use Rattle.parse_statements.specs.Statements.{gathered_turn}
use Rattle.parse_statements.proofs.StatementLoops.{bumped_newline}
use Rattle.parse_statements.proofs.sequences.gathered_turn.Goals as goal

pub returns-in_err-part : goal.returns-in_err-part
unfolding gathered_turn
returns-in_err-part g c = record { turns = λ w s ts k a h. turn_handed _ _ c.from_residual.ensures.1 (turn_failed _ (c.in_err-part.ensures.reads w s a)) }

pub returns-in_err-push : goal.returns-in_err-push
returns-in_err-push g c = record { turns = λ w s ts k a h. turn_wanting _ c.from_residual-in_err-push.ensures.1 }

pub returns-then-is_newline : goal.returns-then-is_newline
unfolding gathered_turn
returns-then-is_newline g c = record {
  turns = λ w s ts k a h. turn_then (c.in_ok-part.ensures.reads w s a) (λ t q y b i.
      let line = seen (λ v. is_newline v) c.is_newline.ensures (sees c.lookahead.ensures.rest b) c.if-is_newline.true in
      let old = all_later _ _ (later_of (c.in_ok-part.ensures.reads w s a)).names _ _ h in
      turn_yes _ line (goes_on (c.bump.ensures.at q y b) c.bump.ensures.later (bumped_newline b line c.bump.ensures.rest) (all_later _ _ c.bump.ensures.later.names _ _ (c.in_ok-push.ensures _ ts t old i))));
}

pub returns : goal.returns
unfolding gathered_turn
returns g c = record {
  turns = λ w s ts k a h. turn_then (c.in_ok-part.ensures.reads w s a) (λ t q y b i.
      turn_no _ (seen (λ v. is_newline v) c.is_newline.ensures (sees c.lookahead.ensures.rest b) c.if-is_newline.false) (ends b (later_same _) (c.in_ok-push.ensures _ ts t (all_later _ _ (later_of (c.in_ok-part.ensures.reads w s a)).names _ _ h) i)));
}
