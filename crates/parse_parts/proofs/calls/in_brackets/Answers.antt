use Rattle.std.proofs.Common.{sym, ◌∙◌}
use Rattle.reference_parser.specs.ReadItems.{in_brackets}
use Rattle.parse_state.specs.Gives.{gave}
use Rattle.parse_state.proofs.Steps.{yes, no, from, named, handed, failed, and_then, later_of, later_same, later_then}
use Rattle.parse_parts.proofs.Parts.{given_later}
use Rattle.parse_parts.proofs.Gathering.{closed_as}
use Rattle.parse_parts.proofs.calls.in_brackets.Goals as goal

pub returns-then-is_mark : goal.returns-then-is_mark
unfolding in_brackets
returns-then-is_mark g c = record { reads = λ w s a. yes _ (sym (c.is_mark.ensures _ _ (c.bump.ensures.at w s a)) ∙ c.if-is_mark.true) (gave (c.bump-then-is_mark.ensures.at _ _ (c.bump.ensures.at w s a)) (later_then c.bump.ensures.later c.bump-then-is_mark.ensures.later) (c.nothing.ensures _)) }

pub returns-in_err-given : goal.returns-in_err-given
unfolding in_brackets
returns-in_err-given g c = record { reads = λ w s a. handed _ _ c.from_residual.ensures.1 (no _ (sym (c.is_mark.ensures _ _ (c.bump.ensures.at w s a)) ∙ c.if-is_mark.false) (from c.bump.ensures.later (failed _ (c.in_err-given.ensures.reads _ _ (c.bump.ensures.at w s a))))) }

pub returns-in_err-expect_closing : goal.returns-in_err-expect_closing
unfolding in_brackets
returns-in_err-expect_closing g c = record { reads = λ w s a. handed _ _ c.from_residual-in_err-expect_closing.ensures.1 (no _ (sym (c.is_mark.ensures _ _ (c.bump.ensures.at w s a)) ∙ c.if-is_mark.false) (from c.bump.ensures.later (and_then (c.in_ok-given.ensures.reads _ _ (c.bump.ensures.at w s a)) (λ x q y b h. named (closed_as _ _ x q y) (failed _ (c.in_err-expect_closing.ensures.reads q y b)))))) }

pub returns : goal.returns
unfolding in_brackets
returns g c = record {
  reads = λ w s a. no _ (sym (c.is_mark.ensures _ _ (c.bump.ensures.at w s a)) ∙ c.if-is_mark.false) (from c.bump.ensures.later (and_then (c.in_ok-given.ensures.reads _ _ (c.bump.ensures.at w s a)) (λ x q y b h.
      named (closed_as _ _ x q y) (and_then (c.in_ok-expect_closing.ensures.reads q y b) (λ u r z d n. gave d (later_same _) (given_later (later_of (c.in_ok-expect_closing.ensures.reads q y b)).names h))))));
}
