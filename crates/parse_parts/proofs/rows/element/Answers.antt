use Rattle.std.proofs.Common.{sym, ◌∙◌, refl}
use Rattle.reference_parser.specs.ReadItems.{read_element}
use Rattle.parse_state.specs.Gives.{gave}
use Rattle.parse_state.proofs.Steps.{yes, no, from, and_then, failed, handed, later_same}
use Rattle.parse_parts.proofs.rows.element.Goals as goal

pub returns-in_err-part : goal.returns-in_err-part
unfolding read_element
returns-in_err-part g c = record { reads = λ w s a. handed _ _ c.from_residual.ensures.1 (yes _ (sym (c.is_mark.ensures w s a) ∙ c.if-is_mark.true) (from c.bump.ensures.later (failed _ (c.in_err-part.ensures.reads _ _ (c.bump.ensures.at w s a))))) }

pub returns-then-is_mark : goal.returns-then-is_mark
unfolding read_element
returns-then-is_mark g c = record { reads = λ w s a. yes _ (sym (c.is_mark.ensures w s a) ∙ c.if-is_mark.true) (from c.bump.ensures.later (and_then (c.in_ok-part.ensures.reads _ _ (c.bump.ensures.at w s a)) (λ t r z b h. gave b (later_same _) (record { spread = refl; tree = h })))) }

pub returns-in_err-part-2 : goal.returns-in_err-part-2
unfolding read_element
returns-in_err-part-2 g c = record { reads = λ w s a. handed _ _ c.from_residual-in_err-part-2.ensures.1 (no _ (sym (c.is_mark.ensures w s a) ∙ c.if-is_mark.false) (failed _ (c.in_err-part-2.ensures.reads w s a))) }

pub returns : goal.returns
unfolding read_element
returns g c = record { reads = λ w s a. no _ (sym (c.is_mark.ensures w s a) ∙ c.if-is_mark.false) (and_then (c.in_ok-part-2.ensures.reads w s a) (λ t r z b h. gave b (later_same _) (record { spread = refl; tree = h }))) }
