use Rattle.reference_parser.specs.ReadBodies.{read_superclass}
use Rattle.parse_state.proofs.Steps.{and_then, failed, from, handed, later_same, no, wanting, yes}
use Rattle.parse_state.specs.Gives.{gave}
use Rattle.std.proofs.Common.{sym, ◌∙◌}
use Rattle.parse_parts.proofs.branches.superclass.Goals as goal

pub returns-in_err-part : goal.returns-in_err-part
unfolding read_superclass
returns-in_err-part g c = record { reads = λ w s a. handed _ _ c.from_residual.ensures.1 (yes _ (sym (c.is_mark.ensures w s a) ∙ c.if-is_mark.true) (from c.bump.ensures.later (failed _ (c.in_err-part.ensures.reads _ _ (c.bump.ensures.at w s a))))) }

pub returns-in_err-some : goal.returns-in_err-some
returns-in_err-some g c = record { reads = λ w s a. wanting _ c.from_residual-in_err-some.ensures.1 }

pub returns-then-is_mark : goal.returns-then-is_mark
unfolding read_superclass
returns-then-is_mark g c = record { reads = λ w s a. yes _ (sym (c.is_mark.ensures w s a) ∙ c.if-is_mark.true) (from c.bump.ensures.later (and_then (c.in_ok-part.ensures.reads _ _ (c.bump.ensures.at w s a)) (λ t r z b h. gave b (later_same _) (c.in_ok-some.ensures _ t h)))) }

pub returns : goal.returns
unfolding read_superclass
returns g c = record { reads = λ w s a. no _ (sym (c.is_mark.ensures w s a) ∙ c.if-is_mark.false) (gave a (later_same _) (c.none.ensures _)) }
