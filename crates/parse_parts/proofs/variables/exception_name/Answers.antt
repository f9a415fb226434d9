use Rattle.std.proofs.Common.{sym, ◌∙◌}
use Rattle.reference_parser.specs.Fronts.{is_name}
use Rattle.reference_parser.specs.ReadItems.{exception_name}
use Rattle.tree_builder.proofs.Targets.{no_name, some_name}
use Rattle.tree_builder.proofs.GoesOn.{named_later}
use Rattle.parse_state.specs.Gives.{gave, no_syntax}
use Rattle.parse_state.proofs.Steps.{yes, no, from, handed, step, cut, later_same}
use Rattle.parse_state.proofs.Seen.{sees, seen}
use Rattle.parse_parts.proofs.variables.exception_name.Goals as goal

pub returns-then-not-is_mark : goal.returns-then-not-is_mark
unfolding exception_name
returns-then-not-is_mark c = record { reads = λ w s a. no _ (sym (c.is_mark.ensures w s a) ∙ c.if-not-is_mark.true) (gave a (later_same _) (no_name _)) }

pub returns-then-not-is_name : goal.returns-then-not-is_name
unfolding exception_name
returns-then-not-is_name c = record { reads = λ w s a. yes _ (sym (c.is_mark.ensures w s a) ∙ c.if-not-is_mark.false) (from c.bump.ensures.later (no _ (seen (λ t. is_name t) c.is_name.ensures (sees c.lookahead.ensures.rest (c.bump.ensures.at w s a)) c.if-not-is_name.true) no_syntax)) }

pub returns-in_err-name : goal.returns-in_err-name
returns-in_err-name c = record { reads = λ w s a. handed _ _ c.from_residual.ensures.1 (from c.bump.ensures.later (cut (c.in_err-name.ensures.gives _ _ (c.bump.ensures.at w s a)))) }

pub returns : goal.returns
unfolding exception_name
returns c = record {
  reads = λ w s a. yes _ (sym (c.is_mark.ensures w s a) ∙ c.if-not-is_mark.false) (from c.bump.ensures.later (yes _ (seen (λ t. is_name t) c.is_name.ensures (sees c.lookahead.ensures.rest (c.bump.ensures.at w s a)) c.if-not-is_name.false)
      (step (c.in_ok-name.ensures.gives _ _ (c.bump.ensures.at w s a)) (λ b i. gave (c.bump-2.ensures.at _ _ b) c.bump-2.ensures.later (some_name _ _ _ (named_later _ _ c.bump-2.ensures.later.names _ _ i))))));
}
