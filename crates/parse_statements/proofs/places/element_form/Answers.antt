use Rattle.std.proofs.Common.{codes}
use Rattle.ruby_tree.specs.Rules.{is_mark}
use Rattle.parse_state.specs.Gives.{gave}
use Rattle.parse_state.proofs.Steps.{later_same, wanting}
use Rattle.parse_state.proofs.Seen.{seen_in}
use Rattle.parse_statements.proofs.Settings.{form_yes, form_no}
use Rattle.parse_statements.proofs.places.element_form.Goals as goal

pub returns-in_err-assign_index : goal.returns-in_err-assign_index
returns-in_err-assign_index c = record { gives = λ q t i v from sees h j k w s a. wanting _ c.from_residual.ensures.1 }

pub returns-in_err-or_index : goal.returns-in_err-or_index
returns-in_err-or_index c = record { gives = λ q t i v from sees h j k w s a. wanting _ c.from_residual-in_err-or_index.ensures.1 }

pub returns-in_err-and_index : goal.returns-in_err-and_index
returns-in_err-and_index c = record { gives = λ q t i v from sees h j k w s a. wanting _ c.from_residual-in_err-and_index.ensures.1 }

pub returns-then-is_mark : goal.returns-then-is_mark
returns-then-is_mark c = record { gives = λ q t i v from sees h j k w s a. form_yes _ (seen_in (λ x t. is_mark x (codes "=") t) c.is_mark.ensures from sees c.if-is_mark.true) (gave a (later_same _) (c.in_ok-assign_index.ensures.made _ t i v h j k)) }

pub returns-then-is_mark-2 : goal.returns-then-is_mark-2
returns-then-is_mark-2 c = record { gives = λ q t i v from sees h j k w s a. form_no _ (seen_in (λ x t. is_mark x (codes "=") t) c.is_mark.ensures from sees c.if-is_mark.false) (form_yes _ (seen_in (λ x t. is_mark x (codes "||=") t) c.is_mark-2.ensures from sees c.if-is_mark-2.true) (gave a (later_same _) (c.in_ok-or_index.ensures.made _ t i v h j k))) }

pub returns-then-is_mark-3 : goal.returns-then-is_mark-3
returns-then-is_mark-3 c = record { gives = λ q t i v from sees h j k w s a. form_no _ (seen_in (λ x t. is_mark x (codes "=") t) c.is_mark.ensures from sees c.if-is_mark.false) (form_no _ (seen_in (λ x t. is_mark x (codes "||=") t) c.is_mark-2.ensures from sees c.if-is_mark-2.false) (form_yes _ (seen_in (λ x t. is_mark x (codes "&&=") t) c.is_mark-3.ensures from sees c.if-is_mark-3.true) (gave a (later_same _) (c.in_ok-and_index.ensures.made _ t i v h j k)))) }

pub returns : goal.returns
returns c = record { gives = λ q t i v from sees h j k w s a. form_no _ (seen_in (λ x t. is_mark x (codes "=") t) c.is_mark.ensures from sees c.if-is_mark.false) (form_no _ (seen_in (λ x t. is_mark x (codes "||=") t) c.is_mark-2.ensures from sees c.if-is_mark-2.false) (form_no _ (seen_in (λ x t. is_mark x (codes "&&=") t) c.is_mark-3.ensures from sees c.if-is_mark-3.false) (c.send_element.ensures.gives q t i v from sees h j k w s a))) }
