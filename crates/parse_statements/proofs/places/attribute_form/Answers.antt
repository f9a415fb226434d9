use Rattle.std.proofs.Common.{codes, ◌++◌}
use Rattle.ruby_tree.specs.Rules.{is_mark}
use Rattle.tree_builder.proofs.GoesOn.{later, named_later}
use Rattle.parse_state.specs.Gives.{gave}
use Rattle.parse_state.proofs.Steps.{cut, handed, later_of, later_same, step, wanting}
use Rattle.parse_state.proofs.Seen.{seen_in}
use Rattle.parse_statements.proofs.Settings.{form_yes, form_no}
use Rattle.parse_statements.proofs.places.attribute_form.Goals as goal

pub returns-in_err-setter : goal.returns-in_err-setter
returns-in_err-setter c = record { gives = λ q t v m from sees h i k w s a. handed _ _ c.from_residual.ensures.1 (cut (c.in_err-setter.ensures.gives m i w s a)) }

pub returns-in_err-assign_attribute : goal.returns-in_err-assign_attribute
returns-in_err-assign_attribute c = record { gives = λ q t v m from sees h i k w s a. wanting _ c.from_residual-in_err-assign_attribute.ensures.1 }

pub returns-in_err-or_attribute : goal.returns-in_err-or_attribute
returns-in_err-or_attribute c = record { gives = λ q t v m from sees h i k w s a. wanting _ c.from_residual-in_err-or_attribute.ensures.1 }

pub returns-in_err-and_attribute : goal.returns-in_err-and_attribute
returns-in_err-and_attribute c = record { gives = λ q t v m from sees h i k w s a. wanting _ c.from_residual-in_err-and_attribute.ensures.1 }

pub returns-then-is_mark : goal.returns-then-is_mark
returns-then-is_mark c = record { gives = λ q t v m from sees h i k w s a. let l = later_of (c.in_ok-setter.ensures.gives m i w s a) in step (c.in_ok-setter.ensures.gives m i w s a) (λ b e. form_yes _ (seen_in (λ x t. is_mark x (codes "=") t) c.is_mark.ensures from sees c.if-is_mark.true) (gave b (later_same _) (c.in_ok-assign_attribute.ensures.made _ t v _ (later _ _ l.names _ _ h) (later _ _ l.names _ _ k) e))) }

pub returns-then-is_mark-2 : goal.returns-then-is_mark-2
returns-then-is_mark-2 c = record { gives = λ q t v m from sees h i k w s a. let l = later_of (c.in_ok-setter.ensures.gives m i w s a) in step (c.in_ok-setter.ensures.gives m i w s a) (λ b e. form_no _ (seen_in (λ x t. is_mark x (codes "=") t) c.is_mark.ensures from sees c.if-is_mark.false) (form_yes _ (seen_in (λ x t. is_mark x (codes "||=") t) c.is_mark-2.ensures from sees c.if-is_mark-2.true) (gave b (later_same _) (c.in_ok-or_attribute.ensures.made _ t m v _ (later _ _ l.names _ _ h) (named_later _ _ l.names _ _ i) (later _ _ l.names _ _ k) e)))) }

pub returns-then-is_mark-3 : goal.returns-then-is_mark-3
returns-then-is_mark-3 c = record { gives = λ q t v m from sees h i k w s a. let l = later_of (c.in_ok-setter.ensures.gives m i w s a) in step (c.in_ok-setter.ensures.gives m i w s a) (λ b e. form_no _ (seen_in (λ x t. is_mark x (codes "=") t) c.is_mark.ensures from sees c.if-is_mark.false) (form_no _ (seen_in (λ x t. is_mark x (codes "||=") t) c.is_mark-2.ensures from sees c.if-is_mark-2.false) (form_yes _ (seen_in (λ x t. is_mark x (codes "&&=") t) c.is_mark-3.ensures from sees c.if-is_mark-3.true) (gave b (later_same _) (c.in_ok-and_attribute.ensures.made _ t m v _ (later _ _ l.names _ _ h) (named_later _ _ l.names _ _ i) (later _ _ l.names _ _ k) e))))) }

pub returns : goal.returns
returns c = record { gives = λ q t v m from sees h i k w s a. let l = later_of (c.in_ok-setter.ensures.gives m i w s a) in step (c.in_ok-setter.ensures.gives m i w s a) (λ b e. form_no _ (seen_in (λ x t. is_mark x (codes "=") t) c.is_mark.ensures from sees c.if-is_mark.false) (form_no _ (seen_in (λ x t. is_mark x (codes "||=") t) c.is_mark-2.ensures from sees c.if-is_mark-2.false) (form_no _ (seen_in (λ x t. is_mark x (codes "&&=") t) c.is_mark-3.ensures from sees c.if-is_mark-3.false) (c.send_attribute.ensures.gives q t v m (m ++ codes "=") from sees (later _ _ l.names _ _ h) (named_later _ _ l.names _ _ i) (later _ _ l.names _ _ k) e w s b)))) }
