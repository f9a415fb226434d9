use Rattle.std.proofs.Common.{codes}
use Rattle.ruby_tree.specs.Tree.{at, assign, both, either}
use Rattle.ruby_tree.specs.Rules.{is_mark}
use Rattle.ruby_tree.specs.Build.{read_form}
use Rattle.parse_state.specs.Gives.{gave}
use Rattle.parse_state.proofs.Steps.{later_same, wanting}
use Rattle.parse_state.proofs.Seen.{seen_in}
use Rattle.parse_statements.proofs.Settings.{form_yes, form_no, made_of}
use Rattle.parse_statements.proofs.variables.variable_form.Goals as goal

pub returns-in_err-assign : goal.returns-in_err-assign
returns-in_err-assign c = record { gives = λ o q g v at from sees i h w s a. wanting _ c.from_residual.ensures.1 }

pub returns-in_err-assign_or : goal.returns-in_err-assign_or
returns-in_err-assign_or c = record { gives = λ o q g v at from sees i h w s a. wanting _ c.from_residual-in_err-assign_or.ensures.1 }

pub returns-in_err-assign_and : goal.returns-in_err-assign_and
returns-in_err-assign_and c = record { gives = λ o q g v at from sees i h w s a. wanting _ c.from_residual-in_err-assign_and.ensures.1 }

pub returns-then-is_mark : goal.returns-then-is_mark
returns-then-is_mark c = record { gives = λ o q g v here from sees i h w s a. form_yes _ (seen_in (λ x t. is_mark x (codes "=") t) c.is_mark.ensures from sees c.if-is_mark.true) (gave a (later_same _) (made_of (λ u. at u (assign v g)) here (c.in_ok-assign.ensures.made _ v g h i))) }

pub returns-then-is_mark-2 : goal.returns-then-is_mark-2
returns-then-is_mark-2 c = record { gives = λ o q g v here from sees i h w s a. form_no _ (seen_in (λ x t. is_mark x (codes "=") t) c.is_mark.ensures from sees c.if-is_mark.false) (form_yes _ (seen_in (λ x t. is_mark x (codes "||=") t) c.is_mark-2.ensures from sees c.if-is_mark-2.true) (gave a (later_same _) (made_of (λ u. at u (either (at u (read_form g)) (at u (assign v g)))) here (c.in_ok-assign_or.ensures.made _ g v i h)))) }

pub returns-then-is_mark-3 : goal.returns-then-is_mark-3
returns-then-is_mark-3 c = record { gives = λ o q g v here from sees i h w s a. form_no _ (seen_in (λ x t. is_mark x (codes "=") t) c.is_mark.ensures from sees c.if-is_mark.false) (form_no _ (seen_in (λ x t. is_mark x (codes "||=") t) c.is_mark-2.ensures from sees c.if-is_mark-2.false) (form_yes _ (seen_in (λ x t. is_mark x (codes "&&=") t) c.is_mark-3.ensures from sees c.if-is_mark-3.true) (gave a (later_same _) (made_of (λ u. at u (both (at u (read_form g)) (at u (assign v g)))) here (c.in_ok-assign_and.ensures.made _ g v i h))))) }

pub returns : goal.returns
returns c = record { gives = λ o q g v here from sees i h w s a. form_no _ (seen_in (λ x t. is_mark x (codes "=") t) c.is_mark.ensures from sees c.if-is_mark.false) (form_no _ (seen_in (λ x t. is_mark x (codes "||=") t) c.is_mark-2.ensures from sees c.if-is_mark-2.false) (form_no _ (seen_in (λ x t. is_mark x (codes "&&=") t) c.is_mark-3.ensures from sees c.if-is_mark-3.false) (c.operate.ensures.gives o q g v here from sees i h w s a))) }
