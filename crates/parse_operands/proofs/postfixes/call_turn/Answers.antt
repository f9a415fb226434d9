use Rattle.std.proofs.Common.{ℕ, sym, subst, IfOk, length, ◌∙◌, ◌≤◌}
use Rattle.tree_builder.proofs.GoesOn.{later, named_later}
use Rattle.reference_parser.specs.Answers.{fault}
use Rattle.reference_parser.specs.ReadOperands.{read_call}
use Rattle.parse_state.specs.Standing.{toks_of, scope_of}
use Rattle.parse_state.proofs.Steps.{here, later_same, later_then}
use Rattle.parse_state.specs.Forms.{holds_attribute}
use Rattle.parse_operands.specs.Turns.{IsLonger, ended, no_syntax}
use Rattle.parse_operands.proofs.Turning.{turn_from, turn_yes, turn_no, turn_handed, turn_found, turn_missed, command_as, found_later, if_shorter}
use Rattle.parse_operands.proofs.postfixes.call_turn.Goals as goal

pub returns-in_err-name-clause-turns : goal.returns-in_err-name-clause-turns
unfolding read_call
returns-in_err-name-clause-turns g c = λ F o b w s e h a. turn_handed _ _ c.from_residual.ensures.1 (turn_from c.bump.ensures.later (turn_missed _ (c.in_err-name.ensures.finds _ _ (c.bump.ensures.at w s a))))

pub returns-then-arguments_here-clause-turns : goal.returns-then-arguments_here-clause-turns
unfolding read_call
returns-then-arguments_here-clause-turns g c = λ F o b w s e h a. turn_from c.bump.ensures.later (turn_found (c.in_ok-name.ensures.finds _ _ (c.bump.ensures.at w s a)) (λ t1 r1 b1 l1 h1. turn_yes _ (sym (c.arguments_here.ensures _ _ b1) ∙ c.if-arguments_here.true) (ended b1 (later_same _) (command_as (c.is_mark-safe.ensures w s a) (later _ _ (later_then c.bump.ensures.later l1).names _ _ h) (c.position_from-position.ensures o _ _ e (c.bump.ensures.at w s a)) h1))))

pub returns-then-may_be_set-clause-turns : goal.returns-then-may_be_set-clause-turns
unfolding read_call
returns-then-may_be_set-clause-turns g c = λ F o b w s e h a. turn_from c.bump.ensures.later (turn_found (c.in_ok-name.ensures.finds _ _ (c.bump.ensures.at w s a)) (λ t1 r1 b1 l1 h1. turn_no _ (sym (c.arguments_here.ensures _ _ b1) ∙ c.if-arguments_here.false) (turn_yes _ (sym (c.assigns_here.ensures _ _ b1) ∙ c.if-assigns_here.true) (turn_yes fault (sym (c.attribute_here-may_be_set.ensures w s a) ∙ c.if-may_be_set.true) (ended b1 (later_same _) (holds_attribute (later _ _ (later_then c.bump.ensures.later l1).names _ _ h) (c.position_from-position.ensures o _ _ e (c.bump.ensures.at w s a)) h1))))))

pub returns-then-assigns_here-clause-turns : goal.returns-then-assigns_here-clause-turns
unfolding read_call
returns-then-assigns_here-clause-turns g c = λ F o b w s e h a. turn_from c.bump.ensures.later (turn_found (c.in_ok-name.ensures.finds _ _ (c.bump.ensures.at w s a)) (λ t1 r1 b1 l1 h1. turn_no _ (sym (c.arguments_here.ensures _ _ b1) ∙ c.if-arguments_here.false) (turn_yes _ (sym (c.assigns_here.ensures _ _ b1) ∙ c.if-assigns_here.true) (turn_no _ (sym (c.attribute_here-may_be_set.ensures w s a) ∙ c.if-may_be_set.false) no_syntax))))

pub returns-clause-turns : goal.returns-clause-turns
unfolding read_call
returns-clause-turns g c = λ F o b w s e h a. turn_from c.bump.ensures.later (turn_found (c.in_ok-name.ensures.finds _ _ (c.bump.ensures.at w s a)) (λ t1 r1 b1 l1 h1. turn_no _ (sym (c.arguments_here.ensures _ _ b1) ∙ c.if-arguments_here.false) (turn_no _ (sym (c.assigns_here.ensures _ _ b1) ∙ c.if-assigns_here.false) (c.called.ensures.turns F _ _ b t1 _ _ (c.is_mark-safe.ensures w s a) (c.position_from-position.ensures o _ _ e (c.bump.ensures.at w s a)) (later _ _ (later_then c.bump.ensures.later l1).names _ _ h) h1 b1))))

pub returns-clause-shorter : goal.returns-clause-shorter
returns-clause-shorter g c = subst (λ (k : ℕ). IfOk c.called.result (λ t. IsLonger t → length c.called.new.parser.rest.now ≤ k)) c.bump.ensures.rest (if_shorter c.called.result (length c.called.new.parser.rest.now) (length c.method_name.new.self.rest.now) (length c.bump.new.self.rest.now) (found_later (c.in_ok-name.ensures.finds (toks_of c.bump.new.self) (scope_of c.bump.new.self) (here c.bump.new.self))).rest c.called.ensures.shorter)
