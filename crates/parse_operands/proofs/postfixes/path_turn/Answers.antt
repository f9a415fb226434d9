use Rattle.std.proofs.Common.{sym, ◌∙◌}
use Rattle.tree_builder.proofs.GoesOn.{later, named_later}
use Rattle.reference_parser.specs.ReadOperands.{path_at}
use Rattle.parse_state.proofs.Steps.{here, later_same, later_then, later_of}
use Rattle.parse_operands.specs.Turns.{longer, no_syntax}
use Rattle.parse_operands.proofs.Turning.{turn_from, turn_yes, turn_no, turn_handed, turn_wanting, turn_step, turn_cut}
use Rattle.parse_operands.proofs.Counts.{shrinks}
use Rattle.parse_operands.proofs.postfixes.path_turn.Goals as goal

pub returns-in_err-name-clause-turns : goal.returns-in_err-name-clause-turns
unfolding path_at
returns-in_err-name-clause-turns c = λ R F o b w s e h a. turn_yes _ (sym (c.constant_behind.ensures w s a) ∙ c.if-constant_behind.true) (turn_handed _ _ c.from_residual.ensures.1 (turn_from c.bump.ensures.later (turn_cut (c.in_err-name.ensures.gives _ _ (c.bump.ensures.at w s a)))))

pub returns-in_err-whole-clause-turns : goal.returns-in_err-whole-clause-turns
returns-in_err-whole-clause-turns c = λ R F o b w s e h a. turn_wanting _ c.from_residual-in_err-whole.ensures.1

pub returns-then-constant_behind-clause-turns : goal.returns-then-constant_behind-clause-turns
unfolding path_at
returns-then-constant_behind-clause-turns c = λ R F o b w s e h a. turn_yes _ (sym (c.constant_behind.ensures w s a) ∙ c.if-constant_behind.true) (turn_from c.bump.ensures.later (turn_step (c.in_ok-name.ensures.gives _ _ (c.bump.ensures.at w s a)) (λ b1 l1 h1. turn_from c.bump-then-constant_behind.ensures.later (let m = later_then c.bump.ensures.later (later_then l1 c.bump-then-constant_behind.ensures.later) in longer (c.bump-then-constant_behind.ensures.at _ _ b1) (later_same _) (c.in_ok-whole.ensures.made _ o b _ e (later _ _ m.names _ _ h) (named_later _ _ c.bump-then-constant_behind.ensures.later.names _ _ h1))))))

pub returns-then-constant_behind-clause-shorter : goal.returns-then-constant_behind-clause-shorter
returns-then-constant_behind-clause-shorter c = λ u. shrinks _ _ _ _ c.bump.ensures.rest (later_of (c.in_ok-name.ensures.gives _ _ (here _))).rest c.bump-then-constant_behind.ensures.later.rest

pub returns-clause-turns : goal.returns-clause-turns
unfolding path_at
returns-clause-turns c = λ R F o b w s e h a. turn_no _ (sym (c.constant_behind.ensures w s a) ∙ c.if-constant_behind.false) no_syntax
