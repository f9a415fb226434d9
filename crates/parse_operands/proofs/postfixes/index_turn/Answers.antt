use Rattle.std.proofs.Common.{ℕ, sym, subst, IfOk, length, ◌∙◌, ◌≤◌}
use Rattle.tree_builder.proofs.GoesOn.{later}
use Rattle.reference_parser.specs.ReadItems.{Readers}
use Rattle.reference_parser.specs.ReadOperands.{read_index}
use Rattle.parse_state.specs.Standing.{toks_of, scope_of}
use Rattle.parse_state.proofs.Steps.{here, later_then, later_of}
use Rattle.parse_operands.specs.Turns.{IsLonger}
use Rattle.parse_operands.proofs.Turning.{turn_from, turn_yes, turn_no, turn_handed, turn_then, turn_failed, if_shorter}
use Rattle.parse_operands.proofs.postfixes.index_turn.Goals as goal

pub returns-then-begins-clause-turns : goal.returns-then-begins-clause-turns
unfolding read_index
returns-then-begins-clause-turns g c = λ F o b w s e h a. turn_yes _ (sym (c.argument_behind-begins.ensures w s a) ∙ c.if-begins.true) (turn_from c.bump.ensures.later (c.index_from.ensures.turns F o b w s (c.position_from-position.ensures o _ _ e a) (later _ _ c.bump.ensures.later.names _ _ h) (c.bump.ensures.at w s a)))

pub returns-then-begins-clause-shorter : goal.returns-then-begins-clause-shorter
returns-then-begins-clause-shorter g c = subst (λ (k : ℕ). IfOk c.index_from.result (λ t. IsLonger t → length c.index_from.new.parser.rest.now ≤ k)) c.bump.ensures.rest c.index_from.ensures.shorter

pub returns-in_err-given-clause-turns : goal.returns-in_err-given-clause-turns
unfolding read_index
returns-in_err-given-clause-turns g c = λ F o b w s e h a. turn_no _ (sym (c.argument_behind-begins.ensures w s a) ∙ c.if-begins.false) (turn_handed _ _ c.from_residual.ensures.1 (turn_from c.bump.ensures.later (turn_failed _ (c.in_err-given.ensures.reads _ _ (c.bump.ensures.at w s a)))))

pub returns-clause-turns : goal.returns-clause-turns
unfolding read_index
returns-clause-turns g c = let Q : Readers = g.N.Nested.readers c.args.nested.now c.args.context.source.now in λ F o b w s e h a. turn_no _ (sym (c.argument_behind-begins.ensures w s a) ∙ c.if-begins.false) (turn_from c.bump.ensures.later (turn_then (c.in_ok-given.ensures.reads _ _ (c.bump.ensures.at w s a)) (λ t1 r1 z1 b1 l1 h1. c.end_index.ensures.turns Q F o b w t1 r1 z1 (c.position_from-position.ensures o _ _ e a) (later _ _ (later_then c.bump.ensures.later l1).names _ _ h) h1 b1)))

pub returns-clause-shorter : goal.returns-clause-shorter
returns-clause-shorter g c = subst (λ (k : ℕ). IfOk c.end_index.result (λ t. IsLonger t → length c.end_index.new.parser.rest.now ≤ k)) c.bump.ensures.rest (if_shorter c.end_index.result (length c.end_index.new.parser.rest.now) (length c.items.new.parser.rest.now) (length c.bump.new.self.rest.now) (later_of (c.in_ok-given.ensures.reads (toks_of c.bump.new.self) (scope_of c.bump.new.self) (here c.bump.new.self))).rest c.end_index.ensures.shorter)
