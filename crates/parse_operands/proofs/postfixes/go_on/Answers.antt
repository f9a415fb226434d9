use Rattle.std.proofs.Common.{sym, not, codes, length, ◌∙◌}
use Rattle.ruby_tree.specs.Rules.{blank}
use Rattle.reference_parser.specs.ReadItems.{Readers}
use Rattle.reference_parser.specs.ReadOperands.{postfix_at}
use Rattle.parse_state.specs.Standing.{toks_of, scope_of}
use Rattle.parse_state.proofs.Steps.{here, later_same}
use Rattle.parse_state.specs.Forms.{holds_operand}
use Rattle.parse_operands.specs.Turns.{ended}
use Rattle.parse_operands.proofs.Turning.{turn_yes, turn_no, if_fewer}
use Rattle.parse_operands.proofs.Counts.{mark_counts, some_left, dot_counts, bracket_counts}
use Rattle.parse_operands.proofs.postfixes.go_on.Goals as goal

pub returns-then-is_dot-clause-turns : goal.returns-then-is_dot-clause-turns
unfolding postfix_at
returns-then-is_dot-clause-turns g c = λ F o b w s e h a. turn_yes _ (sym (c.is_dot.ensures w s a) ∙ c.if-is_dot.true) (c.call_turn.ensures.turns F o b w s e h a)

pub returns-then-is_mark-clause-turns : goal.returns-then-is_mark-clause-turns
unfolding postfix_at
returns-then-is_mark-clause-turns g c = let Q : Readers = g.N.Nested.readers c.args.nested.now c.args.context.source.now in λ F o b w s e h a. turn_no _ (sym (c.is_dot.ensures w s a) ∙ c.if-is_dot.false) (turn_yes _ (sym (c.is_mark.ensures w s a) ∙ c.if-is_mark.true) (c.path_turn.ensures.turns Q F o b w s e h a))

pub returns-then-index_here-clause-turns : goal.returns-then-index_here-clause-turns
unfolding postfix_at
returns-then-index_here-clause-turns g c = λ F o b w s e h a. turn_no _ (sym (c.is_dot.ensures w s a) ∙ c.if-is_dot.false) (turn_no _ (sym (c.is_mark.ensures w s a) ∙ c.if-is_mark.false) (turn_yes _ (sym (c.index_here.ensures w s a) ∙ c.if-index_here.true) (c.index_turn.ensures.turns F o b w s e h a)))

pub returns-clause-turns : goal.returns-clause-turns
unfolding postfix_at
returns-clause-turns g c = λ F o b w s e h a. turn_no _ (sym (c.is_dot.ensures w s a) ∙ c.if-is_dot.false) (turn_no _ (sym (c.is_mark.ensures w s a) ∙ c.if-is_mark.false) (turn_no _ (sym (c.index_here.ensures w s a) ∙ c.if-index_here.false) (ended a (later_same _) (holds_operand h))))

pub returns-then-is_dot-clause-shorter : goal.returns-then-is_dot-clause-shorter
returns-then-is_dot-clause-shorter g c = if_fewer c.call_turn.result (length c.call_turn.new.parser.rest.now) (length c.args.parser.now.rest.now) (some_left c.args.parser.now (dot_counts c.args.context.source.now (toks_of c.args.parser.now) (sym (c.is_dot.ensures (toks_of c.args.parser.now) (scope_of c.args.parser.now) (here c.args.parser.now)) ∙ c.if-is_dot.true))) c.call_turn.ensures.shorter

pub returns-then-is_mark-clause-shorter : goal.returns-then-is_mark-clause-shorter
returns-then-is_mark-clause-shorter g c = if_fewer c.path_turn.result (length c.path_turn.new.parser.rest.now) (length c.args.parser.now.rest.now) (some_left c.args.parser.now (mark_counts c.args.context.source.now (codes "::") (toks_of c.args.parser.now) (sym (c.is_mark.ensures (toks_of c.args.parser.now) (scope_of c.args.parser.now) (here c.args.parser.now)) ∙ c.if-is_mark.true))) c.path_turn.ensures.shorter

pub returns-then-index_here-clause-shorter : goal.returns-then-index_here-clause-shorter
returns-then-index_here-clause-shorter g c = if_fewer c.index_turn.result (length c.index_turn.new.parser.rest.now) (length c.args.parser.now.rest.now) (some_left c.args.parser.now (bracket_counts c.args.context.source.now (codes "[") (toks_of c.args.parser.now) (not (blank (toks_of c.args.parser.now))) (sym (c.index_here.ensures (toks_of c.args.parser.now) (scope_of c.args.parser.now) (here c.args.parser.now)) ∙ c.if-index_here.true))) c.index_turn.ensures.shorter
