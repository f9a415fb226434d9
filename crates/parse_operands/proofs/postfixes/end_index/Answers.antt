use Rattle.std.proofs.Common.{sym, le_trans, ◌∙◌}
use Rattle.tree_builder.proofs.GoesOn.{later, all_later, other_later}
use Rattle.reference_parser.specs.ReadOperands.{end_index}
use Rattle.parse_state.proofs.Steps.{here, later_same, later_then, later_of}
use Rattle.parse_operands.specs.Turns.{longer, no_syntax}
use Rattle.parse_state.proofs.Tools.{at_spot, send_spread}
use Rattle.parse_operands.proofs.Turning.{turn_from, turn_yes, turn_no, turn_handed, turn_wanting, turn_step, turn_cut}
use Rattle.parse_operands.proofs.postfixes.end_index.Goals as goal

pub returns-in_err-name-clause-turns : goal.returns-in_err-name-clause-turns
unfolding end_index
returns-in_err-name-clause-turns c = λ R F o b v t w s e h i a. turn_yes _ (sym (c.index_read_here.ensures w s a) ∙ c.if-index_read_here.true) (turn_handed _ _ c.from_residual.ensures.1 (turn_from c.bump.ensures.later (turn_cut (c.in_err-name.ensures.gives _ _ (c.bump.ensures.at w s a)))))

pub returns-in_err-receiver-clause-turns : goal.returns-in_err-receiver-clause-turns
returns-in_err-receiver-clause-turns c = λ R F o b v t w s e h i a. turn_wanting _ c.from_residual-in_err-receiver.ensures.1

pub returns-then-index_read_here-clause-turns : goal.returns-then-index_read_here-clause-turns
unfolding end_index
returns-then-index_read_here-clause-turns c = λ R F o b v t w s e h i a. turn_yes _ (sym (c.index_read_here.ensures w s a) ∙ c.if-index_read_here.true) (turn_from c.bump.ensures.later (turn_step (c.in_ok-name.ensures.gives _ _ (c.bump.ensures.at w s a)) (λ b1 l1 h1. let m = later_then c.bump.ensures.later l1 in longer b1 (later_same _) (at_spot e (send_spread i.spread (c.send.ensures.made _ _ _ _ _ _ (c.in_ok-receiver.ensures _ b (later _ _ m.names _ _ h)) (all_later _ _ m.names _ _ i.trees) (other_later _ _ m.names _ _ i.value) h1 (other_later _ _ m.names _ _ i.block)))))))

pub returns-then-index_read_here-clause-shorter : goal.returns-then-index_read_here-clause-shorter
returns-then-index_read_here-clause-shorter c = λ u. le_trans (later_of (c.in_ok-name.ensures.gives _ _ (here _))).rest c.bump.ensures.later.rest

pub returns-clause-turns : goal.returns-clause-turns
unfolding end_index
returns-clause-turns c = λ R F o b v t w s e h i a. turn_no _ (sym (c.index_read_here.ensures w s a) ∙ c.if-index_read_here.false) no_syntax
