use Rattle.std.proofs.Common.{sym, true, false, ◌∙◌}
use Rattle.ruby_tree.specs.Tree.{at}
use Rattle.tree_builder.proofs.GoesOn.{later}
use Rattle.reference_parser.specs.ReadOperands.{read_hash}
use Rattle.parse_state.proofs.Steps.{from, yes, no}
use Rattle.parse_state.proofs.Tools.{at_spot}
use Rattle.parse_operands.proofs.marks.braces.Goals as goal

pub returns-then-mark_behind : goal.returns-then-mark_behind
unfolding read_hash
returns-then-mark_behind g c = record { reads = λ w s a. yes _ (sym (c.mark_behind.ensures w s a) ∙ c.if-mark_behind.true) (from c.bump.ensures.later (c.leaf.ensures.gives _ _ _ (at_spot (c.position_here-here.ensures _ _ a) (c.hash.ensures.made _ _ (c.new.ensures _))) (c.bump.ensures.at w s a))) }

pub returns : goal.returns
unfolding read_hash
returns g c = record { reads = λ w s a. no _ (sym (c.mark_behind.ensures w s a) ∙ c.if-mark_behind.false) (c.full_hash.ensures.reads w s a) }
