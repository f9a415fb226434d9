use Rattle.ruby_tree.specs.Tree.{at, joined}
use Rattle.ruby_tree.specs.Rules.{next, position}
use Rattle.reference_parser.specs.Answers.{taken}
use Rattle.reference_parser.specs.ReadOperands.{literal_by}
use Rattle.parse_state.proofs.Steps.{handed}
use Rattle.parse_state.proofs.Tools.{at_spot, then_back, failed_back}
use Rattle.parse_operands.proofs.literals.joined_text.Goals as goal

pub returns-in_err-pieces : goal.returns-in_err-pieces
unfolding literal_by
returns-in_err-pieces g c = record { reads = λ w s a. handed _ _ c.from_residual.ensures.1 (failed_back w _ _ (c.in_err-pieces.ensures.reads w s a)) }

pub returns : goal.returns
unfolding literal_by
returns g c = record { reads = λ w s a. then_back (λ qs z. taken (at (position w) (joined qs)) (next w) z) _ (c.in_ok-pieces.ensures.reads w s a) (λ t z b h. c.leaf.ensures.gives _ w z (at_spot (c.position_here-here.ensures _ _ a) (c.joined.ensures.made _ _ h)) b) }
