use Rattle.std.proofs.Common.{sym, subst, Bool, true, false, IfOk}
use Rattle.ruby_tree.specs.Tree.{at, with, if_else}
use Rattle.ruby_tree.specs.Build.{or_empty}
use Rattle.ruby_tree.specs.SourcePositions.{position_of}
use Rattle.tree_builder.specs.Subtrees.{Holds}
use Rattle.reference_parser.specs.ReadOperands.{choice}
use Rattle.parse_state.proofs.Steps.{here}
use Rattle.parse_operands.proofs.forms.choice_of.Goals as goal

pub returns-then-is_if : goal.returns-then-is_if
returns-then-is_if c = record { made = λ T x t e h i j. subst (λ (b : Bool). IfOk c.if_else.result (λ part. Holds T part (at (position_of c.args.here) (choice b x t e)))) (sym c.if-is_if.true) (c.if_else.ensures.made T x t e h i j) }

pub returns : goal.returns
returns c = record { made = λ T x t e h i j. subst (λ (b : Bool). IfOk c.if_else-2.result (λ part. Holds T part (at (position_of c.args.here) (choice b x t e)))) (sym c.if-is_if.false) (c.if_else-2.ensures.made T x (or_empty e) (with t) h (c.or_empty-other.ensures.made T e j) (c.in_ok-behind.ensures T t i)) }
