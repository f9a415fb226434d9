use Rattle.std.proofs.Common.{rules, []}
use Rattle.ruby_tree.specs.Tree.{SourcePosition, at, array}
use Rattle.ruby_tree.specs.Rules.{next}
use Rattle.ruby_tree.specs.Build.{texts_at}
use Rattle.reference_parser.specs.Answers.{taken}
use Rattle.parse_state.proofs.Steps.{wanting}
use Rattle.parse_state.proofs.Tools.{array_spread, told_as}
use Rattle.parse_operands.proofs.literals.word_list.Goals as goal

pub returns-in_err-elements : goal.returns-in_err-elements
returns-in_err-elements c = record { reads = λ w s a. wanting _ c.from_residual.ensures.1 }

pub returns : goal.returns
returns c = record { reads = λ w s a. told_as (λ (o : SourcePosition). taken (at o (array (texts_at o c.args.words.now) [])) (next w) s) (c.position_here-here.ensures _ _ a) (c.leaf.ensures.gives _ w s (array_spread (search rules) (c.array.ensures.made _ _ (c.in_ok-elements.ensures.made _))) a) }
