use Rattle.std.proofs.Common.{subst, rules, List, []}
use Rattle.ruby_tree.specs.declared.names.Name.{Name}
use Rattle.ruby_tree.specs.Tree.{SourcePosition, at, array}
use Rattle.ruby_tree.specs.Rules.{next}
use Rattle.ruby_tree.specs.Build.{symbols_at}
use Rattle.tree_builder.specs.Subtrees.{AreNamed}
use Rattle.reference_parser.specs.Answers.{taken}
use Rattle.parse_state.proofs.Steps.{cut, handed, wanting}
use Rattle.parse_state.proofs.Tools.{array_spread, told_as, so_step}
use Rattle.parse_operands.proofs.literals.symbol_list.Goals as goal

pub returns-in_err-names : goal.returns-in_err-names
returns-in_err-names c = record { reads = λ w s a. handed _ _ c.from_residual.ensures.1 (cut (c.in_err-names.ensures.gives _ _ a)) }

pub returns-in_err-elements : goal.returns-in_err-elements
returns-in_err-elements c = record { reads = λ w s a. wanting _ c.from_residual-in_err-elements.ensures.1 }

pub returns : goal.returns
returns c = record { reads = λ w s a. so_step (c.in_ok-names.ensures.gives _ _ a) (λ b1 l1 h1. told_as (λ (o : SourcePosition). taken (at o (array (symbols_at o c.args.texts.now) [])) (next w) s) (c.position_here-here.ensures _ _ a) (c.leaf.ensures.gives _ w s (array_spread (search rules) (c.array.ensures.made _ _ (c.in_ok-elements.ensures.made _ _ (subst (λ (ns : List Name). AreNamed c.names_of.new.parser.symbols ns c.args.texts.now) (search rules) h1)))) b1)) }
