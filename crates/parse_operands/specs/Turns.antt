-- What stands behind an operand once.
use Rattle.std.specs.Prelude.{Result, Ok, Err}
use Rattle.ruby_lexer.specs.Pieces.{Toks}
use Rattle.ruby_tree.specs.Tree.{Tree}
use Rattle.ruby_tree.specs.Rules.{Scope}
use Rattle.tree_builder.specs.declared.Subtree.{Subtree}
use Rattle.tree_builder.specs.Subtrees.{Holds}
use Rattle.reference_parser.specs.Answers.{Answer, taken, fault, deep, Parse}
use Rattle.reference_parser.specs.ReadOperands.{Start}
use Rattle.parse_state.specs.declared.failures.Failure.{Failure}
use Rattle.parse_state.specs.declared.failures.Failure.TheVariants as failure
use Rattle.parse_state.specs.declared.standing.Parser.{Parser}
use Rattle.parse_state.specs.Standing.{At, Later}
use Rattle.parse_state.specs.declared.forms.OperandForm as declared_start
use Rattle.parse_operands.specs.declared.postfixes.PostfixStep.{PostfixStep}
use Rattle.parse_operands.specs.declared.postfixes.PostfixStep.TheVariants as turn
use Rattle.parse_state.specs.Forms.{HoldsOperandForm}

-- The parser was p and is q now. Either an operand was read that is longer, and what follows it is read by the function given; or the operand
-- ends; or nothing is derived; or symbols nest too deep. Where memory was wanting nothing is said.
pub data Turned (further : Tree → Parse Start) (p q : Parser) : Result PostfixStep Failure → Answer Start → Type 0 where
  longer : {x : Subtree} {b : Tree} {r : Toks} {z : Scope} → At q r z → Later p q → Holds q.symbols x b → Turned further p q (Ok (turn.Longer x)) (further b r z)
  ended : {x : declared_start.OperandForm} {t : Start} {r : Toks} {z : Scope} → At q r z → Later p q → HoldsOperandForm q.symbols x t → Turned further p q (Ok (turn.Ended x)) (taken t r z)
  no_syntax : Turned further p q (Err failure.Syntax) fault
  too_deep : Turned further p q (Err failure.TooDeep) deep
  no_memory : {a : Answer Start} → Turned further p q (Err failure.Memory) a

-- whether the operand is longer
abbrev pub IsLonger : PostfixStep → Type 0
IsLonger (turn.Longer x) = Unit {0}
IsLonger (turn.Ended x) = ⊥
