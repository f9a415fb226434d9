-- The symbols that nest, each as a part that may be missing, as one function reads them all.
use Rattle.std.specs.Prelude.{Option, Some, None}
use Rattle.ruby_lexer.specs.Bytes.{Bytes}
use Rattle.ruby_tree.specs.Names.{Texts}
use Rattle.ruby_tree.specs.Tree.{Tree, Other, without, with}
use Rattle.ruby_tree.specs.Rules.{DoBlockOwner}
use Rattle.tree_builder.specs.declared.Subtree.{Subtree}
use Rattle.tree_builder.specs.Subtrees.{Holds}
use Rattle.reference_parser.specs.Answers.{Answer, taken, fault, deep, Parse}
use Rattle.reference_parser.specs.ReadItems.{Readers}
use Rattle.reference_parser.specs.ReadBodies.{read_else_branches}
use Rattle.reference_parser.specs.ReadLevels.{read_minus, read_power, read_unary_operand}
use Rattle.reference_parser.specs.ReadStatements.{read_arg, read_expr, read_stmts, read_test, read_assigned_value}
use Rattle.parse_state.specs.declared.nesting.NestedSymbol.{NestedSymbol}
use Rattle.parse_state.specs.declared.nesting.NestedSymbol.TheVariants as symbol

-- A part that was found, or none.
pub data HoldsFound (T : Texts) : Option Subtree → Other → Type 0 where
  found : {x : Subtree} {t : Tree} → Holds T x t → HoldsFound T (Some x) (with t)
  nothing : HoldsFound T None without

-- a part that is there
unfoldable pub there : Answer Tree → Answer Other
there (taken t r z) = taken (with t) r z
there fault = fault
there deep = deep

-- what the readers take of a symbol
unfoldable pub reader_of : Readers → NestedSymbol → DoBlockOwner → Parse Other
reader_of Q symbol.Statements d w s = there (Q.stmts d w s)
reader_of Q symbol.Expression d w s = there (Q.expr d w s)
reader_of Q symbol.Test d w s = there (Q.test d w s)
reader_of Q symbol.AssignedValue d w s = there (Q.assigned_value d w s)
reader_of Q symbol.Argument d w s = there (Q.arg d w s)
reader_of Q symbol.Minus d w s = there (Q.minus d w s)
reader_of Q symbol.Power d w s = there (Q.power d w s)
reader_of Q symbol.UnaryOperand d w s = there (Q.unary_operand d w s)
reader_of Q symbol.ElseBranches d w s = Q.else_branches d w s

-- what is taken of a symbol over the readers of those that nest in it
unfoldable pub read_over : Bytes → Readers → NestedSymbol → DoBlockOwner → Parse Other
read_over source Q symbol.Statements d w s = there (read_stmts source Q d w s)
read_over source Q symbol.Expression d w s = there (read_expr source Q d w s)
read_over source Q symbol.Test d w s = there (read_test source Q d w s)
read_over source Q symbol.AssignedValue d w s = there (read_assigned_value source Q d w s)
read_over source Q symbol.Argument d w s = there (read_arg source Q d w s)
read_over source Q symbol.Minus d w s = there (read_minus source Q d w s)
read_over source Q symbol.Power d w s = there (read_power source Q d w s)
read_over source Q symbol.UnaryOperand d w s = there (read_unary_operand source Q d w s)
read_over source Q symbol.ElseBranches d w s = read_else_branches source Q d w s
