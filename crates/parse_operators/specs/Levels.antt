-- The levels of binary operators, as the parser names them.
use Rattle.std.specs.Prelude.{Bool, true, false, List, map, reverse, codes}
use Rattle.ruby_lexer.specs.Bytes.{Bytes}
use Rattle.ruby_lexer.specs.Pieces.{Toks}
use Rattle.ruby_tree.specs.Tree.{Tree, at, range, no_more}
use Rattle.ruby_tree.specs.Rules.{next, DoBlockOwner, position, position_with, product_marks, sum_marks, shift_marks, intersection_marks, union_marks, order_marks, mark_in, is_mark}
use Rattle.ruby_tree.specs.Build.{one, sent, binary, conjunction, disjunction}
use Rattle.reference_parser.specs.Answers.{Answer, taken, Parse, ◌>>=◌}
use Rattle.reference_parser.specs.ReadItems.{Readers}
use Rattle.reference_parser.specs.ReadOperands.{read_postfix}
use Rattle.reference_parser.specs.ReadLevels as reader
use Rattle.parse_operators.specs.declared.precedence.PrecedenceLevel.{PrecedenceLevel}
use Rattle.parse_operators.specs.declared.precedence.PrecedenceLevel.TheVariants as level
use Rattle.parse_operators.specs.declared.operations.BinaryOperation.{BinaryOperation}
use Rattle.parse_operators.specs.declared.operations.BinaryOperation.TheVariants as operation

-- the level as the reference parser names it
abbrev pub level_of : PrecedenceLevel → reader.Level
level_of level.Product = reader.product
level_of level.Sum = reader.sum
level_of level.Shift = reader.shift
level_of level.Intersection = reader.intersection
level_of level.Union = reader.union
level_of level.Order = reader.order
level_of level.Equality = reader.equality
level_of level.Conjunctions = reader.conjunctions
level_of level.Disjunctions = reader.disjunctions
level_of level.Ranges = reader.ranges
level_of level.Conditional = reader.conditional

-- levels, the tightest first, as the reference parser goes over them: the loosest first
abbrev pub levels_of : List PrecedenceLevel → List reader.Level
levels_of vs = reverse (map level_of vs)

-- what one of those operators makes of its operands
abbrev pub operation_of : PrecedenceLevel → BinaryOperation
operation_of level.Conjunctions = operation.Both
operation_of level.Disjunctions = operation.Either
operation_of _ = operation.Sent

module _ (source : Bytes) where
  -- one of those operators stands here
  abbrev pub joins : PrecedenceLevel → Toks → Bool
  joins level.Product = mark_in source product_marks
  joins level.Sum = mark_in source sum_marks
  joins level.Shift = mark_in source shift_marks
  joins level.Intersection = mark_in source intersection_marks
  joins level.Union = mark_in source union_marks
  joins level.Order = mark_in source order_marks
  joins level.Conjunctions = is_mark source (codes "&&")
  joins level.Disjunctions = is_mark source (codes "||")
  joins _ = λ w. false

  -- The tree of an operation: its first operand begins at o, its operator stands at v.
  abbrev pub make_of : BinaryOperation → Toks → Toks → Tree → Tree → Tree
  make_of operation.Sent = binary source
  make_of operation.Differs = λ o v a b. sent (position_with o v) (sent (position_with o v) a (codes "==") (one b)) (codes "!") no_more
  make_of operation.Both = conjunction
  make_of operation.Either = disjunction
  make_of operation.Closed = λ o v a b. at (position o) (range a b false)
  make_of operation.HalfOpen = λ o v a b. at (position o) (range a b true)

  -- The same of what was read behind the operator.
  abbrev pub make_with : BinaryOperation → Toks → Toks → Tree → Answer Tree → Answer Tree
  make_with p o v a b = b >>= λ t r z. taken (make_of p o v a t) r z

  -- The operator that stands here, and what O reads behind it, behind the operand a, which begins at o.
  abbrev pub one_turn : BinaryOperation → Parse Tree → Toks → Tree → Parse Tree
  one_turn p O o a w s = make_with p o w a (O (next w) s)

  -- an operand that is no attribute, element or command
  abbrev pub read_plain : Readers → DoBlockOwner → Parse Tree
  read_plain Q d w s = read_postfix source Q d w s >>= λ h r z. reader.operand_of source Q h r z

-- The operator that stands here, which is sent by this name, and what O reads behind it.
abbrev pub behind_sign : Parse Tree → Bytes → Parse Tree
behind_sign O f w s = O (next w) s >>= λ a r z. taken (sent (position w) a f no_more) r z
