-- What a reader with one token of lookahead takes: operators by their levels.
use Rattle.std.specs.Prelude.{ℕ, zero, suc, Bool, true, false, not, ◌&&◌, List, [], ◌∷◌, codes, if◌then◌else◌}
use Rattle.ruby_lexer.specs.Bytes.{Bytes}
use Rattle.ruby_lexer.specs.Pieces.{Toks}
use Rattle.ruby_tree.specs.Tree.{Tree, at, range, if_else, no_more, with}
use Rattle.ruby_tree.specs.Rules.{next, position, position_with, product_marks, sum_marks, shift_marks, intersection_marks, union_marks, order_marks, equality_marks, DoBlockOwner, mark_in, is_mark, is_negative}
use Rattle.ruby_tree.specs.Build.{one, sent, binary, conjunction, disjunction}
use Rattle.ruby_tree.specs.FaultLine.{count_of}
use Rattle.reference_parser.specs.Answers.{taken, fault, Parse, ◌>>=◌}
use Rattle.reference_parser.specs.ReadItems.{Readers}
use Rattle.reference_parser.specs.ReadOperands.{Start, operand, read_postfix}

-- The levels of binary operators, from the tightest on.
pub data Level : Type 0 where
  product : Level
  sum : Level
  shift : Level
  intersection : Level
  union : Level
  order : Level
  equality : Level
  conjunctions : Level
  disjunctions : Level
  ranges : Level
  conditional : Level

-- a level, and those below it
abbrev pub up_to_product : List Level
up_to_product = product ∷ []

abbrev pub up_to_sum : List Level
up_to_sum = sum ∷ up_to_product

abbrev pub up_to_shift : List Level
up_to_shift = shift ∷ up_to_sum

abbrev pub up_to_intersection : List Level
up_to_intersection = intersection ∷ up_to_shift

abbrev pub up_to_union : List Level
up_to_union = union ∷ up_to_intersection

abbrev pub up_to_order : List Level
up_to_order = order ∷ up_to_union

abbrev pub up_to_equality : List Level
up_to_equality = equality ∷ up_to_order

abbrev pub up_to_conjunctions : List Level
up_to_conjunctions = conjunctions ∷ up_to_equality

abbrev pub up_to_disjunctions : List Level
up_to_disjunctions = disjunctions ∷ up_to_conjunctions

abbrev pub up_to_ranges : List Level
up_to_ranges = ranges ∷ up_to_disjunctions

abbrev pub all_levels : List Level
all_levels = conditional ∷ up_to_ranges

module _ (source : Bytes) where
  -- Operators that pass the test, to the left, behind the operand a, which begins at o. Operands are read by the function given.
  unfoldable pub rest : (Toks → Bool) → (Toks → Toks → Tree → Tree → Tree) → Parse Tree → ℕ → Toks → Tree → Parse Tree
  rest passes make O zero o a w s = fault
  rest passes make O (suc m) o a w s = if passes w then (O (next w) s >>= λ b q y. rest passes make O m o (make o w a b) q y) else taken a w s

  unfoldable pub read_rest : (Toks → Bool) → (Toks → Toks → Tree → Tree → Tree) → Parse Tree → Toks → Tree → Parse Tree
  read_rest passes make O o a w s = rest passes make O (suc (count_of w)) o a w s

  -- one comparison
  unfoldable pub compare : Parse Tree → Toks → Tree → Parse Tree
  compare O o a w s =
      if mark_in source equality_marks w then (O (next w) s >>= λ b r z. taken (binary source o w a b) r z)
      else if is_mark source (codes "!=") w then (O (next w) s >>= λ b r z. taken (sent (position_with o w) (sent (position_with o w) a (codes "==") (one b)) (codes "!") no_more) r z)
      else taken a w s

  unfoldable pub ranged : Parse Tree → Toks → Tree → Parse Tree
  ranged O o a w s =
      if is_mark source (codes "..") w then (O (next w) s >>= λ b r z. taken (at (position o) (range a b false)) r z)
      else if is_mark source (codes "...") w then (O (next w) s >>= λ b r z. taken (at (position o) (range a b true)) r z)
      else taken a w s

  module _ (Q : Readers) where
    unfoldable pub operand_of : Start → Parse Tree
    operand_of (operand a) w s = taken a w s
    operand_of _ w s = fault

    unfoldable pub read_unary_operand : DoBlockOwner → Parse Tree
    read_unary_operand d w s =
        if is_mark source (codes "!") w then (Q.unary_operand d (next w) s >>= λ a r z. taken (sent (position w) a (codes "!") no_more) r z)
        else if is_mark source (codes "~") w then (Q.unary_operand d (next w) s >>= λ a r z. taken (sent (position w) a (codes "~") no_more) r z)
        else if is_mark source (codes "+") w then (Q.unary_operand d (next w) s >>= λ a r z. taken (sent (position w) a (codes "+@") no_more) r z)
        else (read_postfix source Q d w s >>= λ h r z. operand_of h r z)

    -- `**` behind an operand that begins at o
    unfoldable pub raised : DoBlockOwner → Toks → Tree → Parse Tree
    raised d o a w s = if is_mark source (codes "**") w then (Q.power d (next w) s >>= λ b r z. taken (binary source o w a b) r z) else taken a w s

    unfoldable pub read_power : DoBlockOwner → Parse Tree
    read_power d w s = read_unary_operand d w s >>= λ a q y. raised d w a q y

    unfoldable pub read_minus : DoBlockOwner → Parse Tree
    read_minus d w s =
        if is_mark source (codes "-") w && not (is_negative source w) then (Q.minus d (next w) s >>= λ a r z. taken (sent (position w) a (codes "-@") no_more) r z)
        else read_power d w s

    unfoldable pub chosen : DoBlockOwner → Toks → Tree → Parse Tree
    chosen d o c w s =
        if is_mark source (codes "?") w then
        (Q.arg d (next w) s >>= λ a p x. if is_mark source (codes ":") p then (Q.arg d (next p) x >>= λ b r z. taken (at (position o) (if_else c a (with b))) r z) else fault)
        else taken c w s

    -- The operators of one level behind the operand a, which begins at o. Operands of the level below are read by O.
    unfoldable pub at_level : Level → Parse Tree → DoBlockOwner → Toks → Tree → Parse Tree
    at_level product O d o a w s = read_rest (mark_in source product_marks) (binary source) O o a w s
    at_level sum O d o a w s = read_rest (mark_in source sum_marks) (binary source) O o a w s
    at_level shift O d o a w s = read_rest (mark_in source shift_marks) (binary source) O o a w s
    at_level intersection O d o a w s = read_rest (mark_in source intersection_marks) (binary source) O o a w s
    at_level union O d o a w s = read_rest (mark_in source union_marks) (binary source) O o a w s
    at_level order O d o a w s = read_rest (mark_in source order_marks) (binary source) O o a w s
    at_level equality O d o a w s = compare O o a w s
    at_level conjunctions O d o a w s = read_rest (is_mark source (codes "&&")) conjunction O o a w s
    at_level disjunctions O d o a w s = read_rest (is_mark source (codes "||")) disjunction O o a w s
    at_level ranges O d o a w s = ranged O o a w s
    at_level conditional O d o a w s = chosen d o a w s

    -- The operators of these levels behind an operand, the last level first; and an operand with them.
    unfoldable pub climb : List Level → DoBlockOwner → Toks → Tree → Parse Tree
    climb [] d o a w s = taken a w s
    climb (v ∷ vs) d o a w s = climb vs d o a w s >>= λ b q y. at_level v (λ p x. read_minus d p x >>= λ c n l. climb vs d p c n l) d o b q y

    unfoldable pub read_level : List Level → DoBlockOwner → Parse Tree
    read_level vs d w s = read_minus d w s >>= λ a q y. climb vs d w a q y
