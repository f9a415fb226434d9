-- The small form of a syntax tree: what can be run by now.
use Rattle.std.specs.Prelude.{◌≡◌, ℕ, ℤ, pos, negsuc, suc, ◌-◌, ◌^◌, ◌==◌, Bool, true, false, cond, not, ◌&&◌, nat_le, nat_lt, Option, None, Some, List, [], ◌∷◌, ◌++◌, length, replicate, codes}
use Rattle.std.specs.List.{list_all}
use Rattle.std.specs.Ordering.{nat_cmp}
use Rattle.std.specs.Cmp.Lexicographic.{slice_cmp}
use Rattle.std.specs.FinMap as map
use Rattle.bs_outside.specs.Paths.{same_bytes}
use Rattle.ruby_tree.specs.Tree.{SourcePosition, Goal, to_local, Tree, at, Form, integer, text, local, assign, send, statements, Trees, no_more, more, Other, without, with}
use Rattle.small_form.specs.declared.TheConstants.{LINE_LIMIT, OPERAND_LIMIT}
use Rattle.small_form.specs.declared.tree.Operand.{Operand}
use Rattle.small_form.specs.declared.tree.Operand.TheVariants as operand
use Rattle.small_form.specs.declared.tree.Operator.{Operator}
use Rattle.small_form.specs.declared.tree.Operator.TheVariants as operator
use Rattle.small_form.specs.declared.tree.Term.{Term}
use Rattle.small_form.specs.declared.tree.Sum.{Sum}
use Rattle.small_form.specs.declared.tree.Line.{Line}
use Rattle.small_form.specs.declared.tree.Line.TheVariants as line
use Rattle.small_form.specs.declared.tree.SmallFile.{SmallFile}

-- The names that earlier lines assigned.
abbrev pub Names : Type 0
Names = map.FinMap {K = List ℕ} (slice_cmp nat_cmp) (Unit {0})

abbrev pub spot_in : Tree → SourcePosition
spot_in (at o f) = o

-- the node begins in line n, and its own instructions are in that line
abbrev pub stands_in : ℕ → SourcePosition → Bool
stands_in n o = (o.first == n) && (o.line == n)

-- ---- operands

-- a number from 0 to 2 ^ 63 - 1
abbrev pub number_by : ℤ → Option Operand
number_by (pos k) = cond (nat_lt k (2 ^ 63)) (Some (operand.Number (pos k))) None
number_by (negsuc k) = None

-- An operand in line n: such a number, or a name that an earlier line assigned.
abbrev pub operand_of : ℕ → Names → Tree → Option Operand
operand_of n names (at o (integer z)) = cond (stands_in n o) (number_by z) None
operand_of n names (at o (local f)) = cond (stands_in n o && map.contains_key names f) (Some (operand.Name f)) None
operand_of n names _ = None

-- `+` or `-`
abbrev pub operator_of : List ℕ → Option Operator
operator_of word = cond (same_bytes word (codes "+")) (Some operator.Plus) (cond (same_bytes word (codes "-")) (Some operator.Minus) None)

-- ---- sums

abbrev pub is_missing : Other → Bool
is_missing without = true
is_missing (with t) = false

abbrev pub is_none : List ℕ → Bool
is_none [] = true
is_none (k ∷ ks) = false

-- a call passes nothing but arguments that stand by themselves, and is no name alone
unfoldable pub is_plain : List ℕ → Other → Bool → Other → Bool
is_plain spread value alone block = is_none spread && (is_missing value && (not alone && is_missing block))

-- the operand that is the only argument of a call
abbrev pub only_operand : ℕ → Names → Trees → Option Operand
only_operand n names (more t no_more) = operand_of n names t
only_operand n names _ = None

abbrev pub alone : Option Operand → Option Sum
alone None = None
alone (Some x) = Some (record { first = x; rest = [] })

-- a sum, and a term behind it
abbrev pub with_term : Option Sum → Option Operator → Option Operand → Option Sum
with_term (Some s) (Some f) (Some x) = Some (record { first = s.first; rest = s.rest ++ record { operator = f; operand = x } ∷ [] })
with_term _ _ _ = None

-- A sum in line n: an operand, or `+` or `-` sent to a sum with an operand.
abbrev pub sum_of : ℕ → Names → Tree → Option Sum
sum_of n names (at o (send (with a) ts spread value f by_itself block)) = cond (stands_in n o && is_plain spread value by_itself block) (with_term (sum_of n names a) (operator_of f) (only_operand n names ts)) None
sum_of n names t = alone (operand_of n names t)

-- at most a hundred operands
abbrev pub short_sum : Option Sum → Option Sum
short_sum None = None
short_sum (Some s) = cond (nat_lt (length s.rest) OPERAND_LIMIT) (Some s) None

-- ---- lines

-- printable ASCII without `"`, `\` and `#`
abbrev pub is_text_byte : ℕ → Bool
is_text_byte byte = (nat_le 32 byte && nat_le byte 126) && (not (byte == 34) && (not (byte == 92) && not (byte == 35)))

abbrev pub puts_line : Option Sum → Option Line
puts_line None = None
puts_line (Some s) = Some (line.PutsSum s)

-- what `puts "TEXT"` is given in line n, if that is a text of such bytes
abbrev pub text_line : ℕ → Tree → Option Line
text_line n (at o (text f)) = cond (stands_in n o && list_all is_text_byte f) (Some (line.PutsText f)) None
text_line n _ = None

-- what `puts` is given in line n: a text of such bytes, or a sum
abbrev pub put_of : ℕ → Names → Tree → Option Line
put_of n names (at o (text f)) = cond (stands_in n o && list_all is_text_byte f) (Some (line.PutsText f)) None
put_of n names t = puts_line (short_sum (sum_of n names t))

-- `puts` with one argument
abbrev pub only_put : ℕ → Names → Trees → Option Line
only_put n names (more t no_more) = put_of n names t
only_put n names _ = None

-- a local that gets a sum
abbrev pub assigned : Goal → Option Sum → Option Line
assigned (to_local f) (Some s) = Some (line.Assign f s)
assigned _ _ = None

-- A statement that stands whole in line n: `NAME = SUM`, `puts SUM` or `puts "TEXT"`.
abbrev pub line_of : ℕ → Names → Tree → Option Line
line_of n names (at o (assign v g)) = cond (stands_in n o) (assigned g (short_sum (sum_of n names v))) None
line_of n names (at o (send without ts spread value f by_itself block)) = cond (stands_in n o && (is_plain spread value by_itself block && same_bytes f (codes "puts"))) (only_put n names ts) None
line_of n names _ = None

-- the names that are assigned behind the line
abbrev pub names_after : Names → Option Line → Names
names_after names None = names
names_after names (Some line.Empty) = names
names_after names (Some (line.Assign name s)) = map.insert names name tt
names_after names (Some (line.PutsSum s)) = names
names_after names (Some (line.PutsText f)) = names

-- ---- files

abbrev pub first_line : Tree → ℕ
first_line (at o f) = o.first

-- lines, and those behind them
abbrev pub behind : List Line → Option (List Line) → Option (List Line)
behind before None = None
behind before (Some lines) = Some (before ++ lines)

-- a line behind so many empty ones, and those behind it
abbrev pub put_line : ℕ → Option Line → Option (List Line) → Option (List Line)
put_line empty None lines = None
put_line empty (Some l) lines = behind (replicate empty line.Empty ++ l ∷ []) lines

-- The lines from line n on, of which each has one statement or none.
abbrev pub lines_from : ℕ → Names → Trees → Option (List Line)
lines_from n names no_more = Some []
lines_from n names (more t ts) =
    let m = first_line t in
    let l = line_of m names t in
    cond (nat_le n m && nat_le m LINE_LIMIT) (put_line (m - n) l (lines_from (suc m) (names_after names l) ts)) None

-- a line behind so many, and at most the last one
abbrev pub is_next : ℕ → ℕ → Bool
is_next count n = nat_lt count n && nat_le n LINE_LIMIT

-- Behind these lines and names the statement is a line, and they go on behind it; or there are no lines.
abbrev pub IsPushed : List Line → List Line → Names → Names → Tree → Bool → Type 0
IsPushed old new known names t true = (ts : Trees) → behind old (lines_from (suc (length old)) known (more t ts)) ≡ behind new (lines_from (suc (length new)) names ts)
IsPushed old new known names t false = (ts : Trees) → behind old (lines_from (suc (length old)) known (more t ts)) ≡ None

-- statements whose first token, in line n, is in line 1
abbrev pub begins_in_line_1 : ℕ → Trees → Bool
begins_in_line_1 n no_more = nat_le n 1
begins_in_line_1 n (more t ts) = n == 1

abbrev pub file_with : Option (List Line) → Option SmallFile
file_with None = None
file_with (Some lines) = Some (record { lines = lines })

-- The small file that a tree is: statements whose first token, if there is one, is in line 1, each with all its parts in a line of its own, of at most 1,000.
abbrev pub small_of : Tree → Option SmallFile
small_of (at o (statements ts)) = cond (begins_in_line_1 o.line ts) (file_with (lines_from 1 map.empty ts)) None
small_of _ = None
