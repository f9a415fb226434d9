-- A small file reads only names that earlier lines assigned.
use Rattle.std.proofs.Common.{◌≡◌, ℕ, ℤ, pos, negsuc, suc, zero, ◌-◌, ◌^◌, Bool, true, false, cond, ◌&&◌, nat_lt, Option, Some, None, List, [], ◌∷◌, ◌++◌, replicate, refl}
use Rattle.std.specs.List.{list_all}
use Rattle.std.specs.Option.{IfSome}
use Rattle.std.specs.FinMap as map
use Rattle.bs_outside.specs.Paths.{same_bytes}
use Rattle.std.specs.Prelude.{codes}
use Rattle.ruby_tree.specs.Tree.{Goal, to_local, Tree, at, integer, text, local, assign, send, statements, Trees, no_more, more, without, with}
use Rattle.small_form.specs.SmallForm.{Names, stands_in, number_by, operand_of, operator_of, is_plain, only_operand, alone, with_term, sum_of, short_sum, is_text_byte, puts_line, put_of, only_put, assigned, line_of, names_after, first_line, put_line, lines_from, file_with, small_of}
use Rattle.small_form.specs.declared.tree.Operand.{Operand}
use Rattle.small_form.specs.declared.tree.Operand.TheVariants as operand
use Rattle.small_form.specs.declared.tree.Operator.{Operator}
use Rattle.small_form.specs.declared.tree.Term.{Term}
use Rattle.small_form.specs.declared.tree.Sum.{Sum}
use Rattle.small_form.specs.declared.tree.Line.{Line}
use Rattle.small_form.specs.declared.tree.Line.TheVariants as line
use Rattle.small_form.specs.declared.tree.SmallFile.{SmallFile}

-- ---- what is known

abbrev pub KnownOperand : Names → Operand → Type 0
KnownOperand names (operand.Number n) = Unit {0}
KnownOperand names (operand.Name name) = map.contains_key names name ≡ true

abbrev pub KnownTerms : Names → List Term → Type 0
KnownTerms names [] = Unit {0}
KnownTerms names (term ∷ terms) = KnownOperand names term.operand × KnownTerms names terms

abbrev pub KnownSum : Names → Sum → Type 0
KnownSum names s = KnownOperand names s.first × KnownTerms names s.rest

abbrev pub KnownLine : Names → Line → Type 0
KnownLine names line.Empty = Unit {0}
KnownLine names (line.Assign name s) = KnownSum names s
KnownLine names (line.PutsSum s) = KnownSum names s
KnownLine names (line.PutsText f) = Unit {0}

-- each line's names are known behind the lines before it
abbrev pub KnownLines : Names → List Line → Type 0
KnownLines names [] = Unit {0}
KnownLines names (first ∷ lines) = KnownLine names first × KnownLines (names_after names (Some first)) lines

-- ---- operands

if_cond : {A : Type 0} (P : A → Type 0) (b : Bool) (x y : Option A) → IfSome x P → IfSome y P → IfSome (cond b x y) P
if_cond P true x y h k = h
if_cond P false x y h k = k

number_known : (names : Names) (z : ℤ) → IfSome (number_by z) (KnownOperand names)
number_known names (pos k) = if_cond (KnownOperand names) (nat_lt k (2 ^ 63)) (Some (operand.Number (pos k))) None tt tt
number_known names (negsuc k) = tt

name_by : (names : Names) (f : List ℕ) (a b : Bool) → map.contains_key names f ≡ b → IfSome (cond (a && b) (Some (operand.Name f)) None) (KnownOperand names)
name_by names f true true e = e
name_by names f true false e = tt
name_by names f false b e = tt

operand_known : (n : ℕ) (names : Names) (t : Tree) → IfSome (operand_of n names t) (KnownOperand names)
operand_known n names (at o (integer z)) = if_cond (KnownOperand names) (stands_in n o) (number_by z) None (number_known names z) tt
operand_known n names (at o (local f)) = name_by names f (stands_in n o) (map.contains_key names f) refl
operand_known n names _ = tt

-- ---- sums

terms_more : (names : Names) (terms : List Term) (term : Term) → KnownTerms names terms → KnownOperand names term.operand → KnownTerms names (terms ++ term ∷ [])
terms_more names [] term h k = (k, tt)
terms_more names (first ∷ terms) term h k = (h.0, terms_more names terms term h.1 k)

with_term_known : (names : Names) (s : Option Sum) (f : Option Operator) (x : Option Operand) → IfSome s (KnownSum names) → IfSome x (KnownOperand names) → IfSome (with_term s f x) (KnownSum names)
with_term_known names None f x h k = tt
with_term_known names (Some s) None x h k = tt
with_term_known names (Some s) (Some f) None h k = tt
with_term_known names (Some s) (Some f) (Some x) h k = (h.0, terms_more names s.rest (record { operator = f; operand = x }) h.1 k)

only_operand_known : (n : ℕ) (names : Names) (ts : Trees) → IfSome (only_operand n names ts) (KnownOperand names)
only_operand_known n names no_more = tt
only_operand_known n names (more t no_more) = operand_known n names t
only_operand_known n names (more t (more u ts)) = tt

alone_known : (names : Names) (x : Option Operand) → IfSome x (KnownOperand names) → IfSome (alone x) (KnownSum names)
alone_known names None h = tt
alone_known names (Some x) h = (h, tt)

sum_known : (n : ℕ) (names : Names) (t : Tree) → IfSome (sum_of n names t) (KnownSum names)
sum_known n names (at o (send (with a) ts spread value f by_itself block)) =
    if_cond (KnownSum names) (stands_in n o && is_plain spread value by_itself block) (with_term (sum_of n names a) (operator_of f) (only_operand n names ts)) None
    (with_term_known names (sum_of n names a) (operator_of f) (only_operand n names ts) (sum_known n names a) (only_operand_known n names ts)) tt
sum_known n names t = alone_known names (operand_of n names t) (operand_known n names t)

short_known : (names : Names) (s : Option Sum) → IfSome s (KnownSum names) → IfSome (short_sum s) (KnownSum names)
short_known names None h = tt
short_known names (Some s) h = if_cond (KnownSum names) _ (Some s) None h tt

-- ---- lines

puts_line_known : (names : Names) (s : Option Sum) → IfSome s (KnownSum names) → IfSome (puts_line s) (KnownLine names)
puts_line_known names None h = tt
puts_line_known names (Some s) h = h

put_known : (n : ℕ) (names : Names) (t : Tree) → IfSome (put_of n names t) (KnownLine names)
put_known n names (at o (text f)) = if_cond (KnownLine names) (stands_in n o && list_all is_text_byte f) (Some (line.PutsText f)) None tt tt
put_known n names t = puts_line_known names (short_sum (sum_of n names t)) (short_known names (sum_of n names t) (sum_known n names t))

only_put_known : (n : ℕ) (names : Names) (ts : Trees) → IfSome (only_put n names ts) (KnownLine names)
only_put_known n names no_more = tt
only_put_known n names (more t no_more) = put_known n names t
only_put_known n names (more t (more u ts)) = tt

assigned_known : (names : Names) (g : Goal) (s : Option Sum) → IfSome s (KnownSum names) → IfSome (assigned g s) (KnownLine names)
assigned_known names (to_local f) None h = tt
assigned_known names (to_local f) (Some s) h = h
assigned_known names _ s h = tt

line_known : (n : ℕ) (names : Names) (t : Tree) → IfSome (line_of n names t) (KnownLine names)
line_known n names (at o (assign v g)) =
    if_cond (KnownLine names) (stands_in n o) (assigned g (short_sum (sum_of n names v))) None (assigned_known names g (short_sum (sum_of n names v)) (short_known names (sum_of n names v) (sum_known n names v))) tt
line_known n names (at o (send without ts spread value f by_itself block)) =
    if_cond (KnownLine names) (stands_in n o && (is_plain spread value by_itself block && same_bytes f (codes "puts"))) (only_put n names ts) None (only_put_known n names ts) tt
line_known n names _ = tt

-- ---- files

behind_known : (names : Names) (empty : ℕ) (l : Line) (lines : List Line) → KnownLine names l → KnownLines (names_after names (Some l)) lines → KnownLines names ((replicate empty line.Empty ++ l ∷ []) ++ lines)
behind_known names zero l lines h k = (h, k)
behind_known names (suc empty) l lines h k = (tt, behind_known names empty l lines h k)

put_line_known : (names : Names) (empty : ℕ) (l : Option Line) (lines : Option (List Line)) → IfSome l (KnownLine names) → IfSome lines (KnownLines (names_after names l)) → IfSome (put_line empty l lines) (KnownLines names)
put_line_known names empty None lines h k = tt
put_line_known names empty (Some l) None h k = tt
put_line_known names empty (Some l) (Some lines) h k = behind_known names empty l lines h k

lines_known : (n : ℕ) (names : Names) (ts : Trees) → IfSome (lines_from n names ts) (KnownLines names)
lines_known n names no_more = tt
lines_known n names (more t ts) =
    let m = first_line t in
    let l = line_of m names t in
    let others = lines_from (suc m) (names_after names l) ts in
    if_cond (KnownLines names) _ (put_line (m - n) l others) None (put_line_known names (m - n) l others (line_known m names t) (lines_known (suc m) (names_after names l) ts)) tt

file_known : (lines : Option (List Line)) → IfSome lines (KnownLines map.empty) → IfSome (file_with lines) (λ p. KnownLines map.empty p.lines)
file_known None h = tt
file_known (Some lines) h = h

-- of a small file that a tree is
pub small_known : (t : Tree) → IfSome (small_of t) (λ p. KnownLines map.empty p.lines)
small_known (at o (statements ts)) =
    if_cond (λ (p : SmallFile). KnownLines map.empty p.lines) _ (file_with (lines_from 1 map.empty ts)) None (file_known (lines_from 1 map.empty ts) (lines_known 1 map.empty ts)) tt
small_known _ = tt
