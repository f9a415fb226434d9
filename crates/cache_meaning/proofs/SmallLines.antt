-- What the lines of a small file are: their numbers are small, and each name that they read or assign is among the locals.
use Rattle.std.proofs.Common.{◌≡◌, ℕ, ℤ, zero, suc, pos, negsuc, ◌+◌, ◌-◌, ◌^◌, ◌<◌, ◌≤◌, Bool, true, false, cond, not, is_some, Option, Some, None, List, [], ◌∷◌, ◌++◌, length, refl, sym, ap, subst, ◌∙◌, arith}
use Rattle.std.specs.Prelude.{⊤, ◌||◌, ◌&&◌, nat_le, nat_lt, codes, replicate}
use Rattle.std.specs.List.{list_any, list_all, position_or_len, AllByRecursion}
use Rattle.std.specs.Ordering.{nat_cmp, eq_by_cmp}
use Rattle.std.specs.Cmp.Lexicographic.{slice_cmp, nat_list_cmp_total, nat_list_eq_equiv, texts_ties, same_text}
use Rattle.std.specs.FinMap as map
use Rattle.std.proofs.lemmas.Bool.{false≢true, ltb-true, leb-true, lt-ltb}
use Rattle.std.proofs.lemmas.List.Folds.{list_any-append}
use Rattle.bs_outside.specs.Paths.{same_bytes}
use Rattle.small_form.specs.declared.tree.Operand.{Operand}
use Rattle.small_form.specs.declared.tree.Operand.TheVariants as operand
use Rattle.small_form.specs.declared.tree.Operator.{Operator}
use Rattle.small_form.specs.declared.tree.Term.{Term}
use Rattle.small_form.specs.declared.tree.Sum.{Sum}
use Rattle.small_form.specs.declared.tree.Line.{Line}
use Rattle.small_form.specs.declared.tree.Line.TheVariants as line
use Rattle.small_form.specs.declared.tree.SmallFile.{SmallFile}
use Rattle.ruby_tree.specs.Tree.{Goal, to_local, Tree, at, integer, text as text_form, local, assign, send, statements, Trees, no_more, more, without, with}
use Rattle.small_form.specs.declared.TheConstants.{LINE_LIMIT, OPERAND_LIMIT}
use Rattle.small_form.specs.SmallForm.{Names, stands_in, number_by, operand_of, operator_of, is_plain, only_operand, alone, with_term, sum_of, short_sum, is_text_byte, puts_line, put_of, only_put, assigned, line_of, names_after, first_line, put_line, lines_from, begins_in_line_1, file_with, small_of}
use Rattle.cache_meaning.specs.SmallUnit.{is_among, with_name, locals_behind, slot_of}

-- ---- what is read

-- a number below 2 ^ 63, or a name that passes the test
abbrev pub IsOperandBy : (List ℕ → Bool) → Operand → Type 0
IsOperandBy known (operand.Number (pos n)) = n < 2 ^ 63
IsOperandBy known (operand.Number (negsuc n)) = ⊥
IsOperandBy known (operand.Name name) = known name ≡ true

abbrev pub IsTermBy : (List ℕ → Bool) → Term → Type 0
IsTermBy known term = IsOperandBy known term.operand

pub record IsSumBy (known : List ℕ → Bool) (s : Sum) : Type 0 where
  pub first : IsOperandBy known s.first
  pub rest : AllByRecursion (IsTermBy known) s.rest

-- the line reads such operands alone
abbrev pub ReadsBy : (List ℕ → Bool) → Line → Type 0
ReadsBy known line.Empty = ⊤
ReadsBy known (line.Assign name s) = IsSumBy known s
ReadsBy known (line.PutsSum s) = IsSumBy known s
ReadsBy known (line.PutsText text) = ⊤

-- the name that it assigns passes the test
abbrev pub AssignsBy : (List ℕ → Bool) → Line → Type 0
AssignsBy known line.Empty = ⊤
AssignsBy known (line.Assign name s) = known name ≡ true
AssignsBy known (line.PutsSum s) = ⊤
AssignsBy known (line.PutsText text) = ⊤

-- each line reads names that earlier ones assigned
abbrev pub AreLines : Names → List Line → Type 0
AreLines names [] = ⊤
AreLines names (l ∷ lines) = ReadsBy (λ name. map.contains_key names name) l × AreLines (names_after names (Some l)) lines

-- ---- the lines that a tree is

both_true : (a b : Bool) → (a && b) ≡ true → (a ≡ true) × (b ≡ true)
both_true true b e = (refl, e)
both_true false b e = absurd cc

kept_some : {A : Type 0} (b : Bool) (o : Option A) (y : A) → cond b o None ≡ Some y → (b ≡ true) × (o ≡ Some y)
kept_some true o y e = (refl, e)
kept_some false o y e = absurd cc

with_last : {X : Type 0} (P : X → Type 0) (xs : List X) (x : X) → AllByRecursion P xs → P x → AllByRecursion P (xs ++ x ∷ [])
with_last P [] x are is = (is, tt)
with_last P (y ∷ xs) x are is = (are.0, with_last P xs x are.1 is)

-- a sum, and a term behind it
with_some : (o : Option Sum) (f : Option Operator) (x : Option Operand) (s : Sum) → with_term o f x ≡ Some s → (a : Sum) × (g : Operator) × (y : Operand) × (o ≡ Some a) × (x ≡ Some y) × (record { first = a.first; rest = a.rest ++ record { operator = g; operand = y } ∷ [] } ≡ s)
with_some None None None s e = absurd cc
with_some None None (Some y) s e = absurd cc
with_some None (Some g) None s e = absurd cc
with_some None (Some g) (Some y) s e = absurd cc
with_some (Some a) None None s e = absurd cc
with_some (Some a) None (Some y) s e = absurd cc
with_some (Some a) (Some g) None s e = absurd cc
with_some (Some a) (Some g) (Some y) s e = (a, g, y, refl, refl, cc)

put_line_some : (empty : ℕ) (o : Option Line) (m : Option (List Line)) (lines : List Line) → put_line empty o m ≡ Some lines → (l : Line) × (rest : List Line) × (o ≡ Some l) × (m ≡ Some rest) × ((replicate empty line.Empty ++ l ∷ []) ++ rest ≡ lines)
put_line_some empty None None lines e = absurd cc
put_line_some empty None (Some rest) lines e = absurd cc
put_line_some empty (Some l) None lines e = absurd cc
put_line_some empty (Some l) (Some rest) lines e = (l, rest, refl, refl, cc)

module _ (n : ℕ) (names : Names) where
  abbrev known : List ℕ → Bool
  known name = map.contains_key names name

  number_is : (z : ℤ) (x : Operand) → number_by z ≡ Some x → IsOperandBy known x
  number_is (pos k) x e =
      let s = kept_some (nat_lt k (2 ^ 63)) (Some (operand.Number (pos k))) x e in
      let same : operand.Number (pos k) ≡ x = cc in
      subst (IsOperandBy known) same (ltb-true k (2 ^ 63) s.0)
  number_is (negsuc k) x e = absurd cc

  operand_is : (t : Tree) (x : Operand) → operand_of n names t ≡ Some x → IsOperandBy known x
  operand_is (at o (integer z)) x e = number_is z x (kept_some (stands_in n o) (number_by z) x e).1
  operand_is (at o (local f)) x e =
      let s = kept_some (stands_in n o && map.contains_key names f) (Some (operand.Name f)) x e in
      let same : operand.Name f ≡ x = cc in
      subst (IsOperandBy known) same (both_true (stands_in n o) (map.contains_key names f) s.0).1
  operand_is _ x e = absurd cc

  only_is : (ts : Trees) (x : Operand) → only_operand n names ts ≡ Some x → IsOperandBy known x
  only_is no_more x e = absurd cc
  only_is (more t no_more) x e = operand_is t x e
  only_is (more t (more v ts)) x e = absurd cc

  alone_is : (o : Option Operand) (s : Sum) → ((x : Operand) → o ≡ Some x → IsOperandBy known x) → alone o ≡ Some s → IsSumBy known s
  alone_is None s h e = absurd cc
  alone_is (Some x) s h e =
      let made : Sum = record { first = x; rest = [] } in
      let same : made ≡ s = cc in
      subst (IsSumBy known) same (record { first = h x refl; rest = tt })

  sum_is : (t : Tree) (s : Sum) → sum_of n names t ≡ Some s → IsSumBy known s
  sum_is (at o (send (with a) ts spread value f by_itself block)) s e =
      let k = kept_some (stands_in n o && is_plain spread value by_itself block) (with_term (sum_of n names a) (operator_of f) (only_operand n names ts)) s e in
      let w = with_some (sum_of n names a) (operator_of f) (only_operand n names ts) s k.1 in
      let is = sum_is a w.0 w.3 in
      subst (IsSumBy known) w.5 (record { first = is.first; rest = with_last (IsTermBy known) w.0.rest (record { operator = w.1; operand = w.2 }) is.rest (only_is ts w.2 w.4) })
  sum_is t s e = alone_is (operand_of n names t) s (operand_is t) e

  short_is : (t : Tree) (o : Option Sum) (s : Sum) → o ≡ sum_of n names t → short_sum o ≡ Some s → IsSumBy known s
  short_is t None s is e = absurd cc
  short_is t (Some a) s is e = sum_is t s (sym is ∙ (kept_some (nat_lt (length a.rest) OPERAND_LIMIT) (Some a) s e).1)

  puts_is : (o : Option Sum) (l : Line) → ((s : Sum) → o ≡ Some s → IsSumBy known s) → puts_line o ≡ Some l → ReadsBy known l
  puts_is None l h e = absurd cc
  puts_is (Some s) l h e = let same : line.PutsSum s ≡ l = cc in subst (ReadsBy known) same (h s refl)

  assigned_is : (g : Goal) (o : Option Sum) (l : Line) → ((s : Sum) → o ≡ Some s → IsSumBy known s) → assigned g o ≡ Some l → ReadsBy known l
  assigned_is (to_local f) None l h e = absurd cc
  assigned_is (to_local f) (Some s) l h e = let same : line.Assign f s ≡ l = cc in subst (ReadsBy known) same (h s refl)
  assigned_is _ o l h e = absurd cc

  put_is : (t : Tree) (l : Line) → put_of n names t ≡ Some l → ReadsBy known l
  put_is (at o (text_form f)) l e =
      let s = kept_some (stands_in n o && list_all is_text_byte f) (Some (line.PutsText f)) l e in
      let same : line.PutsText f ≡ l = cc in
      subst (ReadsBy known) same tt
  put_is t l e = puts_is (short_sum (sum_of n names t)) l (λ s is. short_is t (sum_of n names t) s refl is) e

  only_put_is : (ts : Trees) (l : Line) → only_put n names ts ≡ Some l → ReadsBy known l
  only_put_is no_more l e = absurd cc
  only_put_is (more t no_more) l e = put_is t l e
  only_put_is (more t (more v ts)) l e = absurd cc

  line_is : (t : Tree) (l : Line) → line_of n names t ≡ Some l → ReadsBy known l
  line_is (at o (assign v g)) l e = assigned_is g (short_sum (sum_of n names v)) l (λ s is. short_is v (sum_of n names v) s refl is) (kept_some (stands_in n o) (assigned g (short_sum (sum_of n names v))) l e).1
  line_is (at o (send without ts spread value f by_itself block)) l e =
      only_put_is ts l (kept_some (stands_in n o && (is_plain spread value by_itself block && same_bytes f (codes "puts"))) (only_put n names ts) l e).1
  line_is _ l e = absurd cc

-- empty lines read nothing
behind_empty : (names : Names) (empty : ℕ) (l : Line) (rest : List Line) → ReadsBy (λ name. map.contains_key names name) l → AreLines (names_after names (Some l)) rest → AreLines names ((replicate empty line.Empty ++ l ∷ []) ++ rest)
behind_empty names zero l rest is are = (is, are)
behind_empty names (suc empty) l rest is are = (tt, behind_empty names empty l rest is are)

count_behind : (empty : ℕ) (l : Line) (rest : List Line) → length ((replicate empty line.Empty ++ l ∷ []) ++ rest) ≡ empty + 1 + length rest
count_behind zero l rest = omega arith
count_behind (suc empty) l rest = omega (arith, count_behind empty l rest)

-- each line reads names that earlier ones assigned, and there are at most 1,000
pub lines_are : (n : ℕ) (names : Names) (ts : Trees) (lines : List Line) → n ≤ 1001 → lines_from n names ts ≡ Some lines → AreLines names lines × (length lines + n ≤ 1001)
lines_are n names no_more lines few e =
    let same : [] ≡ lines = cc in
    subst (λ (ls : List Line). AreLines names ls × (length ls + n ≤ 1001)) same (tt, omega (arith, few))
lines_are n names (more t ts) lines few e =
    let m = first_line t in
    let k = kept_some (nat_le n m && nat_le m LINE_LIMIT) (put_line (m - n) (line_of m names t) (lines_from (suc m) (names_after names (line_of m names t)) ts)) lines e in
    let b = both_true (nat_le n m) (nat_le m LINE_LIMIT) k.0 in
    let from : n ≤ m = leb-true n m b.0 in
    let to : m ≤ 1000 = leb-true m 1000 b.1 in
    let s = put_line_some (m - n) (line_of m names t) (lines_from (suc m) (names_after names (line_of m names t)) ts) lines k.1 in
    let rest : lines_from (suc m) (names_after names (Some s.0)) ts ≡ Some s.1 = ap (λ (o : Option Line). lines_from (suc m) (names_after names o) ts) (sym s.2) ∙ s.3 in
    let are = lines_are (suc m) (names_after names (Some s.0)) ts s.1 (omega (arith, to)) rest in
    let count = count_behind (m - n) s.0 s.1 in
    subst (λ (ls : List Line). AreLines names ls × (length ls + n ≤ 1001)) s.4 (behind_empty names (m - n) s.0 s.1 (line_is m names t s.0 s.2) are.0, omega (arith, count, from, are.1))

-- ---- names among the locals

-- names that were assigned are among the locals
abbrev AreKnown : Names → List (List ℕ) → Type 0
AreKnown names locals = (q : List ℕ) → map.contains_key names q ≡ true → is_among locals q ≡ true

none_known : AreKnown map.empty []
none_known q e = absurd (false≢true (ap is_some (sym (map.get-empty (slice_cmp nat_cmp) q)) ∙ e))

left_true : (a b : Bool) → a ≡ true → (a || b) ≡ true
left_true a b e = rw e refl

right_true : (a b : Bool) → b ≡ true → (a || b) ≡ true
right_true true b e = refl
right_true false b e = e

itself : (name : List ℕ) → same_bytes name name ≡ true
itself name = nat_list_eq_equiv.refl name

kept_push : (locals : List (List ℕ)) (name q : List ℕ) → is_among locals q ≡ true → is_among (locals ++ name ∷ []) q ≡ true
kept_push locals name q e = list_any-append (λ other. same_bytes other q) locals (name ∷ []) ∙ left_true (is_among locals q) (is_among (name ∷ []) q) e

kept_name : (b : Bool) (locals : List (List ℕ)) (name q : List ℕ) → is_among locals q ≡ true → is_among (cond b locals (locals ++ name ∷ [])) q ≡ true
kept_name true locals name q e = e
kept_name false locals name q e = kept_push locals name q e

own_name : (b : Bool) (locals : List (List ℕ)) (name : List ℕ) → b ≡ is_among locals name → is_among (cond b locals (locals ++ name ∷ [])) name ≡ true
own_name true locals name e = sym e
own_name false locals name e =
    list_any-append (λ other. same_bytes other name) locals (name ∷ []) ∙ right_true (is_among locals name) (is_among (name ∷ []) name) (left_true (same_bytes name name) false (itself name))

with_own : (locals : List (List ℕ)) (name : List ℕ) → is_among (with_name locals name) name ≡ true
with_own locals name = own_name (is_among locals name) locals name refl

kept_with : (locals : List (List ℕ)) (name q : List ℕ) → is_among locals q ≡ true → is_among (with_name locals name) q ≡ true
kept_with locals name q e = kept_name (is_among locals name) locals name q e

kept_behind : (locals : List (List ℕ)) (lines : List Line) (q : List ℕ) → is_among locals q ≡ true → is_among (locals_behind locals lines) q ≡ true
kept_behind locals [] q e = e
kept_behind locals (line.Empty ∷ lines) q e = kept_behind locals lines q e
kept_behind locals (line.Assign name s ∷ lines) q e = kept_behind (with_name locals name) lines q (kept_with locals name q e)
kept_behind locals (line.PutsSum s ∷ lines) q e = kept_behind locals lines q e
kept_behind locals (line.PutsText text ∷ lines) q e = kept_behind locals lines q e

inserted_by : (names : Names) (locals : List (List ℕ)) (name q : List ℕ) (b : Bool) → b ≡ eq_by_cmp (slice_cmp nat_cmp) q name → AreKnown names locals → is_some (cond b (Some tt) (map.get names q)) ≡ true → is_among (with_name locals name) q ≡ true
inserted_by names locals name q true t h e = let same : q ≡ name = same_text q name (t ∙ sym (texts_ties q name)) in rw same (with_own locals name)
inserted_by names locals name q false t h e = kept_with locals name q (h q e)

known_insert : (names : Names) (locals : List (List ℕ)) (name : List ℕ) → AreKnown names locals → AreKnown (map.insert names name tt) (with_name locals name)
known_insert names locals name h q e = inserted_by names locals name q (eq_by_cmp (slice_cmp nat_cmp) q name) refl h (ap is_some (sym (map.get-insert nat_list_cmp_total names name tt q)) ∙ e)

-- ---- a weaker test

module _ (f g : List ℕ → Bool) (h : (q : List ℕ) → f q ≡ true → g q ≡ true) where
  operand_weaker : (x : Operand) → IsOperandBy f x → IsOperandBy g x
  operand_weaker (operand.Number (pos n)) is = is
  operand_weaker (operand.Number (negsuc n)) is = is
  operand_weaker (operand.Name name) is = h name is

  terms_weaker : (terms : List Term) → AllByRecursion (IsTermBy f) terms → AllByRecursion (IsTermBy g) terms
  terms_weaker [] are = tt
  terms_weaker (term ∷ terms) are = (operand_weaker term.operand are.0, terms_weaker terms are.1)

  sum_weaker : (s : Sum) → IsSumBy f s → IsSumBy g s
  sum_weaker s is = record { first = operand_weaker s.first is.first; rest = terms_weaker s.rest is.rest }

  reads_weaker : (l : Line) → ReadsBy f l → ReadsBy g l
  reads_weaker line.Empty is = tt
  reads_weaker (line.Assign name s) is = sum_weaker s is
  reads_weaker (line.PutsSum s) is = sum_weaker s is
  reads_weaker (line.PutsText text) is = tt

-- the line reads and assigns locals alone, and numbers below 2 ^ 63
pub record FitsLocals (locals : List (List ℕ)) (l : Line) : Type 0 where
  pub reads : ReadsBy (λ name. is_among locals name) l
  pub assigns : AssignsBy (λ name. is_among locals name) l

reads_known : (names : Names) (locals : List (List ℕ)) (lines : List Line) (l : Line) → AreKnown names locals → ReadsBy (λ name. map.contains_key names name) l → ReadsBy (λ name. is_among (locals_behind locals lines) name) l
reads_known names locals lines l h is =
    reads_weaker (λ name. map.contains_key names name) (λ name. is_among (locals_behind locals lines) name) (λ q e. kept_behind locals lines q (h q e)) l is

pub all_fit : (names : Names) (locals : List (List ℕ)) (lines : List Line) → AreKnown names locals → AreLines names lines → AllByRecursion (FitsLocals (locals_behind locals lines)) lines
all_fit names locals [] h are = tt
all_fit names locals (line.Empty ∷ lines) h are = (record { reads = tt; assigns = tt }, all_fit names locals lines h are.1)
all_fit names locals (line.Assign name s ∷ lines) h are = (
  record {
    reads = reads_known names locals (line.Assign name s ∷ lines) (line.Assign name s) h are.0;
    assigns = kept_behind (with_name locals name) lines name (with_own locals name);
  },
  all_fit (map.insert names name tt) (with_name locals name) lines (known_insert names locals name h) are.1,
)
all_fit names locals (line.PutsSum s ∷ lines) h are = (record { reads = reads_known names locals (line.PutsSum s ∷ lines) (line.PutsSum s) h are.0; assigns = tt }, all_fit names locals lines h are.1)
all_fit names locals (line.PutsText text ∷ lines) h are = (record { reads = tt; assigns = tt }, all_fit names locals lines h are.1)

-- ---- slots

place_below : {X : Type 0} (p : X → Bool) (xs : List X) → list_any p xs ≡ true → position_or_len p xs < length xs
place_below p [] e = absurd (false≢true e)
place_below p (x ∷ xs) e = first_or_later (p x) (position_or_len p xs) (length xs) e (place_below p xs)
  where
    first_or_later : (b : Bool) (k n : ℕ) → (b || list_any p xs) ≡ true → (list_any p xs ≡ true → k < n) → cond (not b) (1 + k) 0 < suc n
    first_or_later true k n e h = omega arith
    first_or_later false k n e h = let lt = h e in omega (arith, lt)

-- a local has a slot below the number of locals
pub slot_below : (locals : List (List ℕ)) (name : List ℕ) → is_among locals name ≡ true → slot_of locals name < length locals
slot_below locals name e =
    let lt = place_below (λ other. same_bytes other name) locals e in
    rw (lt-ltb (position_or_len (λ other. same_bytes other name) locals) (length locals) lt) lt

-- ---- the file

pub record IsSmallProgram (lines : List Line) : Type 0 where
  pub fit : AllByRecursion (FitsLocals (locals_behind [] lines)) lines
  pub few : length lines ≤ 1000

file_some : (o : Option (List Line)) (file : SmallFile) → file_with o ≡ Some file → o ≡ Some file.lines
file_some None file e = absurd cc
file_some (Some lines) file e = let made : SmallFile = record { lines = lines } in let same : made ≡ file = cc in ap (λ (p : SmallFile). Some p.lines) same

pub small_is : (t : Tree) (file : SmallFile) → small_of t ≡ Some file → IsSmallProgram file.lines
small_is (at o (statements ts)) file e =
    let k = kept_some (begins_in_line_1 o.line ts) (file_with (lines_from 1 map.empty ts)) file e in
    let read = file_some (lines_from 1 map.empty ts) file k.1 in
    let are = lines_are 1 map.empty ts file.lines (omega arith) read in
    record { fit = all_fit map.empty [] file.lines none_known are.0; few = omega (arith, are.1) }
small_is _ file e = absurd cc
