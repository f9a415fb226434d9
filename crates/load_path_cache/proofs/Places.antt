-- The first root of a feature after a change of the roots.
use Rattle.std.proofs.Common.{◌≡◌, ℕ, zero, suc, ◌+◌, ◌-◌, ◌^◌, ◌==◌, ◌<◌, ◌≤◌, min, Bool, true, false, cond, not, ◌&&◌, nat_lt, is_some, Option, Some, None, IfSome, List, [], ◌∷◌, ◌++◌, length, drop, filter, get_or, remove, insert, position, refl, sym, ap, subst, ◌∙◌, arith}
use Rattle.std.specs.List.{list_any}
use Rattle.std.specs.FinSet as set
use Rattle.std.specs.Option.{option_and_then}
use Rattle.std.specs.List.{position_from}
use Rattle.std.specs.Ordering.{nat_cmp}
use Rattle.std.specs.Cmp.Lexicographic.{slice_cmp}
use Rattle.std.proofs.lemmas.Iterator.Adapters.{position_from-zero}
use Rattle.std.proofs.lemmas.Bool.Decides.{nat_tests}
use Rattle.std.proofs.lemmas.List.Quantifiers.{position-Some}
use Rattle.bs_outside.specs.Paths.{same_bytes}
use Rattle.load_path_cache.specs.declared.table.IndexedRoot.{IndexedRoot}
use Rattle.load_path_cache.specs.declared.table.Place.{Place}
use Rattle.load_path_cache.specs.Index.{place_from, place_of, moved_place, raised, value_at, IsTableOf}
use Rattle.load_path_cache.proofs.Sets.{contains_any}
use Rattle.load_path_cache.proofs.Tables.{any_filter, set_if}

abbrev at : ℕ → Place
at n = record { root = n }

drop_none : {A : Type 0} (xs : List A) → drop 0 xs ≡ xs
drop_none [] = refl
drop_none (x ∷ xs) = refl

some_either : (b : Bool) (x y : Option Place) (P : Place → Type 0) → IfSome x P → IfSome y P → IfSome (cond b x y) P
some_either true x y P p q = p
some_either false x y P p q = q

map_some : (x : Option Place) (P Q : Place → Type 0) → ((p : Place) → P p → Q p) → IfSome x P → IfSome x Q
map_some None P Q f h = tt
map_some (Some p) P Q f h = f p h

least : (n : ℕ) (roots : List IndexedRoot) (f : List ℕ) → IfSome (place_from n roots f) (λ p. n ≤ p.root)
least n [] f = tt
least n (r ∷ rs) f =
    some_either (set.contains r.files f) (Some (at n)) (place_from (n + 1) rs f) (λ p. n ≤ p.root) (omega arith)
    (map_some (place_from (n + 1) rs f) (λ p. n + 1 ≤ p.root) (λ p. n ≤ p.root) (λ p h. omega arith) (least (n + 1) rs f))

-- a place is below the number of roots
pub greatest : (n : ℕ) (roots : List IndexedRoot) (f : List ℕ) → IfSome (place_from n roots f) (λ p. p.root < n + length roots)
greatest n [] f = tt
greatest n (r ∷ rs) f =
    some_either (set.contains r.files f) (Some (at n)) (place_from (n + 1) rs f) (λ p. p.root < n + length (r ∷ rs)) (omega arith)
    (map_some (place_from (n + 1) rs f) (λ p. p.root < n + 1 + length rs) (λ p. p.root < n + length (r ∷ rs)) (λ p h. omega arith) (greatest (n + 1) rs f))

abbrev up : Option Place → Option Place
up None = None
up (Some p) = Some (at (p.root + 1))

up_cond : (b : Bool) (x y : Option Place) → up (cond b x y) ≡ cond b (up x) (up y)
up_cond true x y = refl
up_cond false x y = refl

next_is : (n : ℕ) (roots : List IndexedRoot) (f : List ℕ) → place_from (n + 1) roots f ≡ up (place_from n roots f)
next_is n [] f = refl
next_is n (r ∷ rs) f =
    ap (cond (set.contains r.files f) (Some (at (n + 1)))) (next_is (n + 1) rs f)
    ∙ sym (up_cond (set.contains r.files f) (Some (at n)) (place_from (n + 1) rs f))

lt_no : (a b : ℕ) → b ≤ a → nat_lt a b ≡ false
lt_no a b h = grind (arith, nat_tests)

lt_yes : (a b : ℕ) → a < b → nat_lt a b ≡ true
lt_yes a b h = grind (arith, nat_tests)

eq_no : (a b : ℕ) → b < a → (a == b) ≡ false
eq_no a b h = grind (arith, nat_tests)

eq_yes : (a b : ℕ) → a ≡ b → (a == b) ≡ true
eq_yes a b h = grind (arith, nat_tests)

abbrev moved_at : ℕ → Option Place → Place → Option Place
moved_at gone behind place = cond (nat_lt place.root gone) (Some place) (cond (place.root == gone) behind (Some (at (place.root - 1))))

moved_same : (m n : ℕ) (behind : Option Place) → m ≡ n → moved_at m behind (at n) ≡ behind
moved_same m n behind e = rw (lt_no n m (omega arith), eq_yes n m (sym e)) refl

moved_later : (m n : ℕ) (behind : Option Place) (p : Place) → m ≡ n → n ≤ p.root → moved_at m behind (at (p.root + 1)) ≡ Some p
moved_later m n behind p e h =
    let back : p.root + 1 - 1 ≡ p.root = omega arith in
    rw (lt_no (p.root + 1) m (omega arith), eq_no (p.root + 1) m (omega arith)) (ap (λ k. Some (at k)) back)

zero_case : (b : Bool) (n m : ℕ) (behind next here : Option Place) → m ≡ n → here ≡ behind → next ≡ up here → IfSome here (λ p. n ≤ p.root)
    → here ≡ option_and_then (moved_at m behind) (cond b (Some (at n)) next)
zero_case true n m behind next here e h u l = h ∙ sym (moved_same m n behind e)
zero_case false n m behind next None e h u l = sym (ap (option_and_then (moved_at m behind)) u)
zero_case false n m behind next (Some p) e h u l = sym (ap (option_and_then (moved_at m behind)) u ∙ moved_later m n behind p e l)

suc_case : (b : Bool) (n m : ℕ) (behind next left : Option Place) → n < m → left ≡ option_and_then (moved_at m behind) next
    → cond b (Some (at n)) left ≡ option_and_then (moved_at m behind) (cond b (Some (at n)) next)
suc_case true n m behind next left h e = rw (lt_yes n m h) refl
suc_case false n m behind next left h e = e

moved_is : (i n : ℕ) (roots : List IndexedRoot) (f : List ℕ) → i < length roots
    → place_from n (remove roots i) f ≡ option_and_then (moved_at (n + i) (place_from (n + i) (drop i (remove roots i)) f)) (place_from n roots f)
moved_is i n [] f lt = absurd (omega arith)
moved_is zero n (r ∷ rs) f lt =
    let rest : drop 0 rs ≡ rs = drop_none rs in
    let same : n + 0 ≡ n = omega arith in
    ap (λ l. place_from n l f) rest
    ∙ zero_case (set.contains r.files f) n (n + 0) (place_from (n + 0) (drop 0 (drop 0 rs)) f) (place_from (n + 1) rs f) (place_from n rs f) same
    (sym (ap (λ l. place_from (n + 0) l f) (drop_none (drop 0 rs) ∙ rest) ∙ ap (λ k. place_from k rs f) same)) (next_is n rs f) (least n rs f)
moved_is (suc j) n (r ∷ rs) f lt =
    let shifted : n + 1 + j ≡ n + suc j = omega arith in
    suc_case (set.contains r.files f) n (n + suc j) (place_from (n + suc j) (drop j (remove rs j)) f) (place_from (n + 1) rs f) (place_from (n + 1) (remove rs j) f) (omega arith)
    (subst (λ m. place_from (n + 1) (remove rs j) f ≡ option_and_then (moved_at m (place_from m (drop j (remove rs j)) f)) (place_from (n + 1) rs f)) shifted
    (moved_is j (n + 1) rs f (omega arith)))

-- after the root at a place was taken out, and the places were numbered anew
pub taken_out : (roots : List IndexedRoot) (gone : ℕ) (entries next : List (List ℕ × Place)) → gone < length roots → IsTableOf roots entries
    → ((f : List ℕ) → value_at next f ≡ option_and_then (moved_place (remove roots gone) gone f) (value_at entries f)) → IsTableOf (remove roots gone) next
taken_out roots gone entries next lt table moved f =
    let from : 0 + gone ≡ gone = omega arith in
    moved f ∙ ap (option_and_then (moved_place (remove roots gone) gone f)) (table f)
    ∙ sym (subst (λ m. place_from 0 (remove roots gone) f ≡ option_and_then (moved_at m (place_from m (drop gone (remove roots gone)) f)) (place_from 0 roots f)) from (moved_is gone 0 roots f lt))

-- whether a list has a feature, through its set
abbrev has : List (List ℕ) → List ℕ → Bool
has files f = set.contains (set.from_list {R = slice_cmp nat_cmp} files) f

abbrev or_place : Option Place → Option Place → Option Place
or_place None b = b
or_place (Some a) b = Some a

or_cond : (b : Bool) (x : Place) (y z : Option Place) → cond b (Some x) (or_place y z) ≡ or_place (cond b (Some x) y) z
or_cond true x y z = refl
or_cond false x y z = refl

last_is : (n : ℕ) (roots : List IndexedRoot) (r : IndexedRoot) (f : List ℕ)
    → place_from n (roots ++ r ∷ []) f ≡ or_place (place_from n roots f) (cond (set.contains r.files f) (Some (at (n + length roots))) None)
last_is n [] r f = let same : n ≡ n + 0 = omega arith in ap (λ k. cond (set.contains r.files f) (Some (at k)) None) same
last_is n (x ∷ rs) r f =
    let count : n + 1 + length rs ≡ n + suc (length rs) = omega arith in
    ap (cond (set.contains x.files f) (Some (at n))) (last_is (n + 1) rs r f ∙ ap (λ k. or_place (place_from (n + 1) rs f) (cond (set.contains r.files f) (Some (at k)) None)) count)
    ∙ or_cond (set.contains x.files f) (at n) (place_from (n + 1) rs f) _

push_case : (a : Bool) (t : Option Place) (last : Place) → cond (a && not (is_some t)) (Some last) t ≡ or_place t (cond a (Some last) None)
push_case true None last = refl
push_case true (Some p) last = refl
push_case false None last = refl
push_case false (Some p) last = refl

-- whether the table lacks a feature
abbrev pub is_unknown : List (List ℕ × Place) → List ℕ → Bool
is_unknown entries f = not (is_some (value_at entries f))

-- after a root more at the end, whose unknown features were given its place
pub pushed : (roots : List IndexedRoot) (path : List ℕ) (files : List (List ℕ)) (entries next : List (List ℕ × Place)) (last : Place) → last.root ≡ length roots → IsTableOf roots entries
    → ((f : List ℕ) → value_at next f ≡ cond (list_any (same_bytes f) (filter (is_unknown entries) files)) (Some last) (value_at entries f))
    → IsTableOf (roots ++ record { path = path; files = set.from_list files } ∷ []) next
pushed roots path files entries next last e table put f =
    let count : last.root ≡ 0 + length roots = omega arith in
    put f
    ∙ ap (λ b. cond b (Some last) (value_at entries f)) (any_filter (is_unknown entries) files f)
    ∙ push_case (list_any (same_bytes f) files) (value_at entries f) last
    ∙ ap (λ t. or_place t (cond (list_any (same_bytes f) files) (Some last) None)) (table f)
    ∙ ap (λ b. or_place (place_from 0 roots f) (cond b (Some last) None)) (sym (contains_any files f))
    ∙ ap (λ k. or_place (place_from 0 roots f) (cond (has files f) (Some (at k)) None)) count
    ∙ sym (last_is 0 roots (record { path = path; files = set.from_list files }) f)

unshift_case : (a : Bool) (t : Option Place) (first : Place)
    → cond (a && not (is_some t)) (Some first) (set_if a first (option_and_then raised t)) ≡ cond a (Some first) (option_and_then raised t)
unshift_case true None first = refl
unshift_case true (Some p) first = refl
unshift_case false None first = refl
unshift_case false (Some p) first = refl

raised_is : (t : Option Place) (n : ℕ) → n < 2 ^ 64 → IfSome t (λ p. p.root < n) → option_and_then raised t ≡ up t
raised_is None n small h = refl
raised_is (Some p) n small h = let same : min (p.root + 1) (2 ^ 64 - 1) ≡ p.root + 1 = omega arith in ap (λ k. Some (at k)) same

-- after a root more at the front: the places were raised, and its features were given its place
pub unshifted : (roots : List IndexedRoot) (path : List ℕ) (files : List (List ℕ)) (entries shifted put next : List (List ℕ × Place)) (first : Place) → first.root ≡ 0 → length roots < 2 ^ 64
    → IsTableOf roots entries → ((f : List ℕ) → value_at shifted f ≡ option_and_then raised (value_at entries f))
    → ((f : List ℕ) → value_at put f ≡ set_if (list_any (same_bytes f) files) first (value_at shifted f))
    → ((f : List ℕ) → value_at next f ≡ cond (list_any (same_bytes f) (filter (is_unknown entries) files)) (Some first) (value_at put f))
    → IsTableOf (record { path = path; files = set.from_list files } ∷ roots) next
unshifted roots path files entries shifted put next first e small table shift given added f =
    let front : first.root ≡ 0 = e in
    let count : 0 + length roots ≡ length roots = omega arith in
    added f
    ∙ ap (λ b. cond b (Some first) (value_at put f)) (any_filter (is_unknown entries) files f)
    ∙ ap (cond (list_any (same_bytes f) files && is_unknown entries f) (Some first)) (given f ∙ ap (set_if (list_any (same_bytes f) files) first) (shift f))
    ∙ unshift_case (list_any (same_bytes f) files) (value_at entries f) first
    ∙ ap (λ t. cond (list_any (same_bytes f) files) (Some first) (option_and_then raised t)) (table f)
    ∙ ap (cond (list_any (same_bytes f) files) (Some first)) (raised_is (place_from 0 roots f) (0 + length roots) (subst (λ k. k < 2 ^ 64) (sym count) small) (greatest 0 roots f) ∙ sym (next_is 0 roots f))
    ∙ ap (λ b. cond b (Some first) (place_from (0 + 1) roots f)) (sym (contains_any files f))
    ∙ ap (λ k. cond (has files f) (Some (at k)) (place_from (0 + 1) roots f)) front

-- a root that goes anyway, taken out before
pub filter_gone : (keep : IndexedRoot → Bool) (roots : List IndexedRoot) (i : ℕ) (d : IndexedRoot) → i < length roots → keep (get_or roots i d) ≡ false → filter keep (remove roots i) ≡ filter keep roots
filter_gone keep [] i d lt goes = absurd (omega arith)
filter_gone keep (r ∷ rs) zero d lt goes = ap (filter keep) (drop_none rs) ∙ sym (ap (λ b. cond b (r ∷ filter keep rs) (filter keep rs)) goes)
filter_gone keep (r ∷ rs) (suc i) d lt goes = ap (λ l. cond (keep r) (r ∷ l) l) (filter_gone keep rs i d (omega arith) goes)

not_true : (b : Bool) → b ≡ true → not b ≡ false
not_true b e = ap not e

pub gone_step : (path : List ℕ) (roots all : List IndexedRoot) (gone : ℕ) → position (λ r. same_bytes r.path path) roots ≡ Some gone
    → filter (λ r. not (same_bytes r.path path)) roots ≡ filter (λ r. not (same_bytes r.path path)) all
    → filter (λ r. not (same_bytes r.path path)) (remove roots gone) ≡ filter (λ r. not (same_bytes r.path path)) all
gone_step path roots all gone at before =
    let none : IndexedRoot = record { path = []; files = set.empty } in
    let found = position-Some (λ (r : IndexedRoot). same_bytes r.path path) roots gone none at in
    filter_gone (λ r. not (same_bytes r.path path)) roots gone none found.0 (not_true (same_bytes (get_or roots gone none).path path) found.1) ∙ before

pub within : (path : List ℕ) (roots : List IndexedRoot) (gone : ℕ) → position (λ r. same_bytes r.path path) roots ≡ Some gone → gone < length roots
within path roots gone at = (position-Some (λ (r : IndexedRoot). same_bytes r.path path) roots gone (record { path = []; files = set.empty }) at).0

none_from : (t : IndexedRoot → Bool) (n : ℕ) (roots : List IndexedRoot) → position_from t n roots ≡ None → filter (λ r. not (t r)) roots ≡ roots
none_from t n [] e = refl
none_from t n (r ∷ rs) e = by (t r) e (none_from t (n + 1) rs)
  where
    by : (b : Bool) → cond b (Some n) (position_from t (n + 1) rs) ≡ None → (position_from t (n + 1) rs ≡ None → filter (λ r. not (t r)) rs ≡ rs)
        → cond (not b) (r ∷ filter (λ r. not (t r)) rs) (filter (λ r. not (t r)) rs) ≡ r ∷ rs
    by true e rest = cc
    by false e rest = ap (λ l. r ∷ l) (rest e)

-- no root with this path is left
pub all_gone : (path : List ℕ) (roots all : List IndexedRoot) → position (λ r. same_bytes r.path path) roots ≡ None
    → filter (λ r. not (same_bytes r.path path)) roots ≡ filter (λ r. not (same_bytes r.path path)) all → roots ≡ filter (λ r. not (same_bytes r.path path)) all
all_gone path roots all e before = sym (none_from (λ r. same_bytes r.path path) 0 roots (sym (position_from-zero (λ (r : IndexedRoot). same_bytes r.path path) roots) ∙ e)) ∙ before

-- the steps of taking a root out
pub taken_out_all : (roots left given : List IndexedRoot) (gone : ℕ) (entries next : List (List ℕ × Place)) → gone < length roots → IsTableOf roots entries → left ≡ remove roots gone → given ≡ left
    → ((f : List ℕ) → value_at next f ≡ option_and_then (moved_place given gone f) (value_at entries f)) → IsTableOf left next
taken_out_all roots left given gone entries next lt table e g moved f =
    taken_out roots gone entries next lt table (λ f. moved f ∙ ap (λ l. option_and_then (moved_place l gone f) (value_at entries f)) (g ∙ e)) f
    ∙ ap (λ l. place_of l f) (sym e)

-- the steps of a push
pub pushed_all : (roots now : List IndexedRoot) (path : List ℕ) (files unknown : List (List ℕ)) (added : IndexedRoot) (entries reserved next : List (List ℕ × Place)) (last : Place) → last.root ≡ length roots
    → IsTableOf roots entries → added ≡ record { path = path; files = set.from_list files } → now ≡ roots ++ added ∷ [] → unknown ≡ filter (is_unknown entries) files → reserved ≡ entries
    → ((f : List ℕ) → value_at next f ≡ cond (list_any (same_bytes f) unknown) (Some last) (value_at reserved f)) → IsTableOf now next
pushed_all roots now path files unknown added entries reserved next last e table a n u r put f =
    pushed roots path files entries next last e table (λ f.
    put f ∙ ap (λ us. cond (list_any (same_bytes f) us) (Some last) (value_at reserved f)) u
    ∙ ap (λ es. cond (list_any (same_bytes f) (filter (is_unknown entries) files)) (Some last) (value_at es f)) r) f
    ∙ ap (λ l. place_of l f) (sym (n ∙ ap (λ x. roots ++ x ∷ []) a))

front_is : (roots : List IndexedRoot) (r : IndexedRoot) → insert roots 0 r ≡ r ∷ roots
front_is [] r = refl
front_is (x ∷ xs) r = refl

-- the steps of an unshift
pub unshifted_all : (roots now : List IndexedRoot) (path : List ℕ) (files unknown : List (List ℕ)) (added : IndexedRoot) (entries reserved shifted set_to next : List (List ℕ × Place)) (first : Place) → first.root ≡ 0
    → length roots < 2 ^ 64 → IsTableOf roots entries → added ≡ record { path = path; files = set.from_list files } → now ≡ insert roots 0 added → unknown ≡ filter (is_unknown entries) files → reserved ≡ entries
    → ((f : List ℕ) → value_at shifted f ≡ option_and_then raised (value_at reserved f))
    → ((f : List ℕ) → value_at set_to f ≡ set_if (list_any (same_bytes f) files) first (value_at shifted f))
    → ((f : List ℕ) → value_at next f ≡ cond (list_any (same_bytes f) unknown) (Some first) (value_at set_to f)) → IsTableOf now next
unshifted_all roots now path files unknown added entries reserved shifted set_to next first e small table a n u r shift given put f =
    unshifted roots path files entries shifted set_to next first e small table (λ f. shift f ∙ ap (λ es. option_and_then raised (value_at es f)) r) given
    (λ f. put f ∙ ap (λ us. cond (list_any (same_bytes f) us) (Some first) (value_at set_to f)) u) f
    ∙ ap (λ l. place_of l f) (sym (n ∙ front_is roots added ∙ ap (λ x. x ∷ roots) a))
