-- What is gathered, step by step.
use Rattle.std.proofs.Common.{Bor, ◌≡◌, ℕ, zero, suc, ◌+◌, ◌^◌, ◌<◌, ◌≤◌, List, [], ◌∷◌, ◌++◌, map, length, take, nat_eq, nat_lt, cond, if◌then◌else◌, Bool, true, false, not, ◌||◌, Option, Some, None, IfSome, is_some, refl, sym, ◌∙◌, ap, subst, arith, length-append}
use Rattle.std.specs.List.{AllByRecursion, IsDistinct, list_any, position, position_or_len}
use Rattle.std.specs.Map.{lookup}
use Rattle.std.proofs.lemmas.Bool.{eqb-true, ltb-true, ltb-false}
use Rattle.std.proofs.lemmas.Bool.Decides.{nat_tests}
use Rattle.std.proofs.lemmas.List.{length-map, map-append, take-append-le, take_all}
use Rattle.indexmap.specs.IndexMap.{insert_entry}
use Rattle.ruby_lexer.specs.Bytes.{Bytes, same, is_in}
use Rattle.ruby_meaning.specs.Locals.{so_far, reached, names_in, with_local, at_block}
use Rattle.local_scopes.specs.Gathering.{Gathering, at_mark, gathered, AreMarks}

-- the texts that are lent
abbrev pub lent : List (Bor Bytes) → List Bytes
lent ks = map (λ (k : Bor Bytes). k.now) ks

pub any-lent : (t : Bytes) (ks : List (Bor Bytes)) → list_any (λ (k : Bor Bytes). same t k.now) ks ≡ is_in t (lent ks)
any-lent t [] = refl
any-lent t (k ∷ ks) = ap (λ x. same t k.now || x) (any-lent t ks)

pub position-lent : (t : Bytes) (ks : List (Bor Bytes)) → position_or_len (λ (k : Bor Bytes). same t k.now) ks ≡ position_or_len (same t) (lent ks)
position-lent t [] = refl
position-lent t (k ∷ ks) = ap (λ n. cond (not (same t k.now)) (1 + n) 0) (position-lent t ks)

pub place-lent : (t : Bytes) (ks : List (Bor Bytes)) → position (λ (k : Bor Bytes). same t k.now) ks ≡ position (same t) (lent ks)
place-lent t ks =
    ap (λ n. cond (nat_lt n (length ks)) (Some n) None) (position-lent t ks)
    ∙ ap (λ n. cond (nat_lt (position_or_len (same t) (lent ks)) n) (Some (position_or_len (same t) (lent ks))) None) (sym (length-map ks (λ (k : Bor Bytes). k.now)))

-- the texts after an insertion
pub lent-insert : (old new : List (Bor Bytes)) (k : Bor Bytes) → new ≡ (if list_any (λ (x : Bor Bytes). same k.now x.now) old then old else old ++ k ∷ []) → lent new ≡ cond (is_in k.now (lent old)) (lent old) (lent old ++ k.now ∷ [])
lent-insert old new k is = ap lent is ∙ by (list_any (λ (x : Bor Bytes). same k.now x.now) old) ∙ ap (λ b. cond b (lent old) (lent old ++ k.now ∷ [])) (any-lent k.now old)
  where
    by : (b : Bool) → lent (if b then old else old ++ k ∷ []) ≡ cond b (lent old) (lent old ++ k.now ∷ [])
    by true = refl
    by false = map-append (λ (x : Bor Bytes). x.now) old (k ∷ [])

pub longer : (old new : List (Bor Bytes)) (k : Bor Bytes) (b : Bool) → new ≡ (if b then old else old ++ k ∷ []) → length old ≤ length new
longer old new k true is = let e : length new ≡ length old = ap length is in omega arith
longer old new k false is = let e : length new ≡ length old + 1 = ap length is ∙ length-append old (k ∷ []) in omega arith

all_apart : (g : Bytes) (xs : List (Bor Bytes)) → AllByRecursion (λ (x : Bor Bytes). same g x.now ≡ false) xs → AllByRecursion (λ (h : Bytes). same g h ≡ false) (lent xs)
all_apart g [] h = tt
all_apart g (x ∷ xs) h = (h.0, all_apart g xs h.1)

pub lent-apart : (xs : List (Bor Bytes)) → IsDistinct (λ (x y : Bor Bytes). same x.now y.now) xs → IsDistinct same (lent xs)
unfolding IsDistinct
lent-apart [] h = tt
lent-apart (x ∷ xs) h = (all_apart x.now xs h.0, lent-apart xs h.1)

-- Marks.

pub more-marks : (m n : ℕ) (ms : List (ℕ × ℕ)) → m ≤ n → AreMarks m ms → AreMarks n ms
more-marks m n [] le h = tt
more-marks m n (x ∷ ms) le h = ((h.0.0, omega (arith, h.0.1)), more-marks m n ms le h.1)

mark-within : (n place : ℕ) (ms : List (ℕ × ℕ)) → AreMarks n ms → IfSome (lookup (nat_eq place) ms) (λ k. k ≤ n)
mark-within n place [] h = tt
mark-within n place (m ∷ ms) h = by (nat_eq place m.0) (mark-within n place ms h.1)
  where
    by : (b : Bool) → IfSome (lookup (nat_eq place) ms) (λ k. k ≤ n) → IfSome (cond b (Some m.1) (lookup (nat_eq place) ms)) (λ k. k ≤ n)
    by true rest = h.0.1
    by false rest = rest

pub put-mark : (n at k : ℕ) (ms : List (ℕ × ℕ)) → at < 2 ^ 64 → k ≤ n → AreMarks n ms → AreMarks n (insert_entry nat_eq ms at k)
put-mark n at k [] low le h = ((low, le), tt)
put-mark n at k (m ∷ ms) low le h = by (nat_eq at m.0) (put-mark n at k ms low le h.1)
  where
    by : (b : Bool) → AreMarks n (insert_entry nat_eq ms at k) → AreMarks n (if b then (m.0, k) ∷ ms else m ∷ insert_entry nat_eq ms at k)
    by true rest = ((h.0.0, le), h.1)
    by false rest = (h.0, rest)

-- no block stands as far as this
unmarked : (n : ℕ) (ms : List (ℕ × ℕ)) → AreMarks n ms → lookup (nat_eq (2 ^ 64)) ms ≡ None
unmarked n [] h = refl
unmarked n (m ∷ ms) h =
    let low : m.0 < 2 ^ 64 = h.0.0 in
    let off : nat_eq (2 ^ 64) m.0 ≡ false = far m.0 low in
    ap (λ b. cond b (Some m.1) (lookup (nat_eq (2 ^ 64)) ms)) off ∙ unmarked n ms h.1
  where
    far : (x : ℕ) → x < 2 ^ 64 → nat_eq (2 ^ 64) x ≡ false
    far x low = by (nat_eq (2 ^ 64) x) refl
      where
        by : (b : Bool) → nat_eq (2 ^ 64) x ≡ b → nat_eq (2 ^ 64) x ≡ false
        by true is = let e : 2 ^ 64 ≡ x = eqb-true (2 ^ 64) x is in absurd (omega arith)
        by false is = is

-- What is gathered.

pub gathered-none : (names : List Bytes) (marks : List (ℕ × ℕ)) (place : ℕ) → names ≡ [] → marks ≡ [] → gathered (record { names = names; marks = marks }) place ≡ so_far []
unfolding gathered
gathered-none names marks place e f = ap (λ ms. at_mark (lookup (nat_eq place) ms) names) f ∙ ap so_far e

named : (m : Option ℕ) (xs : List Bytes) (x : Bytes) → IfSome m (λ k. k ≤ length xs) → at_mark m (cond (is_in x xs) xs (xs ++ x ∷ [])) ≡ with_local x (at_mark m xs)
named None xs x h = refl
named (Some k) xs x h = ap reached (by (is_in x xs))
  where
    by : (b : Bool) → take k (cond b xs (xs ++ x ∷ [])) ≡ take k xs
    by true = refl
    by false = take-append-le k xs (x ∷ []) h

-- a name more
pub declared : (old new : List (Bor Bytes)) (marks : List (ℕ × ℕ)) (k : Bor Bytes) (g : Gathering) (place : ℕ) → new ≡ (if list_any (λ (x : Bor Bytes). same k.now x.now) old then old else old ++ k ∷ []) → AreMarks (length old) marks → record { names = lent old; marks = marks } ≡ g → gathered (record { names = lent new; marks = marks }) place ≡ with_local k.now (gathered g place)
unfolding gathered
declared old new marks k g place is within view =
    let fits : AreMarks (length (lent old)) marks = subst (λ n. AreMarks n marks) (sym (length-map old (λ (x : Bor Bytes). x.now))) within in
    ap (at_mark (lookup (nat_eq place) marks)) (lent-insert old new k is)
    ∙ named (lookup (nat_eq place) marks) (lent old) k.now (mark-within _ place marks fits)
    ∙ ap (λ (g : Gathering). with_local k.now (gathered g place)) view

marked : (b : Bool) (m : Option ℕ) (xs : List Bytes) (n : ℕ) → (b ≡ true → m ≡ None) → take n xs ≡ xs → at_mark (cond b (Some n) m) xs ≡ at_block b (at_mark m xs)
marked true m xs n none all = ap reached all ∙ sym (ap (λ o. at_block true (at_mark o xs)) (none refl))
marked false None xs n none all = refl
marked false (Some k) xs n none all = refl

absent : (o : Option ℕ) → is_some o ≡ false → o ≡ None
absent None h = refl
absent (Some k) h = let no : true ≡ false = h in cc

-- a block more
pub blocked : (names : List (Bor Bytes)) (old new : List (ℕ × ℕ)) (at n : ℕ) (g : Gathering) (place : ℕ) → is_some (lookup (nat_eq at) old) ≡ false → lookup (nat_eq place) new ≡ cond (nat_eq at place) (Some n) (lookup (nat_eq place) old) → n ≡ length names → record { names = lent names; marks = old } ≡ g → gathered (record { names = lent names; marks = new }) place ≡ at_block (nat_eq at place) (gathered g place)
unfolding gathered
blocked names old new at n g place none is count view =
    let there : nat_eq at place ≡ true → lookup (nat_eq place) old ≡ None = λ same_place. ap (λ p. lookup (nat_eq p) old) (sym (eqb-true at place same_place)) ∙ absent _ none in
    let whole : take n (lent names) ≡ lent names = take_all n (lent names) (let e : length (lent names) ≡ length names = length-map names (λ (x : Bor Bytes). x.now) in omega arith) in
    ap (λ o. at_mark o (lent names)) is
    ∙ marked (nat_eq at place) (lookup (nat_eq place) old) (lent names) n there whole
    ∙ ap (λ (g : Gathering). at_block (nat_eq at place) (gathered g place)) view

again : (b : Bool) (o m : Option ℕ) (xs : List Bytes) → (b ≡ true → m ≡ o) → is_some o ≡ true → at_mark m xs ≡ at_block b (at_mark m xs)
again true None m xs same_mark h = let no : false ≡ true = h in cc
again true (Some k) m xs same_mark h = ap (λ o. at_mark o xs) (same_mark refl) ∙ sym (ap (λ o. at_block true (at_mark o xs)) (same_mark refl))
again false o None xs same_mark h = refl
again false o (Some k) xs same_mark h = refl

-- a block at a place that has one
pub blocked_before : (names : List (Bor Bytes)) (marks : List (ℕ × ℕ)) (at : ℕ) (g : Gathering) (place : ℕ) → is_some (lookup (nat_eq at) marks) ≡ true → record { names = lent names; marks = marks } ≡ g → gathered g place ≡ at_block (nat_eq at place) (gathered g place)
unfolding gathered
blocked_before names marks at g place there view =
    let by : gathered (record { names = lent names; marks = marks }) place ≡ at_block (nat_eq at place) (gathered (record { names = lent names; marks = marks }) place) = again (nat_eq at place) (lookup (nat_eq at) marks) (lookup (nat_eq place) marks) (lent names) (λ same_place. ap (λ p. lookup (nat_eq p) marks) (sym (eqb-true at place same_place))) there in
    subst (λ (g : Gathering). gathered g place ≡ at_block (nat_eq at place) (gathered g place)) view by

-- how many are known at a block, or in all
pub counted : (names : List (Bor Bytes)) (marks : List (ℕ × ℕ)) (place k : ℕ) (g : Gathering) → Some k ≡ lookup (nat_eq place) marks → record { names = lent names; marks = marks } ≡ g → take k g.names ≡ names_in (gathered g place)
unfolding gathered
counted names marks place k g is view =
    let by : take k (lent names) ≡ names_in (gathered (record { names = lent names; marks = marks }) place) = ap (λ o. names_in (at_mark o (lent names))) is in
    subst (λ (g : Gathering). take k g.names ≡ names_in (gathered g place)) view by

pub counted_all : (names : List (Bor Bytes)) (marks : List (ℕ × ℕ)) (place n : ℕ) (g : Gathering) → None ≡ lookup (nat_eq place) marks → n ≡ length names → record { names = lent names; marks = marks } ≡ g → take n g.names ≡ names_in (gathered g place)
unfolding gathered
counted_all names marks place n g is count view =
    let whole : take n (lent names) ≡ lent names = take_all n (lent names) (let e : length (lent names) ≡ length names = length-map names (λ (x : Bor Bytes). x.now) in omega arith) in
    let by : take n (lent names) ≡ names_in (gathered (record { names = lent names; marks = marks }) place) = whole ∙ ap (λ o. names_in (at_mark o (lent names))) is in
    subst (λ (g : Gathering). take n g.names ≡ names_in (gathered g place)) view by

-- all that is gathered
pub in_all : (names : List (Bor Bytes)) (marks : List (ℕ × ℕ)) (g : Gathering) → AreMarks (length names) marks → record { names = lent names; marks = marks } ≡ g → gathered g (2 ^ 64) ≡ so_far g.names
unfolding gathered
in_all names marks g within view =
    let by : gathered (record { names = lent names; marks = marks }) (2 ^ 64) ≡ so_far (lent names) = ap (λ o. at_mark o (lent names)) (unmarked (length names) marks within) in
    subst (λ (g : Gathering). gathered g (2 ^ 64) ≡ so_far g.names) view by

-- Among the first so many.

abbrev pub first : Bytes → List Bytes → ℕ
first t ys = position_or_len (same t) ys

pub lt_true : (a b : ℕ) → a < b → nat_lt a b ≡ true
lt_true a b h = grind (arith, nat_tests)

pub lt_false : (a b : ℕ) → b ≤ a → nat_lt a b ≡ false
lt_false a b h = grind (arith, nat_tests)

pub lt_suc : (a b : ℕ) → nat_lt (1 + a) (suc b) ≡ nat_lt a b
lt_suc a b = by (nat_lt a b) refl
  where
    by : (t : Bool) → nat_lt a b ≡ t → nat_lt (1 + a) (suc b) ≡ t
    by true is = let below : a < b = ltb-true a b is in lt_true (1 + a) (suc b) (omega arith)
    by false is = let above : b ≤ a = ltb-false a b is in lt_false (1 + a) (suc b) (omega arith)

-- where a name is found, it is one of the first so many if its place is among them
shown : (t : Bytes) (ys : List Bytes) (count : ℕ) → nat_lt (first t ys) (length ys) ≡ true → nat_lt (first t ys) count ≡ is_in t (take count ys)
shown t [] count h = let no : false ≡ true = h in cc
shown t (y ∷ ys) zero h = lt_false (first t (y ∷ ys)) zero (omega arith)
shown t (y ∷ ys) (suc count) h = by (same t y) h (shown t ys count)
  where
    by : (b : Bool) → nat_lt (cond (not b) (1 + first t ys) 0) (suc (length ys)) ≡ true → (nat_lt (first t ys) (length ys) ≡ true → nat_lt (first t ys) count ≡ is_in t (take count ys)) → nat_lt (cond (not b) (1 + first t ys) 0) (suc count) ≡ (b || is_in t (take count ys))
    by true h rest = lt_true 0 (suc count) (omega arith)
    by false h rest = lt_suc (first t ys) count ∙ rest (sym (lt_suc (first t ys) (length ys)) ∙ h)

none_taken : (t : Bytes) (ys : List Bytes) (count : ℕ) → is_in t ys ≡ false → is_in t (take count ys) ≡ false
none_taken t [] zero h = refl
none_taken t [] (suc count) h = refl
none_taken t (y ∷ ys) zero h = refl
none_taken t (y ∷ ys) (suc count) h = by (same t y) h (none_taken t ys count)
  where
    by : (b : Bool) → (b || is_in t ys) ≡ false → (is_in t ys ≡ false → is_in t (take count ys) ≡ false) → (b || is_in t (take count ys)) ≡ false
    by true h rest = h
    by false h rest = rest h

found : (i n len : ℕ) (b : Bool) → Some i ≡ cond b (Some n) None → (b ≡ true) × (i ≡ n)
found i n len true is = (refl, cc is)
found i n len false is = let o : Option ℕ = None in let no : Some i ≡ o = is in cc

-- the place that was found
pub placed : (t : Bytes) (ys : List Bytes) (i : ℕ) → Some i ≡ position (same t) ys → (nat_lt (first t ys) (length ys) ≡ true) × (i ≡ first t ys)
placed t ys i is = found i (first t ys) (length ys) (nat_lt (first t ys) (length ys)) is

pub is_among-Some : (names : List (Bor Bytes)) (marks : List (ℕ × ℕ)) (t : Bytes) (count i : ℕ) (g : Gathering) → Some i ≡ position (λ (k : Bor Bytes). same t k.now) names → record { names = lent names; marks = marks } ≡ g → nat_lt i count ≡ is_in t (take count g.names)
is_among-Some names marks t count i g is view =
    let p : (nat_lt (first t (lent names)) (length (lent names)) ≡ true) × (i ≡ first t (lent names)) = placed t (lent names) i (is ∙ place-lent t names) in
    ap (λ n. nat_lt n count) p.1 ∙ shown t (lent names) count p.0 ∙ ap (λ (g : Gathering). is_in t (take count g.names)) view

pub is_among-None : (names : List (Bor Bytes)) (marks : List (ℕ × ℕ)) (t : Bytes) (count : ℕ) (g : Gathering) → false ≡ list_any (λ (k : Bor Bytes). same t k.now) names → record { names = lent names; marks = marks } ≡ g → false ≡ is_in t (take count g.names)
is_among-None names marks t count g is view =
    sym (none_taken t (lent names) count (sym (any-lent t names) ∙ sym is)) ∙ ap (λ (g : Gathering). is_in t (take count g.names)) view
