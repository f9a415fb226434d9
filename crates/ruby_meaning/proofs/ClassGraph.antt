-- The graph of classes: how many steps a way upward has at most, and what keeps the graph.
use Rattle.std.proofs.Common.{◌≡◌, ◌⊎◌, inl, inr, ℕ, zero, suc, ◌+◌, ◌≤◌, ◌<◌, Bool, true, false, refl, sym, subst, ap, ◌∙◌, arith, List, [], ◌∷◌, ◌++◌, length, Option, Some, None}
use Rattle.std.specs.Prelude.{◌&&◌, ◌||◌, cond, nat_eq, nat_lt, map}
use Rattle.std.specs.List.{list_all, AllByRecursion, IsDistinct}
use Rattle.std.proofs.lemmas.Bool.{and_parts, false≢true, ltb-true, eqb-true, eq-eqb, false_from_ne_true}
use Rattle.std.proofs.lemmas.List.Folds.{list_any-append}
use Rattle.std.proofs.lemmas.Map.Steps.{length-le_from_distinct_below}
use Rattle.ruby_tree.specs.Names.{Bytes}
use Rattle.ruby_meaning.specs.Value.{MethodBody, Kind, string, elements, table, span, closed, plain, class_or_module, Object, Objects}
use Rattle.ruby_meaning.specs.Store.{no_class, new_string, is_one_of, kind_at, with_kind, class_in, class_at, is_class_or_module, without_number, each_once, all_lines, line_if, line_of, ancestors, superclasses, rows_of, rows_at, row_named, found_or, find_in}
use Rattle.ruby_meaning.specs.Natives.OfModule.{with_module}
use Rattle.ruby_meaning.specs.PlainRun.{Program, start_store}
use Rattle.ruby_meaning.specs.ClassGraph.{number_if, above_in, above, IsGraph}

either : (a b : Bool) → (a || b) ≡ true → (a ≡ true) ⊎ (b ≡ true)
either true b h = inl refl
either false b h = inr h

left : (a b : Bool) → a ≡ true → (a || b) ≡ true
left true b h = refl
left false b h = absurd (false≢true h)

right : (a b : Bool) → b ≡ true → (a || b) ≡ true
right true b h = refl
right false b h = h

in_left : (n : ℕ) (xs ys : List ℕ) → is_one_of n xs ≡ true → is_one_of n (xs ++ ys) ≡ true
in_left n xs ys h = list_any-append (nat_eq n) xs ys ∙ left (is_one_of n xs) (is_one_of n ys) h

in_right : (n : ℕ) (xs ys : List ℕ) → is_one_of n ys ≡ true → is_one_of n (xs ++ ys) ≡ true
in_right n xs ys h = list_any-append (nat_eq n) xs ys ∙ right (is_one_of n xs) (is_one_of n ys) h

-- A number of a class is one of the store.
pub class_below : (store : Objects) (n : ℕ) → is_class_or_module (kind_at store n) ≡ true → n < length store
class_below [] n h = absurd (false≢true h)
class_below (o ∷ store) zero h = omega arith
class_below (o ∷ store) (suc n) h = let x : n < length store = class_below store n h in omega arith

-- Searches over each place once.

without_found : (store : Objects) (x : Bytes) (n : ℕ) (ms : List ℕ) → row_named x (rows_at store (rows_of n)) ≡ None → find_in store x (map rows_of (without_number n ms)) ≡ find_in store x (map rows_of ms)
without_found store x n [] h = refl
without_found store x n (m ∷ ms) h = by (nat_eq n m) refl (without_found store x n ms h)
  where
    by : (t : Bool) → nat_eq n m ≡ t → find_in store x (map rows_of (without_number n ms)) ≡ find_in store x (map rows_of ms) → find_in store x (map rows_of (cond t (without_number n ms) (m ∷ without_number n ms))) ≡ find_in store x (map rows_of (m ∷ ms))
    by true e same = same ∙ sym (ap (λ b. found_or (rows_of m) b (find_in store x (map rows_of ms))) (subst (λ k. row_named x (rows_at store (rows_of k)) ≡ None) (eqb-true n m e) h))
    by false e same = ap (found_or (rows_of m) (row_named x (rows_at store (rows_of m)))) same

-- what is found over each ancestor once is what is found over the whole walk
pub found_once : (store : Objects) (x : Bytes) (ns : List ℕ) → find_in store x (map rows_of (each_once ns)) ≡ find_in store x (map rows_of ns)
found_once store x [] = refl
found_once store x (n ∷ ns) = by (row_named x (rows_at store (rows_of n))) refl (found_once store x ns)
  where
    by : (b : Option MethodBody) → row_named x (rows_at store (rows_of n)) ≡ b → find_in store x (map rows_of (each_once ns)) ≡ find_in store x (map rows_of ns)
        → found_or (rows_of n) b (find_in store x (map rows_of (without_number n (each_once ns)))) ≡ found_or (rows_of n) b (find_in store x (map rows_of ns))
    by None e same = without_found store x n (each_once ns) e ∙ same
    by (Some b) e same = refl

-- The list of each number once has the same numbers.

in_without : (n k : ℕ) (ms : List ℕ) → nat_eq n k ≡ false → is_one_of n (without_number k ms) ≡ is_one_of n ms
in_without n k [] h = refl
in_without n k (m ∷ ms) h = by (nat_eq k m) refl (in_without n k ms h)
  where
    by : (t : Bool) → nat_eq k m ≡ t → is_one_of n (without_number k ms) ≡ is_one_of n ms → is_one_of n (cond t (without_number k ms) (m ∷ without_number k ms)) ≡ (nat_eq n m || is_one_of n ms)
    by true e same = same ∙ sym (ap (λ x. x || is_one_of n ms) (subst (λ x. nat_eq n x ≡ false) (eqb-true k m e) h))
    by false e same = ap (λ x. nat_eq n m || x) same

pub in_once : (n : ℕ) (ms : List ℕ) → is_one_of n (each_once ms) ≡ is_one_of n ms
in_once n [] = refl
in_once n (m ∷ ms) = by (nat_eq n m) refl (in_once n ms)
  where
    by : (t : Bool) → nat_eq n m ≡ t → is_one_of n (each_once ms) ≡ is_one_of n ms → (t || is_one_of n (without_number m (each_once ms))) ≡ (t || is_one_of n ms)
    by true e same = refl
    by false e same = in_without n m (each_once ms) e ∙ same

-- The walk upward.

all_lines_same : (f g : ℕ → List ℕ) (ms : List ℕ) → ((p : ℕ) → is_one_of p ms ≡ true → f p ≡ g p) → all_lines f ms ≡ all_lines g ms
all_lines_same f g [] h = refl
all_lines_same f g (m ∷ ms) h =
    ap (λ x. x ++ all_lines f ms) (h m (left (nat_eq m m) (is_one_of m ms) (eq-eqb m m refl))) ∙ ap (λ x. g m ++ x) (all_lines_same f g ms (λ p i. h p (right (nat_eq p m) (is_one_of p ms) i)))

line_if_same : (f g : ℕ → List ℕ) (o : Option ℕ) → ((p : ℕ) → is_one_of p (number_if o) ≡ true → f p ≡ g p) → line_if f o ≡ line_if g o
line_if_same f g None h = refl
line_if_same f g (Some c) h = h c (left (nat_eq c c) false (eq-eqb c c refl))

in_all_lines : (f : ℕ → List ℕ) (n p : ℕ) (ms : List ℕ) → is_one_of p ms ≡ true → is_one_of n (f p) ≡ true → is_one_of n (all_lines f ms) ≡ true
in_all_lines f n p [] h k = absurd (false≢true h)
in_all_lines f n p (m ∷ ms) h k = by (either (nat_eq p m) (is_one_of p ms) h) (λ e. in_all_lines f n p ms e k)
  where
    by : (nat_eq p m ≡ true) ⊎ (is_one_of p ms ≡ true) → (is_one_of p ms ≡ true → is_one_of n (all_lines f ms) ≡ true) → is_one_of n (f m ++ all_lines f ms) ≡ true
    by (inl e) deeper = in_left n (f m) (all_lines f ms) (subst (λ x. is_one_of n (f x) ≡ true) (eqb-true p m e) k)
    by (inr e) deeper = in_right n (f m) (all_lines f ms) (deeper e)

in_line_if : (f : ℕ → List ℕ) (n p : ℕ) (o : Option ℕ) → is_one_of p (number_if o) ≡ true → is_one_of n (f p) ≡ true → is_one_of n (line_if f o) ≡ true
in_line_if f n p None h k = absurd (false≢true h)
in_line_if f n p (Some c) h k = by (either (nat_eq p c) false h)
  where
    by : (nat_eq p c ≡ true) ⊎ (false ≡ true) → is_one_of n (f c) ≡ true
    by (inl e) = subst (λ x. is_one_of n (f x) ≡ true) (eqb-true p c e) k
    by (inr e) = absurd (false≢true e)

not_below_itself : (n : ℕ) → n < n → ⊥
not_below_itself n h = omega arith

-- what has something above it is a class or a module
pub above_class : (k : Kind) (p : ℕ) → is_one_of p (above_in k) ≡ true → is_class_or_module k ≡ true
above_class (string f) p h = absurd (false≢true h)
above_class (elements vs) p h = absurd (false≢true h)
above_class (table ps d) p h = absurd (false≢true h)
above_class (span a b e) p h = absurd (false≢true h)
above_class (closed k) p h = absurd (false≢true h)
above_class (plain c) p h = absurd (false≢true h)
above_class (class_or_module c) p h = refl

module _ (store : Objects) (graph : IsGraph store) where
  apart : (c : ℕ) (ds : List ℕ) → ((q : ℕ) → is_one_of q ds ≡ true → graph.rank c < graph.rank q) → AllByRecursion (λ y. nat_eq c y ≡ false) ds
  apart c [] h = tt
  apart c (d ∷ ds) h = (
    false_from_ne_true (nat_eq c d) (λ e. not_below_itself (graph.rank d) (subst (λ x. graph.rank x < graph.rank d) (eqb-true c d e) (h d (left (nat_eq d d) (is_one_of d ds) (eq-eqb d d refl))))),
    apart c ds (λ q i. h q (right (nat_eq q d) (is_one_of q ds) i)),
  )

  -- the classes that a way has passed: each once, and all with a greater rank than the next
  record Passed (ds : List ℕ) (c : ℕ) : Type 0 where
    distinct : IsDistinct nat_eq ds
    below : (q : ℕ) → is_one_of q ds ≡ true → q < length store
    greater : (q : ℕ) → is_one_of q ds ≡ true → graph.rank c < graph.rank q

  -- one more, which is a class
  one_more : (ds : List ℕ) (c : ℕ) → Passed ds c → is_class_or_module (kind_at store c) ≡ true → (q : ℕ) → is_one_of q (c ∷ ds) ≡ true → q < length store
  one_more ds c b is q h = by (either (nat_eq q c) (is_one_of q ds) h)
    where
      by : (nat_eq q c ≡ true) ⊎ (is_one_of q ds ≡ true) → q < length store
      by (inl e) = subst (λ x. x < length store) (sym (eqb-true q c e)) (class_below store c is)
      by (inr e) = b.below q e

  passed_on : (ds : List ℕ) (c p : ℕ) → Passed ds c → is_class_or_module (kind_at store c) ≡ true → is_one_of p (above store c) ≡ true → Passed (c ∷ ds) p
  unfolding IsDistinct
  passed_on ds c p b is h = record { distinct = (apart c ds b.greater, b.distinct); below = one_more ds c b is; greater = λ q i. by q (either (nat_eq q c) (is_one_of q ds) i) }
    where
      falls : graph.rank p < graph.rank c
      falls = graph.falls c p h

      by : (q : ℕ) → (nat_eq q c ≡ true) ⊎ (is_one_of q ds ≡ true) → graph.rank p < graph.rank q
      by q (inl e) = subst (λ x. graph.rank p < graph.rank x) (sym (eqb-true q c e)) falls
      by q (inr e) = let x : graph.rank c < graph.rank q = b.greater q e in omega (arith, falls)

  -- fewer than the store has objects
  room : (ds : List ℕ) (c : ℕ) → Passed ds c → is_class_or_module (kind_at store c) ≡ true → suc (length ds) ≤ length store
  unfolding IsDistinct
  room ds c b is = length-le_from_distinct_below (c ∷ ds) (length store) (apart c ds b.greater, b.distinct) (one_more ds c b is)

  too_few : (n d : ℕ) → suc d ≤ n → n ≤ 0 + d → ⊥
  too_few n d h k = omega arith

  one_less : (n j d : ℕ) → n ≤ suc j + d → n ≤ j + suc d
  one_less n j d h = omega arith

  line_same : (j k c : ℕ) (ds : List ℕ) → Passed ds c → is_class_or_module (kind_at store c) ≡ true → length store ≤ j + length ds → length store ≤ k + length ds → line_of j store c ≡ line_of k store c
  line_same zero k c ds b is h h' = absurd (too_few (length store) (length ds) (room ds c b is) h)
  line_same (suc j) zero c ds b is h h' = absurd (too_few (length store) (length ds) (room ds c b is) h')
  line_same (suc j) (suc k) c ds b is h h' =
      let ms : List ℕ = (class_at store c).modules in
      let over : Option ℕ = (class_at store c).superclass in
      let next : (p : ℕ) → is_one_of p (above store c) ≡ true → line_of j store p ≡ line_of k store p = λ p i. line_same j k p (c ∷ ds) (passed_on ds c p b is i) (graph.leads c p i) (one_less (length store) j (length ds) h) (one_less (length store) k (length ds) h') in
      ap (λ x. c ∷ (x ++ line_if (line_of j store) over)) (all_lines_same (line_of j store) (line_of k store) ms (λ p i. next p (in_left p ms (number_if over) i)))
      ∙ ap (λ x. c ∷ (all_lines (line_of k store) ms ++ x)) (line_if_same (line_of j store) (line_of k store) over (λ p i. next p (in_right p ms (number_if over) i)))

  superclasses_same : (j k c : ℕ) (ds : List ℕ) → Passed ds c → is_class_or_module (kind_at store c) ≡ true → length store ≤ j + length ds → length store ≤ k + length ds → superclasses j store c ≡ superclasses k store c
  superclasses_same zero k c ds b is h h' = absurd (too_few (length store) (length ds) (room ds c b is) h)
  superclasses_same (suc j) zero c ds b is h h' = absurd (too_few (length store) (length ds) (room ds c b is) h')
  superclasses_same (suc j) (suc k) c ds b is h h' =
      let ms : List ℕ = (class_at store c).modules in
      let over : Option ℕ = (class_at store c).superclass in
      ap (λ x. c ∷ x) (line_if_same (superclasses j store) (superclasses k store) over (λ p i. let there = in_right p ms (number_if over) i in
      superclasses_same j k p (c ∷ ds) (passed_on ds c p b is there) (graph.leads c p there) (one_less (length store) j (length ds) h) (one_less (length store) k (length ds) h')))

  none_passed : (c : ℕ) → Passed [] c
  unfolding IsDistinct
  none_passed c = record { distinct = tt; below = λ q h. absurd (false≢true h); greater = λ q h. absurd (false≢true h) }

  -- as many steps as the store has objects are enough for each way upward
  pub enough_steps : (k c : ℕ) → is_class_or_module (kind_at store c) ≡ true → length store ≤ k → line_of k store c ≡ line_of (length store) store c
  enough_steps k c is h = line_same k (length store) c [] (none_passed c) is (omega arith) (omega arith)

  pub enough_superclasses : (k c : ℕ) → is_class_or_module (kind_at store c) ≡ true → length store ≤ k → superclasses k store c ≡ superclasses (length store) store c
  enough_superclasses k c is h = superclasses_same k (length store) c [] (none_passed c) is (omega arith) (omega arith)

  -- What is no class has nothing above it, so the same holds of each number.

  alone : (kind : Kind) → is_class_or_module kind ≡ false → class_in kind ≡ no_class
  alone (string f) h = refl
  alone (elements vs) h = refl
  alone (table ps d) h = refl
  alone (span a b e) h = refl
  alone (closed k) h = refl
  alone (plain c) h = refl
  alone (class_or_module c) h = absurd (false≢true (sym h))

  line_alone : (k c : ℕ) → 0 < k → is_class_or_module (kind_at store c) ≡ false → line_of k store c ≡ c ∷ []
  line_alone zero c lt h = absurd (not_below_itself 0 lt)
  line_alone (suc k) c lt h = ap (λ x. c ∷ (all_lines (line_of k store) x.modules ++ line_if (line_of k store) x.superclass)) (alone (kind_at store c) h)

  superclasses_alone : (k c : ℕ) → 0 < k → is_class_or_module (kind_at store c) ≡ false → superclasses k store c ≡ c ∷ []
  superclasses_alone zero c lt h = absurd (not_below_itself 0 lt)
  superclasses_alone (suc k) c lt h = ap (λ x. c ∷ line_if (superclasses k store) x.superclass) (alone (kind_at store c) h)

  more_than_none : (k : ℕ) → 0 < length store → length store ≤ k → 0 < k
  more_than_none k lt h = omega arith

  pub line_is_whole : (k c : ℕ) → 0 < length store → length store ≤ k → line_of k store c ≡ line_of (length store) store c
  line_is_whole k c lt h = by (is_class_or_module (kind_at store c)) refl
    where
      by : (t : Bool) → is_class_or_module (kind_at store c) ≡ t → line_of k store c ≡ line_of (length store) store c
      by true is = enough_steps k c is h
      by false other = line_alone k c (more_than_none k lt h) other ∙ sym (line_alone (length store) c lt other)

  pub superclasses_are_whole : (k c : ℕ) → 0 < length store → length store ≤ k → superclasses k store c ≡ superclasses (length store) store c
  superclasses_are_whole k c lt h = by (is_class_or_module (kind_at store c)) refl
    where
      by : (t : Bool) → is_class_or_module (kind_at store c) ≡ t → superclasses k store c ≡ superclasses (length store) store c
      by true is = enough_superclasses k c is h
      by false other = superclasses_alone k c (more_than_none k lt h) other ∙ sym (superclasses_alone (length store) c lt other)

  -- The ancestors of a class have all that stands above it.

  self_in_line : (k c : ℕ) → 0 < k → is_one_of c (line_of k store c) ≡ true
  self_in_line zero c h = absurd (not_below_itself 0 h)
  self_in_line (suc k) c h = left (nat_eq c c) _ (eq-eqb c c refl)

  some : (n k : ℕ) → n < k → 0 < k
  some n k h = omega arith

  pub is_own_ancestor : (c : ℕ) → is_class_or_module (kind_at store c) ≡ true → is_one_of c (ancestors store c) ≡ true
  is_own_ancestor c is = in_once c (line_of (length store) store c) ∙ self_in_line (length store) c (some c (length store) (class_below store c is))

  in_line_above : (n c p : ℕ) → is_one_of p (above store c) ≡ true → is_one_of n (line_of (length store) store p) ≡ true → is_one_of n (line_of (length store) store c) ≡ true
  in_line_above n c p i h = subst (λ x. is_one_of n x ≡ true) (enough_steps (suc (length store)) c (above_class (kind_at store c) p i) (omega arith)) (right (nat_eq n c) _ (by (either (is_one_of p ms) (is_one_of p (number_if over)) (sym (list_any-append (nat_eq p) ms (number_if over)) ∙ i))))
    where
      ms : List ℕ
      ms = (class_at store c).modules

      over : Option ℕ
      over = (class_at store c).superclass

      by : (is_one_of p (class_at store c).modules ≡ true) ⊎ (is_one_of p (number_if (class_at store c).superclass) ≡ true)
          → is_one_of n (all_lines (line_of (length store) store) (class_at store c).modules ++ line_if (line_of (length store) store) (class_at store c).superclass) ≡ true
      by (inl e) = in_left n (all_lines (line_of (length store) store) ms) (line_if (line_of (length store) store) over) (in_all_lines (line_of (length store) store) n p ms e h)
      by (inr e) = in_right n (all_lines (line_of (length store) store) ms) (line_if (line_of (length store) store) over) (in_line_if (line_of (length store) store) n p over e h)

  pub ancestor_above : (n c p : ℕ) → is_one_of p (above store c) ≡ true → is_one_of n (ancestors store p) ≡ true → is_one_of n (ancestors store c) ≡ true
  ancestor_above n c p i h = in_once n (line_of (length store) store c) ∙ in_line_above n c p i (sym (in_once n (line_of (length store) store p)) ∙ h)

-- What keeps the graph.

-- a change after which no class has more above it
pub graph_less : (store next : Objects) → ((c p : ℕ) → is_one_of p (above next c) ≡ true → is_one_of p (above store c) ≡ true) → ((c : ℕ) → is_class_or_module (kind_at store c) ≡ true → is_class_or_module (kind_at next c) ≡ true)
    → IsGraph store → IsGraph next
graph_less store next less kinds g = record { rank = g.rank; falls = λ c p h. g.falls c p (less c p h); leads = λ c p h. kinds p (g.leads c p (less c p h)) }

-- Objects with another kind.

pub kind_with : (store : Objects) (n c : ℕ) (k : Kind) → (kind_at (with_kind store n k) c ≡ kind_at store c) ⊎ ((c ≡ n) × (kind_at (with_kind store n k) c ≡ k))
kind_with [] n c k = inl refl
kind_with (o ∷ store) zero zero k = inr (refl, refl)
kind_with (o ∷ store) zero (suc c) k = inl refl
kind_with (o ∷ store) (suc n) zero k = inl refl
kind_with (o ∷ store) (suc n) (suc c) k = next (kind_with store n c k)
  where
    next : (kind_at (with_kind store n k) c ≡ kind_at store c) ⊎ ((c ≡ n) × (kind_at (with_kind store n k) c ≡ k)) → (kind_at (with_kind store n k) c ≡ kind_at store c) ⊎ ((suc c ≡ suc n) × (kind_at (with_kind store n k) c ≡ k))
    next (inl e) = inl e
    next (inr e) = inr (ap suc e.0, e.1)

-- another kind with nothing more above it, which is a class's where that was one
pub graph_with_kind : (store : Objects) (n : ℕ) (k : Kind) → ((p : ℕ) → is_one_of p (above_in k) ≡ true → is_one_of p (above store n) ≡ true) → (is_class_or_module (kind_at store n) ≡ true → is_class_or_module k ≡ true)
    → IsGraph store → IsGraph (with_kind store n k)
graph_with_kind store n k less is g = graph_less store (with_kind store n k) (λ c p h. fewer c p h (kind_with store n c k)) (λ c h. kept c h (kind_with store n c k)) g
  where
    fewer : (c p : ℕ) → is_one_of p (above (with_kind store n k) c) ≡ true → (kind_at (with_kind store n k) c ≡ kind_at store c) ⊎ ((c ≡ n) × (kind_at (with_kind store n k) c ≡ k)) → is_one_of p (above store c) ≡ true
    fewer c p h (inl e) = subst (λ x. is_one_of p (above_in x) ≡ true) e h
    fewer c p h (inr e) = subst (λ x. is_one_of p (above store x) ≡ true) (sym e.0) (less p (subst (λ x. is_one_of p (above_in x) ≡ true) e.1 h))

    kept : (c : ℕ) → is_class_or_module (kind_at store c) ≡ true → (kind_at (with_kind store n k) c ≡ kind_at store c) ⊎ ((c ≡ n) × (kind_at (with_kind store n k) c ≡ k)) → is_class_or_module (kind_at (with_kind store n k) c) ≡ true
    kept c h (inl e) = subst (λ x. is_class_or_module x ≡ true) (sym e) h
    kept c h (inr e) = subst (λ x. is_class_or_module x ≡ true) (sym e.1) (is (subst (λ x. is_class_or_module (kind_at store x) ≡ true) e.0 h))

-- A class with another one right above it, of which it is no ancestor: `include`.
module _ (store next : Objects) (n m : ℕ) (g : IsGraph store) (is : is_class_or_module (kind_at store n) ≡ true) (other : is_class_or_module (kind_at store m) ≡ true) (free : is_one_of n (ancestors store m) ≡ false)
    (edges : (c p : ℕ) → is_one_of p (above next c) ≡ true → (is_one_of p (above store c) ≡ true) ⊎ ((c ≡ n) × (p ≡ m)))
    (kinds : (c : ℕ) → is_class_or_module (kind_at store c) ≡ true → is_class_or_module (kind_at next c) ≡ true) where
  -- what stands below the class, and itself, rank above all that stands above the other
  abbrev rise : Bool → ℕ
  rise true = suc (g.rank m)
  rise false = 0

  abbrev new_rank : ℕ → ℕ
  new_rank x = g.rank x + rise (is_one_of n (ancestors store x))

  falls_by : (c p : ℕ) (x y : Bool) → g.rank p < g.rank c → (x ≡ true → y ≡ true) → g.rank p + rise x < g.rank c + rise y
  falls_by c p true true lt up = omega arith
  falls_by c p true false lt up = absurd (false≢true (up refl))
  falls_by c p false true lt up = omega arith
  falls_by c p false false lt up = omega arith

  edge_by : (x y : Bool) → x ≡ false → y ≡ true → g.rank m + rise x < g.rank n + rise y
  edge_by true y e f = absurd (false≢true (sym e))
  edge_by false true e f = omega arith
  edge_by false false e f = absurd (false≢true f)

  falls : (c p : ℕ) → (is_one_of p (above store c) ≡ true) ⊎ ((c ≡ n) × (p ≡ m)) → new_rank p < new_rank c
  falls c p (inl h) = falls_by c p (is_one_of n (ancestors store p)) (is_one_of n (ancestors store c)) (g.falls c p h) (ancestor_above store g n c p h)
  falls c p (inr h) =
      subst (λ x. new_rank p < new_rank x) (sym h.0) (subst (λ x. new_rank x < new_rank n) (sym h.1) (edge_by (is_one_of n (ancestors store m)) (is_one_of n (ancestors store n)) free (is_own_ancestor store g n is)))

  leads : (c p : ℕ) → (is_one_of p (above store c) ≡ true) ⊎ ((c ≡ n) × (p ≡ m)) → is_class_or_module (kind_at next p) ≡ true
  leads c p (inl h) = kinds p (g.leads c p h)
  leads c p (inr h) = kinds p (subst (λ x. is_class_or_module (kind_at store x) ≡ true) (sym h.1) other)

  pub graph_edge : IsGraph next
  graph_edge = record { rank = new_rank; falls = λ c p h. falls c p (edges c p h); leads = λ c p h. leads c p (edges c p h) }

pub graph_module : (store : Objects) (n m : ℕ) → IsGraph store → is_class_or_module (kind_at store n) ≡ true → is_class_or_module (kind_at store m) ≡ true → is_one_of n (ancestors store m) ≡ false → IsGraph (with_module store n m)
graph_module store n m g is other free = graph_edge store (with_module store n m) n m g is other free (λ c p h. edges c p h (kind_with store n c k)) (λ c h. kinds c h (kind_with store n c k))
  where
    k : Kind
    k = class_or_module (record (class_at store n) { modules = m ∷ (class_at store n).modules })

    edges : (c p : ℕ) → is_one_of p (above (with_module store n m) c) ≡ true → (kind_at (with_module store n m) c ≡ kind_at store c) ⊎ ((c ≡ n) × (kind_at (with_module store n m) c ≡ class_or_module (record (class_at store n) { modules = m ∷ (class_at store n).modules })))
        → (is_one_of p (above store c) ≡ true) ⊎ ((c ≡ n) × (p ≡ m))
    edges c p h (inl e) = inl (subst (λ x. is_one_of p (above_in x) ≡ true) e h)
    edges c p h (inr e) = by (either (nat_eq p m) (is_one_of p (above store n)) (subst (λ x. is_one_of p (above_in x) ≡ true) e.1 h))
      where
        by : (nat_eq p m ≡ true) ⊎ (is_one_of p (above store n) ≡ true) → (is_one_of p (above store c) ≡ true) ⊎ ((c ≡ n) × (p ≡ m))
        by (inl f) = inr (e.0, eqb-true p m f)
        by (inr f) = inl (subst (λ x. is_one_of p (above store x) ≡ true) (sym e.0) f)

    kinds : (c : ℕ) → is_class_or_module (kind_at store c) ≡ true → (kind_at (with_module store n m) c ≡ kind_at store c) ⊎ ((c ≡ n) × (kind_at (with_module store n m) c ≡ class_or_module (record (class_at store n) { modules = m ∷ (class_at store n).modules })))
        → is_class_or_module (kind_at (with_module store n m) c) ≡ true
    kinds c h (inl e) = subst (λ x. is_class_or_module x ≡ true) (sym e) h
    kinds c h (inr e) = subst (λ x. is_class_or_module x ≡ true) (sym e.1) refl

-- Objects behind the others.

pub kind_behind : (store : Objects) (o : Object) (c : ℕ) → (kind_at (store ++ o ∷ []) c ≡ kind_at store c) ⊎ ((c ≡ length store) × (kind_at (store ++ o ∷ []) c ≡ o.kind))
kind_behind [] o zero = inr (refl, refl)
kind_behind [] o (suc c) = inl refl
kind_behind (d ∷ store) o zero = inl refl
kind_behind (d ∷ store) o (suc c) = next (kind_behind store o c)
  where
    next : (kind_at (store ++ o ∷ []) c ≡ kind_at store c) ⊎ ((c ≡ length store) × (kind_at (store ++ o ∷ []) c ≡ o.kind)) → (kind_at (store ++ o ∷ []) c ≡ kind_at store c) ⊎ ((suc c ≡ suc (length store)) × (kind_at (store ++ o ∷ []) c ≡ o.kind))
    next (inl e) = inl e
    next (inr e) = inr (ap suc e.0, e.1)

pub kind_before : (store : Objects) (o : Object) (c : ℕ) → c < length store → kind_at (store ++ o ∷ []) c ≡ kind_at store c
kind_before [] o c h = absurd (none c h)
  where
    none : (c : ℕ) → c < 0 → ⊥
    none c h = omega arith
kind_before (d ∷ store) o zero h = refl
kind_before (d ∷ store) o (suc c) h = kind_before store o c (omega arith)

-- no less than each rank
abbrev total : (ℕ → ℕ) → List ℕ → ℕ
total rank [] = 0
total rank (p ∷ ps) = rank p + total rank ps

within_total : (rank : ℕ → ℕ) (p : ℕ) (ps : List ℕ) → is_one_of p ps ≡ true → rank p ≤ total rank ps
within_total rank p [] h = absurd (false≢true h)
within_total rank p (q ∷ ps) h = by (either (nat_eq p q) (is_one_of p ps) h) (within_total rank p ps)
  where
    by : (nat_eq p q ≡ true) ⊎ (is_one_of p ps ≡ true) → (is_one_of p ps ≡ true → rank p ≤ total rank ps) → rank p ≤ rank q + total rank ps
    by (inl e) deeper = omega (arith, ap rank (eqb-true p q e))
    by (inr e) deeper = let x : rank p ≤ total rank ps = deeper e in omega arith

-- one more object, above which there are classes of before
module _ (store : Objects) (o : Object) (g : IsGraph store) (over : (p : ℕ) → is_one_of p (above_in o.kind) ≡ true → is_class_or_module (kind_at store p) ≡ true) where
  abbrev rank_by : Bool → ℕ → ℕ
  rank_by true c = suc (total g.rank (above_in o.kind))
  rank_by false c = g.rank c

  abbrev rank_behind : ℕ → ℕ
  rank_behind c = rank_by (nat_eq c (length store)) c

  rank_before : (c : ℕ) → is_class_or_module (kind_at store c) ≡ true → rank_behind c ≡ g.rank c
  rank_before c is = ap (λ t. rank_by t c) (false_from_ne_true (nat_eq c (length store)) (λ e. not_below_itself (length store) (subst (λ x. x < length store) (eqb-true c (length store) e) (class_below store c is))))

  falls_behind : (c p : ℕ) → is_one_of p (above (store ++ o ∷ []) c) ≡ true → (kind_at (store ++ o ∷ []) c ≡ kind_at store c) ⊎ ((c ≡ length store) × (kind_at (store ++ o ∷ []) c ≡ o.kind)) → rank_behind p < rank_behind c
  falls_behind c p h (inl e) =
      let old : is_one_of p (above store c) ≡ true = subst (λ x. is_one_of p (above_in x) ≡ true) e h in
      let lt : g.rank p < g.rank c = g.falls c p old in
      omega (arith, lt, rank_before p (g.leads c p old), rank_before c (above_class (kind_at store c) p old))
  falls_behind c p h (inr e) =
      let here : is_one_of p (above_in o.kind) ≡ true = subst (λ x. is_one_of p (above_in x) ≡ true) e.1 h in
      let le : g.rank p ≤ total g.rank (above_in o.kind) = within_total g.rank p (above_in o.kind) here in
      omega (arith, le, rank_before p (over p here), ap (λ t. rank_by t c) (eq-eqb c (length store) e.0))

  leads_behind : (c p : ℕ) → is_one_of p (above (store ++ o ∷ []) c) ≡ true → (kind_at (store ++ o ∷ []) c ≡ kind_at store c) ⊎ ((c ≡ length store) × (kind_at (store ++ o ∷ []) c ≡ o.kind)) → is_class_or_module (kind_at store p) ≡ true
  leads_behind c p h (inl e) = g.leads c p (subst (λ x. is_one_of p (above_in x) ≡ true) e h)
  leads_behind c p h (inr e) = over p (subst (λ x. is_one_of p (above_in x) ≡ true) e.1 h)

  pub graph_behind : IsGraph (store ++ o ∷ [])
  graph_behind = record {
    rank = rank_behind;
    falls = λ c p h. falls_behind c p h (kind_behind store o c);
    leads = λ c p h.
        let is : is_class_or_module (kind_at store p) ≡ true = leads_behind c p h (kind_behind store o c) in
        subst (λ x. is_class_or_module x ≡ true) (sym (kind_before store o p (class_below store p is))) is;
  }

-- The store of the start, in which what stands above a class is a class with a lower number.

abbrev is_grounded : Objects → ℕ → ℕ → Bool
is_grounded whole n p = nat_lt p n && is_class_or_module (kind_at whole p)

abbrev grounded : Objects → ℕ → Objects → Bool
grounded whole n [] = true
grounded whole n (o ∷ store) = list_all (is_grounded whole n) (above_in o.kind) && grounded whole (suc n) store

one_of_all : (f : ℕ → Bool) (p : ℕ) (ps : List ℕ) → list_all f ps ≡ true → is_one_of p ps ≡ true → f p ≡ true
one_of_all f p [] h i = absurd (false≢true i)
one_of_all f p (q ∷ ps) h i = by (either (nat_eq p q) (is_one_of p ps) i) (one_of_all f p ps (and_parts (f q) (list_all f ps) h).1)
  where
    by : (nat_eq p q ≡ true) ⊎ (is_one_of p ps ≡ true) → (is_one_of p ps ≡ true → f p ≡ true) → f p ≡ true
    by (inl e) deeper = subst (λ x. f x ≡ true) (sym (eqb-true p q e)) (and_parts (f q) (list_all f ps) h).0
    by (inr e) deeper = deeper e

grounded_at : (whole store : Objects) (n c p : ℕ) → grounded whole n store ≡ true → is_one_of p (above store c) ≡ true → (p < n + c) × (is_class_or_module (kind_at whole p) ≡ true)
grounded_at whole [] n c p h i = absurd (false≢true i)
grounded_at whole (o ∷ store) n zero p h i =
    let all : list_all (is_grounded whole n) (above_in o.kind) ≡ true = (and_parts (list_all (is_grounded whole n) (above_in o.kind)) (grounded whole (suc n) store) h).0 in
    let one : (nat_lt p n ≡ true) × (is_class_or_module (kind_at whole p) ≡ true) = and_parts (nat_lt p n) (is_class_or_module (kind_at whole p)) (one_of_all (is_grounded whole n) p (above_in o.kind) all i) in
    (omega (arith, ltb-true p n one.0), one.1)
grounded_at whole (o ∷ store) n (suc c) p h i =
    let x : (p < suc n + c) × (is_class_or_module (kind_at whole p) ≡ true) = grounded_at whole store (suc n) c p (and_parts (list_all (is_grounded whole n) (above_in o.kind)) (grounded whole (suc n) store) h).1 i in
    (omega (arith, x.0), x.1)

grounded_strings : (whole : Objects) (n : ℕ) (xs ys : List Bytes) → grounded whole n (map new_string xs ++ map new_string ys) ≡ true
grounded_strings whole n [] [] = refl
grounded_strings whole n [] (y ∷ ys) = grounded_strings whole (suc n) [] ys
grounded_strings whole n (x ∷ xs) ys = grounded_strings whole (suc n) xs ys

start_grounded : (p : Program) → grounded (start_store p) 0 (start_store p) ≡ true
start_grounded p = grounded_strings (start_store p) 38 p.folders p.words

-- the store of the start is such a graph
pub start_graph : (p : Program) → IsGraph (start_store p)
start_graph p = record {
  rank = λ c. c;
  falls = λ c q h. let x : q < 0 + c = (grounded_at (start_store p) (start_store p) 0 c q (start_grounded p) h).0 in omega (arith, x);
  leads = λ c q h. (grounded_at (start_store p) (start_store p) 0 c q (start_grounded p) h).1;
}
