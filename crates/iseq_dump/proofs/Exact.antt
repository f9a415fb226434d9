-- Reading is exact: it takes what is spelled so, and takes the same again.
use Rattle.std.proofs.Common.{◌≡◌, ℕ, zero, suc, ◌+◌, ◌-◌, ◌*◌, ◌/◌, ◌%◌, ◌^◌, ◌<◌, ◌≤◌, Bool, true, false, cond, List, [], ◌∷◌, ◌++◌, length, take, drop, Option, Some, None, refl, sym, ap, subst, ◌∙◌, append_assoc, arith, inl, inr}
use Rattle.std.specs.Prelude.{nat_lt, ◌&&◌}
use Rattle.std.specs.List.{flat_map, AllByRecursion}
use Rattle.std.proofs.Math.Nat.{pow-succ'}
use Rattle.std.proofs.lemmas.Bool.{cases_lt, lt-ltb, le-ltb, ltb-true, ltb-false}
use Rattle.std.proofs.lemmas.List.{take_at, drop_at, take-append-drop, length-append, length-take}
use Rattle.iseq_dump.specs.Dump.{groups, number_bytes, IsNumber, text_bytes, IsText, list_bytes, IsList}
use Rattle.iseq_dump.specs.Reading.{◌▷◌, ◌⨟◌, made_at, kept_at, byte_at, with_low, groups_at, number_at, text_at, times_at, list_at}

-- a value and the bytes behind it
abbrev pub found : {X : Type 0} → X → List ℕ → Option (X × List ℕ)
found x rest = Some (x, rest)

pub some_is : {A : Type 0} (a b : A) → Some a ≡ Some b → a ≡ b
some_is a b e = cc

pub found_is : {X : Type 0} (x y : X) (r s : List ℕ) → found x r ≡ found y s → (x ≡ y) × (r ≡ s)
found_is {X} x y r s e =
    let a : X × List ℕ = (x, r) in
    let b : X × List ℕ = (y, s) in
    let same : a ≡ b = some_is a b e in
    (ap (λ (p : X × List ℕ). p.0) same, ap (λ (p : X × List ℕ). p.1) same)

pub record Exact {X : Type 0} (Fits : X → Type 0) (bytes : X → List ℕ) (at : List ℕ → Option (X × List ℕ)) : Type 0 where
  pub takes : (old : List ℕ) (x : X) (new : List ℕ) → at old ≡ found x new → (old ≡ bytes x ++ new) × Fits x
  pub again : (x : X) (rest : List ℕ) → Fits x → at (bytes x ++ rest) ≡ found x rest

-- the value of a step that gave one
pub bind_some : {A B : Type 0} (o : Option A) (f : A → Option B) (y : B) → (o ▷ f) ≡ Some y → (x : A) × (o ≡ Some x) × (f x ≡ Some y)
bind_some (Some x) f y e = (x, refl, e)
bind_some None f y e = absurd cc

pub kept_some : {A : Type 0} (b : Bool) (o : Option A) (y : A) → cond b o None ≡ Some y → (b ≡ true) × (o ≡ Some y)
kept_some true o y e = (refl, e)
kept_some false o y e = absurd cc

pub passed_some : {A : Type 0} (b : Bool) (o : Option A) (y : A) → cond b None o ≡ Some y → (b ≡ false) × (o ≡ Some y)
passed_some true o y e = absurd cc
passed_some false o y e = (refl, e)

-- ---- parts of parts

pub both_exact : {X Y : Type 0} (F : X → Type 0) (G : Y → Type 0) (f : X → List ℕ) (g : Y → List ℕ) (a : List ℕ → Option (X × List ℕ)) (b : List ℕ → Option (Y × List ℕ)) → Exact F f a → Exact G g b
    → Exact (λ (p : X × Y). F p.0 × G p.1) (λ p. f p.0 ++ g p.1) (a ⨟ b)
both_exact {X} {Y} F G f g a b p q = record {
  takes = λ old x new e.
      let s = bind_some (a old) (λ (u : X × List ℕ). b u.1 ▷ λ (v : Y × List ℕ). found (u.0, v.0) v.1) (x, new) e in
      let t = bind_some (b s.0.1) (λ (v : Y × List ℕ). found (s.0.0, v.0) v.1) (x, new) s.2 in
      let first = p.takes old s.0.0 s.0.1 s.1 in
      let second = q.takes s.0.1 t.0.0 t.0.1 t.1 in
      let same = found_is (s.0.0, t.0.0) x t.0.1 new t.2 in
      let parts : old ≡ (f s.0.0 ++ g t.0.0) ++ t.0.1 = first.0 ∙ (ap (λ (bs : List ℕ). f s.0.0 ++ bs) second.0 ∙ sym (append_assoc (f s.0.0) (g t.0.0) t.0.1)) in
      subst (λ (r : List ℕ). (old ≡ (f x.0 ++ g x.1) ++ r) × (F x.0 × G x.1)) same.1
      (subst (λ (y : X × Y). (old ≡ (f y.0 ++ g y.1) ++ t.0.1) × (F y.0 × G y.1)) same.0 (parts, (first.1, second.1)));
  again = λ x rest fits. rw (append_assoc, p.again x.0 (g x.1 ++ rest) fits.0, q.again x.1 rest fits.1) refl;
}

-- what is made of a part
pub made_exact : {X Y : Type 0} (F : X → Type 0) (f : X → List ℕ) (a : List ℕ → Option (X × List ℕ)) (G : Y → Type 0) (g : Y → List ℕ) (make : X → Y) (parts : Y → X) → Exact F f a
    → ((x : X) → parts (make x) ≡ x) → ((y : Y) → make (parts y) ≡ y) → ((y : Y) → F (parts y) → G y) → ((y : Y) → G y → F (parts y)) → ((y : Y) → g y ≡ f (parts y)) → Exact G g (made_at make a)
made_exact {X} {Y} F f a G g make parts p unmade remade fits back same = record {
  takes = λ old y new e.
      let s = bind_some (a old) (λ (u : X × List ℕ). found (make u.0) u.1) (y, new) e in
      let first = p.takes old s.0.0 s.0.1 s.1 in
      let is = found_is (make s.0.0) y s.0.1 new s.2 in
      let part : s.0.0 ≡ parts y = sym (unmade s.0.0) ∙ ap parts is.0 in
      (first.0 ∙ (ap (λ (r : List ℕ). f s.0.0 ++ r) is.1 ∙ ap (λ (bs : List ℕ). bs ++ new) (ap f part ∙ sym (same y))), fits y (subst F part first.1));
  again = λ y rest g. rw (same, p.again (parts y) rest (back y g)) (ap (λ (z : Y). found z rest) (remade y));
}

-- a part that passes a test
pub kept_exact : {X : Type 0} (F : X → Type 0) (f : X → List ℕ) (a : List ℕ → Option (X × List ℕ)) (test : X → Bool) → Exact F f a → Exact (λ x. F x × (test x ≡ true)) f (kept_at test a)
kept_exact {X} F f a test p = record {
  takes = λ old x new e.
      let s = bind_some (a old) (λ (u : X × List ℕ). cond (test u.0) (Some u) None) (x, new) e in
      let k = kept_some (test s.0.0) (Some s.0) (x, new) s.2 in
      let is = found_is s.0.0 x s.0.1 new k.1 in
      let first = p.takes old s.0.0 s.0.1 s.1 in
      subst (λ (r : List ℕ). (old ≡ f x ++ r) × (F x × (test x ≡ true))) is.1
      (subst (λ (y : X). (old ≡ f y ++ s.0.1) × (F y × (test y ≡ true))) is.0 (first.0, (first.1, k.0)));
  again = λ x rest fits. rw (p.again x rest fits.0, fits.1) refl;
}

-- the same part, with a longer word for what fits
pub fits_exact : {X : Type 0} (F G : X → Type 0) (f : X → List ℕ) (a : List ℕ → Option (X × List ℕ)) → Exact F f a → ((x : X) → F x → G x) → ((x : X) → G x → F x) → Exact G f a
fits_exact F G f a p to from = record {
  takes = λ old x new e. let s = p.takes old x new e in (s.0, to x s.1);
  again = λ x rest g. p.again x rest (from x g);
}

-- ---- many, one behind the other

times_exact-takes : {X : Type 0} (F : X → Type 0) (f : X → List ℕ) (a : List ℕ → Option (X × List ℕ)) → Exact F f a → (n : ℕ) (old : List ℕ) (xs : List X) (new : List ℕ) → times_at a n old ≡ found xs new
    → (old ≡ flat_map f xs ++ new) × (length xs ≡ n) × AllByRecursion F xs
unfolding times_at
times_exact-takes {X} F f a p zero old xs new e =
    let is = found_is [] xs old new e in
    subst (λ (ys : List X). (old ≡ flat_map f ys ++ new) × (length ys ≡ 0) × AllByRecursion F ys) is.0 (is.1, refl, tt)
times_exact-takes {X} F f a p (suc n) old xs new e =
    let s = bind_some (a old) (λ (u : X × List ℕ). times_at a n u.1 ▷ λ (us : List X × List ℕ). found (u.0 ∷ us.0) us.1) (xs, new) e in
    let t = bind_some (times_at a n s.0.1) (λ (us : List X × List ℕ). found (s.0.0 ∷ us.0) us.1) (xs, new) s.2 in
    let first = p.takes old s.0.0 s.0.1 s.1 in
    let others = times_exact-takes F f a p n s.0.1 t.0.0 t.0.1 t.1 in
    let is = found_is (s.0.0 ∷ t.0.0) xs t.0.1 new t.2 in
    let parts : old ≡ (f s.0.0 ++ flat_map f t.0.0) ++ new = first.0 ∙ (ap (λ (bs : List ℕ). f s.0.0 ++ bs) (others.0 ∙ ap (λ (r : List ℕ). flat_map f t.0.0 ++ r) is.1) ∙ sym (append_assoc (f s.0.0) (flat_map f t.0.0) new)) in
    subst (λ (ys : List X). (old ≡ flat_map f ys ++ new) × (length ys ≡ suc n) × AllByRecursion F ys) is.0 (parts, ap suc others.1, (first.1, others.2))

times_exact-again : {X : Type 0} (F : X → Type 0) (f : X → List ℕ) (a : List ℕ → Option (X × List ℕ)) → Exact F f a → (xs : List X) (rest : List ℕ) → AllByRecursion F xs → times_at a (length xs) (flat_map f xs ++ rest) ≡ found xs rest
unfolding times_at
times_exact-again F f a p [] rest fits = refl
times_exact-again F f a p (x ∷ xs) rest fits =
    ap (times_at a (suc (length xs))) (append_assoc (f x) (flat_map f xs) rest) ∙ rw (p.again x (flat_map f xs ++ rest) fits.0, times_exact-again F f a p xs rest fits.1) refl

-- ---- numbers

pub byte_takes : (old : List ℕ) (b : ℕ) (new : List ℕ) → byte_at old ≡ found b new → old ≡ b ∷ new
byte_takes [] b new e = absurd cc
byte_takes (x ∷ xs) b new e = let is = found_is x b xs new e in ap (λ (c : ℕ). c ∷ xs) is.0 ∙ ap (λ (r : List ℕ). b ∷ r) is.1

all_true : (a b c : Bool) → (a && b && c) ≡ true → (a ≡ true) × (b ≡ true) × (c ≡ true)
all_true true true true e = (refl, refl, refl)
all_true true true false e = absurd cc
all_true true false c e = absurd cc
all_true false b c e = absurd cc

longer_takes : (more : ℕ) (old : List ℕ) (n : ℕ) (new : List ℕ) (b high : ℕ) (rest : List ℕ) → old ≡ b ∷ (groups more high ++ rest) → 128 ≤ b → with_low b (high, rest) ≡ found n new → (old ≡ groups (suc more) n ++ new) × (n < 2 ^ 64)
unfolding groups
longer_takes more old n new b high rest parts le e =
    let k = kept_some (nat_lt 0 high && nat_lt high (2 ^ 57) && nat_lt b 256) (found (high * 128 + (b - 128)) rest) (n, new) e in
    let tests = all_true (nat_lt 0 high) (nat_lt high (2 ^ 57)) (nat_lt b 256) k.0 in
    let some : 0 < high = ltb-true _ _ tests.0 in
    let small : high < 2 ^ 57 = ltb-true _ _ tests.1 in
    let byte : b < 256 = ltb-true _ _ tests.2 in
    let is = found_is (high * 128 + (b - 128)) n rest new k.1 in
    let n-is : high * 128 + (b - 128) ≡ n = is.0 in
    let large : 128 ≤ n = omega arith in
    let low : b ≡ 128 + n % 128 = omega arith in
    let up : high ≡ n / 128 = omega arith in
    (rw (parts, le-ltb n 128 large, is.1) (ap (λ (c : ℕ). c ∷ (groups more high ++ new)) low ∙ ap (λ (h : ℕ). (128 + n % 128) ∷ (groups more h ++ new)) up), omega arith)

groups_takes : (more : ℕ) (old : List ℕ) (n : ℕ) (new : List ℕ) → groups_at more old ≡ found n new → (old ≡ groups more n ++ new) × (n < 2 ^ 64)
unfolding groups_at groups
groups_takes zero old n new e =
    let s = bind_some (byte_at old) (λ (b : ℕ × List ℕ). cond (nat_lt b.0 128) (Some b) None) (n, new) e in
    let k = kept_some (nat_lt s.0.0 128) (Some s.0) (n, new) s.2 in
    let is = found_is s.0.0 n s.0.1 new k.1 in
    let lt : s.0.0 < 128 = ltb-true _ _ k.0 in
    let same : s.0.0 ≡ n = is.0 in
    (byte_takes old s.0.0 s.0.1 s.1 ∙ (ap (λ (b : ℕ). b ∷ s.0.1) is.0 ∙ ap (λ (r : List ℕ). n ∷ r) is.1), omega arith)
groups_takes (suc more) old n new e =
    let s = bind_some (byte_at old) (λ (b : ℕ × List ℕ). cond (nat_lt b.0 128) (Some b) (groups_at more b.1 ▷ with_low b.0)) (n, new) e in
    let front = byte_takes old s.0.0 s.0.1 s.1 in
    elim (cases_lt s.0.0 128) [
      | inl lt ↦
          let k : found s.0.0 s.0.1 ≡ found n new = rw (sym (ap (λ (t : Bool). cond t (Some s.0) (groups_at more s.0.1 ▷ with_low s.0.0)) (lt-ltb s.0.0 128 lt))) s.2 in
          let is = found_is s.0.0 n s.0.1 new k in
          let same : s.0.0 ≡ n = is.0 in
          let small : n < 128 = omega arith in
          (rw (lt-ltb n 128 small) (front ∙ (ap (λ (b : ℕ). b ∷ s.0.1) is.0 ∙ ap (λ (r : List ℕ). n ∷ r) is.1)), omega arith)
      | inr le ↦
          let k : (groups_at more s.0.1 ▷ with_low s.0.0) ≡ found n new = sym (ap (λ (t : Bool). cond t (Some s.0) (groups_at more s.0.1 ▷ with_low s.0.0)) (le-ltb s.0.0 128 le)) ∙ s.2 in
          let t = bind_some (groups_at more s.0.1) (with_low s.0.0) (n, new) k in
          let others = groups_takes more s.0.1 t.0.0 t.0.1 t.1 in
          longer_takes more old n new s.0.0 t.0.0 t.0.1 (front ∙ ap (λ (r : List ℕ). s.0.0 ∷ r) others.0) le t.2
    ]

groups_again : (more : ℕ) (n : ℕ) (rest : List ℕ) → n < 2 ^ 64 → n < 128 ^ suc more → groups_at more (groups more n ++ rest) ≡ found n rest
unfolding groups_at groups
groups_again zero n rest lt small = rw (lt-ltb n 128 (omega arith)) refl
groups_again (suc more) n rest lt small =
    elim (cases_lt n 128) [
      | inl low ↦ rw (lt-ltb n 128 low, lt-ltb n 128 low) refl
      | inr le ↦
          let p : ℕ = 128 ^ suc more in
          let power : 128 ^ suc (suc more) ≡ 128 * p = pow-succ' 128 (suc more) in
          let below : n < 128 * p = subst (λ (k : ℕ). n < k) power small in
          let high : n / 128 < 128 ^ suc more = omega (arith, below) in
          let others = groups_again more (n / 128) rest (omega arith) high in
          let byte : nat_lt (128 + n % 128) 128 ≡ false = le-ltb (128 + n % 128) 128 (omega arith) in
          let some : nat_lt 0 (n / 128) ≡ true = lt-ltb 0 (n / 128) (omega arith) in
          let fits : nat_lt (n / 128) (2 ^ 57) ≡ true = lt-ltb (n / 128) (2 ^ 57) (omega arith) in
          let is_byte : nat_lt (128 + n % 128) 256 ≡ true = lt-ltb (128 + n % 128) 256 (omega arith) in
          rw (le-ltb n 128 le, byte, others, some, fits, is_byte) (ap (λ (m : ℕ). found m rest) (omega arith))
    ]

pub number_exact : Exact IsNumber number_bytes number_at
unfolding number_bytes number_at
number_exact = record {
  takes = λ old n new e. groups_takes 9 old n new e;
  again = λ n rest lt. groups_again 9 n rest lt (omega arith);
}

-- ---- texts and lists

pub text_exact : Exact IsText text_bytes text_at
text_exact = record {
  takes = λ old text new e.
      let s = bind_some (number_at old) (λ (n : ℕ × List ℕ). cond (nat_lt (length n.1) n.0) None (Some (take n.0 n.1, drop n.0 n.1))) (text, new) e in
      let first = number_exact.takes old s.0.0 s.0.1 s.1 in
      let k = passed_some (nat_lt (length s.0.1) s.0.0) (Some (take s.0.0 s.0.1, drop s.0.0 s.0.1)) (text, new) s.2 in
      let is = found_is (take s.0.0 s.0.1) text (drop s.0.0 s.0.1) new k.1 in
      let long : s.0.0 ≤ length s.0.1 = ltb-false _ _ k.0 in
      let len : length (take s.0.0 s.0.1) ≡ s.0.0 = omega (arith, length-take s.0.0 s.0.1) in
      let whole : old ≡ text_bytes (take s.0.0 s.0.1) ++ drop s.0.0 s.0.1 = first.0 ∙ (ap (λ (r : List ℕ). number_bytes s.0.0 ++ r) (sym (take-append-drop s.0.0 s.0.1)) ∙ (ap (λ (n : ℕ). number_bytes n ++ (take s.0.0 s.0.1 ++ drop s.0.0 s.0.1)) (sym len) ∙ sym (append_assoc (number_bytes (length (take s.0.0 s.0.1))) (take s.0.0 s.0.1) (drop s.0.0 s.0.1)))) in
      subst (λ (r : List ℕ). (old ≡ text_bytes text ++ r) × IsText text) is.1
      (subst (λ (t : List ℕ). (old ≡ text_bytes t ++ drop s.0.0 s.0.1) × IsText t) is.0 (whole, rw len first.1));
  again = λ text rest fits.
      let long : nat_lt (length (text ++ rest)) (length text) ≡ false = le-ltb _ _ (omega (arith, length-append text rest)) in
      rw (append_assoc, number_exact.again (length text) (text ++ rest) fits, long, take_at text rest (length text) refl, drop_at text rest (length text) refl) refl;
}

pub list_exact : {X : Type 0} (F : X → Type 0) (f : X → List ℕ) (a : List ℕ → Option (X × List ℕ)) → Exact F f a → Exact (IsList F) (list_bytes f) (list_at a)
list_exact {X} F f a p = record {
  takes = λ old xs new e.
      let s = bind_some (number_at old) (λ (n : ℕ × List ℕ). times_at a n.0 n.1) (xs, new) e in
      let first = number_exact.takes old s.0.0 s.0.1 s.1 in
      let others = times_exact-takes F f a p s.0.0 s.0.1 xs new s.2 in
      let whole : old ≡ list_bytes f xs ++ new = first.0 ∙ (ap (λ (r : List ℕ). number_bytes s.0.0 ++ r) others.0 ∙ (ap (λ (n : ℕ). number_bytes n ++ (flat_map f xs ++ new)) (sym others.1) ∙ sym (append_assoc (number_bytes (length xs)) (flat_map f xs) new))) in
      (whole, (rw others.1 first.1, others.2));
  again = λ xs rest fits. rw (append_assoc, number_exact.again (length xs) (flat_map f xs ++ rest) fits.0) (times_exact-again F f a p xs rest fits.1);
}

-- the same part, spelled in other words
pub same_exact : {X : Type 0} (F : X → Type 0) (f g : X → List ℕ) (a : List ℕ → Option (X × List ℕ)) → Exact F f a → ((x : X) → g x ≡ f x) → Exact F g a
same_exact F f g a p same = record {
  takes = λ old x new e. let s = p.takes old x new e in (s.0 ∙ ap (λ (bs : List ℕ). bs ++ new) (sym (same x)), s.1);
  again = λ x rest fits. rw same (p.again x rest fits);
}
