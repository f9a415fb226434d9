-- Parts that follow one another.
use Rattle.std.proofs.Common.{◌≡◌, ℕ, List, [], ◌∷◌, ◌++◌, length, refl, sym, ◌∙◌, ap, subst, ◌⊎◌, inl, inr, arith, append_assoc, length-append, append-nil}
use Rattle.std.proofs.Common.{Result, Ok, Err, MatchResult, Bor}
use Rattle.msgpack_codec.specs.declared.stop.Stop.{Stop}
use Rattle.msgpack_codec.specs.declared.stop.Stop.TheVariants as stop
use Rattle.msgpack_codec.specs.Reading.{Found, Begins, Stopped}

-- nothing that is spelled begins another
pub record IsPrefixFree {X : Type 0} (L : X → List ℕ → Type 0) : Type 0 where
  pub same : (x y : X) (s t a b : List ℕ) → L x s → L y t → s ++ a ≡ t ++ b → (x ≡ y) × (s ≡ t)

-- of two fronts of one list, one is a front of the other
pub fronts : (s a t b : List ℕ) → s ++ a ≡ t ++ b → ((e : List ℕ) × (s ≡ t ++ e) × (b ≡ e ++ a)) ⊎ ((e : List ℕ) × (t ≡ s ++ e) × (a ≡ e ++ b))
fronts [] a t b h = inr (t, refl, h)
fronts (x ∷ s) a [] b h = inl (x ∷ s, refl, sym h)
fronts (x ∷ s) a (y ∷ t) b h =
    let head : x ≡ y = cc in
    let tail : s ++ a ≡ t ++ b = cc in
    elim (fronts s a t b tail) [
      | inl (e, p, q) ↦ inl (e, cc, q)
      | inr (e, p, q) ↦ inr (e, cc, q)
    ]

pub cancel : (s a b : List ℕ) → s ++ a ≡ s ++ b → a ≡ b
cancel [] a b h = h
cancel (x ∷ s) a b h = let tail : s ++ a ≡ s ++ b = cc in cancel s a b tail

-- no list goes on with itself and more
pub not_longer : (s e : List ℕ) (x : ℕ) (m : List ℕ) → s ≡ s ++ (e ++ x ∷ m) → ⊥
not_longer s e x m h = omega (arith, ap length h, length-append s (e ++ x ∷ m), length-append e (x ∷ m))

-- what begins a spelling, and goes on, has no spelling as a front
pub no_front : {X : Type 0} (L : X → List ℕ → Type 0) → IsPrefixFree L → (x : X) (s e : List ℕ) → L x s → Begins L (s ++ e) → ⊥
no_front L free x s e h b =
    let same = free.same x b.value s ((s ++ e) ++ b.next ∷ b.more) (e ++ b.next ∷ b.more) [] h b.spelled
    (sym (append_assoc s e (b.next ∷ b.more)) ∙ sym (append-nil ((s ++ e) ++ b.next ∷ b.more))) in
    not_longer s e b.next b.more (same.1 ∙ append_assoc s e (b.next ∷ b.more))

-- C spells an x by L and then a y by M x
pub record IsChain {X Y Z : Type 0} (L : X → List ℕ → Type 0) (M : X → Y → List ℕ → Type 0) (C : Z → List ℕ → Type 0) (f : X → Y → Z) : Type 0 where
  pub join : (x : X) (y : Y) (s t : List ℕ) → L x s → M x y t → C (f x y) (s ++ t)
  pub split : (z : Z) (u : List ℕ) → C z u → (x : X) × (y : Y) × (s : List ℕ) × (t : List ℕ) × L x s × M x y t × (u ≡ s ++ t) × (z ≡ f x y)
  pub filled : (x : X) (s : List ℕ) → L x s → (y : Y) × (t : List ℕ) × M x y t
  pub free : IsPrefixFree L

module _ {X Y Z : Type 0} (L : X → List ℕ → Type 0) (M : X → Y → List ℕ → Type 0) (C : Z → List ℕ → Type 0) (f : X → Y → Z) (chain : IsChain L M C f) where
  begins_first : (w : List ℕ) → Begins L w → Begins C w
  begins_first w b =
      let y = chain.filled b.value (w ++ b.next ∷ b.more) b.spelled in
      record {
        value = f b.value y.0;
        next = b.next;
        more = b.more ++ y.1;
        spelled = subst (C (f b.value y.0)) (append_assoc w (b.next ∷ b.more) y.1) (chain.join b.value y.0 (w ++ b.next ∷ b.more) y.1 b.spelled y.2);
      }

  dead_first : (front : List ℕ) (byte : ℕ) → Begins L front → ((x : X) (more : List ℕ) → L x (front ++ byte ∷ more) → ⊥) → (z : Z) (more : List ℕ) → C z (front ++ byte ∷ more) → ⊥
  dead_first front byte begins dead z more h =
      let (x, y, s, t, hs, ht, parts, is) = chain.split z (front ++ byte ∷ more) h in
      elim (fronts front (byte ∷ more) s t parts) [
        | inl (e, p, q) ↦ no_front L chain.free x s e hs (subst (Begins L) p begins)
        | inr ([], p, q) ↦ no_front L chain.free x s [] hs (subst (Begins L) (sym (append-nil s ∙ p ∙ append-nil front)) begins)
        | inr (b ∷ e, p, q) ↦ dead x e (subst (L x) (p ∙ ap (λ v. front ++ v ∷ e) (cc)) hs)
      ]

  pub stop_first : (w : List ℕ) (e : Stop) → Stopped L w e → Stopped C w e
  stop_first w stop.Short b = begins_first w b
  stop_first w (stop.Bad left) b = record {
    front = b.front;
    byte = b.byte;
    rest = b.rest;
    parts = b.parts;
    count = b.count;
    begins = begins_first b.front b.begins;
    dead = dead_first b.front b.byte b.begins b.dead;
  }
  stop_first w stop.NoMemory b = tt

  module _ (x : X) (w r s : List ℕ) (hs : L x s) (parts : w ≡ s ++ r) where
    -- what begins a part behind s
    begins_second : (v : List ℕ) → Begins (M x) v → Begins C (s ++ v)
    begins_second v b = record {
      value = f x b.value;
      next = b.next;
      more = b.more;
      spelled = subst (C (f x b.value)) (sym (append_assoc s v (b.next ∷ b.more))) (chain.join x b.value s (v ++ b.next ∷ b.more) hs b.spelled);
    }

    dead_second : (v : List ℕ) → ((y : Y) → M x y v → ⊥) → (z : Z) → C z (s ++ v) → ⊥
    dead_second v dead z h =
        let (x1, y1, s1, t1, hs1, ht1, parts1, is1) = chain.split z (s ++ v) h in
        let same = chain.free.same x x1 s s1 v t1 hs hs1 parts1 in
        let rest : v ≡ t1 = cancel s v t1 (parts1 ∙ ap (λ k. k ++ t1) (sym same.1)) in
        dead y1 (subst (λ k. M k y1 v) (sym same.0) (subst (M x1 y1) (sym rest) ht1))

    stopped_second : (e : Stop) → Stopped (M x) r e → Stopped C w e
    stopped_second stop.Short b = subst (Begins C) (sym parts) (begins_second r b)
    stopped_second (stop.Bad left) b = record {
      front = s ++ b.front;
      byte = b.byte;
      rest = b.rest;
      parts = parts ∙ ap (λ k. s ++ k) b.parts ∙ sym (append_assoc s b.front (b.byte ∷ b.rest));
      count = b.count;
      begins = begins_second b.front b.begins;
      dead = λ z more h. dead_second (b.front ++ b.byte ∷ more) (λ y. b.dead y more) z (subst (C z) (append_assoc s b.front (b.byte ∷ more)) h);
    }
    stopped_second stop.NoMemory b = tt

  pub stop_second : (x : X) (w r : List ℕ) → Found L x w r → (e : Stop) → Stopped (M x) r e → Stopped C w e
  stop_second x w r found e h = stopped_second x w r found.spelling found.spelled found.parts e h

  pub found_both : (x : X) (y : Y) (w r q : List ℕ) → Found L x w r → Found (M x) y r q → Found C (f x y) w q
  found_both x y w r q a b = record {
    spelling = a.spelling ++ b.spelling;
    spelled = chain.join x y a.spelling b.spelling a.spelled b.spelled;
    parts = a.parts ∙ ap (λ k. a.spelling ++ k) b.parts ∙ sym (append_assoc a.spelling b.spelling q);
  }

  pub chain_free : ((x : X) (s : List ℕ) → L x s → IsPrefixFree (M x)) → IsPrefixFree C
  chain_free second = record {
    same = λ z1 z2 u1 u2 a b h1 h2 e.
        let (x1, y1, s1, t1, hs1, ht1, parts1, is1) = chain.split z1 u1 h1 in
        let (x2, y2, s2, t2, hs2, ht2, parts2, is2) = chain.split z2 u2 h2 in
        let whole : s1 ++ (t1 ++ a) ≡ s2 ++ (t2 ++ b) = sym (append_assoc s1 t1 a) ∙ ap (λ k. k ++ a) (sym parts1) ∙ e ∙ ap (λ k. k ++ b) parts2 ∙ append_assoc s2 t2 b in
        let one = chain.free.same x1 x2 s1 s2 (t1 ++ a) (t2 ++ b) hs1 hs2 whole in
        let rest : t1 ++ a ≡ t2 ++ b = cancel s1 (t1 ++ a) (t2 ++ b) (whole ∙ ap (λ k. k ++ (t2 ++ b)) (sym one.1)) in
        let two = (second x2 s2 hs2).same y1 y2 t1 t2 a b (subst (λ k. M k y1 t1) one.0 ht1) ht2 rest in
        (is1 ∙ ap (λ k. f k y1) one.0 ∙ ap (λ k. f x2 k) two.0 ∙ sym is2, parts1 ∙ ap (λ k. k ++ t1) one.1 ∙ ap (λ k. s2 ++ k) two.1 ∙ sym parts2);
  }

-- what a function returns that reads the second part
pub chain_result : {X Y : Type 0} (L : X → List ℕ → Type 0) (M : X → Y → List ℕ → Type 0) (C : Y → List ℕ → Type 0) → IsChain L M C (λ x y. y)
    → (x : X) (w r : List ℕ) → Found L x w r → (result : Result (Y × Bor (List ℕ)) Stop)
    → MatchResult result (λ p. Found (M x) p.0 r p.1.now) (λ e. Stopped (M x) r e)
    → MatchResult result (λ p. Found C p.0 w p.1.now) (λ e. Stopped C w e)
chain_result L M C chain x w r found (Ok p) h = found_both L M C (λ x y. y) chain x p.0 w r p.1.now found h
chain_result L M C chain x w r found (Err e) h = stop_second L M C (λ x y. y) chain x w r found e h

-- what a function returns at a `?`
pub stopped_result : {Y : Type 0} (L : Y → List ℕ → Type 0) (w : List ℕ) (result : Result (Y × Bor (List ℕ)) Stop) (e : Stop) → result ≡ Err e → Stopped L w e
    → MatchResult result (λ p. Found L p.0 w p.1.now) (λ e. Stopped L w e)
stopped_result {Y} L w result e is h = subst (λ (r : Result (Y × Bor (List ℕ)) Stop). MatchResult r (λ p. Found L p.0 w p.1.now) (λ e. Stopped L w e)) (sym is) h
