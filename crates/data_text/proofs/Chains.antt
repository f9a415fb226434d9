-- Parts that follow one another.
use Rattle.std.proofs.Common.{◌≡◌, ℕ, List, [], ◌∷◌, ◌++◌, length, sym, ◌∙◌, ap, subst, append_assoc, Result, Err, MatchResult, Bor}
use Rattle.msgpack_codec.specs.declared.stop.Stop.{Stop}
use Rattle.msgpack_codec.specs.declared.stop.Stop.TheVariants as stop
use Rattle.data_text.specs.Reading.{Found, Begins, Fails, Shorts, Stopped, StoppedBy, Anything}

-- C reads an x by L and then a y by M x
pub record IsChain {X Y Z : Type 0} (L : X → List ℕ → List ℕ → Type 0) (M : X → Y → List ℕ → List ℕ → Type 0) (C : Z → List ℕ → List ℕ → Type 0) (f : X → Y → Z) : Type 0 where
  pub join : (x : X) (y : Y) (u m t : List ℕ) → L x u m → M x y m t → C (f x y) u t
  pub split : (z : Z) (u t : List ℕ) → C z u t → (x : X) × (y : Y) × (m : List ℕ) × L x u m × M x y m t × (z ≡ f x y)
  pub filled : (x : X) (u m : List ℕ) → L x u m → (y : Y) × (c : List ℕ) × ((t : List ℕ) → M x y (c ++ t) t)

module _ {X Y Z : Type 0} (L : X → List ℕ → List ℕ → Type 0) (M : X → Y → List ℕ → List ℕ → Type 0) (C : Z → List ℕ → List ℕ → Type 0) (f : X → Y → Z) (chain : IsChain L M C f) where
  pub found_both : (x : X) (y : Y) (w r q : List ℕ) → Found L x w r → Found (M x) y r q → Found C (f x y) w q
  found_both x y w r q a b = record {
    front = a.front ++ b.front;
    parts = a.parts ∙ ap (λ k. a.front ++ k) b.parts ∙ sym (append_assoc a.front b.front q);
    reads = λ u. subst (λ k. C (f x y) k u) (sym (append_assoc a.front b.front u)) (chain.join x y (a.front ++ (b.front ++ u)) (b.front ++ u) u (a.reads (b.front ++ u)) (b.reads u));
    only = λ z u t h.
        let (x1, y1, m, hl, hm, is) = chain.split z (a.front ++ (b.front ++ u)) t (subst (λ k. C z k t) (append_assoc a.front b.front u) h) in
        let (p, q1) = a.only x1 (b.front ++ u) m hl in
        let hm1 = subst (λ k. M k y1 m t) p hm in
        let (p2, q2) = b.only y1 u t (subst (λ k. M x y1 k t) q1 hm1) in
        (is ∙ ap (λ k. f k y1) p ∙ ap (λ k. f x k) p2, q2);
  }

  begins_first : (w : List ℕ) → Begins Anything L w → Begins Anything C w
  begins_first w b =
      let y = chain.filled b.value (w ++ (b.more ++ [])) [] (b.reads [] tt) in
      record {
        value = f b.value y.0;
        more = b.more ++ y.1;
        reads = λ t _. subst (λ k. C (f b.value y.0) (w ++ k) t) (sym (append_assoc b.more y.1 t)) (chain.join b.value y.0 (w ++ (b.more ++ (y.1 ++ t))) (y.1 ++ t) t (b.reads (y.1 ++ t) tt) (y.2 t));
      }

  pub stop_first : (w : List ℕ) (e : Stop) → Stopped L w e → Stopped C w e
  stop_first w stop.Short b = record {
    begins = begins_first w b.begins;
    none = λ z t h. let (x1, y1, m, hl, hm, is) = chain.split z w t h in b.none x1 m hl;
  }
  stop_first w (stop.Bad left) b = record {
    front = b.front;
    byte = b.byte;
    rest = b.rest;
    parts = b.parts;
    count = b.count;
    begins = begins_first b.front b.begins;
    dead = λ z u t h. let (x1, y1, m, hl, hm, is) = chain.split z (b.front ++ b.byte ∷ u) t h in b.dead x1 u m hl;
  }
  stop_first w stop.NoMemory b = tt

  begins_second : (x : X) (front v : List ℕ) → ((u : List ℕ) → L x (front ++ u) u) → Begins Anything (M x) v → Begins Anything C (front ++ v)
  begins_second x front v reads b = record {
    value = f x b.value;
    more = b.more;
    reads = λ t _. subst (λ k. C (f x b.value) k t) (sym (append_assoc front v (b.more ++ t))) (chain.join x b.value (front ++ (v ++ (b.more ++ t))) (v ++ (b.more ++ t)) t (reads (v ++ (b.more ++ t))) (b.reads t tt));
  }

  pub stop_second : (x : X) (w r : List ℕ) → Found L x w r → (e : Stop) → Stopped (M x) r e → Stopped C w e
  stop_second x w r a stop.Short b = subst (Shorts Anything C) (sym a.parts) (record {
    begins = begins_second x a.front r a.reads b.begins;
    none = λ z t h.
        let (x1, y1, m, hl, hm, is) = chain.split z (a.front ++ r) t h in
        let (p, q1) = a.only x1 r m hl in
        let hm1 = subst (λ k. M k y1 m t) p hm in
        b.none y1 t (subst (λ k. M x y1 k t) q1 hm1);
  })
  stop_second x w r a (stop.Bad left) b = record {
    front = a.front ++ b.front;
    byte = b.byte;
    rest = b.rest;
    parts = a.parts ∙ ap (λ k. a.front ++ k) b.parts ∙ sym (append_assoc a.front b.front (b.byte ∷ b.rest));
    count = b.count;
    begins = begins_second x a.front b.front a.reads b.begins;
    dead = λ z u t h.
        let (x1, y1, m, hl, hm, is) = chain.split z (a.front ++ (b.front ++ b.byte ∷ u)) t (subst (λ k. C z k t) (append_assoc a.front b.front (b.byte ∷ u)) h) in
        let (p, q1) = a.only x1 (b.front ++ b.byte ∷ u) m hl in
        let hm1 = subst (λ k. M k y1 m t) p hm in
        b.dead y1 u t (subst (λ k. M x y1 k t) q1 hm1);
  }
  stop_second x w r a stop.NoMemory b = tt

-- R reads what Q reads, as another value
pub record IsView {X Z : Type 0} (Q : X → List ℕ → List ℕ → Type 0) (R : Z → List ℕ → List ℕ → Type 0) (f : X → Z) : Type 0 where
  pub to : (x : X) (u t : List ℕ) → Q x u t → R (f x) u t
  pub from : (z : Z) (u t : List ℕ) → R z u t → (x : X) × Q x u t × (z ≡ f x)

module _ {X Z : Type 0} (Q : X → List ℕ → List ℕ → Type 0) (R : Z → List ℕ → List ℕ → Type 0) (f : X → Z) (view : IsView Q R f) where
  pub found_view : (x : X) (w r : List ℕ) → Found Q x w r → Found R (f x) w r
  found_view x w r a = record {
    front = a.front;
    parts = a.parts;
    reads = λ u. view.to x (a.front ++ u) u (a.reads u);
    only = λ z u t h. let (y, k, is) = view.from z (a.front ++ u) t h in let (p, q) = a.only y u t k in (is ∙ ap f p, q);
  }

  begins_view : (Behind : List ℕ → Type 0) (w : List ℕ) → Begins Behind Q w → Begins Behind R w
  begins_view Behind w b = record { value = f b.value; more = b.more; reads = λ t h. view.to b.value (w ++ (b.more ++ t)) t (b.reads t h) }

  pub stop_view : (Behind : List ℕ → Type 0) (w : List ℕ) (e : Stop) → StoppedBy Behind Q w e → StoppedBy Behind R w e
  stop_view Behind w stop.Short b = record { begins = begins_view Behind w b.begins; none = λ z t h. let (y, k, is) = view.from z w t h in b.none y t k }
  stop_view Behind w (stop.Bad left) b = record {
    front = b.front;
    byte = b.byte;
    rest = b.rest;
    parts = b.parts;
    count = b.count;
    begins = begins_view Behind b.front b.begins;
    dead = λ z u t h. let (y, k, is) = view.from z (b.front ++ b.byte ∷ u) t h in b.dead y u t k;
  }
  stop_view Behind w stop.NoMemory b = tt

-- R reads this byte and then what Q reads, as another value
pub record IsBehind {X Z : Type 0} (Q : X → List ℕ → List ℕ → Type 0) (R : Z → List ℕ → List ℕ → Type 0) (f : X → Z) (b : ℕ) : Type 0 where
  pub to : (x : X) (u t : List ℕ) → Q x u t → R (f x) (b ∷ u) t
  pub from : (z : Z) (u t : List ℕ) → R z (b ∷ u) t → (x : X) × Q x u t × (z ≡ f x)

module _ {X Z : Type 0} (Q : X → List ℕ → List ℕ → Type 0) (R : Z → List ℕ → List ℕ → Type 0) (f : X → Z) (b : ℕ) (behind : IsBehind Q R f b) where
  pub found_behind : (x : X) (w rest r : List ℕ) → w ≡ b ∷ rest → Found Q x rest r → Found R (f x) w r
  found_behind x w rest r e a = record {
    front = b ∷ a.front;
    parts = e ∙ ap (λ k. b ∷ k) a.parts;
    reads = λ u. behind.to x (a.front ++ u) u (a.reads u);
    only = λ z u t h. let (y, k, is) = behind.from z (a.front ++ u) t h in let (p, q) = a.only y u t k in (is ∙ ap f p, q);
  }

  begins_behind : (Behind : List ℕ → Type 0) (v : List ℕ) → Begins Behind Q v → Begins Behind R (b ∷ v)
  begins_behind Behind v g = record { value = f g.value; more = g.more; reads = λ t h. behind.to g.value (v ++ (g.more ++ t)) t (g.reads t h) }

  pub stop_behind : (Behind : List ℕ → Type 0) (w rest : List ℕ) (e : Stop) → w ≡ b ∷ rest → StoppedBy Behind Q rest e → StoppedBy Behind R w e
  stop_behind Behind w rest stop.Short is g = subst (Shorts Behind R) (sym is) (record {
    begins = begins_behind Behind rest g.begins;
    none = λ z t h. let (y, k, is1) = behind.from z rest t h in g.none y t k;
  })
  stop_behind Behind w rest (stop.Bad left) is g = record {
    front = b ∷ g.front;
    byte = g.byte;
    rest = g.rest;
    parts = is ∙ ap (λ k. b ∷ k) g.parts;
    count = g.count;
    begins = begins_behind Behind g.front g.begins;
    dead = λ z u t h. let (y, k, is1) = behind.from z (g.front ++ g.byte ∷ u) t h in g.dead y u t k;
  }
  stop_behind Behind w rest stop.NoMemory is g = tt

-- a list with something behind a front begins as the front or the thing does
first_of : (b c : ℕ) (front rest after u : List ℕ) → b ∷ after ≡ front ++ c ∷ rest → (k : List ℕ) × (front ++ c ∷ u ≡ b ∷ k)
first_of b c [] rest after u e = (u, cc)
first_of b c (x ∷ front) rest after u e = let head : x ≡ b = cc in (front ++ c ∷ u, ap (λ k. k ∷ (front ++ c ∷ u)) head)

-- R reads what Q reads, as another value, from what begins with this byte
pub record IsViewAt {X Z : Type 0} (Q : X → List ℕ → List ℕ → Type 0) (R : Z → List ℕ → List ℕ → Type 0) (f : X → Z) (b : ℕ) : Type 0 where
  pub to : (x : X) (u t : List ℕ) → Q x u t → R (f x) u t
  pub from : (z : Z) (m t : List ℕ) → R z (b ∷ m) t → (x : X) × Q x (b ∷ m) t × (z ≡ f x)

module _ {X Z : Type 0} (Q : X → List ℕ → List ℕ → Type 0) (R : Z → List ℕ → List ℕ → Type 0) (f : X → Z) (b : ℕ) (view : IsViewAt Q R f b) where
  begins_at : (Behind : List ℕ → Type 0) (w : List ℕ) → Begins Behind Q w → Begins Behind R w
  begins_at Behind w g = record { value = f g.value; more = g.more; reads = λ t h. view.to g.value (w ++ (g.more ++ t)) t (g.reads t h) }

  -- what it reads from there
  read_at : (z : Z) (u m t : List ℕ) → u ≡ b ∷ m → R z u t → (x : X) × Q x u t
  read_at z u m t e h =
      let (x, k, is) = view.from z m t (subst (λ v. R z v t) e h) in
      (x, subst (λ v. Q x v t) (sym e) k)

  pub stop_at : (Behind : List ℕ → Type 0) (w after : List ℕ) (e : Stop) → w ≡ b ∷ after → StoppedBy Behind Q w e → StoppedBy Behind R w e
  stop_at Behind w after stop.Short is g = record {
    begins = begins_at Behind w g.begins;
    none = λ z t h. let (x, k) = read_at z w after t is h in g.none x t k;
  }
  stop_at Behind w after (stop.Bad left) is g = record {
    front = g.front;
    byte = g.byte;
    rest = g.rest;
    parts = g.parts;
    count = g.count;
    begins = begins_at Behind g.front g.begins;
    dead = λ z u t h.
        let (m, e) = first_of b g.byte g.front g.rest after u (sym is ∙ g.parts) in
        let (x, k) = read_at z (g.front ++ g.byte ∷ u) m t e h in
        g.dead x u t k;
  }
  stop_at Behind w after stop.NoMemory is g = tt

-- one byte
pub one_byte : {X : Type 0} (R : X → List ℕ → List ℕ → Type 0) (x : X) (b : ℕ) (w r : List ℕ) → w ≡ b ∷ r → ((u : List ℕ) → R x (b ∷ u) u) → ((y : X) (u t : List ℕ) → R y (b ∷ u) t → (y ≡ x) × (t ≡ u)) → Found R x w r
one_byte R x b w r parts reads only = record { front = b ∷ []; parts = parts; reads = reads; only = only }

-- no bytes, with which nothing begins
pub no_byte : {X : Type 0} (Behind : List ℕ → Type 0) (R : X → List ℕ → List ℕ → Type 0) (w : List ℕ) → w ≡ [] → Begins Behind R [] → ((y : X) (t : List ℕ) → R y [] t → ⊥) → Shorts Behind R w
no_byte Behind R w e begins none = subst (Shorts Behind R) (sym e) (record { begins = begins; none = none })

-- a byte in front that nothing begins with
pub bad_byte : {X : Type 0} (Behind : List ℕ → Type 0) (R : X → List ℕ → List ℕ → Type 0) (b n : ℕ) (w r : List ℕ) → w ≡ b ∷ r → n ≡ length w → Begins Behind R [] → ((y : X) (u t : List ℕ) → R y (b ∷ u) t → ⊥) → Fails Behind R w n
bad_byte Behind R b n w r parts count begins dead = record { front = []; byte = b; rest = r; parts = parts; count = count ∙ ap length parts; begins = begins; dead = dead }

-- what a function returns at a `?`
pub stopped_result : {X : Type 0} (Good : X × Bor (List ℕ) → Type 0) (Why : Stop → Type 0) (result : Result (X × Bor (List ℕ)) Stop) (e : Stop) → result ≡ Err e → Why e → MatchResult result Good Why
stopped_result {X} Good Why result e is h = subst (λ (r : Result (X × Bor (List ℕ)) Stop). MatchResult r Good Why) (sym is) h
