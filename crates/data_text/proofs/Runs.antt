-- Runs of parts, of which the last is marked.
use Rattle.std.proofs.Common.{◌≡◌, ℕ, List, [], ◌∷◌, ◌++◌, refl, sym, ◌∙◌, ap, subst, inl, inr, append_assoc, Bool, true, false}
use Rattle.std.proofs.lemmas.Bool.{false≢true}
use Rattle.msgpack_codec.specs.declared.stop.Stop.{Stop}
use Rattle.msgpack_codec.specs.declared.stop.Stop.TheVariants as stop
use Rattle.data_text.specs.Json.{RunAt}
use Rattle.data_text.specs.Reading.{Found, Begins, Shorts, Stopped, Anything, Marked}

module _ {X : Type 0} (P : X → Bool → List ℕ → List ℕ → Type 0) where
  -- the parts so far, none of them the last
  pub record Behind (qs : List X) (w r : List ℕ) : Type 0 where
    pub front : List ℕ
    pub parts : w ≡ front ++ r
    pub join : (xs : List X) (u t : List ℕ) → RunAt P xs u t → RunAt P (qs ++ xs) (front ++ u) t
    pub split : (ys : List X) (u t : List ℕ) → RunAt P ys (front ++ u) t → (xs : List X) × (ys ≡ qs ++ xs) × RunAt P xs u t

  pub none_yet : (w : List ℕ) → Behind [] w w
  none_yet w = record { front = []; parts = refl; join = λ xs u t h. h; split = λ ys u t h. (ys, refl, h) }

  not_last : (x z : X) → ◌≡◌ {A = X × Bool} (z, true) (x, false) → ⊥
  not_last x z e = false≢true (sym (ap (λ (v : X × Bool). v.1) e))

  not_first : (x z : X) → ◌≡◌ {A = X × Bool} (z, false) (x, true) → ⊥
  not_first x z e = false≢true (ap (λ (v : X × Bool). v.1) e)

  split_more : (x : X) (front : List ℕ) → ((y : X × Bool) (u t : List ℕ) → Marked P y (front ++ u) t → (y ≡ (x, false)) × (t ≡ u))
      → (zs : List X) (u t : List ℕ) → RunAt P zs (front ++ u) t → (xs : List X) × (zs ≡ x ∷ xs) × RunAt P xs u t
  split_more x front only [] u t h = absurd h
  split_more x front only (z ∷ zs) u t (inl (e, p)) = absurd (not_last x z (only (z, true) u t p).0)
  split_more x front only (z ∷ zs) u t (inr (m, p, k)) =
      let (e, q) = only (z, false) u m p in
      (zs, ap (λ v. v.0 ∷ zs) e, subst (λ v. RunAt P zs v t) q k)

  split_last : (x : X) (front : List ℕ) → ((y : X × Bool) (u t : List ℕ) → Marked P y (front ++ u) t → (y ≡ (x, true)) × (t ≡ u))
      → (zs : List X) (u t : List ℕ) → RunAt P zs (front ++ u) t → (zs ≡ x ∷ []) × (t ≡ u)
  split_last x front only [] u t h = absurd h
  split_last x front only (z ∷ zs) u t (inl (e, p)) = let (q, r) = only (z, true) u t p in (ap (λ v. v.0 ∷ zs) q ∙ ap (λ v. x ∷ v) e, r)
  split_last x front only (z ∷ zs) u t (inr (m, p, k)) = absurd (not_first x z (only (z, false) u m p).0)

  split_dead : (front : List ℕ) (byte : ℕ) → ((y : X × Bool) (u t : List ℕ) → Marked P y (front ++ byte ∷ u) t → ⊥)
      → (zs : List X) (u t : List ℕ) → RunAt P zs (front ++ byte ∷ u) t → ⊥
  split_dead front byte dead [] u t h = h
  split_dead front byte dead (z ∷ zs) u t (inl (e, p)) = dead (z, true) u t p
  split_dead front byte dead (z ∷ zs) u t (inr (m, p, k)) = dead (z, false) u m p

  split_none : (r : List ℕ) → ((y : X × Bool) (t : List ℕ) → Marked P y r t → ⊥) → (zs : List X) (t : List ℕ) → RunAt P zs r t → ⊥
  split_none r none [] t h = h
  split_none r none (z ∷ zs) t (inl (e, p)) = none (z, true) t p
  split_none r none (z ∷ zs) t (inr (m, p, k)) = none (z, false) m p

  -- a part more
  pub one_more : (qs : List X) (x : X) (w r q : List ℕ) → Behind qs w r → Found (Marked P) (x, false) r q → Behind (qs ++ x ∷ []) w q
  one_more qs x w r q a f = record {
    front = a.front ++ f.front;
    parts = a.parts ∙ ap (λ k. a.front ++ k) f.parts ∙ sym (append_assoc a.front f.front q);
    join = λ xs u t h.
        subst (λ k. RunAt P k ((a.front ++ f.front) ++ u) t) (sym (append_assoc qs (x ∷ []) xs))
        (subst (λ k. RunAt P (qs ++ x ∷ xs) k t) (sym (append_assoc a.front f.front u)) (a.join (x ∷ xs) (f.front ++ u) t (inr (u, f.reads u, h))));
    split = λ ys u t h.
        let (zs, e, k) = a.split ys (f.front ++ u) t (subst (λ v. RunAt P ys v t) (append_assoc a.front f.front u) h) in
        let (xs, e1, k1) = split_more x f.front f.only zs u t k in
        (xs, e ∙ ap (λ v. qs ++ v) e1 ∙ sym (append_assoc qs (x ∷ []) xs), k1);
  }

  -- the last part
  pub last_part : (qs : List X) (x : X) (w r q : List ℕ) → Behind qs w r → Found (Marked P) (x, true) r q → Found (RunAt P) (qs ++ x ∷ []) w q
  last_part qs x w r q a f = record {
    front = a.front ++ f.front;
    parts = a.parts ∙ ap (λ k. a.front ++ k) f.parts ∙ sym (append_assoc a.front f.front q);
    reads = λ u. subst (λ k. RunAt P (qs ++ x ∷ []) k u) (sym (append_assoc a.front f.front u)) (a.join (x ∷ []) (f.front ++ u) u (inl (refl, f.reads u)));
    only = λ ys u t h.
        let (zs, e, k) = a.split ys (f.front ++ u) t (subst (λ v. RunAt P ys v t) (append_assoc a.front f.front u) h) in
        let (e1, k1) = split_last x f.front f.only zs u t k in
        (e ∙ ap (λ v. qs ++ v) e1, k1);
  }

  -- something that can end a run
  abbrev pub Closing : Type 0
  Closing = (x : X) × (c : List ℕ) × ((t : List ℕ) → P x true (c ++ t) t)

  module _ (closing : Closing) where
    begun_mark : (v more : List ℕ) (x : X) (last : Bool) → ((t : List ℕ) → Anything t → P x last (v ++ (more ++ t)) t) → Begins Anything (RunAt P) v
    begun_mark v more x true reads = record { value = x ∷ []; more = more; reads = λ t _. inl (refl, reads t tt) }
    begun_mark v more x false reads = record {
      value = x ∷ (closing.0 ∷ []);
      more = more ++ closing.1;
      reads = λ t _. subst (λ k. RunAt P (x ∷ (closing.0 ∷ [])) (v ++ k) t) (sym (append_assoc more closing.1 t)) (inr (closing.1 ++ t, reads (closing.1 ++ t) tt, inl (refl, closing.2 t)));
    }

    begun : (v : List ℕ) → Begins Anything (Marked P) v → Begins Anything (RunAt P) v
    begun v b = begun_mark v b.more b.value.0 b.value.1 b.reads

    begun_behind : (qs : List X) (front v : List ℕ) → ((xs : List X) (u t : List ℕ) → RunAt P xs u t → RunAt P (qs ++ xs) (front ++ u) t) → Begins Anything (RunAt P) v → Begins Anything (RunAt P) (front ++ v)
    begun_behind qs front v join b = record {
      value = qs ++ b.value;
      more = b.more;
      reads = λ t h. subst (λ k. RunAt P (qs ++ b.value) k t) (sym (append_assoc front v (b.more ++ t))) (join b.value (v ++ (b.more ++ t)) t (b.reads t h));
    }

    -- what stops a part stops the run
    pub stop_run : (qs : List X) (w r : List ℕ) → Behind qs w r → (e : Stop) → Stopped (Marked P) r e → Stopped (RunAt P) w e
    stop_run qs w r a stop.Short b = subst (Shorts Anything (RunAt P)) (sym a.parts) (record {
      begins = begun_behind qs a.front r a.join (begun r b.begins);
      none = λ ys t h. let (zs, e, k) = a.split ys r t h in split_none r b.none zs t k;
    })
    stop_run qs w r a (stop.Bad left) b = record {
      front = a.front ++ b.front;
      byte = b.byte;
      rest = b.rest;
      parts = a.parts ∙ ap (λ k. a.front ++ k) b.parts ∙ sym (append_assoc a.front b.front (b.byte ∷ b.rest));
      count = b.count;
      begins = begun_behind qs a.front b.front a.join (begun b.front b.begins);
      dead = λ ys u t h.
          let (zs, e, k) = a.split ys (b.front ++ b.byte ∷ u) t (subst (λ v. RunAt P ys v t) (append_assoc a.front b.front (b.byte ∷ u)) h) in
          split_dead b.front b.byte b.dead zs u t k;
    }
    stop_run qs w r a stop.NoMemory b = tt
