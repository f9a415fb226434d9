-- Sequences of parts.
use Rattle.std.proofs.Common.{◌≡◌, ℕ, zero, suc, ◌+◌, List, [], ◌∷◌, ◌++◌, refl, sym, ◌∙◌, ap, subst, arith, append_assoc, append-nil}
use Rattle.msgpack_codec.specs.declared.stop.Stop.{Stop}
use Rattle.msgpack_codec.specs.Reading.{Found, Stopped, Sequence}
use Rattle.msgpack_codec.proofs.Chains.{IsPrefixFree, IsChain, chain_free, stop_first, stop_second}

-- parts that can go on for a number of times, as Room says
pub record IsPart {S A : Type 0} (E : S → A → List ℕ → Type 0) (next : S → A → S) (Room : S → ℕ → Type 0) : Type 0 where
  pub some : (st : S) (n : ℕ) → Room st (suc n) → (a : A) × (s : List ℕ) × E st a s
  pub step : (st : S) (n : ℕ) (a : A) (s : List ℕ) → Room st (suc n) → E st a s → Room (next st a) n
  pub free : (st : S) → IsPrefixFree (E st)

-- the state behind parts
abbrev pub after : {S A : Type 0} → (S → A → S) → S → List A → S
after next st [] = st
after next st (a ∷ all) = after next (next st a) all

module _ {S A : Type 0} (E : S → A → List ℕ → Type 0) (next : S → A → S) (Room : S → ℕ → Type 0) (part : IsPart E next Room) where
  pub some_sequence : (st : S) (n : ℕ) → Room st n → (all : List A) × (s : List ℕ) × Sequence E next st n all s
  some_sequence st zero room = ([], [], (refl, refl))
  some_sequence st (suc n) room =
      let (a, s, h) = part.some st n room in
      let (all, t, k) = some_sequence (next st a) n (part.step st n a s room h) in
      (a ∷ all, s ++ t, (a, all, s, t, h, k, refl, refl))

  pub first_chain : (st : S) (n : ℕ) → Room st (suc n) → IsChain (E st) (λ a. Sequence E next (next st a) n) (Sequence E next st (suc n)) (λ a all. a ∷ all)
  first_chain st n room = record {
    join = λ a all s t h k. (a, all, s, t, h, k, refl, refl);
    split = λ z u (a, all, s, t, h, k, parts, is). (a, all, s, t, h, k, parts, is);
    filled = λ a s h. some_sequence (next st a) n (part.step st n a s room h);
    free = part.free st;
  }

  pub sequence_free : (st : S) (n : ℕ) → Room st n → IsPrefixFree (Sequence E next st n)
  sequence_free st zero room = record { same = λ x y s t a b (p, q) (p1, q1) e. (p ∙ sym p1, q ∙ sym q1) }
  sequence_free st (suc n) room =
      chain_free (E st) (λ a. Sequence E next (next st a) n) (Sequence E next st (suc n)) (λ a all. a ∷ all) (first_chain st n room)
      (λ a s h. sequence_free (next st a) n (part.step st n a s room h))

  -- what stops a part stops the sequence
  pub stop_in_part : (st : S) (n : ℕ) → Room st (suc n) → (w : List ℕ) (e : Stop) → Stopped (E st) w e → Stopped (Sequence E next st (suc n)) w e
  stop_in_part st n room w e h = stop_first (E st) (λ a. Sequence E next (next st a) n) (Sequence E next st (suc n)) (λ a all. a ∷ all) (first_chain st n room) w e h

  join_fronts : (i j : ℕ) (st : S) (qs ps : List A) (s t : List ℕ) → Sequence E next st i qs s → Sequence E next (after next st qs) j ps t → Sequence E next st (i + j) (qs ++ ps) (s ++ t)
  join_fronts zero j st qs ps s t (p, q) k =
      let e : zero + j ≡ j = omega arith in
      let k1 : Sequence E next st j ps t = subst (λ v. Sequence E next (after next st v) j ps t) p k in
      subst (λ v. Sequence E next st v (qs ++ ps) (s ++ t)) (sym e)
      (subst (λ v. Sequence E next st j (v ++ ps) (s ++ t)) (sym p) (subst (λ v. Sequence E next st j ps (v ++ t)) (sym q) k1))
  join_fronts (suc i) j st qs ps s t (a, all, s1, s2, h, rest, parts, is) k =
      let e : suc i + j ≡ suc (i + j) = omega arith in
      let k1 : Sequence E next (after next (next st a) all) j ps t = subst (λ v. Sequence E next (after next st v) j ps t) is k in
      let all1 = join_fronts i j (next st a) all ps s2 t rest k1 in
      subst (λ v. Sequence E next st v (qs ++ ps) (s ++ t)) (sym e)
      (a, all ++ ps, s1, s2 ++ t, h, all1, ap (λ v. v ++ t) parts ∙ append_assoc s1 s2 t, ap (λ v. v ++ ps) is)

  split_fronts : (i j : ℕ) (st : S) (zs : List A) (u : List ℕ) → Sequence E next st (i + j) zs u
      → (qs : List A) × (ps : List A) × (s : List ℕ) × (t : List ℕ) × Sequence E next st i qs s × Sequence E next (after next st qs) j ps t × (u ≡ s ++ t) × (zs ≡ qs ++ ps)
  split_fronts zero j st zs u h =
      let e : zero + j ≡ j = omega arith in
      ([], zs, [], u, (refl, refl), subst (λ v. Sequence E next st v zs u) e h, refl, refl)
  split_fronts (suc i) j st zs u h =
      let e : suc i + j ≡ suc (i + j) = omega arith in
      let (a, all, s1, s2, h1, rest, parts, is) = subst (λ v. Sequence E next st v zs u) e h in
      let (qs, ps, s, t, k1, k2, parts2, is2) = split_fronts i j (next st a) all s2 rest in
      (a ∷ qs, ps, s1 ++ s, t, (a, qs, s1, s, h1, k1, refl, refl), k2, parts ∙ ap (λ v. s1 ++ v) parts2 ∙ sym (append_assoc s1 s t), is ∙ ap (λ v. a ∷ v) is2)

  room_fronts : (i j : ℕ) (st : S) (qs : List A) (s : List ℕ) → Room st (i + j) → Sequence E next st i qs s → Room (after next st qs) j
  room_fronts zero j st qs s room (p, q) =
      let e : zero + j ≡ j = omega arith in
      subst (λ v. Room (after next st v) j) (sym p) (subst (Room st) e room)
  room_fronts (suc i) j st qs s room (a, all, s1, s2, h, rest, parts, is) =
      let e : suc i + j ≡ suc (i + j) = omega arith in
      subst (λ v. Room (after next st v) j) (sym is) (room_fronts i j (next st a) all s2 (part.step st (i + j) a s1 (subst (Room st) e room) h) rest)

  room_front : (i j : ℕ) (st : S) → Room st (i + j) → Room st i → IsChain (Sequence E next st i) (λ qs. Sequence E next (after next st qs) j) (Sequence E next st (i + j)) (λ qs ps. qs ++ ps)
  room_front i j st room some = record {
    join = λ qs ps s t. join_fronts i j st qs ps s t;
    split = λ z u h. split_fronts i j st z u h;
    filled = λ qs s h. some_sequence (after next st qs) j (room_fronts i j st qs s room h);
    free = sequence_free st i some;
  }

  -- what stops a part behind others stops the sequence
  pub stop_behind : (i j n : ℕ) (st : S) → n ≡ i + suc j → Room st n → Room st i → (qs : List A) (w r : List ℕ) → Found (Sequence E next st i) qs w r → (e : Stop) → Stopped (E (after next st qs)) r e → Stopped (Sequence E next st n) w e
  stop_behind i j n st is room some qs w r found e h =
      let room1 : Room st (i + suc j) = subst (Room st) is room in
      let behind = stop_in_part (after next st qs) j (room_fronts i (suc j) st qs found.spelling room1 found.spelled) r e h in
      subst (λ v. Stopped (Sequence E next st v) w e) (sym is)
      (stop_second (Sequence E next st i) (λ qs. Sequence E next (after next st qs) (suc j)) (Sequence E next st (i + suc j)) (λ qs ps. qs ++ ps) (room_front i (suc j) st room1 some) qs w r found e behind)

  -- one part more
  pub one_more : (i : ℕ) (st : S) (qs : List A) (w r q : List ℕ) (a : A) → Found (Sequence E next st i) qs w r → Found (E (after next st qs)) a r q → Found (Sequence E next st (i + 1)) (qs ++ a ∷ []) w q
  one_more i st qs w r q a f g = record {
    spelling = f.spelling ++ g.spelling;
    spelled = join_fronts i 1 st qs (a ∷ []) f.spelling g.spelling f.spelled (a, [], g.spelling, [], g.spelled, (refl, refl), sym (append-nil g.spelling), refl);
    parts = f.parts ∙ ap (λ v. f.spelling ++ v) g.parts ∙ sym (append_assoc f.spelling g.spelling q);
  }

  pub none_yet : (st : S) (w : List ℕ) → Found (Sequence E next st 0) [] w w
  none_yet st w = record { spelling = []; spelled = (refl, refl); parts = refl }

-- the state behind one part more
pub after-more : {S A : Type 0} (next : S → A → S) (st : S) (qs : List A) (a : A) → after next st (qs ++ a ∷ []) ≡ next (after next st qs) a
after-more next st [] a = refl
after-more next st (q ∷ qs) a = after-more next (next st q) qs a
