-- Values as chains of a head and a body, and of their parts.
use Rattle.std.proofs.Common.{◌≡◌, ◌≢◌, ℕ, zero, suc, ◌+◌, ◌^◌, ◌<◌, ◌≤◌, Bool, true, false, List, [], ◌∷◌, ◌++◌, length, map, refl, sym, ◌∙◌, ap, subst, arith, inl, inr}
use Rattle.std.proofs.lemmas.List.{length-map}
use Rattle.std.proofs.lemmas.Slice.Eq.{bytes_eq-Decides}
use Rattle.std.specs.List.{AllByRecursion, concat}
use Rattle.std.specs.Str.{bytes_eq}
use Rattle.msgpack_codec.specs.declared.value.Value.{Value, out-Value}
use Rattle.msgpack_codec.specs.declared.value.Value.TheVariants as value
use Rattle.msgpack_codec.specs.declared.value.Value.TheOpen.{Value-F}
use Rattle.msgpack_codec.specs.declared.heads.Head.{Head}
use Rattle.msgpack_codec.specs.declared.heads.Head.TheVariants as head
use Rattle.msgpack_codec.specs.Message.{spelling_of, IsScalar, IsBytes, FitsWithin, LayerFits, HasNoKeyTwice, list_head, map_head}
use Rattle.msgpack_codec.specs.Reading.{Sequence}
use Rattle.msgpack_codec.specs.Heads.{HeadAt, IsHead, is_nest_head}
use Rattle.msgpack_codec.specs.Values.{IsSpelledScalar, ValueAt, KeyAt, PairAt, ItemAt, ScalarAt, BodyAt, is_in, next_used, next_item}
use Rattle.msgpack_codec.proofs.Chains.{IsPrefixFree, IsChain, chain_free}
use Rattle.msgpack_codec.proofs.Rows.{str_fix}
use Rattle.msgpack_codec.proofs.Firsts.{head_free}
use Rattle.msgpack_codec.proofs.Sequences.{IsPart, sequence_free, some_sequence}
use Rattle.msgpack_codec.proofs.Equations.{out-Nil, out-Str, out-List, out-Map, is-List, is-Map, spelling-Nil, spelling-Str, spelling-List, spelling-Map, spellings_of, pair_spelling}
use Rattle.msgpack_codec.proofs.Scalars.{join_scalar, split_scalar, some_scalar, scalar_body_free}
use Rattle.msgpack_codec.proofs.Fresh.{when, both_false, or_false, live_room}

not_true : (b : Bool) → (b ≡ true → false ≡ true) → b ≡ false
not_true true h = sym (h refl)
not_true false h = refl

pub scalar_chain : IsChain (HeadAt false) ScalarAt IsSpelledScalar (λ h v. v)
scalar_chain = record {
  join = λ h v s t at body. join_scalar h v s t at.fits at.bytes_are body;
  split = λ v u is.
      let parts = split_scalar false v is.fits in
      (parts.part, v, parts.front, parts.rest, parts.at, parts.body, is.bytes_are ∙ parts.whole, refl);
  filled = λ h s at. some_scalar h (not_true (is_nest_head h) at.allowed);
  free = head_free false;
}

pub scalar_free : IsPrefixFree IsSpelledScalar
scalar_free = chain_free (HeadAt false) ScalarAt IsSpelledScalar (λ h v. v) scalar_chain (λ h s at. scalar_body_free h)

-- scalars of one spelling are the same
pub scalar_one : (j k : Value) → IsScalar (out-Value j) → IsScalar (out-Value k) → spelling_of j ≡ spelling_of k → j ≡ k
scalar_one j k fits fits2 e =
    (scalar_free.same j k (spelling_of j) (spelling_of k) [] [] (record { fits = fits; bytes_are = refl }) (record { fits = fits2; bytes_are = refl }) (ap (λ v. v ++ []) e)).0

pub fits_scalar : (v : Value) → IsScalar (out-Value v) → FitsWithin IsScalar zero v
unfolding FitsWithin
fits_scalar v h = h

pub scalar_fits : (v : Value) → FitsWithin IsScalar zero v → IsScalar (out-Value v)
unfolding FitsWithin
scalar_fits v h = h

layer_scalar : (Inner : Value → Type 0) (l : Value-F Value) → IsScalar l → LayerFits IsScalar Inner l
layer_scalar Inner (Value-F.Nil) h = h
layer_scalar Inner (Value-F.Bool b) h = h
layer_scalar Inner (Value-F.Int n) h = h
layer_scalar Inner (Value-F.Str t) h = h
layer_scalar Inner (Value-F.Sym t) h = h
layer_scalar Inner (Value-F.List all) h = absurd h
layer_scalar Inner (Value-F.Map all) h = absurd h

pub fits_any : (levels : ℕ) (v : Value) → IsScalar (out-Value v) → FitsWithin IsScalar levels v
unfolding FitsWithin
fits_any zero v h = h
fits_any (suc n) v h = layer_scalar (FitsWithin IsScalar n) (out-Value v) h

-- items
items_from : (levels n : ℕ) (all : List Value) (s : List ℕ) → Sequence (ItemAt levels) next_item tt n all s → (length all ≡ n) × AllByRecursion (FitsWithin IsScalar levels) all × (s ≡ concat (map spelling_of all))
items_from levels zero all s (e, none) =
    (ap length e, subst (AllByRecursion (FitsWithin IsScalar levels)) (sym e) tt, none ∙ ap (λ v. concat (map spelling_of v)) (sym e))
items_from levels (suc n) all s (a, rest, s1, s2, h, more, parts, is) =
    let (count, fits, bytes) = items_from levels n rest s2 more in (
      ap length is ∙ ap suc count,
      subst (AllByRecursion (FitsWithin IsScalar levels)) (sym is) (h.fits, fits),
      parts ∙ ap (λ v. v ++ s2) h.bytes_are ∙ ap (λ v. spelling_of a ++ v) bytes ∙ ap (λ v. concat (map spelling_of v)) (sym is),
    )

items_to : (levels : ℕ) (all : List Value) → AllByRecursion (FitsWithin IsScalar levels) all → Sequence (ItemAt levels) next_item tt (length all) all (concat (map spelling_of all))
items_to levels [] fits = (refl, refl)
items_to levels (a ∷ all) (fits, more) = (a, all, spelling_of a, concat (map spelling_of all), record { fits = fits; bytes_are = refl }, items_to levels all more, refl, refl)

-- pairs
abbrev NoneUsed : List (List ℕ) → List (Value × Value) → Type 0
NoneUsed used all = AllByRecursion (λ p. is_in used (spelling_of p.0) ≡ false) all

abbrev PairsFit : ℕ → List (Value × Value) → Type 0
PairsFit levels all = AllByRecursion (λ p. IsScalar (out-Value p.0) × FitsWithin IsScalar levels p.1) all

fewer_used : (x : List ℕ) (used : List (List ℕ)) (all : List (Value × Value)) → NoneUsed (x ∷ used) all → NoneUsed used all
fewer_used x used [] h = tt
fewer_used x used (p ∷ all) (h, more) = ((both_false (bytes_eq (spelling_of p.0) x) (is_in used (spelling_of p.0)) h).1, fewer_used x used all more)

others_differ : (k : Value) (used : List (List ℕ)) (all : List (Value × Value)) → NoneUsed (spelling_of k ∷ used) all → AllByRecursion (λ q. q.0 ≢ k) all
others_differ k used [] h = tt
others_differ k used (p ∷ all) (h, more) = (
  λ e.
      let no_eq : bytes_eq (spelling_of p.0) (spelling_of k) ≡ false = (both_false (bytes_eq (spelling_of p.0) (spelling_of k)) (is_in used (spelling_of p.0)) h).0 in
      let is_eq : bytes_eq (spelling_of p.0) (spelling_of k) ≡ true = (bytes_eq-Decides (spelling_of p.0) (spelling_of k)).1 (ap spelling_of e) in
      let bad : true ≡ false = sym is_eq ∙ no_eq in
      cc,
  others_differ k used all more,
)

pairs_from : (levels n : ℕ) (used : List (List ℕ)) (all : List (Value × Value)) (s : List ℕ) → Sequence (PairAt levels) next_used used n all s
    → (length all ≡ n) × HasNoKeyTwice all × NoneUsed used all × PairsFit levels all × (s ≡ concat (map pair_spelling (map spellings_of all)))
pairs_from levels zero used all s (e, none) = (
  ap length e,
  subst HasNoKeyTwice (sym e) tt,
  subst (NoneUsed used) (sym e) tt,
  subst (PairsFit levels) (sym e) tt,
  none ∙ ap (λ v. concat (map pair_spelling (map spellings_of v))) (sym e),
)
pairs_from levels (suc n) used all s (p, rest, s1, s2, (t, u, key, val, both), more, parts, is) =
    let (count, once, free, fits, bytes) = pairs_from levels n (next_used used p) rest s2 more in
    let unused : is_in used (spelling_of p.0) ≡ false = subst (λ v. is_in used v ≡ false) key.bytes_are key.unused in (
      ap length is ∙ ap suc count,
      subst HasNoKeyTwice (sym is) (others_differ p.0 used rest free, once),
      subst (NoneUsed used) (sym is) (unused, fewer_used (spelling_of p.0) used rest free),
      subst (PairsFit levels) (sym is) ((key.fits, val.fits), fits),
      parts ∙ ap (λ v. v ++ s2) both ∙ ap (λ v. (v ++ u) ++ s2) key.bytes_are ∙ ap (λ v. (spelling_of p.0 ++ v) ++ s2) val.bytes_are ∙ ap (λ v. pair_spelling (spellings_of p) ++ v) bytes ∙ ap (λ v. concat (map pair_spelling (map spellings_of v))) (sym is),
    )

more_used : (levels : ℕ) (k : Value) (used : List (List ℕ)) (all : List (Value × Value)) → IsScalar (out-Value k) → AllByRecursion (λ q. q.0 ≢ k) all → PairsFit levels all → NoneUsed used all → NoneUsed (spelling_of k ∷ used) all
more_used levels k used [] fits differ all_fit none = tt
more_used levels k used (p ∷ all) fits (other, differ) ((key_fits, val_fits), all_fit) (unused, none) = (
  or_false (bytes_eq (spelling_of p.0) (spelling_of k)) (is_in used (spelling_of p.0))
      (elim (when (bytes_eq (spelling_of p.0) (spelling_of k))) [
        | inl e ↦ absurd (other (scalar_one p.0 k key_fits fits ((bytes_eq-Decides (spelling_of p.0) (spelling_of k)).0 e)))
        | inr e ↦ e
      ])
      unused,
  more_used levels k used all fits differ all_fit none,
)

pairs_to : (levels : ℕ) (used : List (List ℕ)) (all : List (Value × Value)) → HasNoKeyTwice all → NoneUsed used all → PairsFit levels all
    → Sequence (PairAt levels) next_used used (length all) all (concat (map pair_spelling (map spellings_of all)))
pairs_to levels used [] once none fits = (refl, refl)
pairs_to levels used (p ∷ all) (differ, once) (unused, none) ((key_fits, val_fits), fits) = (
  p,
  all,
  spelling_of p.0 ++ spelling_of p.1,
  concat (map pair_spelling (map spellings_of all)),
  (spelling_of p.0, spelling_of p.1, record { fits = key_fits; bytes_are = refl; unused = unused }, record { fits = val_fits; bytes_are = refl }, refl),
  pairs_to levels (spelling_of p.0 ∷ used) all once (more_used levels p.0 used all key_fits differ fits none) fits,
  refl,
  refl,
)

-- a key that is not used
four_text : (t : List ℕ) → length t ≡ 4 → IsBytes t → (k : Value) × IsSpelledScalar k ((0xa4 ∷ []) ++ t)
four_text t count small = (
  value.Str t,
  record {
    fits = subst IsScalar (sym (out-Str t)) (omega arith, small);
    bytes_are = ap (λ v. v ++ t) (sym (str_fix (length t) (omega arith) ∙ ap (λ v. (0xa0 + v) ∷ []) count)) ∙ sym (spelling-Str t);
  },
)

pub fresh : (used : List (List ℕ)) → length used < 2 ^ 32 → (k : Value) × (s : List ℕ) × KeyAt used k s
fresh used few = let (k, t, at) = live_room used few (0xa4 ∷ []) four_text in (k, (0xa4 ∷ []) ++ t, at)

nil_at : (levels : ℕ) → ValueAt levels value.Nil (0xc0 ∷ [])
nil_at levels = record { fits = fits_any levels value.Nil (subst IsScalar (sym out-Nil) tt); bytes_are = sym spelling-Nil }

pub key_free : (used : List (List ℕ)) → IsPrefixFree (KeyAt used)
key_free used = record {
  same = λ x y s t a b h k e. scalar_free.same x y s t a b (record { fits = h.fits; bytes_are = h.bytes_are }) (record { fits = k.fits; bytes_are = k.bytes_are }) e;
}

pub pair_chain : (levels : ℕ) (used : List (List ℕ)) → IsChain (KeyAt used) (λ k. ValueAt levels) (PairAt levels used) (λ k v. (k, v))
pair_chain levels used = record {
  join = λ k v s t h at. (s, t, h, at, refl);
  split = λ p u (s, t, h, at, parts). (p.0, p.1, s, t, h, at, parts, refl);
  filled = λ k s h. (value.Nil, 0xc0 ∷ [], nil_at levels);
  free = key_free used;
}

-- there is always room for another item; for another key, while fewer than 2 ^ 32 are used
abbrev pub ItemRoom : Unit {0} → ℕ → Type 0
ItemRoom st n = Unit {0}

abbrev pub KeyRoom : List (List ℕ) → ℕ → Type 0
KeyRoom used n = length used + n ≤ 2 ^ 32

pub items_part : (levels : ℕ) → IsPrefixFree (ValueAt levels) → IsPart (ItemAt levels) next_item ItemRoom
items_part levels free = record {
  some = λ st n room. (value.Nil, 0xc0 ∷ [], nil_at levels);
  step = λ st n a s room h. tt;
  free = λ st. free;
}

pub pairs_part : (levels : ℕ) → IsPrefixFree (ValueAt levels) → IsPart (PairAt levels) next_used KeyRoom
pairs_part levels free = record {
  some = λ used n room.
      let key = fresh used (omega arith) in
      ((key.0, value.Nil), key.1 ++ 0xc0 ∷ [], (key.1, 0xc0 ∷ [], key.2, nil_at levels, refl));
  step = λ used n a s room h. omega arith;
  free = λ used. chain_free (KeyAt used) (λ k. ValueAt levels) (PairAt levels used) (λ k v. (k, v)) (pair_chain levels used) (λ k s h. free);
}

scalar_body : (levels : ℕ) (h : Head) (v : Value) (t : List ℕ) → ScalarAt h v t → BodyAt (suc levels) h v t
scalar_body levels (head.Nil) v t h = h
scalar_body levels (head.Bool b) v t h = h
scalar_body levels (head.Int n) v t h = h
scalar_body levels (head.Str n) v t h = h
scalar_body levels (head.Sym n) v t h = h
scalar_body levels (head.List n) v t h = absurd h
scalar_body levels (head.Map n) v t h = absurd h

join_scalar_body : (levels : ℕ) (h : Head) (v : Value) (s t : List ℕ) → HeadAt true h s → ScalarAt h v t → ValueAt (suc levels) v (s ++ t)
join_scalar_body levels h v s t at body =
    let is = join_scalar h v s t at.fits at.bytes_are body in
    record { fits = fits_any (suc levels) v is.fits; bytes_are = is.bytes_are }

join_body : (levels : ℕ) (h : Head) (v : Value) (s t : List ℕ) → HeadAt true h s → BodyAt (suc levels) h v t → ValueAt (suc levels) v (s ++ t)
unfolding FitsWithin
join_body levels (head.Nil) v s t at body = join_scalar_body levels head.Nil v s t at body
join_body levels (head.Bool b) v s t at body = join_scalar_body levels (head.Bool b) v s t at body
join_body levels (head.Int n) v s t at body = join_scalar_body levels (head.Int n) v s t at body
join_body levels (head.Str n) v s t at body = join_scalar_body levels (head.Str n) v s t at body
join_body levels (head.Sym n) v s t at body = join_scalar_body levels (head.Sym n) v s t at body
join_body levels (head.List n) v s t at (all, items, is) =
    let (count, fits, bytes) = items_from levels n all t items in
    record {
      fits = subst (λ w. LayerFits IsScalar (FitsWithin IsScalar levels) (out-Value w)) (sym is) (subst (LayerFits IsScalar (FitsWithin IsScalar levels)) (sym (out-List all)) (subst (λ k. k < 2 ^ 32) (sym count) at.fits, fits));
      bytes_are = ap (λ v. v ++ t) at.bytes_are ∙ ap (λ k. list_head n ++ k) bytes ∙ ap (λ k. list_head k ++ concat (map spelling_of all)) (sym count ∙ sym (length-map all spelling_of)) ∙ sym (spelling-List all) ∙ ap spelling_of (sym is);
    }
join_body levels (head.Map n) v s t at (all, pairs, is) =
    let (count, once, none, fits, bytes) = pairs_from levels n [] all t pairs in
    record {
      fits = subst (λ w. LayerFits IsScalar (FitsWithin IsScalar levels) (out-Value w)) (sym is) (subst (LayerFits IsScalar (FitsWithin IsScalar levels)) (sym (out-Map all)) (subst (λ k. k < 2 ^ 32) (sym count) at.fits, once, fits));
      bytes_are = ap (λ v. v ++ t) at.bytes_are ∙ ap (λ k. map_head n ++ k) bytes ∙ ap (λ k. map_head k ++ concat (map pair_spelling (map spellings_of all))) (sym count ∙ sym (length-map all spellings_of)) ∙ sym (spelling-Map all) ∙ ap spelling_of (sym is);
    }

none_used : (all : List (Value × Value)) → NoneUsed [] all
none_used [] = tt
none_used (p ∷ all) = (refl, none_used all)

record BodySplit (levels : ℕ) (v : Value) : Type 0 where
  part : Head
  front : List ℕ
  rest : List ℕ
  at : HeadAt true part front
  body : BodyAt (suc levels) part v rest
  whole : spelling_of v ≡ front ++ rest

split_scalar_body : (levels : ℕ) (v : Value) → IsScalar (out-Value v) → BodySplit levels v
split_scalar_body levels v fits =
    let parts = split_scalar true v fits in
    record { part = parts.part; front = parts.front; rest = parts.rest; at = parts.at; body = scalar_body levels parts.part v parts.rest parts.body; whole = parts.whole }

split_layer : (levels : ℕ) (v : Value) (l : Value-F Value) → out-Value v ≡ l → LayerFits IsScalar (FitsWithin IsScalar levels) l → BodySplit levels v
split_layer levels v (Value-F.Nil) e fits = split_scalar_body levels v (subst IsScalar (sym e) fits)
split_layer levels v (Value-F.Bool b) e fits = split_scalar_body levels v (subst IsScalar (sym e) fits)
split_layer levels v (Value-F.Int n) e fits = split_scalar_body levels v (subst IsScalar (sym e) fits)
split_layer levels v (Value-F.Str t) e fits = split_scalar_body levels v (subst IsScalar (sym e) fits)
split_layer levels v (Value-F.Sym t) e fits = split_scalar_body levels v (subst IsScalar (sym e) fits)
split_layer levels v (Value-F.List all) e (count, fits) =
    let is = is-List v all e in
    record {
      part = head.List (length all);
      front = list_head (length all);
      rest = concat (map spelling_of all);
      at = record { fits = count; allowed = λ e. refl; bytes_are = refl };
      body = (all, items_to levels all fits, is);
      whole = ap spelling_of is ∙ spelling-List all ∙ ap (λ k. list_head k ++ concat (map spelling_of all)) (length-map all spelling_of);
    }
split_layer levels v (Value-F.Map all) e (count, once, fits) =
    let is = is-Map v all e in
    record {
      part = head.Map (length all);
      front = map_head (length all);
      rest = concat (map pair_spelling (map spellings_of all));
      at = record { fits = count; allowed = λ e. refl; bytes_are = refl };
      body = (all, pairs_to levels [] all once (none_used all) fits, is);
      whole = ap spelling_of is ∙ spelling-Map all ∙ ap (λ k. map_head k ++ concat (map pair_spelling (map spellings_of all))) (length-map all spellings_of);
    }

split_body : (levels : ℕ) (v : Value) → FitsWithin IsScalar (suc levels) v → BodySplit levels v
unfolding FitsWithin
split_body levels v fits = split_layer levels v (out-Value v) refl fits

some_body : (levels : ℕ) → IsPrefixFree (ValueAt levels) → (h : Head) → IsHead h → (v : Value) × (t : List ℕ) × BodyAt (suc levels) h v t
some_body levels free (head.Nil) fits = some_scalar head.Nil refl
some_body levels free (head.Bool b) fits = some_scalar (head.Bool b) refl
some_body levels free (head.Int n) fits = some_scalar (head.Int n) refl
some_body levels free (head.Str n) fits = some_scalar (head.Str n) refl
some_body levels free (head.Sym n) fits = some_scalar (head.Sym n) refl
some_body levels free (head.List n) fits =
    let (all, t, h) = some_sequence (ItemAt levels) next_item ItemRoom (items_part levels free) tt n tt in
    (value.List all, t, (all, h, refl))
some_body levels free (head.Map n) fits =
    let (all, t, h) = some_sequence (PairAt levels) next_used KeyRoom (pairs_part levels free) [] n (omega arith) in
    (value.Map all, t, (all, h, refl))

pub body_chain : (levels : ℕ) → IsPrefixFree (ValueAt levels) → IsChain (HeadAt true) (BodyAt (suc levels)) (ValueAt (suc levels)) (λ h v. v)
body_chain levels free = record {
  join = λ h v s t at body. join_body levels h v s t at body;
  split = λ v u is.
      let parts = split_body levels v is.fits in
      (parts.part, v, parts.front, parts.rest, parts.at, parts.body, is.bytes_are ∙ parts.whole, refl);
  filled = λ h s at. some_body levels free h at.fits;
  free = head_free true;
}

body_free : (levels : ℕ) → IsPrefixFree (ValueAt levels) → (h : Head) (s : List ℕ) → HeadAt true h s → IsPrefixFree (BodyAt (suc levels) h)
body_free levels free (head.Nil) s at = scalar_body_free head.Nil
body_free levels free (head.Bool b) s at = scalar_body_free (head.Bool b)
body_free levels free (head.Int n) s at = scalar_body_free (head.Int n)
body_free levels free (head.Str n) s at = scalar_body_free (head.Str n)
body_free levels free (head.Sym n) s at = scalar_body_free (head.Sym n)
body_free levels free (head.List n) s at = record {
  same = λ x y s t a b (all, h, is) (all2, h2, is2) e.
      let one = (sequence_free (ItemAt levels) next_item ItemRoom (items_part levels free) tt n tt).same all all2 s t a b h h2 e in
      (is ∙ ap value.List one.0 ∙ sym is2, one.1);
}
body_free levels free (head.Map n) s at = record {
  same = λ x y s t a b (all, h, is) (all2, h2, is2) e.
      let small : n < 2 ^ 32 = at.fits in
      let one = (sequence_free (PairAt levels) next_used KeyRoom (pairs_part levels free) [] n (omega arith)).same all all2 s t a b h h2 e in
      (is ∙ ap value.Map one.0 ∙ sym is2, one.1);
}

-- no spelling begins another
pub value_free : (levels : ℕ) → IsPrefixFree (ValueAt levels)
value_free zero = record {
  same = λ x y s t a b h k e. scalar_free.same x y s t a b (record { fits = scalar_fits x h.fits; bytes_are = h.bytes_are }) (record { fits = scalar_fits y k.fits; bytes_are = k.bytes_are }) e;
}
value_free (suc levels) = chain_free (HeadAt true) (BodyAt (suc levels)) (ValueAt (suc levels)) (λ h v. v) (body_chain levels (value_free levels)) (body_free levels (value_free levels))
