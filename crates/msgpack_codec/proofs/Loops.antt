-- Lists and maps, read part by part.
use Rattle.std.proofs.Common.{◌≡◌, ℕ, zero, suc, ◌+◌, ◌-◌, ◌^◌, ◌<◌, ◌≤◌, Bool, true, false, ◌||◌, nat_lt, List, [], ◌∷◌, ◌++◌, length, refl, sym, ◌∙◌, ap, subst, arith, Result, MatchResult, Bor}
use Rattle.std.proofs.lemmas.Bool.Decides.{nat_tests}
use Rattle.std.specs.Str.{bytes_eq}
use Rattle.msgpack_codec.specs.declared.stop.Stop.{Stop}
use Rattle.msgpack_codec.specs.declared.value.Value.{Value}
use Rattle.msgpack_codec.specs.declared.value.Value.TheVariants as value
use Rattle.msgpack_codec.specs.declared.heads.Head.{Head}
use Rattle.msgpack_codec.specs.declared.heads.Head.TheVariants as head
use Rattle.msgpack_codec.specs.Message.{spelling_of}
use Rattle.msgpack_codec.specs.Reading.{Found, Stopped, Sequence}
use Rattle.msgpack_codec.specs.Heads.{HeadAt, is_nest_head}
use Rattle.msgpack_codec.specs.Values.{ValueAt, KeyAt, PairAt, ItemAt, ListAt, MapAt, ScalarAt, BodyAt, is_in, next_used, next_item}
use Rattle.msgpack_codec.proofs.Chains.{IsChain, stop_first, stop_second, found_both, chain_result}
use Rattle.msgpack_codec.proofs.Firsts.{stop_renamed}
use Rattle.msgpack_codec.proofs.Sequences.{stop_behind, one_more, none_yet, after, after-more}
use Rattle.msgpack_codec.proofs.Bodies.{ItemRoom, KeyRoom, items_part, pairs_part, pair_chain, value_free, body_chain, scalar_chain, fits_scalar, scalar_fits}

module _ (levels count : ℕ) (w : List ℕ) where
  pub list_stop : (i : ℕ) (items : List Value) (r : List ℕ) (e : Stop) → i < count → Found (Sequence (ItemAt levels) next_item tt i) items w r → Stopped (ValueAt levels) r e → Stopped (ListAt levels count) w e
  list_stop i items r e less front h =
      stop_renamed (Sequence (ItemAt levels) next_item tt count) (ListAt levels count) value.List (λ all s q. (all, q, refl)) (λ v s (all, q, is). (all, q)) w e
      (stop_behind (ItemAt levels) next_item ItemRoom (items_part levels (value_free levels)) i (count - i - 1) count tt (omega arith) tt tt items w r front e h)

  pub list_step : (i : ℕ) (items : List Value) (r q : List ℕ) (a : Value) → Found (Sequence (ItemAt levels) next_item tt i) items w r → Found (ValueAt levels) a r q → Found (Sequence (ItemAt levels) next_item tt (i + 1)) (items ++ a ∷ []) w q
  list_step i items r q a front found = one_more (ItemAt levels) next_item ItemRoom (items_part levels (value_free levels)) i tt items w r q a front found

  pub list_end : (items : List Value) (r : List ℕ) → Found (Sequence (ItemAt levels) next_item tt count) items w r → Found (ListAt levels count) (value.List items) w r
  list_end items r front = record { spelling = front.spelling; spelled = (items, front.spelled, refl); parts = front.parts }

  pub list_none : Found (Sequence (ItemAt levels) next_item tt 0) [] w w
  list_none = none_yet (ItemAt levels) next_item ItemRoom (items_part levels (value_free levels)) tt w

-- the keys in a set are those of the pairs so far
pub record HasKeys (used : List (List ℕ)) (pairs : List (Value × Value)) (i : ℕ) : Type 0 where
  pub same : (t : List ℕ) → is_in used t ≡ is_in (after next_used [] pairs) t
  pub count : length used ≡ i

key_same : (a b : List (List ℕ)) → ((t : List ℕ) → is_in a t ≡ is_in b t) → (k : Value) (s : List ℕ) → KeyAt a k s → KeyAt b k s
key_same a b same k s at = record { fits = at.fits; bytes_are = at.bytes_are; unused = sym (same s) ∙ at.unused }

module _ (levels count : ℕ) (w : List ℕ) (few : count < 2 ^ 32) where
  pair_stop : (i : ℕ) (pairs : List (Value × Value)) (r : List ℕ) (e : Stop) → i < count → Found (Sequence (PairAt levels) next_used [] i) pairs w r → Stopped (PairAt levels (after next_used [] pairs)) r e → Stopped (MapAt levels count) w e
  pair_stop i pairs r e less front h =
      stop_renamed (Sequence (PairAt levels) next_used [] count) (MapAt levels count) value.Map (λ all s q. (all, q, refl)) (λ v s (all, q, is). (all, q)) w e
      (stop_behind (PairAt levels) next_used KeyRoom (pairs_part levels (value_free levels)) i (count - i - 1) count [] (omega arith) (omega arith) (omega arith) pairs w r front e h)

  pub key_stops : (used : List (List ℕ)) (i : ℕ) (pairs : List (Value × Value)) (r : List ℕ) (e : Stop) → i < count → Found (Sequence (PairAt levels) next_used [] i) pairs w r → HasKeys used pairs i → Stopped (KeyAt used) r e → Stopped (MapAt levels count) w e
  key_stops used i pairs r e less front keys h =
      let now = after next_used [] pairs in
      pair_stop i pairs r e less front
      (stop_first (KeyAt now) (λ k. ValueAt levels) (PairAt levels now) (λ k v. (k, v)) (pair_chain levels now) r e
      (stop_renamed (KeyAt used) (KeyAt now) (λ k. k) (key_same used now keys.same) (λ k s at. (k, key_same now used (λ t. sym (keys.same t)) k s at)) r e h))

  found_key : (used : List (List ℕ)) (i : ℕ) (pairs : List (Value × Value)) (k : Value) (r q : List ℕ) → HasKeys used pairs i → Found (KeyAt used) k r q → Found (KeyAt (after next_used [] pairs)) k r q
  found_key used i pairs k r q keys found = record { spelling = found.spelling; spelled = key_same used (after next_used [] pairs) keys.same k found.spelling found.spelled; parts = found.parts }

  pub value_stops : (used : List (List ℕ)) (i : ℕ) (pairs : List (Value × Value)) (k : Value) (r q : List ℕ) (e : Stop) → i < count → Found (Sequence (PairAt levels) next_used [] i) pairs w r → HasKeys used pairs i → Found (KeyAt used) k r q → Stopped (ValueAt levels) q e → Stopped (MapAt levels count) w e
  value_stops used i pairs k r q e less front keys key h =
      let now = after next_used [] pairs in
      pair_stop i pairs r e less front
      (stop_second (KeyAt now) (λ k. ValueAt levels) (PairAt levels now) (λ k v. (k, v)) (pair_chain levels now) k r q (found_key used i pairs k r q keys key) e h)

  pub map_step : (used : List (List ℕ)) (i : ℕ) (pairs : List (Value × Value)) (k v : Value) (r q u : List ℕ) → Found (Sequence (PairAt levels) next_used [] i) pairs w r → HasKeys used pairs i → Found (KeyAt used) k r q → Found (ValueAt levels) v q u → Found (Sequence (PairAt levels) next_used [] (i + 1)) (pairs ++ (k, v) ∷ []) w u
  map_step used i pairs k v r q u front keys key val =
      let now = after next_used [] pairs in
      one_more (PairAt levels) next_used KeyRoom (pairs_part levels (value_free levels)) i [] pairs w r u (k, v) front
      (found_both (KeyAt now) (λ k. ValueAt levels) (PairAt levels now) (λ k v. (k, v)) (pair_chain levels now) k v r q u (found_key used i pairs k r q keys key) val)

  pub map_end : (pairs : List (Value × Value)) (r : List ℕ) → Found (Sequence (PairAt levels) next_used [] count) pairs w r → Found (MapAt levels count) (value.Map pairs) w r
  map_end pairs r front = record { spelling = front.spelling; spelled = (pairs, front.spelled, refl); parts = front.parts }

  pub map_none : Found (Sequence (PairAt levels) next_used [] 0) [] w w
  map_none = none_yet (PairAt levels) next_used KeyRoom (pairs_part levels (value_free levels)) [] w

-- the keys with one more
pub more_keys : (used now : List (List ℕ)) (pairs : List (Value × Value)) (i : ℕ) (k v : Value) (r q front : List ℕ) → HasKeys used pairs i → (found : Found (KeyAt used) k r q) → front ≡ found.spelling
    → ((t : List ℕ) → is_in now t ≡ (bytes_eq t front || is_in used t)) → length now ≡ length used + 1 → HasKeys now (pairs ++ (k, v) ∷ []) (i + 1)
more_keys used now pairs i k v r q front keys found is has count = record {
  same = λ t.
      has t
      ∙ ap (λ f. bytes_eq t f || is_in used t) (is ∙ found.spelled.bytes_are)
      ∙ ap (λ b. bytes_eq t (spelling_of k) || b) (keys.same t)
      ∙ ap (λ u. is_in u t) (sym (after-more next_used [] pairs (k, v)));
  count = let old : length used ≡ i = keys.count in omega arith;
}

-- values
abbrev pub nests : ℕ → Bool
nests levels = nat_lt 0 levels

nests_zero : nests zero ≡ false
nests_zero = refl

nests_suc : (n : ℕ) → nests (suc n) ≡ true
nests_suc n = grind (arith, nat_tests)

zero_chain : IsChain (HeadAt false) (BodyAt zero) (ValueAt zero) (λ h v. v)
zero_chain = record {
  join = λ h v s t at body. let is = scalar_chain.join h v s t at body in record { fits = fits_scalar v is.fits; bytes_are = is.bytes_are };
  split = λ v u is. scalar_chain.split v u (record { fits = scalar_fits v is.fits; bytes_are = is.bytes_are });
  filled = scalar_chain.filled;
  free = scalar_chain.free;
}

pub value_chain : (levels : ℕ) → IsChain (HeadAt (nests levels)) (BodyAt levels) (ValueAt levels) (λ h v. v)
value_chain zero = subst (λ b. IsChain (HeadAt b) (BodyAt zero) (ValueAt zero) (λ h v. v)) (sym nests_zero) zero_chain
value_chain (suc n) = subst (λ b. IsChain (HeadAt b) (BodyAt (suc n)) (ValueAt (suc n)) (λ h v. v)) (sym (nests_suc n)) (body_chain n (value_free n))

pub value_stop : (levels : ℕ) (w : List ℕ) (e : Stop) → Stopped (HeadAt (nests levels)) w e → Stopped (ValueAt levels) w e
value_stop levels w e h = stop_first (HeadAt (nests levels)) (BodyAt levels) (ValueAt levels) (λ h v. v) (value_chain levels) w e h

value_result : (levels : ℕ) (h : Head) (w rest : List ℕ) → Found (HeadAt (nests levels)) h w rest → (result : Result (Value × Bor (List ℕ)) Stop)
    → MatchResult result (λ p. Found (BodyAt levels h) p.0 rest p.1.now) (λ e. Stopped (BodyAt levels h) rest e)
    → MatchResult result (λ p. Found (ValueAt levels) p.0 w p.1.now) (λ e. Stopped (ValueAt levels) w e)
value_result levels h w rest found result r = chain_result (HeadAt (nests levels)) (BodyAt levels) (ValueAt levels) (value_chain levels) h w rest found result r

less_one : (n : ℕ) → suc n - 1 ≡ n
less_one n = omega arith

pub some_level : (levels : ℕ) (h : Head) (s : List ℕ) → is_nest_head h ≡ true → HeadAt (nests levels) h s → 1 ≤ levels
some_level zero h s nest at = absurd (let e : false ≡ true = at.allowed nest in cc)
some_level (suc n) h s nest at = omega arith

pub list_value : (levels n : ℕ) (w rest : List ℕ) → Found (HeadAt (nests levels)) (head.List n) w rest → (result : Result (Value × Bor (List ℕ)) Stop)
    → MatchResult result (λ p. Found (ListAt (levels - 1) n) p.0 rest p.1.now) (λ e. Stopped (ListAt (levels - 1) n) rest e)
    → MatchResult result (λ p. Found (ValueAt levels) p.0 w p.1.now) (λ e. Stopped (ValueAt levels) w e)
list_value zero n w rest found result r = absurd (let e : false ≡ true = found.spelled.allowed refl in cc)
list_value (suc k) n w rest found result r =
    value_result (suc k) (head.List n) w rest found result
    (subst (λ j. MatchResult result (λ p. Found (ListAt j n) p.0 rest p.1.now) (λ e. Stopped (ListAt j n) rest e)) (less_one k) r)

pub map_value : (levels n : ℕ) (w rest : List ℕ) → Found (HeadAt (nests levels)) (head.Map n) w rest → (result : Result (Value × Bor (List ℕ)) Stop)
    → MatchResult result (λ p. Found (MapAt (levels - 1) n) p.0 rest p.1.now) (λ e. Stopped (MapAt (levels - 1) n) rest e)
    → MatchResult result (λ p. Found (ValueAt levels) p.0 w p.1.now) (λ e. Stopped (ValueAt levels) w e)
map_value zero n w rest found result r = absurd (let e : false ≡ true = found.spelled.allowed refl in cc)
map_value (suc k) n w rest found result r =
    value_result (suc k) (head.Map n) w rest found result
    (subst (λ j. MatchResult result (λ p. Found (MapAt j n) p.0 rest p.1.now) (λ e. Stopped (MapAt j n) rest e)) (less_one k) r)

pub no_nest : (h : Head) → ((n : ℕ) → h ≡ head.List n → ⊥) → ((n : ℕ) → h ≡ head.Map n → ⊥) → is_nest_head h ≡ false
no_nest (head.Nil) l m = refl
no_nest (head.Bool b) l m = refl
no_nest (head.Int n) l m = refl
no_nest (head.Str n) l m = refl
no_nest (head.Sym n) l m = refl
no_nest (head.List n) l m = absurd (l n refl)
no_nest (head.Map n) l m = absurd (m n refl)

pub scalar_value : (levels : ℕ) (h : Head) (w rest : List ℕ) → is_nest_head h ≡ false → Found (HeadAt (nests levels)) h w rest → (result : Result (Value × Bor (List ℕ)) Stop)
    → MatchResult result (λ p. Found (ScalarAt h) p.0 rest p.1.now) (λ e. Stopped (ScalarAt h) rest e)
    → MatchResult result (λ p. Found (ValueAt levels) p.0 w p.1.now) (λ e. Stopped (ValueAt levels) w e)
scalar_value zero h w rest n found result r = value_result zero h w rest found result r
scalar_value (suc k) (head.Nil) w rest n found result r = value_result (suc k) head.Nil w rest found result r
scalar_value (suc k) (head.Bool b) w rest n found result r = value_result (suc k) (head.Bool b) w rest found result r
scalar_value (suc k) (head.Int z) w rest n found result r = value_result (suc k) (head.Int z) w rest found result r
scalar_value (suc k) (head.Str m) w rest n found result r = value_result (suc k) (head.Str m) w rest found result r
scalar_value (suc k) (head.Sym m) w rest n found result r = value_result (suc k) (head.Sym m) w rest found result r
scalar_value (suc k) (head.List m) w rest n found result r = absurd (let e : true ≡ false = n in cc)
scalar_value (suc k) (head.Map m) w rest n found result r = absurd (let e : true ≡ false = n in cc)
