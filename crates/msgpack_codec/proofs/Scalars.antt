-- Scalars as chains of a head and a body.
use Rattle.std.proofs.Common.{◌≡◌, ℕ, zero, suc, ◌^◌, ◌<◌, Bool, true, false, ℤ, pos, negsuc, cond, List, [], ◌∷◌, ◌++◌, length, refl, sym, ◌∙◌, ap, subst, arith, append-nil, replicate}
use Rattle.std.proofs.lemmas.List.{length-replicate}
use Rattle.msgpack_codec.specs.declared.value.Value.{Value, out-Value}
use Rattle.msgpack_codec.specs.declared.value.Value.TheVariants as value
use Rattle.msgpack_codec.specs.declared.value.Value.TheOpen.{Value-F}
use Rattle.msgpack_codec.specs.declared.heads.Head.{Head}
use Rattle.msgpack_codec.specs.declared.heads.Head.TheVariants as head
use Rattle.msgpack_codec.specs.Message.{spelling_of, IsScalar, IsBytes}
use Rattle.msgpack_codec.specs.Heads.{HeadAt, IsHead, head_bytes, is_nest_head}
use Rattle.msgpack_codec.specs.Values.{ScalarAt, AreBytes, IsSpelledScalar}
use Rattle.msgpack_codec.proofs.Chains.{IsPrefixFree}
use Rattle.msgpack_codec.proofs.Equations.{out-Nil, out-Bool, out-Int, out-Str, out-Sym, is-Nil, is-Bool, is-Int, is-Str, is-Sym, spelling-Nil, spelling-Bool, spelling-pos, spelling-negsuc, spelling-Str, spelling-Sym}

pub int_spelling : (n : ℤ) → spelling_of (value.Int n) ≡ head_bytes (head.Int n)
int_spelling (pos n) = spelling-pos n
int_spelling (negsuc n) = spelling-negsuc n

pub join_scalar : (h : Head) (v : Value) (s t : List ℕ) → IsHead h → s ≡ head_bytes h → ScalarAt h v t → IsSpelledScalar v (s ++ t)
join_scalar (head.Nil) v s t fits is (e, none) = record {
  fits = subst (λ w. IsScalar (out-Value w)) (sym e) (subst IsScalar (sym out-Nil) tt);
  bytes_are = ap (λ k. k ++ t) is ∙ ap (λ k. (0xc0 ∷ []) ++ k) none ∙ sym spelling-Nil ∙ ap spelling_of (sym e);
}
join_scalar (head.Bool b) v s t fits is (e, none) = record {
  fits = subst (λ w. IsScalar (out-Value w)) (sym e) (subst IsScalar (sym (out-Bool b)) tt);
  bytes_are = ap (λ k. k ++ t) is ∙ ap (λ k. (cond b 0xc3 0xc2 ∷ []) ++ k) none ∙ sym (spelling-Bool b) ∙ ap spelling_of (sym e);
}
join_scalar (head.Int n) v s t fits is (e, none) = record {
  fits = subst (λ w. IsScalar (out-Value w)) (sym e) (subst IsScalar (sym (out-Int n)) fits);
  bytes_are = ap (λ k. k ++ t) is ∙ ap (λ k. head_bytes (head.Int n) ++ k) none ∙ append-nil (head_bytes (head.Int n)) ∙ sym (int_spelling n) ∙ ap spelling_of (sym e);
}
join_scalar (head.Str n) v s t fits is (text, bytes, e) = record {
  fits = subst (λ w. IsScalar (out-Value w)) (sym e) (subst IsScalar (sym (out-Str text)) (subst (λ k. k < 2 ^ 32) (sym bytes.count) fits, bytes.small));
  bytes_are = ap (λ k. k ++ t) is ∙ ap (λ k. head_bytes (head.Str n) ++ k) bytes.bytes_are ∙ ap (λ k. head_bytes (head.Str k) ++ text) (sym bytes.count) ∙ sym (spelling-Str text) ∙ ap spelling_of (sym e);
}
join_scalar (head.Sym n) v s t fits is (text, rest, bytes, e, zero_first) = record {
  fits = subst (λ w. IsScalar (out-Value w)) (sym e) (subst IsScalar (sym (out-Sym text)) (subst (λ k. k < 2 ^ 32) (sym bytes.count) fits, bytes.small));
  bytes_are = ap (λ k. k ++ t) is ∙ ap (λ k. head_bytes (head.Sym n) ++ k) zero_first ∙ ap (λ k. head_bytes (head.Sym n) ++ 0 ∷ k) bytes.bytes_are ∙ ap (λ k. head_bytes (head.Sym k) ++ 0 ∷ text) (sym bytes.count) ∙ sym (spelling-Sym text) ∙ ap spelling_of (sym e);
}
join_scalar (head.List n) v s t fits is no_body = absurd no_body
join_scalar (head.Map n) v s t fits is no_body = absurd no_body

-- the parts of a scalar's spelling
pub record ScalarSplit (nests : Bool) (v : Value) : Type 0 where
  pub part : Head
  pub front : List ℕ
  pub rest : List ℕ
  pub at : HeadAt nests part front
  pub body : ScalarAt part v rest
  pub whole : spelling_of v ≡ front ++ rest

no_nest : (nests : Bool) → false ≡ true → nests ≡ true
no_nest nests e = absurd (let f : false ≡ true = e in cc)

split_layer : (nests : Bool) (v : Value) (l : Value-F Value) → out-Value v ≡ l → IsScalar l → ScalarSplit nests v
split_layer nests v (Value-F.Nil) e fits =
    let is = is-Nil v e in
    record { part = head.Nil; front = 0xc0 ∷ []; rest = []; at = record { fits = tt; allowed = no_nest nests; bytes_are = refl }; body = (is, refl); whole = ap spelling_of is ∙ spelling-Nil }
split_layer nests v (Value-F.Bool b) e fits =
    let is = is-Bool v b e in
    record { part = head.Bool b; front = cond b 0xc3 0xc2 ∷ []; rest = []; at = record { fits = tt; allowed = no_nest nests; bytes_are = refl }; body = (is, refl); whole = ap spelling_of is ∙ spelling-Bool b }
split_layer nests v (Value-F.Int n) e fits =
    let is = is-Int v n e in
    record { part = head.Int n; front = head_bytes (head.Int n); rest = []; at = record { fits = fits; allowed = no_nest nests; bytes_are = refl }; body = (is, refl); whole = ap spelling_of is ∙ int_spelling n ∙ sym (append-nil (head_bytes (head.Int n))) }
split_layer nests v (Value-F.Str t) e fits =
    let is = is-Str v t e in
    record { part = head.Str (length t); front = head_bytes (head.Str (length t)); rest = t; at = record { fits = fits.0; allowed = no_nest nests; bytes_are = refl }; body = (t, record { count = refl; small = fits.1; bytes_are = refl }, is); whole = ap spelling_of is ∙ spelling-Str t }
split_layer nests v (Value-F.Sym t) e fits =
    let is = is-Sym v t e in
    record { part = head.Sym (length t); front = head_bytes (head.Sym (length t)); rest = 0 ∷ t; at = record { fits = fits.0; allowed = no_nest nests; bytes_are = refl }; body = (t, t, record { count = refl; small = fits.1; bytes_are = refl }, is, refl); whole = ap spelling_of is ∙ spelling-Sym t }
split_layer nests v (Value-F.List all) e fits = absurd fits
split_layer nests v (Value-F.Map all) e fits = absurd fits

pub split_scalar : (nests : Bool) (v : Value) → IsScalar (out-Value v) → ScalarSplit nests v
split_scalar nests v fits = split_layer nests v (out-Value v) refl fits

zeros_fit : (n : ℕ) → IsBytes (replicate n 0)
zeros_fit zero = tt
zeros_fit (suc n) = (omega arith, zeros_fit n)

-- there is a body
pub some_scalar : (h : Head) → is_nest_head h ≡ false → (v : Value) × (t : List ℕ) × ScalarAt h v t
some_scalar (head.Nil) e = (value.Nil, [], (refl, refl))
some_scalar (head.Bool b) e = (value.Bool b, [], (refl, refl))
some_scalar (head.Int n) e = (value.Int n, [], (refl, refl))
some_scalar (head.Str n) e = (value.Str (replicate n 0), replicate n 0, (replicate n 0, record { count = length-replicate n 0; small = zeros_fit n; bytes_are = refl }, refl))
some_scalar (head.Sym n) e = (value.Sym (replicate n 0), 0 ∷ replicate n 0, (replicate n 0, replicate n 0, record { count = length-replicate n 0; small = zeros_fit n; bytes_are = refl }, refl, refl))
some_scalar (head.List n) e = absurd (let f : true ≡ false = e in cc)
some_scalar (head.Map n) e = absurd (let f : true ≡ false = e in cc)

-- lists of one length that begin one list are the same
pub same_front : (s a t b : List ℕ) → s ++ a ≡ t ++ b → length s ≡ length t → s ≡ t
same_front [] a [] b h e = refl
same_front [] a (y ∷ t) b h e = absurd (omega arith)
same_front (x ∷ s) a [] b h e = absurd (omega arith)
same_front (x ∷ s) a (y ∷ t) b h e =
    let one : x ≡ y = cc in
    let more : s ++ a ≡ t ++ b = cc in
    let rest : s ≡ t = same_front s a t b more (omega arith) in
    cc

pub bytes_free : (n : ℕ) → IsPrefixFree (AreBytes n)
bytes_free n = record {
  same = λ x y s t a b h k e.
      let whole : x ++ a ≡ y ++ b = ap (λ v. v ++ a) (sym h.bytes_are) ∙ e ∙ ap (λ v. v ++ b) k.bytes_are in
      let same : x ≡ y = same_front x a y b whole (h.count ∙ sym k.count) in
      (same, h.bytes_are ∙ same ∙ sym k.bytes_are);
}

pub scalar_body_free : (h : Head) → IsPrefixFree (ScalarAt h)
scalar_body_free (head.Nil) = record { same = λ x y s t a b (e1, n1) (e2, n2) e. (e1 ∙ sym e2, n1 ∙ sym n2) }
scalar_body_free (head.Bool c) = record { same = λ x y s t a b (e1, n1) (e2, n2) e. (e1 ∙ sym e2, n1 ∙ sym n2) }
scalar_body_free (head.Int n) = record { same = λ x y s t a b (e1, n1) (e2, n2) e. (e1 ∙ sym e2, n1 ∙ sym n2) }
scalar_body_free (head.Str n) = record {
  same = λ x y s t a b (t1, h1, e1) (t2, h2, e2) e.
      let one = (bytes_free n).same t1 t2 s t a b h1 h2 e in
      (e1 ∙ ap value.Str one.0 ∙ sym e2, one.1);
}
scalar_body_free (head.Sym n) = record {
  same = λ x y s t a b (t1, r1, h1, e1, z1) (t2, r2, h2, e2, z2) e.
      let whole : 0 ∷ (r1 ++ a) ≡ 0 ∷ (r2 ++ b) = ap (λ v. v ++ a) (sym z1) ∙ e ∙ ap (λ v. v ++ b) z2 in
      let rest : r1 ++ a ≡ r2 ++ b = cc in
      let one = (bytes_free n).same t1 t2 r1 r2 a b h1 h2 rest in
      (e1 ∙ ap value.Sym one.0 ∙ sym e2, z1 ∙ ap (λ v. 0 ∷ v) one.1 ∙ sym z2);
}
scalar_body_free (head.List n) = record { same = λ x y s t a b h1 h2 e. absurd h1 }
scalar_body_free (head.Map n) = record { same = λ x y s t a b h1 h2 e. absurd h1 }
