-- What can be asked of a value, and what is written of it.
use Rattle.std.proofs.Common.{◌≡◌, ℕ, zero, suc, ◌-◌, ◌^◌, ◌<◌, ◌≤◌, Bool, ℤ, pos, negsuc, List, [], ◌∷◌, ◌++◌, length, map, refl, sym, ◌∙◌, ap, subst, arith, FitsSigned, w64}
use Rattle.std.proofs.lemmas.Int.{ints}
use Rattle.std.proofs.lemmas.List.{length-map}
use Rattle.std.specs.List.{AllByRecursion, concat}
use Rattle.msgpack_codec.specs.declared.value.Value.{Value, out-Value}
use Rattle.msgpack_codec.specs.declared.value.Value.TheVariants as value
use Rattle.msgpack_codec.specs.declared.value.Value.TheOpen.{Value-F}
use Rattle.msgpack_codec.specs.declared.heads.Head.TheVariants as head
use Rattle.msgpack_codec.specs.Message.{spelling_of, IsSpellableScalar, IsScalar, IsBytes, IsInteger, FitsWithin, LayerFits, HasNoKeyTwice, list_head, map_head}
use Rattle.msgpack_codec.specs.Heads.{head_bytes}
use Rattle.msgpack_codec.specs.Writing.{pair_spelling_of, PairFits}
use Rattle.msgpack_codec.proofs.Equations.{out-Nil, out-Bool, out-Int, out-Str, out-Sym, out-List, out-Map, spelling-List, spelling-Map, spellings_of, pair_spelling}
use Rattle.msgpack_codec.proofs.Scalars.{int_spelling}
use Rattle.msgpack_codec.proofs.Bodies.{fits_any}

-- what is asked of a list
pub record ListAsked (levels : ℕ) (items : List Value) : Type 0 where
  pub deep : 1 ≤ levels
  pub count : length items < 2 ^ 32
  pub each : AllByRecursion (FitsWithin IsSpellableScalar (levels - 1)) items

-- what is asked of a map
pub record MapAsked (levels : ℕ) (pairs : List (Value × Value)) : Type 0 where
  pub deep : 1 ≤ levels
  pub count : length pairs < 2 ^ 32
  pub once : HasNoKeyTwice pairs
  pub each : AllByRecursion (PairFits IsSpellableScalar (levels - 1)) pairs

less_one : (n : ℕ) → n ≡ suc n - 1
less_one n = omega arith

pub list_asked : (levels : ℕ) (items : List Value) → FitsWithin IsSpellableScalar levels (value.List items) → ListAsked levels items
unfolding FitsWithin
list_asked zero items h = absurd (subst IsSpellableScalar (out-List items) h)
list_asked (suc n) items h =
    let (count, each) = subst (LayerFits IsSpellableScalar (FitsWithin IsSpellableScalar n)) (out-List items) h in
    record { deep = omega arith; count = count; each = subst (λ k. AllByRecursion (FitsWithin IsSpellableScalar k) items) (less_one n) each }

pub map_asked : (levels : ℕ) (pairs : List (Value × Value)) → FitsWithin IsSpellableScalar levels (value.Map pairs) → MapAsked levels pairs
unfolding FitsWithin
map_asked zero pairs h = absurd (subst IsSpellableScalar (out-Map pairs) h)
map_asked (suc n) pairs h =
    let (count, once, each) = subst (LayerFits IsSpellableScalar (FitsWithin IsSpellableScalar n)) (out-Map pairs) h in
    record { deep = omega arith; count = count; once = once; each = subst (λ k. AllByRecursion (PairFits IsSpellableScalar k) pairs) (less_one n) each }

pub str_asked : (levels : ℕ) (text : List ℕ) → FitsWithin IsSpellableScalar levels (value.Str text) → length text < 2 ^ 32
unfolding FitsWithin
str_asked zero text h = subst IsSpellableScalar (out-Str text) h
str_asked (suc n) text h = subst (LayerFits IsSpellableScalar (FitsWithin IsSpellableScalar n)) (out-Str text) h

pub sym_asked : (levels : ℕ) (name : List ℕ) → FitsWithin IsSpellableScalar levels (value.Sym name) → length name < 2 ^ 32
unfolding FitsWithin
sym_asked zero name h = subst IsSpellableScalar (out-Sym name) h
sym_asked (suc n) name h = subst (LayerFits IsSpellableScalar (FitsWithin IsSpellableScalar n)) (out-Sym name) h

pub nil_ranges : (levels : ℕ) → FitsWithin IsScalar levels value.Nil
nil_ranges levels = fits_any levels value.Nil (subst IsScalar (sym out-Nil) tt)

pub bool_ranges : (levels : ℕ) (b : Bool) → FitsWithin IsScalar levels (value.Bool b)
bool_ranges levels b = fits_any levels (value.Bool b) (subst IsScalar (sym (out-Bool b)) tt)

integer_of : (n : ℤ) → FitsSigned w64 n → IsInteger n
integer_of (pos n) h = omega (arith, ints)
integer_of (negsuc n) h = omega (arith, ints)

pub int_ranges : (levels : ℕ) (n : ℤ) → FitsSigned w64 n → FitsWithin IsScalar levels (value.Int n)
int_ranges levels n h = fits_any levels (value.Int n) (subst IsScalar (sym (out-Int n)) (integer_of n h))

pub str_ranges : (levels : ℕ) (text : List ℕ) → length text < 2 ^ 32 → IsBytes text → FitsWithin IsScalar levels (value.Str text)
str_ranges levels text h k = fits_any levels (value.Str text) (subst IsScalar (sym (out-Str text)) (h, k))

pub sym_ranges : (levels : ℕ) (name : List ℕ) → length name < 2 ^ 32 → IsBytes name → FitsWithin IsScalar levels (value.Sym name)
sym_ranges levels name h k = fits_any levels (value.Sym name) (subst IsScalar (sym (out-Sym name)) (h, k))

pub list_ranges : (levels : ℕ) (items : List Value) → ListAsked levels items → AllByRecursion (FitsWithin IsScalar (levels - 1)) items → FitsWithin IsScalar levels (value.List items)
unfolding FitsWithin
list_ranges zero items asked each = absurd (let h : 1 ≤ 0 = asked.deep in omega arith)
list_ranges (suc n) items asked each =
    subst (LayerFits IsScalar (FitsWithin IsScalar n)) (sym (out-List items)) (asked.count, subst (λ k. AllByRecursion (FitsWithin IsScalar k) items) (sym (less_one n)) each)

pub map_ranges : (levels : ℕ) (pairs : List (Value × Value)) → MapAsked levels pairs → AllByRecursion (PairFits IsScalar (levels - 1)) pairs → FitsWithin IsScalar levels (value.Map pairs)
unfolding FitsWithin
map_ranges zero pairs asked each = absurd (let h : 1 ≤ 0 = asked.deep in omega arith)
map_ranges (suc n) pairs asked each =
    subst (LayerFits IsScalar (FitsWithin IsScalar n)) (sym (out-Map pairs)) (asked.count, asked.once, subst (λ k. AllByRecursion (PairFits IsScalar k) pairs) (sym (less_one n)) each)

-- what is written
pub int_written : (n : ℤ) → spelling_of (value.Int n) ≡ head_bytes (head.Int n)
int_written n = int_spelling n

pub list_written : (items : List Value) → spelling_of (value.List items) ≡ list_head (length items) ++ concat (map spelling_of items)
list_written items = spelling-List items ∙ ap (λ n. list_head n ++ concat (map spelling_of items)) (length-map items spelling_of)

pairs_written : (pairs : List (Value × Value)) → concat (map pair_spelling (map spellings_of pairs)) ≡ concat (map pair_spelling_of pairs)
pairs_written [] = refl
pairs_written (p ∷ pairs) = ap (λ k. pair_spelling_of p ++ k) (pairs_written pairs)

pub map_written : (pairs : List (Value × Value)) → spelling_of (value.Map pairs) ≡ map_head (length pairs) ++ concat (map pair_spelling_of pairs)
map_written pairs = spelling-Map pairs ∙ ap (λ n. map_head n ++ concat (map pair_spelling (map spellings_of pairs))) (length-map pairs spellings_of) ∙ ap (λ k. map_head (length pairs) ++ k) (pairs_written pairs)

-- what was read can be written
scalar_spellable : (l : Value-F Value) → IsScalar l → IsSpellableScalar l
scalar_spellable (Value-F.Nil) h = tt
scalar_spellable (Value-F.Bool b) h = tt
scalar_spellable (Value-F.Int n) h = tt
scalar_spellable (Value-F.Str text) h = h.0
scalar_spellable (Value-F.Sym name) h = h.0
scalar_spellable (Value-F.List all) h = absurd h
scalar_spellable (Value-F.Map all) h = absurd h

all_weaker : {X : Type 0} (P Q : X → Type 0) → ((x : X) → P x → Q x) → (xs : List X) → AllByRecursion P xs → AllByRecursion Q xs
all_weaker P Q f [] h = tt
all_weaker P Q f (x ∷ xs) (h, hs) = (f x h, all_weaker P Q f xs hs)

layer_spellable : (P Q : Value → Type 0) → ((v : Value) → P v → Q v) → (l : Value-F Value) → LayerFits IsScalar P l → LayerFits IsSpellableScalar Q l
layer_spellable P Q f (Value-F.Nil) h = tt
layer_spellable P Q f (Value-F.Bool b) h = tt
layer_spellable P Q f (Value-F.Int n) h = tt
layer_spellable P Q f (Value-F.Str text) h = h.0
layer_spellable P Q f (Value-F.Sym name) h = h.0
layer_spellable P Q f (Value-F.List all) (count, each) = (count, all_weaker P Q f all each)
layer_spellable P Q f (Value-F.Map all) (count, once, each) =
    (count, once, all_weaker (λ p. IsScalar (out-Value p.0) × P p.1) (λ p. IsSpellableScalar (out-Value p.0) × Q p.1) (λ p h. (scalar_spellable (out-Value p.0) h.0, f p.1 h.1)) all each)

pub spellable : (levels : ℕ) (v : Value) → FitsWithin IsScalar levels v → FitsWithin IsSpellableScalar levels v
unfolding FitsWithin
spellable zero v h = scalar_spellable (out-Value v) h
spellable (suc n) v h = layer_spellable (FitsWithin IsScalar n) (FitsWithin IsSpellableScalar n) (spellable n) (out-Value v) h
