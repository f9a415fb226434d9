use Rattle.std.proofs.Common.{◌≡◌, ℕ, ◌+◌, ◌-◌, ◌≤◌, Bool, true, false, not, ◌&&◌, ◌==◌, nat_le, if◌then◌else◌, List, length, take, Option, Some, None, refl, sym, ◌∙◌, ap, arith, inl, inr}
use Rattle.std.proofs.lemmas.Bool.{le-leb, eq-eqb, ne_eqb, cases_eq, eqb-true}
use Rattle.bs_outside.specs.declared.trees.Stat.{Stat}
use Rattle.cache_key.specs.Key.{key_version, size_in, mtime_in, data_size_in, digest_in, number_at, has_constants, is_entry}
use Rattle.cache_key.specs.Event.{is_digest, event_of_bytes, IsEntryOfSize}
use Rattle.cache_key.specs.declared.events.Event.{Event}
use Rattle.cache_key.specs.declared.events.Event.TheVariants.{Hit, Stale, Revalidated}
use Rattle.cache_key.proofs.KeyLemmas.{number_at-take, has_constants-take}

-- two tests that ask the same
same_test : (a b c d : ℕ) → (a ≡ b → c ≡ d) → (c ≡ d → a ≡ b) → (a == b) ≡ (c == d)
same_test a b c d to from = elim (cases_eq a b) [
  | inl e ↦ eq-eqb a b e ∙ sym (eq-eqb c d (to e))
  | inr ne ↦ ne_eqb a b ne ∙ sym (ne_eqb c d (λ e. ne (from e)))
]

-- a number of a key is that of the bytes
pub number_is : (place number : ℕ) (key bytes : List ℕ) → place + 8 ≤ 64 → key ≡ take 64 bytes → number ≡ number_at place key → number ≡ number_at place bytes
number_is place number key bytes within key_is is = is ∙ ap (number_at place) key_is ∙ number_at-take place 64 bytes within

pub equal : (a b c : ℕ) → a ≡ c → a ≡ b → true ≡ (c == b)
equal a b c is e = sym (eq-eqb c b (sym is ∙ e))

pub unequal : (a b c : ℕ) → a ≡ c → (a ≡ b → ⊥) → false ≡ (c == b)
unequal a b c is ne = sym (ne_eqb c b (λ e. ne (is ∙ e)))

-- of 64 bytes and more, the length and the first 64 bytes decide
pub is_entry-cut : (version len number : ℕ) (constants : Bool) (key bytes : List ℕ) → key ≡ take 64 bytes → len ≡ length bytes → 64 ≤ len
    → number ≡ data_size_in key → constants ≡ has_constants version key → (len - 64 == number) && constants ≡ is_entry version bytes
is_entry-cut version len number constants key bytes key_is len_is long number_is constants_is =
    let said : number ≡ data_size_in bytes = number_is ∙ ap data_size_in key_is ∙ number_at-take 32 64 bytes (omega arith) in
    let same : constants ≡ has_constants version bytes = constants_is ∙ ap (has_constants version) key_is ∙ has_constants-take version bytes in
    let enough : nat_le 64 (length bytes) ≡ true = le-leb 64 (length bytes) (omega arith) in
    let counted : (len - 64 == number) ≡ (length bytes == 64 + data_size_in bytes) =
    same_test (len - 64) number (length bytes) (64 + data_size_in bytes) (λ e. omega arith) (λ e. omega arith) in
    rw (enough, counted, same) refl

-- the event by the answers of its tests
abbrev pub event_by : Bool → Bool → Bool → Bool → Event
event_by entry same_size same_time same_digest =
    if not entry then Stale else (if same_size && same_time then Hit else (if same_size && same_digest then Revalidated else Stale))

pub event_is : (bytes : List ℕ) (stat : Stat) (digest : Option ℕ) (entry same_size same_time same_digest : Bool) → entry ≡ is_entry key_version bytes
    → same_size ≡ (size_in bytes == stat.size) → same_time ≡ (mtime_in bytes == stat.mtime) → same_digest ≡ is_digest digest (digest_in bytes)
    → event_by entry same_size same_time same_digest ≡ event_of_bytes bytes stat digest
event_is bytes stat digest entry same_size same_time same_digest a b c d = rw (a, b, c, d) refl

by_hit : (e s t d : Bool) → event_by e s t d ≡ Hit → (e ≡ true) × (s ≡ true) × (t ≡ true)
by_hit false s t d is = absurd cc
by_hit true false t d is = absurd cc
by_hit true true true d is = (refl, refl, refl)
by_hit true true false true is = absurd cc
by_hit true true false false is = absurd cc

by_revalidated : (e s t d : Bool) → event_by e s t d ≡ Revalidated → (e ≡ true) × (s ≡ true) × (d ≡ true)
by_revalidated false s t d is = absurd cc
by_revalidated true false t d is = absurd cc
by_revalidated true true true d is = absurd cc
by_revalidated true true false true is = (refl, refl, refl)
by_revalidated true true false false is = absurd cc

-- a hit is an entry of the file's size and time
pub hit_says : (bytes : List ℕ) (stat : Stat) (digest : Option ℕ) → event_of_bytes bytes stat digest ≡ Hit → IsEntryOfSize bytes stat.size × (mtime_in bytes ≡ stat.mtime)
hit_says bytes stat digest is =
    let parts = by_hit (is_entry key_version bytes) (size_in bytes == stat.size) (mtime_in bytes == stat.mtime) (is_digest digest (digest_in bytes)) is in
    (record { form = parts.0; size_is = eqb-true (size_in bytes) stat.size parts.1 }, eqb-true (mtime_in bytes) stat.mtime parts.2)

given : (digest : Option ℕ) (number : ℕ) → is_digest digest number ≡ true → digest ≡ Some number
given None number is = absurd cc
given (Some digest) number is = ap Some (sym (eqb-true number digest is))

-- what is revalidated is an entry of the file's size and of the digest that was given
pub revalidated_says : (bytes : List ℕ) (stat : Stat) (digest : Option ℕ) → event_of_bytes bytes stat digest ≡ Revalidated → IsEntryOfSize bytes stat.size × (digest ≡ Some (digest_in bytes))
revalidated_says bytes stat digest is =
    let parts = by_revalidated (is_entry key_version bytes) (size_in bytes == stat.size) (mtime_in bytes == stat.mtime) (is_digest digest (digest_in bytes)) is in
    (record { form = parts.0; size_is = eqb-true (size_in bytes) stat.size parts.1 }, given digest (digest_in bytes) parts.2)

-- an entry of the file's size and time is a hit
pub is_hit : (bytes : List ℕ) (stat : Stat) (digest : Option ℕ) → IsEntryOfSize bytes stat.size → mtime_in bytes ≡ stat.mtime → event_of_bytes bytes stat digest ≡ Hit
is_hit bytes stat digest entry time =
    sym (event_is bytes stat digest true true true (is_digest digest (digest_in bytes)) (sym entry.form) (sym (eq-eqb (size_in bytes) stat.size entry.size_is)) (sym (eq-eqb (mtime_in bytes) stat.mtime time)) refl)
