-- What the public readers answer.
use Rattle.std.proofs.Common.{◌≡◌, ℕ, zero, suc, ◌+◌, ◌<◌, ◌≤◌, List, [], ◌∷◌, length, get_or, inl, inr, Option, Some, None, Result, Ok, Err, refl, sym, ap, subst, ◌∙◌, arith}
use Rattle.std.specs.Prelude.{IfOk, IfSome, IfNone, OnSome, IsErr, slice_get, is_some, Bool, true, false, IsTrue}
use Rattle.std.specs.List.{AllByRecursion}
use Rattle.std.specs.declared.alloc.AllocError.{AllocError}
use Rattle.iseq_types.specs.declared.sequences.Sequence.{Sequence}
use Rattle.iseq_dump.specs.declared.fault.ReadError.{ReadError}
use Rattle.iseq_dump.specs.declared.fault.ReadError.TheVariants.{Memory, NotSpelled}
use Rattle.iseq_types.specs.declared.sequences.IndexRow.{IndexRow}
use Rattle.iseq_types.specs.declared.sequences.Unit.{Unit as CompiledUnit}
use Rattle.iseq_types.specs.declared.sequences.CatchRow.{CatchRow}
use Rattle.iseq_types.specs.Sound.{IsSound}
use Rattle.std.proofs.lemmas.Bool.{cases_lt}
use Rattle.std.proofs.lemmas.Option.{slice_get_within}
use Rattle.iseq_dump.specs.Dump.{Reads, IsRow, IsAllowedRow, IsBody, IsAllowedBody, body_bytes, CanBeDumped, Spells, HasSoundBodies}
use Rattle.iseq_dump.specs.Reading.{Finds, ReadsIt, IsIt, Turns, whole_at, body_at}
use Rattle.iseq_dump.proofs.Exact.{some_is}
use Rattle.iseq_dump.proofs.Units.{whole_takes, whole_again, same_unit}

no_answer : {X : Type 0} (P : Option X → Type 0) (answer : Result (Option X) AllocError) → IsErr answer → IfOk answer P
no_answer P (Ok x) e = absurd cc
no_answer P (Err x) e = tt

none_is : {X : Type 0} (x : X) → None ≡ Some x → ⊥
none_is x e = cc

pub part_answer : {X : Type 0} (F : X → Type 0) (f : X → List ℕ) (read : Result X ReadError) (answer : Result (Option X) AllocError) (old new : List ℕ) → Turns read answer → ReadsIt F f old read new → IfOk answer (λ r. (rest : List ℕ) × Reads F f old r rest)
part_answer F f (Ok x) answer old new t h = rw t (new, h)
part_answer F f (Err Memory) answer old new t h = no_answer (λ r. (rest : List ℕ) × Reads F f old r rest) answer t
part_answer F f (Err NotSpelled) answer old new t h = rw t (new, h)

pub body_found : (read : Result Sequence ReadError) (answer : Result (Option Sequence) AllocError) (bytes : List ℕ) → Turns read answer → Finds read (whole_at body_at bytes) → IfOk answer (λ r. IfSome r (λ body. IsBody body × (bytes ≡ body_bytes body)))
body_found (Ok x) answer bytes t h = let is = whole_takes bytes x h in rw t (is.1, is.0)
body_found (Err Memory) answer bytes t h = no_answer (λ r. IfSome r (λ body. IsBody body × (bytes ≡ body_bytes body))) answer t
body_found (Err NotSpelled) answer bytes t h = rw t tt

pub body_none : (read : Result Sequence ReadError) (answer : Result (Option Sequence) AllocError) (bytes : List ℕ) (size : ℕ) → Turns read answer → Finds read (whole_at body_at bytes) → IfOk answer (λ r. IfNone r ((body : Sequence) → IsBody body → length (body_bytes body) ≡ size → bytes ≡ body_bytes body → ⊥))
body_none (Ok x) answer bytes size t h = rw t tt
body_none (Err Memory) answer bytes size t h = no_answer (λ r. IfNone r ((body : Sequence) → IsBody body → length (body_bytes body) ≡ size → bytes ≡ body_bytes body → ⊥)) answer t
body_none (Err NotSpelled) answer bytes size t h = rw t (λ body fits len e. none_is body (sym h ∙ (ap (whole_at body_at) e ∙ whole_again body fits)))

pub unit_found : (read : Result CompiledUnit ReadError) (answer : Result (Option CompiledUnit) AllocError) (bytes : List ℕ) → Turns read answer → IsIt (λ u. Spells u bytes × HasSoundBodies u) read → IfOk answer (λ r. IfSome r (λ u. Spells u bytes × HasSoundBodies u))
unit_found (Ok x) answer bytes t h = rw t h
unit_found (Err Memory) answer bytes t h = no_answer (λ r. IfSome r (λ u. Spells u bytes × HasSoundBodies u)) answer t
unit_found (Err NotSpelled) answer bytes t h = rw t tt

pub unit_none : (read : Result CompiledUnit ReadError) (answer : Result (Option CompiledUnit) AllocError) (bytes : List ℕ) → Turns read answer → IsIt (λ u. Spells u bytes × HasSoundBodies u) read → IfOk answer (λ r. IfNone r ((u : CompiledUnit) → Spells u bytes → HasSoundBodies u → ⊥))
unit_none (Ok x) answer bytes t h = rw t tt
unit_none (Err Memory) answer bytes t h = no_answer (λ r. IfNone r ((u : CompiledUnit) → Spells u bytes → HasSoundBodies u → ⊥)) answer t
unit_none (Err NotSpelled) answer bytes t h = rw t (λ u s sound. h u (s, sound))

pub sound_fails : (e : ReadError) (bytes : List ℕ) → IsIt {X = CompiledUnit} (λ u. Spells u bytes) (Err e) → IsIt {X = CompiledUnit} (λ u. Spells u bytes × HasSoundBodies u) (Err e)
sound_fails Memory bytes h = tt
sound_fails NotSpelled bytes h = λ u s. h u s.0

-- an unsound unit is the only one that the bytes spell
pub unsound : (u : CompiledUnit) (bytes : List ℕ) → Spells u bytes → (HasSoundBodies u → ⊥) → (v : CompiledUnit) → Spells v bytes × HasSoundBodies v → ⊥
unsound u bytes s refused v h = refused (subst HasSoundBodies (sym (same_unit u v bytes s h.0)) h.1)

body_at_place : (bodies : List Sequence) (k : ℕ) (d : Sequence) → k < length bodies → slice_get bodies k ≡ Some (get_or bodies k d)
body_at_place [] k d lt = absurd (omega arith)
body_at_place (b ∷ bs) zero d lt = refl
body_at_place (b ∷ bs) (suc k) d lt = body_at_place bs k d (omega arith)

pub sound_more : (bodies : List Sequence) (rows : List IndexRow) (i : ℕ) (here : Sequence) → i < length bodies → here ≡ get_or bodies i here → IsSound here rows i → ((k : ℕ) (body : Sequence) → k < i → slice_get bodies k ≡ Some body → IsSound body rows k)
    → (k : ℕ) (body : Sequence) → k < i + 1 → slice_get bodies k ≡ Some body → IsSound body rows k
sound_more bodies rows i here lt is sound below k body le e =
    elim (cases_lt k i) [
      | inl less ↦ below k body less e
      | inr more ↦
          let same : i ≡ k = omega arith in
          let got : Some here ≡ Some body = ap (λ (b : Sequence). Some b) is ∙ (sym (body_at_place bodies i here lt) ∙ (ap (λ (n : ℕ). slice_get bodies n) same ∙ e)) in
          subst (λ (n : ℕ). IsSound body rows n) same (subst (λ (b : Sequence). IsSound b rows i) (some_is here body got) sound)
    ]

pub not_sound : (u : CompiledUnit) (i : ℕ) (here : Sequence) → i < length u.bodies → here ≡ get_or u.bodies i here → (IsSound here u.rows i → ⊥) → HasSoundBodies u → ⊥
not_sound u i here lt is refused sound = refused (sound i here (body_at_place u.bodies i here lt ∙ ap (λ (b : Sequence). Some b) (sym is)))

pub on_some : {T : Type 0} (o : Option T) (P : Type 0) → is_some o ≡ true → OnSome o P → P
on_some None P e h = absurd cc
on_some (Some x) P e h = h

pub all_sound : (u : CompiledUnit) (bodies : List Sequence) (rows : List IndexRow) (i : ℕ) → bodies ≡ u.bodies → rows ≡ u.rows → length bodies ≤ i → ((k : ℕ) (body : Sequence) → k < i → slice_get bodies k ≡ Some body → IsSound body rows k) → HasSoundBodies u
all_sound u bodies rows i b r le below id body e =
    let got : slice_get bodies id ≡ Some body = ap (λ (bs : List Sequence). slice_get bs id) b ∙ e in
    subst (λ (rs : List IndexRow). IsSound body rs id) r (below id body (omega (arith, slice_get_within bodies id body got)) got)

pub no_longer : (sound : Bool) (P : Type 0) → sound ≡ false → (P → IsTrue sound) → P → ⊥
no_longer sound P e f p = let t = f p in cc

-- ---- what was loaded can be dumped again

rows_allowed : (rows : List CatchRow) → AllByRecursion IsRow rows → AllByRecursion IsAllowedRow rows
rows_allowed [] fits = tt
rows_allowed (row ∷ rows) fits = (fits.0.allowed, rows_allowed rows fits.1)

bodies_allowed : (bodies : List Sequence) → AllByRecursion IsBody bodies → AllByRecursion IsAllowedBody bodies
bodies_allowed [] fits = tt
bodies_allowed (body ∷ bodies) fits = (rows_allowed body.rows fits.0.rows.1, bodies_allowed bodies fits.1)

pub can_be_dumped : (u : CompiledUnit) (bytes : List ℕ) → Spells u bytes → CanBeDumped u
can_be_dumped u bytes s = record { rows = s.rows; bodies = s.bodies; sequences = bodies_allowed u.bodies s.each }

pub unit_again : (read : Result CompiledUnit ReadError) (answer : Result (Option CompiledUnit) AllocError) (bytes : List ℕ) → Turns read answer → IsIt (λ u. Spells u bytes × HasSoundBodies u) read → IfOk answer (λ r. IfSome r CanBeDumped)
unit_again (Ok x) answer bytes t h = rw t (can_be_dumped x bytes h.0)
unit_again (Err Memory) answer bytes t h = no_answer (λ r. IfSome r CanBeDumped) answer t
unit_again (Err NotSpelled) answer bytes t h = rw t tt
