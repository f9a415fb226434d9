use Rattle.std.specs.Prelude.{◌≡◌, ℕ, ◌+◌, ◌-◌, ◌^◌, ◌<◌, ◌≤◌, min, Option, None, Some, List, ◌++◌, length, map, slice_index}
use Rattle.std.specs.List.{Contains}

-- A list that an object tells, after these items came too. An object that tells nothing goes on telling nothing.
abbrev pub added : {A : Type 0} → Option (List A) → List A → Option (List A)
added None more = None
added (Some before) more = Some (before ++ more)

-- What an object told before it gave these items away.
abbrev pub put_before : {A : Type 0} → List A → Option (List A) → Option (List A)
put_before items None = None
put_before items (Some rest) = Some (items ++ rest)

-- Of all, what stands before rest has come: now is before with that at its end.
pub record Owes {A : Type 0} (before now : Option (List A)) (all rest : List A) : Type 0 where
  pub came : List A
  pub split : came ++ rest ≡ all
  pub told : now ≡ added before came

-- Some prefix of all has come, and nothing else.
pub record AddsPrefix {A : Type 0} (before now : Option (List A)) (all : List A) : Type 0 where
  pub rest : List A
  pub owes : Owes before now all rest

-- A count of faults rose. A counter of 64 bits that stands at its last value stays there.
abbrev pub Rose : ℕ → ℕ → Type 0
Rose before now = min (before + 1) (2 ^ 64 - 1) ≤ now

-- One item's count of faults rose.
abbrev pub SomeRose : {A : Type 0} → (A → ℕ) → List A → List A → Type 0
SomeRose faults before now = (k : ℕ) × (k < length before) × Rose (slice_index (map faults before) k) (slice_index (map faults now) k)

-- Of the items that tell, all tell the same.
abbrev pub TellOne : {A B : Type 0} → (A → Option B) → List A → Type 0
TellOne {A} {B} told items = (a b : A) (x y : B) → Contains items a → Contains items b → told a ≡ Some x → told b ≡ Some y → x ≡ y
