-- What a throw may be, in a sequence of this kind, at a place that an ensure row holds or none does.
use Rattle.std.specs.Prelude.{◌≡◌, ◌⊎◌, ◌≤◌, ℕ, Bool, IsTrue, ⊤}
use Rattle.iseq_types.specs.declared.sequences.SeqKind.{SeqKind}
use Rattle.iseq_types.specs.declared.sequences.SeqKind as kinds
use Rattle.iseq_types.specs.declared.instructions.Instr.{Instr}
use Rattle.iseq_types.specs.declared.instructions.Instr.TheVariants.{Throw}

-- a throw of this number
pub record IsRightNumber (kind : SeqKind) (ensured : Bool) (n : ℕ) : Type 0 where
  pub number : n ≤ 7
  pub pending : (n ≡ 0) ⊎ (n ≡ 7) → (kind ≡ kinds.TheVariants.Rescue) ⊎ (kind ≡ kinds.TheVariants.Ensure)
  pub held : n ≡ 6 → IsTrue ensured

abbrev pub IsRightThrow : SeqKind → Bool → Instr → Type 0
IsRightThrow kind ensured (Throw n) = IsRightNumber kind ensured n
IsRightThrow kind ensured _ = ⊤
