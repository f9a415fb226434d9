use Rattle.std.specs.Prelude.{◌≡◌, ℕ, ◌+◌, ◌^◌, Bool, true, false, ◌&&◌, ◌==◌, nat_le, nat_lt, List, count_by, Result, OnOk, IsErrOf, if◌then◌else◌}
use Rattle.std.specs.List.{list_any}
use Rattle.bs_outside.specs.declared.faults.ShelfFault.{ShelfFault}
use Rattle.bs_outside.specs.declared.faults.ShelfFault.TheVariants as fault

-- The numbers of the calls that fail, counted from 1, and how many calls were made so far.
pub record Schedule : Type 0 where
  pub fail : List ℕ
  pub calls : ℕ

-- The number of the next call. A call past the last number of 64 bits has none, and the count stays.
abbrev pub number_after : ℕ → ℕ
number_after calls = if nat_lt (calls + 1) (2 ^ 64) then calls + 1 else calls

-- The next call's number stands in the list.
abbrev pub fails_next : Schedule → Bool
fails_next s = nat_lt (s.calls + 1) (2 ^ 64) && list_any (λ k. k == (s.calls + 1)) s.fail

-- One call more was made.
abbrev pub called : Schedule → Schedule
called s = record s { calls = number_after s.calls }

-- the calls that failed
abbrev pub faults_of : Schedule → ℕ
faults_of s = count_by (λ k. nat_le k s.calls) s.fail

-- A call of a shelf answers Failed only where the script fails it, and Ok only where it does not.
pub record IsScripted {T : Type 0} (fails : Bool) (result : Result T ShelfFault) : Type 0 where
  pub only : IsErrOf result fault.Failed → fails ≡ true
  pub ever : OnOk result (fails ≡ false)
