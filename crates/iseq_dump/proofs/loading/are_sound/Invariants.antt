use Rattle.std.proofs.Common.{◌≡◌, ◌<◌, ℕ, Some}
use Rattle.std.specs.Prelude.{slice_get}
use Rattle.iseq_types.specs.Sound.{IsSound}
use Rattle.iseq_types.specs.declared.sequences.Sequence.{Sequence}
use Rattle.iseq_dump.proofs.loading.are_sound.Given as goal

abbrev pub invariant-loop-id : goal.invariant-loop-id
invariant-loop-id l = (k : ℕ) (body : Sequence) → k < l.id → slice_get l.bodies k ≡ Some body → IsSound body l.rows k
