use Rattle.std.proofs.Common.{◌≡◌, ℕ, ◌<◌, Some}
use Rattle.std.specs.Prelude.{slice_get}
use Rattle.iseq_types.specs.declared.sequences.Line.{Line}
use Rattle.iseq_types.specs.declared.instructions.Instr.TheVariants.{Throw}
use Rattle.iseq_types.specs.Furthest.{IsFurthestBelow}
use Rattle.iseq_types.specs.Sound.{ThrowsRight}
use Rattle.iseq_types.proofs.throws.throws_are_right.Given as goal

abbrev pub invariant-loop-place : goal.invariant-loop-place
invariant-loop-place l = record {
  furthest : IsFurthestBelow l.seq.rows l.place l.furthest;
  right : (place n : ℕ) (line : Line) → place < l.place → slice_get l.seq.code place ≡ Some line → line.instr ≡ Throw n → ThrowsRight l.seq l.kind place n;
}
