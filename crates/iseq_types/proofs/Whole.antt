-- The groups of conditions make a body sound, and a sound body has them.
use Rattle.std.proofs.Common.{◌≡◌, ℕ, ◌<◌, List, length, get_or, sym, ap, subst}
use Rattle.std.specs.Prelude.{unwrap_or, option_map}
use Rattle.std.proofs.lemmas.Option.{slice_get-get_or}
use Rattle.iseq_types.specs.declared.sequences.Sequence.{Sequence}
use Rattle.iseq_types.specs.declared.sequences.IndexRow.{IndexRow}
use Rattle.iseq_types.specs.declared.sequences.SeqKind.{SeqKind}
use Rattle.iseq_types.specs.declared.sequences.SeqKind.TheVariants.{File}
use Rattle.iseq_types.specs.Sound.{IsSound, kind_of, EachInstr, FindsLocal, EachThrow}
use Rattle.iseq_types.specs.Groups.{HasShape, HasRightOperands}
use Rattle.iseq_types.specs.Depths.{KeepsDepths}

pub kind_read : (rows : List IndexRow) (id : ℕ) (d : IndexRow) → id < length rows → (get_or rows id d).kind ≡ kind_of rows id
kind_read rows id d l = sym (ap (λ o. unwrap_or (option_map (λ (row : IndexRow). row.kind) o) File) (slice_get-get_or rows id d l))

pub sound_by : (seq : Sequence) (rows : List IndexRow) (id : ℕ) (kind : SeqKind) → kind ≡ kind_of rows id → HasShape seq rows id kind → HasRightOperands seq rows id → EachInstr seq (FindsLocal rows id) → EachThrow seq kind → KeepsDepths seq kind → IsSound seq rows id
sound_by seq rows id kind e shape operands locals throws depths =
    let s = subst (HasShape seq rows id) e shape in
    let d = subst (KeepsDepths seq) e depths in
    record {
      enough = d.enough;
      one_depth = d.one_depth;
      starts = d.starts;
      inside = s.inside;
      ordered = s.ordered;
      kept = d.kept;
      ends = s.ends;
      locals = locals;
      children = operands.children;
      splats = operands.splats;
      operands = operands.operands;
      counted = s.counted;
      throws = subst (EachThrow seq) e throws;
    }

pub sound_throws : (seq : Sequence) (rows : List IndexRow) (id : ℕ) (kind : SeqKind) → kind ≡ kind_of rows id → IsSound seq rows id → EachThrow seq kind
sound_throws seq rows id kind e sound = subst (EachThrow seq) (sym e) sound.throws

pub sound_depths : (seq : Sequence) (rows : List IndexRow) (id : ℕ) (kind : SeqKind) → kind ≡ kind_of rows id → IsSound seq rows id → KeepsDepths seq kind
sound_depths seq rows id kind e sound =
    subst (KeepsDepths seq) (sym e) (record { enough = sound.enough; one_depth = sound.one_depth; starts = sound.starts; kept = sound.kept })
