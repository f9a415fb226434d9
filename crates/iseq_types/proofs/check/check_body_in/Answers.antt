use Rattle.std.proofs.Common.{List, get_or, IsTrue, refl, subst, All}
use Rattle.iseq_types.specs.declared.sequences.IndexRow.{IndexRow}
use Rattle.iseq_types.specs.declared.sequences.Line.{Line}
use Rattle.iseq_types.specs.declared.sequences.SeqKind.TheVariants.{File}
use Rattle.iseq_types.specs.Sound.{FindsLocal}
use Rattle.iseq_types.proofs.Whole.{kind_read, sound_by, sound_throws, sound_depths}
use Rattle.iseq_types.proofs.check.check_body_in.Goals as goal
use Rattle.iseq_types.proofs.check.check_body_in.Goals.{then-not-branch-via-then-not-branch, then-not-branch-via-else-not-branch+in_ok-depths_are_kept+then-not-branch-2}

pub returns-then-not-branch-clause-unsound : goal.returns-then-not-branch-clause-unsound
returns-then-not-branch-clause-unsound c =
    let d : IndexRow = record { kind = File; parent = 0; locals = 0 } in
    let seq = c.args.seq.now in
    let rows = c.args.rows.now in
    let id = c.args.id in
    let kind = (get_or rows id d).kind in
    let e = kind_read rows id d c.requires.below in
    λ sound. elim c.then-not-branch.branch [
      | then-not-branch-via-then-not-branch w ↦
          let all : IsTrue c.in_ok-throws_are_right.field-0 = c.in_ok-throws_are_right.ensures.1 (sound_throws seq rows id kind e sound) in
          let no' = w.if-not-branch.true in
          cc (all, no')
      | then-not-branch-via-else-not-branch+in_ok-depths_are_kept+then-not-branch-2 w ↦
          let all : IsTrue w.in_ok-depths_are_kept.field-0 = w.in_ok-depths_are_kept.ensures.1 (sound_depths seq rows id kind e sound) in
          let no' = w.if-not-branch-2.true in
          cc (all, no')
    ]

pub returns-clause-sound : goal.returns-clause-sound
returns-clause-sound c =
    let d : IndexRow = record { kind = File; parent = 0; locals = 0 } in
    let seq = c.args.seq.now in
    let rows = c.args.rows.now in
    let id = c.args.id in
    let kind = (get_or rows id d).kind in
    let e = kind_read rows id d c.requires.below in
    let locals = subst (λ (code : List Line). All (λ line. FindsLocal rows id line.instr) code) c.as_slice-code.ensures (c.if-not-locals_exist.ensures.0 refl) in
    sound_by seq rows id kind e (c.if-not-has_shape.ensures.0 refl) (c.if-not-has_right_operands.ensures.0 refl) locals (c.in_ok-throws_are_right.ensures.0 c.if-not-branch.false) (c.in_ok-depths_are_kept.ensures.0 c.if-not-branch-2.false)
