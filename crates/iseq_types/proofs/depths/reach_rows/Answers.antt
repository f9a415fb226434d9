use Rattle.std.proofs.Common.{get_or}
use Rattle.iseq_types.specs.declared.sequences.CatchRow.{CatchRow}
use Rattle.iseq_types.specs.declared.sequences.CatchKind.TheVariants.{Rescue}
use Rattle.iseq_types.specs.Depths.{FindsRow}
use Rattle.iseq_types.proofs.Stepping.{finds_row}
use Rattle.iseq_types.proofs.depths.reach_rows.Goals as goal

pub loop-row-preserved : goal.loop-row-preserved
loop-row-preserved c =
    let d : CatchRow = record { kind = Rescue; from = 0; to = 0; cont = 0; sp = 0; seq = 0 } in
    let items = c.as_slice-row-items.result.now in
    let i = c.loop-row.row-index in
    let one : FindsRow c.args.seq.now (get_or items i d) c.loop-row.depths c.reach_row.new.depths = rw c.if-not-branch.false at c.in_ok-reach_row.ensures.one in
    finds_row c.args.seq.now items c.args.depths.now c.loop-row.depths c.reach_row.new.depths i d c.loop-row-test.true c.loop-row.invariant one
