use Rattle.std.proofs.Common.{◌<◌, ◌^◌, arith}
use Rattle.std.proofs.lemmas.Grind.{common_steps}
use Rattle.std.proofs.lemmas.List.Elements.{All-more}
use Rattle.iseq_types.specs.declared.sequences.CatchRow.{CatchRow}
use Rattle.iseq_types.specs.declared.sequences.CatchKind.TheVariants.{Rescue}
use Rattle.iseq_types.proofs.depths.spans_of.Goals as goal

pub loop-row-preserved : goal.loop-row-preserved
loop-row-preserved c =
    let d : CatchRow = record { kind = Rescue; from = 0; to = 0; cont = 0; sp = 0; seq = 0 } in
    record {
      spans = grind (arith, common_steps);
      small = All-more (λ (row : CatchRow). row.sp < 2 ^ 64) c.args.rows.now c.loop-row.row-index d c.loop-row-test.true c.loop-row.invariant.small c.span_of.ensures.small;
    }
