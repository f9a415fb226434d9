use Rattle.std.proofs.Common.{refl}
use Rattle.iseq_dump.proofs.Indexes.{rows_get, rows_more, are_rows_is}
use Rattle.iseq_dump.proofs.index.are_rows.Goals as goal

pub returns-then-not-is_row : goal.returns-then-not-is_row
returns-then-not-is_row c = (λ t. absurd cc, λ h. c.if-not-is_row.ensures.1 (h.each c.loop-id.id _ (rows_get c.args.entries.now c.loop-id.id _ c.loop-id-test.true)))

pub loop-id-preserved : goal.loop-id-preserved
loop-id-preserved c = rows_more c.args.entries.now c.loop-id.id _ c.loop-id-test.true (c.if-not-is_row.ensures.0 refl) c.loop-id.invariant

pub returns : goal.returns
returns c = are_rows_is c.args.entries.now c.loop-id.id c.is_empty.result c.is_empty.ensures c.loop-id-test.false c.loop-id.invariant
