use Rattle.std.proofs.lemmas.List.Elements.{All-more}
use Rattle.iseq_types.specs.declared.sequences.IndexRow.{IndexRow}
use Rattle.iseq_dump.specs.Dump.{IsNumber}
use Rattle.iseq_dump.proofs.Dumps.{index_more, some_if, all_of}
use Rattle.iseq_dump.proofs.dumping.put_index.Goals as goal

pub loop-id-preserved : goal.loop-id-preserved
loop-id-preserved c = record {
  spelled = index_more c.args.rows.now c.args.lengths.now c.loop-id.id _ c.loop-id.place c.in_ok-place.place c.loop-id.out.items c.put.new.out.items _ c.loop-id-test.true c.requires (some_if c.checked_add.result _ _ c.in_ok-place.place c.checked_add.ensures c.in_ok-place.ensures.ok_part) c.in_ok-put.ensures c.loop-id.invariant.spelled;
  locals = All-more (λ (row : IndexRow). IsNumber row.locals) c.args.rows.now c.loop-id.id _ c.loop-id-test.true c.loop-id.invariant.locals c.in_ok-put.ensures.fits.locals;
}

pub returns-clause-locals : goal.returns-clause-locals
returns-clause-locals c = all_of (λ (row : IndexRow). IsNumber row.locals) c.args.rows.now c.loop-id.id c.loop-id-test.false c.loop-id.invariant.locals
