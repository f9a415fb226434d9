use Rattle.std.proofs.Common.{◌≡◌, ◌++◌, take, drop, All}
use Rattle.std.specs.List.{flat_map}
use Rattle.iseq_types.specs.declared.sequences.IndexRow.{IndexRow}
use Rattle.iseq_dump.specs.Dump.{IsNumber, entry_bytes, entries_of}
use Rattle.iseq_dump.proofs.dumping.put_index.Given as goal

abbrev pub invariant-loop-id : goal.invariant-loop-id
invariant-loop-id l = record {
  spelled : l.out.items ++ flat_map entry_bytes (entries_of l.place (drop l.id l.rows) (drop l.id l.lengths)) ≡ l.fn.out.items ++ flat_map entry_bytes (entries_of l.first l.rows l.lengths);
  locals : All (λ (row : IndexRow). IsNumber row.locals) (take l.id l.rows);
}
