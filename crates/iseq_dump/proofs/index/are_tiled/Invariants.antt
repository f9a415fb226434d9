use Rattle.std.proofs.Common.{◌↔◌, ◌<◌, ◌^◌, drop}
use Rattle.iseq_dump.proofs.Indexes.{IsTiled}
use Rattle.iseq_dump.proofs.index.are_tiled.Given as goal

abbrev pub invariant-loop-entry : goal.invariant-loop-entry
invariant-loop-entry l = record {
  small : l.place < 2 ^ 64;
  same : IsTiled l.place (drop l.entry-index l.entries) ↔ IsTiled l.first l.entries;
}
