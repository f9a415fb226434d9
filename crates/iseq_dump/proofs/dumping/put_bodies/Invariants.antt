use Rattle.std.proofs.Common.{◌≡◌, ◌++◌, take, All}
use Rattle.std.specs.List.{flat_map}
use Rattle.iseq_dump.specs.Dump.{IsBody, body_bytes, lengths_of}
use Rattle.iseq_dump.proofs.dumping.put_bodies.Given as goal

abbrev pub invariant-loop-body : goal.invariant-loop-body
invariant-loop-body l = record {
  spelled : l.out.items ≡ l.fn.out.items ++ flat_map body_bytes (take l.body-index l.bodies);
  each : All IsBody (take l.body-index l.bodies);
  sizes : l.lengths.items ≡ lengths_of (take l.body-index l.bodies);
}
