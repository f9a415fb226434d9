use Rattle.std.proofs.Common.{◌≡◌, ◌++◌, length, take, All}
use Rattle.std.specs.List.{flat_map}
use Rattle.iseq_dump.specs.Dump.{number_bytes}
use Rattle.iseq_dump.proofs.part.put_list.Given as goal

abbrev pub invariant-loop-item : goal.invariant-loop-item
invariant-loop-item g l = record {
  spelled : l.out.items ≡ (l.fn.out.items ++ number_bytes (length l.items)) ++ flat_map g.T.Part.bytes (take l.item-index l.items);
  fits : All g.T.Part.fits (take l.item-index l.items);
}
