use Rattle.std.specs.List.{flat_map}
use Rattle.iseq_dump.specs.Dump.{body_bytes}
use Rattle.iseq_dump.proofs.Units.{head_is, head_of_unit, rows_again}
use Rattle.iseq_dump.proofs.Placed.{entries_count, placed_body, whole_dump}
use Rattle.iseq_dump.proofs.laws.dumps_have_parts.Goals as goal

pub returns : goal.returns
returns c = record {
  head = λ u bytes s. (head_of_unit u bytes s, (flat_map body_bytes u.bodies, s.spelled));
  one_head = λ u head bytes rest s fits e. (head_is head bytes rest fits e u s).0;
  rows = λ u bytes s. (rows_again u bytes s, entries_count u bytes s);
  body = placed_body;
  whole = whole_dump;
}
