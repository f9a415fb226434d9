use Rattle.std.proofs.Common.{◌≡◌, ◌++◌, length, map, reverse}
use Rattle.code_writer.specs.Writing.{row_among}
use Rattle.code_writer.proofs.writer.among.Given as goal

abbrev pub invariant-loop-row : goal.invariant-loop-row
invariant-loop-row l = l.table.items ++ map (row_among l.len) (reverse l.rows.items) ≡ map (row_among l.len) (reverse l.fn.rows.items)

abbrev pub decreases-loop-row : goal.decreases-loop-row
decreases-loop-row l = length l.rows.items
