-- That a unit can be dumped is a proposition.
use Rattle.std.proofs.Common.{ℕ, List}
use Rattle.std.proofs.Props.{props}
use Rattle.std.specs.List.{AllByRecursion, AllByRecursion-prop}
use Rattle.iseq_types.specs.declared.sequences.CatchKind.{CatchKind}
use Rattle.iseq_types.specs.declared.sequences.CatchKind.TheVariants as catches
use Rattle.iseq_types.specs.declared.sequences.CatchRow.{CatchRow}
use Rattle.iseq_types.specs.declared.sequences.IndexRow.{IndexRow}
use Rattle.iseq_types.specs.declared.sequences.Sequence.{Sequence}
use Rattle.iseq_types.specs.declared.sequences.Unit.{Unit as CompiledUnit}
use Rattle.iseq_types.specs.Index.{IsIndexRow, AreIndexRows}
use Rattle.iseq_dump.specs.Dump.{CanBeDumped, IsAllowedBody, IsAllowedRow, AllowsSequence}

allows_prop : (k : CatchKind) (q : ℕ) → IsProp (AllowsSequence k q)
allows_prop catches.Rescue q = hlevel props
allows_prop catches.Ensure q = hlevel props
allows_prop catches.Break q = hlevel props
allows_prop catches.Next q = hlevel props

body_prop : (body : Sequence) → IsProp (IsAllowedBody body)
body_prop body = AllByRecursion-prop IsAllowedRow (λ row. allows_prop row.kind row.seq) body.rows

row_prop : (id : ℕ) (row : IndexRow) → IsProp (IsIndexRow id row)
row_prop id row = hlevel props

rows_prop : (rows : List IndexRow) → IsProp (AreIndexRows rows)
rows_prop rows = hlevel (props, row_prop)

bodies_prop : (bodies : List Sequence) → IsProp (AllByRecursion IsAllowedBody bodies)
bodies_prop bodies = AllByRecursion-prop IsAllowedBody body_prop bodies

pub dumpable_prop : (u : CompiledUnit) → IsProp (CanBeDumped u)
dumpable_prop u = hlevel (props, rows_prop u.rows, bodies_prop u.bodies)
