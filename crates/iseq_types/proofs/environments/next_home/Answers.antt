use Rattle.std.proofs.Common.{length, get_or}
use Rattle.std.proofs.lemmas.Option.{slice_get-get_or, slice_get_within}
use Rattle.iseq_types.specs.declared.sequences.IndexRow.{IndexRow}
use Rattle.iseq_types.specs.declared.sequences.SeqKind.TheVariants.{File}
use Rattle.iseq_types.proofs.Homing.{part_home, root_home}
use Rattle.iseq_types.proofs.environments.next_home.Goals as goal

pub returns-in-Rescue : goal.returns-in-Rescue
returns-in-Rescue c =
    let d : IndexRow = record { kind = File; parent = 0; locals = 0 } in
    let rows = c.args.rows.now in
    let homes = c.args.homes.now in
    let row = get_or rows (length homes) d in
    let low = slice_get_within homes row.parent c.home_of.result c.home_of.ensures in
    part_home rows (length homes) row c.home_of.result c.requires.index (slice_get-get_or rows (length homes) d c.requires.below) c.in-Rescue.is low (c.requires.homes row.parent c.home_of.result c.home_of.ensures)

pub returns-in-File : goal.returns-in-File
returns-in-File c =
    let d : IndexRow = record { kind = File; parent = 0; locals = 0 } in
    let rows = c.args.rows.now in
    let n = length c.args.homes.now in
    root_home rows n (get_or rows n d) c.requires.index (slice_get-get_or rows n d c.requires.below) c.in-File.is
