use Rattle.std.proofs.Common.{length, arith}
use Rattle.std.proofs.lemmas.Option.{slice_get_within}
use Rattle.iseq_types.proofs.Homing.{jump_less, block_steps, block_jumps}
use Rattle.iseq_types.proofs.environments.block_home.Goals as goal

pub home_of-near-requires : goal.home_of-near-requires
home_of-near-requires c =
    let outer = c.requires.homes c.args.row.parent c.home_of-outer.result c.home_of-outer.ensures in
    let low = slice_get_within c.args.homes.now c.args.row.parent c.home_of-outer.result c.home_of-outer.ensures in
    omega (arith, outer.jump, low)

pub home_of-far-requires : goal.home_of-far-requires
home_of-far-requires c =
    let near = c.requires.homes c.home_of-outer.result.jump c.home_of-near.result c.home_of-near.ensures in
    let low = slice_get_within c.args.homes.now c.home_of-outer.result.jump c.home_of-near.result c.home_of-near.ensures in
    omega (arith, near.jump, low)

pub overflow_sub-is_even : goal.overflow_sub-is_even
overflow_sub-is_even c =
    (jump_less c.args.rows.now c.args.row.parent c.home_of-outer.result c.home_of-near.result (c.requires.homes c.args.row.parent c.home_of-outer.result c.home_of-outer.ensures) (c.requires.homes c.home_of-outer.result.jump c.home_of-near.result c.home_of-near.ensures)).0

pub overflow_sub-is_even-2 : goal.overflow_sub-is_even-2
overflow_sub-is_even-2 c =
    (jump_less c.args.rows.now c.home_of-outer.result.jump c.home_of-near.result c.home_of-far.result (c.requires.homes c.home_of-outer.result.jump c.home_of-near.result c.home_of-near.ensures) (c.requires.homes c.home_of-near.result.jump c.home_of-far.result c.home_of-far.ensures)).0

pub overflow_add-result : goal.overflow_add-result
overflow_add-result c =
    let outer = c.requires.homes c.args.row.parent c.home_of-outer.result c.home_of-outer.ensures in
    let low = slice_get_within c.args.homes.now c.args.row.parent c.home_of-outer.result c.home_of-outer.ensures in
    omega (arith, outer.small, low)

pub returns-then-is_even : goal.returns-then-is_even
returns-then-is_even c =
    let homes = c.args.homes.now in
    let parent = c.args.row.parent in
    let outer = c.requires.homes parent c.home_of-outer.result c.home_of-outer.ensures in
    let near = c.requires.homes c.home_of-outer.result.jump c.home_of-near.result c.home_of-near.ensures in
    block_jumps c.args.rows.now (length homes) c.args.row c.home_of-outer.result c.home_of-near.result c.requires.index c.requires.row c.requires.block outer (slice_get_within homes parent c.home_of-outer.result c.home_of-outer.ensures) near

pub returns-else-is_even : goal.returns-else-is_even
returns-else-is_even c =
    let homes = c.args.homes.now in
    let parent = c.args.row.parent in
    let outer = c.requires.homes parent c.home_of-outer.result c.home_of-outer.ensures in
    block_steps c.args.rows.now (length homes) c.args.row c.home_of-outer.result c.requires.index c.requires.row c.requires.block outer (slice_get_within homes parent c.home_of-outer.result c.home_of-outer.ensures)
