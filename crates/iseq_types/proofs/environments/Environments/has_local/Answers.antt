use Rattle.iseq_types.specs.declared.sequences.IndexRow.{IndexRow}
use Rattle.iseq_types.specs.declared.sequences.SeqKind.TheVariants.{File}
use Rattle.iseq_types.proofs.Homing.{home_read, too_far, way_begins, way_ends, way_jumps, way_jumps_less, way_steps, way_steps_less}
use Rattle.iseq_types.proofs.environments.Environments.has_local.Goals as goal

pub returns-then-level-at : goal.returns-then-level-at
returns-then-level-at c =
    let home = c.home_of-at.result in
    let is = home_read c.args.rows.now c.args.self.now.homes c.as_slice-homes.result.now c.args.id home c.requires.environments.each c.as_slice-homes.ensures c.home_of-at.ensures in
    (λ yes. absurd cc, λ l. absurd (too_far c.args.rows.now c.args.id c.args.slot c.args.level home c.requires.index is c.if-level-at.true l))

pub outward-init : goal.outward-init
outward-init c =
    let home = c.home_of-at.result in
    let is = home_read c.args.rows.now c.args.self.now.homes c.as_slice-homes.result.now c.args.id home c.requires.environments.each c.as_slice-homes.ensures c.home_of-at.ensures in
    way_begins c.args.rows.now c.args.id c.args.level home c.requires.below is c.if-level-at.false

pub outward-smaller-then-far-target : goal.outward-smaller-then-far-target
outward-smaller-then-far-target c =
    let home = c.outward.at in
    let other = c.home_of-far.result in
    let is = home_read c.args.rows.now c.args.self.now.homes c.as_slice-homes.result.now home.jump other c.requires.environments.each c.as_slice-homes.ensures c.home_of-far.ensures in
    way_jumps_less c.args.rows.now c.args.id c.args.level _ home other c.outward.invariant is c.outward-test.true

pub outward-preserved-then-far-target : goal.outward-preserved-then-far-target
outward-preserved-then-far-target c =
    let home = c.outward.at in
    let other = c.home_of-far.result in
    let is = home_read c.args.rows.now c.args.self.now.homes c.as_slice-homes.result.now home.jump other c.requires.environments.each c.as_slice-homes.ensures c.home_of-far.ensures in
    way_jumps c.args.rows.now c.args.id c.args.level _ home other c.outward.invariant is c.if-far-target.true

pub outward-smaller : goal.outward-smaller
outward-smaller c =
    let home = c.outward.at in
    let other = c.home_of-at-else-far-target.result in
    let is = home_read c.args.rows.now c.args.self.now.homes c.as_slice-homes.result.now home.outer other c.requires.environments.each c.as_slice-homes.ensures c.home_of-at-else-far-target.ensures in
    way_steps_less c.args.rows.now c.args.id c.args.level _ home other c.outward.invariant is c.outward-test.true

pub outward-preserved : goal.outward-preserved
outward-preserved c =
    let home = c.outward.at in
    let other = c.home_of-at-else-far-target.result in
    let is = home_read c.args.rows.now c.args.self.now.homes c.as_slice-homes.result.now home.outer other c.requires.environments.each c.as_slice-homes.ensures c.home_of-at-else-far-target.ensures in
    way_steps c.args.rows.now c.args.id c.args.level _ home other c.outward.invariant is c.outward-test.true

pub returns : goal.returns
returns c =
    let d : IndexRow = record { kind = File; parent = 0; locals = 0 } in
    way_ends c.args.rows.now c.args.id c.args.slot c.args.level _ c.outward.at d c.requires.index c.outward.invariant c.outward-test.false
