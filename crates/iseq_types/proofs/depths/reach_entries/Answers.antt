use Rattle.std.proofs.Common.{get_or}
use Rattle.iseq_types.specs.Depths.{Reaches, Clashes}
use Rattle.iseq_types.proofs.Stepping.{finds_entry_of, entry_clash_of}
use Rattle.iseq_types.proofs.depths.reach_entries.Goals as goal

pub returns-then-not-branch-clause-two : goal.returns-then-not-branch-clause-two
returns-then-not-branch-clause-two c =
    let items = c.as_slice-entry-items.result.now in
    let i = c.loop-entry.entry-index in
    let two : Clashes c.loop-entry.depths.found (get_or items i 0) 0 = rw c.if-not-branch.true at c.in_ok-reach.ensures.two in
    entry_clash_of c.args.seq.now items c.args.depths.now c.loop-entry.depths i 0 c.as_slice-entry-items.ensures c.requires.inside c.loop-entry-test.true c.loop-entry.invariant two

pub loop-entry-preserved : goal.loop-entry-preserved
loop-entry-preserved c =
    let items = c.as_slice-entry-items.result.now in
    let i = c.loop-entry.entry-index in
    let one : Reaches c.loop-entry.depths c.reach.new.depths (get_or items i 0) 0 = rw c.if-not-branch.false at c.in_ok-reach.ensures.one in
    finds_entry_of c.args.seq.now items c.args.depths.now c.loop-entry.depths c.reach.new.depths i 0 c.as_slice-entry-items.ensures c.requires.inside c.loop-entry-test.true c.loop-entry.invariant one
