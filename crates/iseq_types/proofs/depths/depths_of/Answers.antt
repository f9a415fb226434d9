use Rattle.std.proofs.Common.{refl}
use Rattle.iseq_types.specs.declared.depths.Depths.{Depths}
use Rattle.iseq_types.proofs.Searching.{popped, search_ends}
use Rattle.iseq_types.proofs.depths.depths_of.Goals as goal

pub reach_next-requires-clause-within : goal.reach_next-requires-clause-within
reach_next-requires-clause-within c =
    let old = c.waiting.depths in
    let new : Depths = record { kind = old.kind; found = old.found; waiting = c.pop.new.self } in
    (popped c.args.seq.now c.args.kind old new c.in-Some.place c.waiting.invariant c.in-Some.ensures refl).0

pub reach_next-requires-clause-so_far : goal.reach_next-requires-clause-so_far
reach_next-requires-clause-so_far c =
    let old = c.waiting.depths in
    let new : Depths = record { kind = old.kind; found = old.found; waiting = c.pop.new.self } in
    (popped c.args.seq.now c.args.kind old new c.in-Some.place c.waiting.invariant c.in-Some.ensures refl).1

pub returns-clause-found : goal.returns-clause-found
returns-clause-found c = search_ends c.args.seq.now c.args.kind c.waiting.depths c.waiting.invariant c.in_default.ensures.0
