use Rattle.std.proofs.Common.{refl, arith}
use Rattle.iseq_types.proofs.Reaching.{depth_found, line_found}
use Rattle.iseq_types.proofs.Stepping.{leads_on, finds_too_little}
use Rattle.iseq_types.proofs.depths.reach_next.Goals as goal

pub returns-then-depth-needs-clause-two : goal.returns-then-depth-needs-clause-two
returns-then-depth-needs-clause-two c =
    let seq = c.args.seq.now in
    let old = c.args.depths.now in
    let place = c.args.place in
    let line = c.index-as_slice-place.result in
    let s = c.requires.so_far in
    let within = c.requires.within in
    let at = depth_found old.found c.as_slice.result.now place c.in-Some.depth c.as_slice.ensures (omega (arith, within, s.long)) c.in-Some.is in
    let is = line_found seq.code c.as_slice-2.result.now place line c.as_slice-2.ensures within c.index-as_slice-place.is in
    λ enough one. finds_too_little seq place c.in-Some.depth c.needs.result line old s at is c.needs.ensures.count c.if-depth-needs.true enough

pub overflow_add-after : goal.overflow_add-after
overflow_add-after c =
    let old = c.args.depths.now in
    let place = c.args.place in
    let s = c.requires.so_far in
    let at = depth_found old.found c.as_slice.result.now place c.in-Some.depth c.as_slice.ensures (omega (arith, c.requires.within, s.long)) c.in-Some.is in
    let m = s.small place c.in-Some.depth at in
    omega (arith, m, s.fits, c.leaves.ensures.small)

pub reach_following-requires-clause-line : goal.reach_following-requires-clause-line
reach_following-requires-clause-line c =
    line_found c.args.seq.now.code c.as_slice-2.result.now c.args.place c.index-as_slice-place.result c.as_slice-2.ensures c.requires.within c.index-as_slice-place.is

pub reach_following-requires-clause-on : goal.reach_following-requires-clause-on
reach_following-requires-clause-on c =
    let old = c.args.depths.now in
    let place = c.args.place in
    let s = c.requires.so_far in
    let at = depth_found old.found c.as_slice.result.now place c.in-Some.depth c.as_slice.ensures (omega (arith, c.requires.within, s.long)) c.in-Some.is in
    leads_on c.args.seq.now place c.in-Some.depth _ c.takes.result c.leaves.result c.needs.result c.index-as_slice-place.result old s at c.takes.ensures c.leaves.ensures.count c.needs.ensures.count c.if-depth-needs.false c.leaves.ensures.small refl

pub reach_target-requires-clause-line : goal.reach_target-requires-clause-line
reach_target-requires-clause-line c =
    line_found c.args.seq.now.code c.as_slice-2.result.now c.args.place c.index-as_slice-place.result c.as_slice-2.ensures c.requires.within c.index-as_slice-place.is
