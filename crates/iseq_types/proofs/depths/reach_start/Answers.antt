use Rattle.iseq_types.specs.Depths.{Reaches, Clashes, FindsStart}
use Rattle.iseq_types.specs.Sound.{HasOneDepth}
use Rattle.iseq_types.proofs.Answering.{yes_then, no_then}
use Rattle.iseq_types.proofs.Stepping.{finds_start, start_clash}
use Rattle.iseq_types.proofs.depths.reach_start.Goals as goal

pub returns-clause-one : goal.returns-clause-one
returns-clause-one c =
    let old = c.args.depths.now in
    let new = c.reach.new.depths in
    let depth = c.start_depth-depth.result in
    yes_then c.reach.result (Reaches old new 0 depth) (FindsStart c.args.seq.now old new) (λ r. finds_start c.args.seq.now old new depth c.requires.some c.requires.so_far c.start_depth-depth.ensures r) c.reach.ensures.one

pub returns-clause-two : goal.returns-clause-two
returns-clause-two c =
    let old = c.args.depths.now in
    let depth = c.start_depth-depth.result in
    no_then c.reach.result (Clashes old.found 0 depth) (¬ HasOneDepth c.args.seq.now old.kind) (λ r. start_clash c.args.seq.now old depth c.requires.some c.requires.so_far c.start_depth-depth.ensures r) c.reach.ensures.two
