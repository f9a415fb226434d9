use Rattle.std.proofs.Common.{sym}
use Rattle.iseq_types.specs.Depths.{Reaches, Clashes, FindsNext}
use Rattle.iseq_types.specs.Sound.{HasOneDepth}
use Rattle.iseq_types.proofs.Answering.{yes_then, no_then}
use Rattle.iseq_types.proofs.Stepping.{finds_target, target_clash, finds_no_target}
use Rattle.iseq_types.proofs.depths.reach_target.Goals as goal

pub returns-in-Some-clause-one : goal.returns-in-Some-clause-one
returns-in-Some-clause-one c =
    let seq = c.args.seq.now in
    let old = c.args.depths.now in
    let line = c.args.line.now in
    let place = c.args.place in
    let after = c.args.after in
    let target = c.in-Some.target in
    let new = c.reach.new.depths in
    yes_then c.reach.result (Reaches old new target after) (FindsNext seq old new) (λ r. finds_target seq place target line after old new c.requires.inside c.requires.line c.requires.on c.requires.next (sym c.in-Some.ensures) r) c.reach.ensures.one

pub returns-in-Some-clause-two : goal.returns-in-Some-clause-two
returns-in-Some-clause-two c =
    let seq = c.args.seq.now in
    let old = c.args.depths.now in
    let line = c.args.line.now in
    let place = c.args.place in
    let after = c.args.after in
    let target = c.in-Some.target in
    no_then c.reach.result (Clashes old.found target after) (¬ HasOneDepth seq old.kind) (λ r. target_clash seq place target line after old c.requires.inside c.requires.line c.requires.on (sym c.in-Some.ensures) r) c.reach.ensures.two

pub returns-in-None-clause-one : goal.returns-in-None-clause-one
returns-in-None-clause-one c =
    finds_no_target c.args.seq.now c.args.place c.args.line.now c.args.after c.args.depths.now c.requires.line c.requires.on c.requires.next (sym c.in-None.ensures)
