use Rattle.std.proofs.Common.{◌<◌, ◌+◌, length, sym, arith}
use Rattle.std.specs.Prelude.{IsTrue}
use Rattle.iseq_types.specs.Depths.{Reaches, Clashes, FindsFollowing}
use Rattle.iseq_types.specs.Instructions.{goes_on}
use Rattle.iseq_types.specs.Sound.{HasOneDepth}
use Rattle.iseq_types.proofs.Answering.{yes_then, no_then}
use Rattle.iseq_types.proofs.Stepping.{finds_following, following_clash}
use Rattle.iseq_types.proofs.depths.reach_following.Goals as goal

pub returns-clause-one : goal.returns-clause-one
returns-clause-one c =
    let seq = c.args.seq.now in
    let old = c.args.depths.now in
    let line = c.args.line.now in
    let place = c.args.place in
    let after = c.args.after in
    let new = c.reach.new.depths in
    let goes : IsTrue (goes_on line.instr) = sym c.if-not-goes_on.ensures in
    let below : place + 1 < length seq.code = omega (arith, c.if-places-place-lt2.false, c.len-places.ensures) in
    yes_then c.reach.result (Reaches old new (place + 1) after) (FindsFollowing seq place line after old new) (λ r. finds_following seq place line after old new c.requires.line c.requires.on goes below r) c.reach.ensures.one

pub returns-clause-two : goal.returns-clause-two
returns-clause-two c =
    let seq = c.args.seq.now in
    let old = c.args.depths.now in
    let line = c.args.line.now in
    let place = c.args.place in
    let after = c.args.after in
    let goes : IsTrue (goes_on line.instr) = sym c.if-not-goes_on.ensures in
    let below : place + 1 < length seq.code = omega (arith, c.if-places-place-lt2.false, c.len-places.ensures) in
    no_then c.reach.result (Clashes old.found (place + 1) after) (¬ HasOneDepth seq old.kind) (λ r. following_clash seq place line after old c.requires.line c.requires.on goes below r) c.reach.ensures.two
