use Rattle.std.proofs.Common.{◌<◌, ◌+◌, ◌^◌, arith}
use Rattle.iseq_types.specs.Depths.{Reaches, Clashes, FindsRow}
use Rattle.iseq_types.specs.Sound.{HasOneDepth}
use Rattle.iseq_types.proofs.Answering.{yes_then, no_then}
use Rattle.iseq_types.proofs.Stepping.{row_cont, cont_clash, row_from, from_clash, row_no_from}
use Rattle.iseq_types.proofs.depths.reach_row.Goals as goal

pub returns-then-not-branch-clause-two : goal.returns-then-not-branch-clause-two
returns-then-not-branch-clause-two c =
    let old = c.args.depths.now in
    let row = c.args.row.now in
    let two : Clashes old.found row.cont (row.sp + 1) = rw c.if-not-branch.true at c.in_ok-reach.ensures.two in
    cont_clash c.args.seq.now row old c.requires.inside c.requires.row c.requires.so_far two

pub returns-in-Rescue-clause-one : goal.returns-in-Rescue-clause-one
returns-in-Rescue-clause-one c =
    let seq = c.args.seq.now in
    let old = c.args.depths.now in
    let row = c.args.row.now in
    let mid = c.reach.new.depths in
    let new = c.reach-in-Rescue.new.depths in
    let small : row.sp < 2 ^ 64 = omega arith in
    let one : Reaches old mid row.cont (row.sp + 1) = rw c.if-not-branch.false at c.in_ok-reach.ensures.one in
    let f = row_cont seq row old mid c.requires.inside c.requires.row small c.requires.so_far one in
    yes_then c.reach-in-Rescue.result (Reaches mid new row.from row.sp) (FindsRow seq row old new) (λ r. row_from seq row old mid new c.requires.inside c.requires.row small c.in-Rescue.is f r) c.reach-in-Rescue.ensures.one

pub returns-in-Rescue-clause-two : goal.returns-in-Rescue-clause-two
returns-in-Rescue-clause-two c =
    let seq = c.args.seq.now in
    let old = c.args.depths.now in
    let row = c.args.row.now in
    let mid = c.reach.new.depths in
    let small : row.sp < 2 ^ 64 = omega arith in
    let one : Reaches old mid row.cont (row.sp + 1) = rw c.if-not-branch.false at c.in_ok-reach.ensures.one in
    let f = row_cont seq row old mid c.requires.inside c.requires.row small c.requires.so_far one in
    no_then c.reach-in-Rescue.result (Clashes mid.found row.from row.sp) (¬ HasOneDepth seq old.kind) (λ r. from_clash seq row old mid c.requires.inside c.requires.row c.in-Rescue.is f r) c.reach-in-Rescue.ensures.two

pub returns-in_default : goal.returns-in_default
returns-in_default c =
    let seq = c.args.seq.now in
    let old = c.args.depths.now in
    let row = c.args.row.now in
    let mid = c.reach.new.depths in
    let small : row.sp < 2 ^ 64 = omega arith in
    let one : Reaches old mid row.cont (row.sp + 1) = rw c.if-not-branch.false at c.in_ok-reach.ensures.one in
    let f = row_cont seq row old mid c.requires.inside c.requires.row small c.requires.so_far one in
    record { one = row_no_from seq row old mid c.in_default.not-Rescue f; two = tt }
