use Rattle.std.proofs.Common.{List, All, refl, subst}
use Rattle.std.proofs.lemmas.List.{take_all}
use Rattle.std.proofs.lemmas.List.Elements.{All-more}
use Rattle.iseq_types.specs.declared.sequences.Line.{Line}
use Rattle.iseq_types.specs.Sound.{FindsLocal}
use Rattle.iseq_types.proofs.locals.locals_exist.Goals as goal

pub loop-line-preserved : goal.loop-line-preserved
loop-line-preserved c =
    let Finds : Line → Type 0 = λ line. FindsLocal c.args.rows.now c.args.id line.instr in
    All-more Finds c.args.code.now c.loop-line.line-index c.line-item.result c.loop-line-test.true c.loop-line.invariant (subst Finds c.line-item.is (c.if-not-local_exists.ensures.0 refl))

pub returns : goal.returns
returns c =
    let Finds : List Line → Type 0 = λ code. All (λ line. FindsLocal c.args.rows.now c.args.id line.instr) code in
    (λ yes. subst Finds (take_all c.loop-line.line-index c.args.code.now c.loop-line-test.false) c.loop-line.invariant, λ all. refl)
