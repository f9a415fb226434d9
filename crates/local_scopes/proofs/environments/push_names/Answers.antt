use Rattle.std.proofs.Common.{◌∙◌, reverse}
use Rattle.local_scopes.specs.Environments.{seen_names}
use Rattle.local_scopes.proofs.EnvironmentSteps.{next-name-at, where-true, where-false}
use Rattle.local_scopes.proofs.environments.push_names.Goals as goal
use Rattle.local_scopes.proofs.environments.push_names.Goals.{then-is_new+in_ok-push, else-is_new}

pub loop-name-preserved : goal.loop-name-preserved
loop-name-preserved c =
    let next = next-name-at c.args.locals.now (seen_names c.args.mark (reverse c.args.seen.now)) c.args.names.now c.loop-name.name-index _ c.loop-name.locals c.is_new.result c.loop-name-test.true c.requires c.loop-name.invariant c.is_new.ensures in
    elim c.if-is_new.branch [
      | then-is_new+in_ok-push w ↦ w.locals-is ∙ w.in_ok-push.ensures.ok ∙ where-true _ _ _ c.is_new.result w.if-is_new.true next
      | else-is_new w ↦ w.locals-is ∙ where-false _ _ _ c.is_new.result w.if-is_new.false next
    ]
