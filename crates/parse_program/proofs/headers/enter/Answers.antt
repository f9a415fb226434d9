use Rattle.std.proofs.Common.{refl}
use Rattle.parse_state.proofs.Steps.{here}
use Rattle.parse_program.proofs.headers.enter.Goals as goal

pub returns-clause-at : goal.returns-clause-at
returns-clause-at c =
    let a = c.enter_body.ensures.at _ _ (here _) in
    record { tokens = refl; locals = a.locals; clause = a.clause }
