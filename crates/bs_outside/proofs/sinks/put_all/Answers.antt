use Rattle.bs_outside.proofs.Owing.{owes_cut, on_err}
use Rattle.bs_outside.proofs.sinks.put_all.Goals as goal

pub returns-in_err-count-clause-err : goal.returns-in_err-count-clause-err
returns-in_err-count-clause-err g c = on_err c.from_residual.result (owes_cut c.loop-rest.invariant.owes c.in_err-count.ensures.err)
