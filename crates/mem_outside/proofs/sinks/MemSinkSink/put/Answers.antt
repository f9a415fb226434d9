use Rattle.bs_outside.proofs.Owing.{none_came}
use Rattle.mem_outside.proofs.sinks.MemSinkSink.put.Goals as goal

pub returns-then-next_fails-clause-err : goal.returns-then-next_fails-clause-err
returns-then-next_fails-clause-err c = rw (← c.self.view_is) (none_came _ _)
