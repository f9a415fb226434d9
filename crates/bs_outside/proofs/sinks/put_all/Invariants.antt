use Rattle.std.proofs.Common.{◌≤◌, length}
use Rattle.bs_outside.specs.Told.{Owes}
use Rattle.bs_outside.proofs.sinks.put_all.Given as goal

-- what is left is owed, and no fault was taken back
abbrev pub invariant-loop-rest : goal.invariant-loop-rest
invariant-loop-rest g l =
    record {
      owes : Owes (g.S.Sink.taken l.fn.sink) (g.S.Sink.taken l.sink) l.bytes l.rest;
      counted : g.S.Sink.faults l.fn.sink ≤ g.S.Sink.faults l.sink;
    }

abbrev pub decreases-loop-rest : goal.decreases-loop-rest
decreases-loop-rest g l = length l.rest
