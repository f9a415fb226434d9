use Rattle.std.proofs.Common.{◌++◌, ◌≤◌, ℕ, List, length}
use Rattle.bs_outside.specs.Told.{Owes}
use Rattle.bootsnap_top.specs.Machine.{run_code, first_state}
use Rattle.bootsnap_top.proofs.Sending.{EndsAlike}
use Rattle.bootsnap_top.proofs.machine.run_code.Given as goal

-- what is held, and what the code that is left writes, is owed; the end of what is left is that of all
abbrev pub invariant-loop-line : goal.invariant-loop-line
invariant-loop-line g l = record {
  output : (path : List ℕ) → Owes (g.O.Sink.taken l.fn.out) (g.O.Sink.taken l.out) (run_code path l.code (first_state l.locals)).output (l.held ++ (run_code path l.rest l.machine).output);
  ends : (path : List ℕ) → EndsAlike (run_code path l.rest l.machine) (run_code path l.code (first_state l.locals));
  counted : g.O.Sink.faults l.fn.out ≤ g.O.Sink.faults l.out;
}

abbrev pub decreases-loop-line : goal.decreases-loop-line
decreases-loop-line g l = length l.rest
