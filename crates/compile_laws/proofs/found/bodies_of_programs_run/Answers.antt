use Rattle.ruby_meaning.specs.Evaluation.{evaluate}
use Rattle.compile_table.specs.Sequences.{routines}
use Rattle.compile_laws.specs.Finds.{start_of}
use Rattle.compile_laws.proofs.ProgramsRun.{runs_whole, ends_so}
use Rattle.compile_laws.proofs.found.bodies_of_programs_run.Goals as goal

pub returns : goal.returns
returns a = record {
  runs = runs_whole;
  machine = λ files path t c frame w o p k h ts.
      ends_so files path t (routines path t c.inner.number) frame (start_of c.inner c.tree frame.given) w o (evaluate files c.tree frame w) (runs_whole files path t c frame w p k h) ts;
}
