use Rattle.compile_laws.proofs.BodyRuns as whole
use Rattle.compile_laws.proofs.bodies.body_runs.Goals as goal

pub returns : goal.returns
returns c = record {
  runs = λ files seqs bodies t l kind name frame w no_loop plain sd names fs out. whole.body_runs files seqs bodies t l kind name frame w no_loop plain sd names fs out;
  machine = λ files unit t l kind name frame w o no_loop plain sd names fs out ts. whole.machine_ends files unit t l kind name frame w o no_loop plain sd names fs out ts;
}
