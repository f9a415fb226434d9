use Rattle.compile_laws.proofs.ToldFrames.{method_of_run_begins, block_of_run_begins}
use Rattle.compile_laws.proofs.told.frames_of_runs_begin.Goals as goal

pub returns : goal.returns
returns c = record { method = method_of_run_begins; block = block_of_run_begins }
