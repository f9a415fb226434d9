use Rattle.compile_laws.proofs.ToldPrograms.{by_number}
use Rattle.compile_laws.proofs.ToldRuns.{method_of_file, block_of_file}
use Rattle.compile_laws.proofs.told.codes_of_runs_are_found.Goals as goal

pub returns : goal.returns
returns c = record { method = method_of_file; block = block_of_file; sequence = by_number }
