use Rattle.compile_laws.proofs.ToldRuns.{files_told, prelude_told, run_told, evaluate_told, plain_told}
use Rattle.compile_laws.proofs.told.runs_keep_codes_of_files.Goals as goal

pub returns : goal.returns
returns c = record { read = files_told; prelude = prelude_told; step = run_told; stays = evaluate_told; plain = plain_told }
