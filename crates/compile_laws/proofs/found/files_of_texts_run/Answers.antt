use Rattle.ruby_meaning.specs.Evaluation.{evaluate}
use Rattle.ruby_meaning.specs.Loads.{file_body}
use Rattle.compile_table.specs.Sequences.{routines}
use Rattle.compile_laws.specs.Found.{entry_frame, entry_world}
use Rattle.compile_laws.proofs.ProgramsRun.{ends_so, file_entered, file_runs}
use Rattle.compile_laws.proofs.found.files_of_texts_run.Goals as goal

pub returns : goal.returns
returns a = record {
  begins = file_entered;
  runs = λ files path load source t outside inside calling w R. file_runs path load source t outside inside calling w R files;
  machine = λ files path load source t outside inside calling w o R ts.
      ends_so files path t (routines path t 0) (entry_frame path load t outside inside calling w) 0 (entry_world t w) o
      (evaluate files (file_body t) (entry_frame path load t outside inside calling w) (entry_world t w)) (file_runs path load source t outside inside calling w R files) ts;
}
