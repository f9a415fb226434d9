use Rattle.ruby_meaning.proofs.ClassGraph.{line_is_whole, superclasses_are_whole, found_once}
use Rattle.ruby_meaning.proofs.StoredTrees.{evaluate_stays}
use Rattle.ruby_meaning.proofs.StoredPrograms.{start_stored, program_stored}
use Rattle.ruby_meaning.proofs.PlacedFiles.{plain_stored}
use Rattle.ruby_meaning.proofs.laws.classes_have_no_cycle.Goals as goal

pub returns : goal.returns
returns c = record {
  start = start_stored;
  reached = λ files are c t frame w placed fits s. (evaluate_stays files are c t frame w placed fits s).stored;
  program = λ files prelude p are placed. program_stored files are prelude placed p;
  steps = line_is_whole;
  superclass_steps = superclasses_are_whole;
  searched_once = found_once;
  plain = plain_stored;
}
