use Rattle.ruby_meaning.proofs.StoredTrees.{run_stays, evaluate_stays}
use Rattle.ruby_meaning.proofs.StoredPrograms.{program_as}
use Rattle.ruby_meaning.proofs.Same.{ends}
use Rattle.ruby_meaning.proofs.PlacedFrames.{break_in_loop}
use Rattle.ruby_meaning.proofs.PlacedFiles.{files_placed, prelude_placed, plain_as}
use Rattle.ruby_meaning.proofs.laws.outcomes_are_placed.Goals as goal

pub returns : goal.returns
returns c = record {
  step = run_stays;
  stays = evaluate_stays;
  break_in_loop = λ files c t frame w z v h same. break_in_loop files c t frame w z v (ends files t frame w) h same;
  evaluated = λ files are c t frame w placed fits s. (evaluate_stays files are c t frame w placed fits s).placed;
  program = λ files prelude p are placed. program_as files are prelude placed p;
  read = files_placed;
  prelude = prelude_placed;
  plain = plain_as;
}
