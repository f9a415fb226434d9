use Rattle.ruby_meaning.proofs.StoredTrees.{run_houses, evaluate_houses}
use Rattle.ruby_meaning.proofs.StoredPrograms.{start_housed, program_housed}
use Rattle.ruby_meaning.proofs.PlacedFrames.{stays_in_place}
use Rattle.ruby_meaning.proofs.laws.frames_are_in_sight.Goals as goal

pub returns : goal.returns
returns c = record {
  step = run_houses;
  stays = evaluate_houses;
  follows = stays_in_place;
  start = start_housed;
  program = program_housed;
}
