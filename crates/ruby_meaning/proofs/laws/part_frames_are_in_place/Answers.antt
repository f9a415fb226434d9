use Rattle.ruby_meaning.proofs.PlacedFrames.{part_in_place, loop_in_place, clause_in_place, sequence_in_place, ensured_in_place, calling_in_place}
use Rattle.ruby_meaning.proofs.laws.part_frames_are_in_place.Goals as goal

pub returns : goal.returns
returns c = record {
  part = part_in_place;
  loop_body = loop_in_place;
  clauses = clause_in_place;
  rescue_part = sequence_in_place;
  ensure_part = ensured_in_place;
  calling = calling_in_place;
}
