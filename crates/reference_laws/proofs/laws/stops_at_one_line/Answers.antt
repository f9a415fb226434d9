use Rattle.reference_laws.proofs.StopLines.{stops_there, stops_once, stops_found}
use Rattle.reference_laws.proofs.laws.stops_at_one_line.Goals as goal

pub returns : goal.returns
returns c = record {
  found = λ source w s n end line e. stops_there source n end w s line e;
  known = λ source w s n end line h. stops_found source n end h;
  once = λ source w s end line other h k. stops_once source end h k;
}
