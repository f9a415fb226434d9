use Rattle.reference_laws.proofs.Whole.{read_at, taken_is, never, never_behind}
use Rattle.reference_laws.proofs.laws.reads_what_is_derived.Goals as goal

pub returns : goal.returns
returns c = record {
  sound = λ source w n t z e. taken_is source w n t z e;
  complete = λ source w n t D small. (D.behind, read_at source w n t D small);
  never = λ source w n t e D. never source w n e t D;
  left = λ source w r n t u z e rest D. never_behind source w n t r z e rest u D;
}
