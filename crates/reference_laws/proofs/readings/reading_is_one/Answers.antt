use Rattle.reference_parser.specs.ReadingOf.{tree, fault}
use Rattle.reference_laws.proofs.ReadingOne.{is_read, read_only}
use Rattle.reference_laws.proofs.readings.reading_is_one.Goals as goal

pub returns : goal.returns
returns c = record {
  tree = λ source t. (λ e. is_read source (tree t) e, λ h. read_only source (tree t) h);
  fault = λ source line. (λ e. is_read source (fault line) e, λ h. read_only source (fault line) h);
}
