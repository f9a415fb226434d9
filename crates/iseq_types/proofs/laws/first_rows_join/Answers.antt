use Rattle.iseq_types.proofs.Firsts.{neither, sooner, later, below, below_one_of}
use Rattle.iseq_types.proofs.laws.first_rows_join.Goals as goal

pub returns : goal.returns
returns c = record {
  none = λ rows place low high k row l h at fits. fits.0;
  neither = neither;
  sooner = sooner;
  later = later;
  below = below;
  below_one_of = below_one_of;
}
