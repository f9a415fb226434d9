use Rattle.ruby_meaning.proofs.Same.{leading}
use Rattle.ruby_meaning.proofs.Ends.{program_depth, program_loading}
use Rattle.ruby_meaning.proofs.laws.what_stands_stays.Goals as goal

pub returns : goal.returns
returns c = record {
  depth = λ files t frame w. (leading files t frame w).depth;
  loading = λ files t frame w. (leading files t frame w).loading;
  closures = λ files t frame w. (leading files t frame w).closures;
  environments = λ files t frame w. (leading files t frame w).stay;
  program_depth = program_depth;
  program_loading = program_loading;
}
