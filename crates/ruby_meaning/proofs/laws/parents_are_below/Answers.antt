use Rattle.ruby_meaning.proofs.Same.{leading}
use Rattle.ruby_meaning.proofs.Start.{good_run}
use Rattle.ruby_meaning.proofs.laws.parents_are_below.Goals as goal

pub returns : goal.returns
returns c = record {
  reached = λ files t frame w. (leading files t frame w).sound;
  program = λ files prelude p. (good_run files p prelude).sound;
}
