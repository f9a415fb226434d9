use Rattle.ruby_meaning.proofs.Same.{leading}
use Rattle.ruby_meaning.proofs.Start.{good_run}
use Rattle.ruby_meaning.proofs.laws.cells_grow_within_the_limit.Goals as goal

pub returns : goal.returns
returns c = record {
  grow = λ files t frame w. (leading files t frame w).cells;
  within = λ files t frame w. (leading files t frame w).within;
  program = λ files prelude p. (good_run files p prelude).within;
}
