use Rattle.std.proofs.Common.{refl, arith}
use Rattle.ruby_meaning.proofs.programs.prelude_tree_is_placed.Goals as goal

pub returns : goal.returns
returns c = record { depth_fits = omega arith; placed = refl }
