use Rattle.std.proofs.Common.{[], ◌∷◌}
use Rattle.ruby_tree.specs.Tree.{without}
use Rattle.tree_builder.proofs.builds.constant.Goals as goal

pub returns : goal.returns
returns c T x n = c.constant_path.ensures.made T without (x ∷ []) (c.none.ensures T) (c.in_ok-names.ensures T x n)
