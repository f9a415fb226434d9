use Rattle.std.proofs.Common.{subst, IfOk}
use Rattle.ruby_tree.specs.Tree.{SourcePosition, at, both}
use Rattle.tree_builder.specs.Subtrees.{Holds}
use Rattle.tree_builder.proofs.builds.conjunction.Goals as goal

pub returns : goal.returns
returns c = record { made = λ T w v a b e h i. subst (λ (o : SourcePosition). IfOk c.both.result (λ part. Holds T part (at o (both a b)))) e (c.both.ensures.made T a b h i) }
