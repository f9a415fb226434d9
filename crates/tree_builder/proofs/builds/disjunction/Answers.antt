use Rattle.std.proofs.Common.{subst, IfOk}
use Rattle.ruby_tree.specs.Tree.{SourcePosition, at, either}
use Rattle.tree_builder.specs.Subtrees.{Holds}
use Rattle.tree_builder.proofs.builds.disjunction.Goals as goal

pub returns : goal.returns
returns c = record { made = λ T w v a b e h i. subst (λ (o : SourcePosition). IfOk c.either.result (λ part. Holds T part (at o (either a b)))) e (c.either.ensures.made T a b h i) }
