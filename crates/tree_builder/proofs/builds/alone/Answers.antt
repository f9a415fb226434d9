use Rattle.std.proofs.Common.{subst}
use Rattle.ruby_tree.specs.Tree.{SourcePosition, at, statements}
use Rattle.ruby_tree.specs.Build.{one}
use Rattle.tree_builder.specs.Subtrees.{Holds}
use Rattle.tree_builder.proofs.builds.alone.Goals as goal

pub returns : goal.returns
returns c = record { made = λ T w t e h. subst (λ (o : SourcePosition). Holds T c.statements.result (at o (statements (one t)))) e (c.statements.ensures.made T (one t) (c.in_ok-parts.ensures T t h)) }
