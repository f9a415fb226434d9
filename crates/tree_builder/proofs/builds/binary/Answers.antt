use Rattle.std.proofs.Common.{subst, IfOk}
use Rattle.ruby_tree.specs.Tree.{SourcePosition}
use Rattle.ruby_tree.specs.Rules.{word}
use Rattle.ruby_tree.specs.Build.{one, sent}
use Rattle.tree_builder.specs.Subtrees.{Holds}
use Rattle.tree_builder.proofs.builds.binary.Goals as goal

pub returns : goal.returns
returns c = record { made = λ T source w v a b e h n i. subst (λ (o : SourcePosition). IfOk c.sent.result (λ part. Holds T part (sent o a (word source v) (one b)))) e (c.sent.ensures.made T a (word source v) (one b) h n (c.in_ok-arguments.ensures T b i)) }
