use Rattle.ruby_tree.specs.Tree.{with}
use Rattle.tree_builder.proofs.builds.sent.Goals as goal

pub returns : goal.returns
returns c = record { made = λ T a f ts h n i. c.send_with.ensures T (with a) ts f (c.in_ok-receiver.ensures T a h) i n }
