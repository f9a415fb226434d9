use Rattle.ruby_tree.specs.Tree.{no_more}
use Rattle.tree_builder.proofs.lists.Subtrees.one.Goals as goal

pub returns : goal.returns
returns c T t p = c.in_ok-push.ensures T no_more t (c.new-parts.ensures T) p
