use Rattle.std.proofs.Common.{◌≡◌, [], subst, List, ℕ, rules}
use Rattle.ruby_tree.specs.Tree.{at, send, without}
use Rattle.ruby_tree.specs.SourcePositions.{position_of}
use Rattle.tree_builder.specs.Subtrees.{Holds}
use Rattle.tree_builder.proofs.builds.send_with.Goals as goal

pub returns : goal.returns
returns c T a ts m h i n =
    let empty : c.new-spread.result.items ≡ [] = search rules in
    subst (λ (ks : List ℕ). Holds T c.send.result (at (position_of c.args.here) (send a ts ks without m c.args.alone without))) empty
    (c.send.ensures.made T a ts without m without h i (c.none-value.ensures T) n (c.none-block.ensures T))
