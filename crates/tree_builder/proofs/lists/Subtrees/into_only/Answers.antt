use Rattle.std.proofs.Common.{◌≡◌, length, rules}
use Rattle.tree_builder.proofs.lists.Subtrees.into_only.Goals as goal
use Rattle.tree_builder.proofs.Parts.{only_holds}

pub returns-clause-only : goal.returns-clause-only
returns-clause-only c T ts h =
    let count : length c.args.self.nodes.items ≡ 1 = search rules in
    only_holds T _ _ _ ts c.in-Some.ensures.items count h
