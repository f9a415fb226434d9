use Rattle.std.proofs.Common.{◌≡◌}
use Rattle.ruby_tree.specs.declared.node.Kind.TheVariants as kind
use Rattle.ruby_tree.specs.declared.node.Collection.TheVariants as collection
use Rattle.ruby_tree.specs.declared.node.Node.TheViews.{out-Node}
use Rattle.tree_builder.proofs.builds.longer_path.Goals as goal
use Rattle.tree_builder.proofs.Built.{longer_holds}

pub returns : goal.returns
returns c T w a x h small named =
    let p = c.in-Collection-ConstantPath in
    let is : (out-Node c.args.path.node).kind ≡ kind.Collection (collection.ConstantPath p.field-0-0 p.field-0-1 p.names) = cc in
    longer_holds T _ _ _ _ _ _ is c.in_ok-push-in-Collection-ConstantPath.ensures.items w a x h small named
