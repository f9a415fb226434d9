use Rattle.std.proofs.Common.{List, ◌∷◌, ◌++◌, [], ap, ◌∙◌}
use Rattle.ruby_tree.specs.declared.names.Name.{Name}
use Rattle.tree_builder.proofs.Built.{one_name_is}
use Rattle.parse_operands.proofs.ends.one_name.Goals as goal

pub returns : goal.returns
returns c T x n = one_name_is T _ _ x (c.in_ok-push.ensures.items ∙ ap (λ (ns : List Name). ns ++ c.args.name ∷ []) c.new-names.ensures.items) n
