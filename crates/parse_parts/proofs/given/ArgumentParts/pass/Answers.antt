use Rattle.std.proofs.Common.{sym, ◌∙◌, subst}
use Rattle.ruby_tree.specs.Tree.{Trees}
use Rattle.tree_builder.specs.Subtrees.{HoldsAll}
use Rattle.parse_parts.proofs.Gathering.{trees_end, spread_end}
use Rattle.parse_parts.proofs.given.ArgumentParts.pass.Goals as goal

pub returns : goal.returns
returns c = λ T g p h i. record { trees = subst (λ (ts : Trees). HoldsAll T c.args.self.now.arguments ts) (sym (trees_end g.trees)) h.trees; spread = h.spread ∙ sym (spread_end g.spread); value = i.value; block = i.block }
