use Rattle.std.proofs.Common.{sym, ap, ap₂, ◌∙◌, ◌++◌, ◌∷◌, []}
use Rattle.ruby_tree.specs.Build.{spread_at}
use Rattle.tree_builder.specs.Subtrees.{trees_count}
use Rattle.parse_parts.proofs.Gathering.{spread_end}
use Rattle.parse_parts.proofs.given.ArgumentParts.push.Goals as goal

pub returns-in_ok-push-2 : goal.returns-in_ok-push-2
returns-in_ok-push-2 c = λ T g e h i. record {
  trees = c.in_ok-push.ensures T g.trees e.tree h.trees i.tree;
  spread = c.in_ok-push-2.ensures.items ∙ ap₂ (λ ls k. ls ++ k ∷ []) h.spread (c.len-place.ensures T g.trees h.trees) ∙ ap (λ b. g.spread ++ spread_at b (trees_count g.trees) []) (sym c.if-element.true ∙ i.spread);
  value = c.none.ensures T;
  block = c.none-2.ensures T;
}

pub returns-else-element : goal.returns-else-element
returns-else-element c = λ T g e h i. record {
  trees = c.in_ok-push.ensures T g.trees e.tree h.trees i.tree;
  spread = h.spread ∙ sym (spread_end g.spread) ∙ ap (λ b. g.spread ++ spread_at b (trees_count g.trees) []) (sym c.if-element.false ∙ i.spread);
  value = c.none.ensures T;
  block = c.none-2.ensures T;
}
