use Rattle.std.proofs.Common.{◌≤◌, false, [], ◌∷◌, ap, sym, subst, ◌∙◌, arith}
use Rattle.ruby_tree.specs.Tree.{SourcePosition, Tree, at, constant_path, with}
use Rattle.ruby_tree.specs.Depth.{depth}
use Rattle.ruby_tree.specs.Build.{path_with}
use Rattle.tree_builder.specs.Subtrees.{Holds}
use Rattle.tree_builder.proofs.builds.path_with.Goals as goal
use Rattle.tree_builder.proofs.Built.{path_is_deeper, other_is}

pub returns-then-path-gt-MAX_DEPTH : goal.returns-then-path-gt-MAX_DEPTH
returns-then-path-gt-MAX_DEPTH c = record { made = λ T w a x e h n. c.too_deep.ensures T (path_with w a x) (omega (arith, path_is_deeper w a x, h.shows)) }

pub returns : goal.returns
returns c = record {
  made = λ T w a x e h n.
      let small : depth a ≤ 200 = omega (arith, h.shows) in
      let made = c.constant_path.ensures.made T (with a) (x ∷ []) (c.in_ok-value.ensures T a h) (c.in_ok-names.ensures T x n) in
      subst (λ (t : Tree). Holds T c.constant_path.result t) (ap (λ (o : SourcePosition). at o (constant_path (with a) false (x ∷ []))) e ∙ sym (other_is T _ a h small w x (sym c.if-is_path.ensures))) made;
}
