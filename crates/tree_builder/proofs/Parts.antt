-- A part that may be missing, and the only one of a list.
use Rattle.std.proofs.Common.{◌≡◌, ℕ, ◌+◌, true, false, List, [], ◌∷◌, ◌++◌, length, Option, Some, refl, sym, ap, subst, ◌∙◌, arith}
use Rattle.std.specs.Prelude.{is_some}
use Rattle.std.proofs.lemmas.List.{length_push}
use Rattle.std.proofs.Math.Bool.{and-true}
use Rattle.std.specs.declared.boxed.Box.{Box}
use Rattle.std.specs.declared.alloc.Global.{Global}
use Rattle.ruby_tree.specs.declared.node.Node.{Node}
use Rattle.tree_builder.specs.declared.lists.Subtrees.{Subtrees}
use Rattle.tree_builder.specs.declared.lists.ElseSubtree.{ElseSubtree}
use Rattle.ruby_tree.specs.Names.{Texts}
use Rattle.ruby_tree.specs.Tree.{Tree, Trees, no_more, more, Other, without, with}
use Rattle.ruby_tree.specs.Read.{tree_of}
use Rattle.ruby_tree.specs.NamesFit.{names_fit}
use Rattle.ruby_tree.specs.Build.{one}
use Rattle.tree_builder.specs.Subtrees.{IsNode, AreNodes, IsOther, IsPart, Holds, HoldsAll, HoldsOther}

pub some_holds : (T : Texts) (b : Box Node Global) (d : ℕ) (t : Tree) → IsPart T b.value d t → HoldsOther T (record { node = Some b; depth = d }) (with t)
some_holds T b d t p = record {
  present = refl;
  shows = p.shows;
  reads = λ small U on.
      let n : IsNode U b.value t = p.reads small U on in
      record { fits = n.fits; other = ap with n.tree };
}

with_same : (a b : Tree) → with a ≡ with b → a ≡ b
with_same a b is = cc

other_node : (U : Texts) (b : Box Node Global) (n : Node) (t : Tree) → n ≡ b.value → IsOther U (Some b) (with t) → IsNode U n t
other_node U b n t same h = record {
  fits = ap (names_fit (length U)) same ∙ h.fits;
  tree = ap (tree_of U) same ∙ with_same (tree_of U b.value) t h.other;
}

pub part_holds : (T : Texts) (s : ElseSubtree) (b : Box Node Global) (n : Node) (o : Other) → s.node ≡ Some b → n ≡ b.value → HoldsOther T s o → (t : Tree) × (o ≡ with t) × Holds T (record { node = n; depth = s.depth }) t
part_holds T s b n without is same h =
    let there : is_some s.node ≡ true = ap is_some is in
    let missing : is_some s.node ≡ false = h.present in
    absurd cc
part_holds T s b n (with t) is same h = (
  t,
  refl,
  record {
    shows = h.shows;
    reads = λ small U on. other_node U b n t same (subst (λ (x : Option (Box Node Global)). IsOther U x (with t)) is (h.reads small U on));
  },
)

-- the last of one is the only one
last_only : (rest : List Node) (n : Node) → length (rest ++ n ∷ []) ≡ 1 → rest ++ n ∷ [] ≡ n ∷ []
last_only [] n is = refl
last_only (m ∷ rest) n is = let longer : length (rest ++ n ∷ []) ≡ length rest + 1 = length_push rest n in absurd (omega arith)

tree_same : (a b : Tree) → one a ≡ one b → a ≡ b
tree_same a b is = cc

only_node : (U : Texts) (n : Node) (t : Tree) → AreNodes U (n ∷ []) (one t) → IsNode U n t
only_node U n t h = record {
  fits = sym (and-true (names_fit (length U) n)) ∙ h.fits;
  tree = tree_same (tree_of U n) t h.trees;
}

only_is : (T : Texts) (s : Subtrees) (n : Node) (ts : Trees) → s.nodes.items ≡ n ∷ [] → HoldsAll T s ts → (t : Tree) × (ts ≡ one t) × Holds T (record { node = n; depth = s.depth }) t
only_is T s n no_more is h = let count : length s.nodes.items ≡ 1 = ap length is in let counts = h.counts in absurd (omega (arith, count, counts))
only_is T s n (more t (more u us)) is h = let count : length s.nodes.items ≡ 1 = ap length is in let counts = h.counts in absurd (omega (arith, count, counts))
only_is T s n (more t no_more) is h = (
  t,
  refl,
  record {
    shows = omega (arith, h.shows);
    reads = λ small U on. only_node U n t (subst (λ (ns : List Node). AreNodes U ns (one t)) is (h.reads (omega (arith, small)) U on));
  },
)

pub only_holds : (T : Texts) (s : Subtrees) (rest : List Node) (n : Node) (ts : Trees) → s.nodes.items ≡ rest ++ n ∷ [] → length s.nodes.items ≡ 1 → HoldsAll T s ts → (t : Tree) × (ts ≡ one t) × Holds T (record { node = n; depth = s.depth }) t
only_holds T s rest n ts is count h = only_is T s n ts (is ∙ last_only rest n (ap length (sym is) ∙ count)) h
