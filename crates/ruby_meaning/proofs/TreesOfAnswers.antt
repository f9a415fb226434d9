-- The source trees of the whole answers are source trees: each entry passes a test.
use Rattle.std.proofs.Common.{Ordering, Less, Equal, Greater, ◌≡◌, ◌<◌, ◌≤◌, ◌^◌, Bool, true, false, ◌&&◌, ◌||◌, ◌⊎◌, inl, inr, refl, sym, ◌∙◌, ap, subst, arith, leb-true, List, [], ◌∷◌, Option, Some, None, IfSome}
use Rattle.std.specs.Prelude.{IsSome, is_some, nat_le, cond}
use Rattle.std.specs.Ordering.{eq_by_cmp, is_eq, nat_cmp}
use Rattle.std.specs.Cmp.Lexicographic.{slice_cmp, nat_list_cmp_total}
use Rattle.std.specs.FinMap as finite
use Rattle.std.specs.Fmt.{digits}
use Rattle.std.specs.List.{list_all}
use Rattle.std.specs.Str.{is_utf8, chars}
use Rattle.bs_outside.specs.Paths.{is_normal_path, parent_of}
use Rattle.bs_outside.specs.SourceTree.{SourceTree, IsSourceTree, is_folder, time_of}
use Rattle.bs_outside.specs.declared.trees.Item.{Item}
use Rattle.ruby_tree.specs.Names.{Bytes}
use Rattle.ruby_meaning.specs.AnswerOf.{workload_entries, workload_tree}
use Rattle.ruby_meaning.specs.WordRows.{two_entries, two_files, folder_entries, folder_tree, TreesOfAnswers}

abbrev ordered : Bytes → Bytes → Ordering
ordered = slice_cmp nat_cmp

both : (a b : Bool) → (a && b) ≡ true → (a ≡ true) × (b ≡ true)
both true b e = (refl, e)
both false b e = absurd cc

one_of : (a b : Bool) → (a || b) ≡ true → (a ≡ true) ⊎ (b ≡ true)
one_of true b e = inl refl
one_of false b e = inr e

is_equal : (r : Ordering) → is_eq r ≡ true → r ≡ Equal
is_equal Less e = absurd cc
is_equal Equal e = refl
is_equal Greater e = absurd cc

same_path : (p q : Bytes) → eq_by_cmp ordered p q ≡ true → p ≡ q
same_path p q e = finite.slice_cmp-IsAntisymmetric finite.nat_cmp-IsAntisymmetric p q (is_equal (ordered p q) e)

-- What is found passes a test that every entry passes.
found_passes : (test : Bytes → Item → Bool) (es : List (Bytes × Item)) → list_all (λ e. test e.0 e.1) es ≡ true → (path : Bytes) → IfSome (finite.find ordered path es) (λ found. test path found ≡ true)
found_passes test [] all path = tt
found_passes test (e ∷ es) all path =
    let parts : (test e.0 e.1 ≡ true) × (list_all (λ x. test x.0 x.1) es ≡ true) = both (test e.0 e.1) (list_all (λ x. test x.0 x.1) es) all in
    elim (eq_by_cmp ordered path e.0) as (λ (b : Bool). eq_by_cmp ordered path e.0 ≡ b → IfSome (cond b (Some e.1) (finite.find ordered path es)) (λ found. test path found ≡ true)) [
      | true ↦ λ is. subst (λ k. test k e.1 ≡ true) (sym (same_path path e.0 is)) parts.0
      | false ↦ λ is. found_passes test es parts.1 path
    ] refl

abbrev has_folder : List (Bytes × Item) → Bytes → Bool
has_folder es path = eq_by_cmp ordered path (47 ∷ []) || is_folder (finite.find ordered (parent_of path) es)

abbrev stands : List (Bytes × Item) → Bytes → Item → Bool
stands es path found = is_normal_path path && (has_folder es path && nat_le (time_of found) 1)

module _ (source : SourceTree) (es : List (Bytes × Item)) (h : (path : Bytes) → finite.get source path ≡ finite.find ordered path es)
    (root : is_some (finite.find ordered (47 ∷ []) es) ≡ true) (all : list_all (λ e. stands es e.0 e.1) es ≡ true) where
  standing : (path : Bytes) → IfSome (finite.get source path) (λ found. stands es path found ≡ true)
  standing path = subst (λ o. IfSome o (λ found. stands es path found ≡ true)) (sym (h path)) (found_passes (stands es) es all path)

  path_of : (path : Bytes) (o : Option Item) → IfSome o (λ found. stands es path found ≡ true) → IsSome o → (is_normal_path path ≡ true) × (has_folder es path ≡ true)
  path_of path None q s = absurd cc
  path_of path (Some found) q s =
      let first : (is_normal_path path ≡ true) × ((has_folder es path && nat_le (time_of found) 1) ≡ true) = both (is_normal_path path) (has_folder es path && nat_le (time_of found) 1) q in
      (first.0, (both (has_folder es path) (nat_le (time_of found) 1) first.1).0)

  parent_is : (path : Bytes) → has_folder es path ≡ true → (path ≡ 47 ∷ []) ⊎ (is_folder (finite.get source (parent_of path)) ≡ true)
  parent_is path e =
      elim (one_of (eq_by_cmp ordered path (47 ∷ [])) (is_folder (finite.find ordered (parent_of path) es)) e) as (λ u. (path ≡ 47 ∷ []) ⊎ (is_folder (finite.get source (parent_of path)) ≡ true)) [
        | inl a ↦ inl (same_path path (47 ∷ []) a)
        | inr a ↦ inr (ap is_folder (h (parent_of path)) ∙ a)
      ]

  time_fits : (path : Bytes) (o : Option Item) → IfSome o (λ found. stands es path found ≡ true) → IfSome o (λ found. time_of found < 2 ^ 63)
  time_fits path None q = tt
  time_fits path (Some found) q =
      let first : (is_normal_path path ≡ true) × ((has_folder es path && nat_le (time_of found) 1) ≡ true) = both (is_normal_path path) (has_folder es path && nat_le (time_of found) 1) q in
      let small : time_of found ≤ 1 = leb-true (time_of found) 1 (both (has_folder es path) (nat_le (time_of found) 1) first.1).1 in
      omega (arith, small)

  is_source_tree : IsSourceTree source
  is_source_tree = record {
    paths = λ path s. (path_of path (finite.get source path) (standing path) s).0;
    root = ap is_some (h (47 ∷ [])) ∙ root;
    parents = λ path s. parent_is path (path_of path (finite.get source path) (standing path) s).1;
    times = λ path. time_fits path (finite.get source path) (standing path);
  }

pub trees : TreesOfAnswers
unfolding digits is_utf8 chars lib.Utf8.encode
trees = record {
  of_two_files = is_source_tree two_files two_entries (λ path. finite.get-from_sorted ordered two_entries path tt) refl refl;
  of_a_folder = is_source_tree folder_tree folder_entries (λ path. finite.get-from_sorted ordered folder_entries path tt) refl refl;
  of_a_workload = is_source_tree (workload_tree 1) (workload_entries 1) (finite.get-from_entries nat_list_cmp_total (workload_entries 1)) refl refl;
}
