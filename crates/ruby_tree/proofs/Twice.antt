-- Whether a parameter stands twice, looking back at those before it.
use Rattle.std.proofs.Common.{Bor, ◌≡◌, ℕ, ◌+◌, ◌<◌, Bool, true, false, not, ◌||◌, ◌&&◌, List, [], ◌∷◌, ◌++◌, length, drop, get_or, refl, ap, sym, ◌∙◌, if◌then◌else◌}
use Rattle.std.specs.Bool.{Decides}
use Rattle.std.specs.List.{list_any}
use Rattle.std.proofs.lemmas.List.{at_drop_more}
use Rattle.std.proofs.lemmas.List.Folds.{list_any-append}
use Rattle.std.proofs.lemmas.Bool.Decides.{Decides-eqb}
use Rattle.std.proofs.lemmas.Slice.Eq.{slice_eq-Decides}
use Rattle.indexmap.specs.IndexSet.{insert_key}
use Rattle.ruby_lexer.specs.Bytes.{Bytes, same, is_in}
use Rattle.ruby_tree.specs.declared.node.Param.{Param}
use Rattle.ruby_tree.specs.declared.node.Param.TheVariants as param
use Rattle.ruby_tree.specs.declared.node.Node.{Node}
use Rattle.ruby_tree.specs.Names.{Texts}
use Rattle.ruby_tree.specs.Tree.{Params, no_param}
use Rattle.ruby_tree.specs.Placement.{names_of, stands_twice, are_required}
use Rattle.ruby_tree.specs.FirstFault.{param_name}
use Rattle.ruby_tree.specs.Read.{text_of_name}
use Rattle.ruby_tree.specs.Views.{read_param, read_params}

-- whether one of the names is among those seen, or stands twice
abbrev pub meets : List Bytes → List Bytes → Bool
meets seen [] = false
meets seen (n ∷ ns) = is_in n seen || meets (seen ++ n ∷ []) ns

-- whether one of the names is among those seen
abbrev common : List Bytes → List Bytes → Bool
common seen [] = false
common seen (n ∷ ns) = is_in n seen || common seen ns

same-swap : (f g : Bytes) → same f g ≡ same g f
same-swap f g = by (same f g) (same g f) refl refl
  where
    told : (x y : Bytes) → Decides (same x y) (x ≡ y)
    told x y = slice_eq-Decides Decides-eqb x y (same x y) refl

    by : (a b : Bool) → same f g ≡ a → same g f ≡ b → same f g ≡ same g f
    by true b is there = is ∙ sym ((told g f).1 (sym ((told f g).0 is)))
    by false true is there = (told f g).1 (sym ((told g f).0 there)) ∙ sym there
    by false false is there = is ∙ sym there

or-middle : (a b c d : Bool) → ((a || b) || (c || d)) ≡ ((a || c) || (b || d))
or-middle true b c d = refl
or-middle false true true d = refl
or-middle false true false d = refl
or-middle false false c d = refl

or-none : (a : Bool) → (a || false) ≡ a
or-none true = refl
or-none false = refl

or-assoc : (a b c : Bool) → ((a || b) || c) ≡ (a || (b || c))
or-assoc true b c = refl
or-assoc false b c = refl

one_more : (m n : Bytes) (seen : List Bytes) → is_in m (seen ++ n ∷ []) ≡ (is_in m seen || same n m)
one_more m n seen = list_any-append (same m) seen (n ∷ []) ∙ ap (λ x. is_in m seen || x) (or-none (same m n) ∙ same-swap m n)

common-push : (seen : List Bytes) (n : Bytes) (ns : List Bytes) → common (seen ++ n ∷ []) ns ≡ (common seen ns || is_in n ns)
common-push seen n [] = refl
common-push seen n (m ∷ ns) = rw (one_more m n seen, common-push seen n ns) (or-middle (is_in m seen) (same n m) (common seen ns) (is_in n ns))

common-none : (ns : List Bytes) → common [] ns ≡ false
common-none [] = refl
common-none (n ∷ ns) = common-none ns

meets-is : (seen ns : List Bytes) → meets seen ns ≡ (common seen ns || stands_twice ns)
meets-is seen [] = refl
meets-is seen (n ∷ ns) =
    ap (λ x. is_in n seen || x) (meets-is (seen ++ n ∷ []) ns ∙ ap (λ x. x || stands_twice ns) (common-push seen n ns) ∙ or-assoc (common seen ns) (is_in n ns) (stands_twice ns))
    ∙ sym (or-assoc (is_in n seen) (common seen ns) (is_in n ns || stands_twice ns))

pub meets-none : (ns : List Bytes) → meets [] ns ≡ stands_twice ns
meets-none ns = meets-is [] ns ∙ ap (λ x. x || stands_twice ns) (common-none ns)

-- the texts that are lent
abbrev pub lent : List (Bor Bytes) → List Bytes
lent [] = []
lent (k ∷ ks) = k.now ∷ lent ks

is_in-lent : (t : Bor Bytes) (ks : List (Bor Bytes)) → list_any (λ k. same t.now k.now) ks ≡ is_in t.now (lent ks)
is_in-lent t [] = refl
is_in-lent t (k ∷ ks) = ap (λ x. same t.now k.now || x) (is_in-lent t ks)

lent-push : (ks : List (Bor Bytes)) (k : Bor Bytes) → lent (ks ++ k ∷ []) ≡ lent ks ++ k.now ∷ []
lent-push [] k = refl
lent-push (x ∷ ks) k = ap (λ l. x.now ∷ l) (lent-push ks k)

lent-insert : (ks new : List (Bor Bytes)) (k : Bor Bytes) → new ≡ insert_key (λ x y. same x.now y.now) ks k → lent new ≡ insert_key same (lent ks) k.now
lent-insert ks new k is = ap lent is ∙ by (list_any (λ y. same k.now y.now) ks) refl
  where
    by : (b : Bool) → list_any (λ y. same k.now y.now) ks ≡ b → lent (if b then ks else ks ++ k ∷ []) ≡ insert_key same (lent ks) k.now
    by true there = ap (λ b. if b then lent ks else lent ks ++ k.now ∷ []) (sym (sym (is_in-lent k ks) ∙ there))
    by false there = lent-push ks k ∙ ap (λ b. if b then lent ks else lent ks ++ k.now ∷ []) (sym (sym (is_in-lent k ks) ∙ there))

module _ (texts : Texts) where
  names-param : (p : Param Node) (ps : Params) → names_of (read_param texts p ps) ≡ text_of_name texts (param_name p) ∷ names_of ps
  names-param (param.Required n) ps = refl
  names-param (param.Optional n a) ps = refl
  names-param (param.Rest n) ps = refl
  names-param (param.Block n) ps = refl

  -- one more parameter
  pub meets_more : (seen : List Bytes) (ps : List (Param Node)) (i : ℕ) (p : Param Node) → i < length ps → meets seen (names_of (read_params texts (drop i ps))) ≡ (is_in (text_of_name texts (param_name (get_or ps i p))) seen || meets (seen ++ text_of_name texts (param_name (get_or ps i p)) ∷ []) (names_of (read_params texts (drop (i + 1) ps))))
  meets_more seen ps i p less = at_drop_more (λ x. meets seen (names_of (read_params texts x))) ps i p less ∙ ap (meets seen) (names-param _ _)

  pub required-param : (p : Param Node) (ps : Params) → are_required (read_param texts p ps) ≡ (are_required (read_param texts p no_param) && are_required ps)
  required-param (param.Required n) ps = refl
  required-param (param.Optional n a) ps = refl
  required-param (param.Rest n) ps = refl
  required-param (param.Block n) ps = refl

  pub required_more : (ps : List (Param Node)) (i : ℕ) (p : Param Node) → i < length ps → p ≡ get_or ps i p → are_required (read_param texts p no_param) ≡ true → are_required (read_params texts (drop i ps)) ≡ are_required (read_params texts (drop (i + 1) ps))
  required_more ps i p less is required =
      at_drop_more (λ x. are_required (read_params texts x)) ps i p less
      ∙ ap (λ x. are_required (read_param texts x (read_params texts (drop (i + 1) ps)))) (sym is)
      ∙ required-param p _
      ∙ ap (λ b. b && are_required (read_params texts (drop (i + 1) ps))) required

  -- one that is no required one
  pub required_no_more : (ps : List (Param Node)) (i : ℕ) (p : Param Node) → i < length ps → p ≡ get_or ps i p → are_required (read_param texts p no_param) ≡ false → are_required (read_params texts (drop i ps)) ≡ false
  required_no_more ps i p less is required =
      at_drop_more (λ x. are_required (read_params texts x)) ps i p less
      ∙ ap (λ x. are_required (read_param texts x (read_params texts (drop (i + 1) ps)))) (sym is)
      ∙ required-param p _
      ∙ ap (λ b. b && are_required (read_params texts (drop (i + 1) ps))) required

  at_param : (seen : List Bytes) (ps : List (Param Node)) (i : ℕ) (p : Param Node) (t : Bytes) → i < length ps → p ≡ get_or ps i p → t ≡ text_of_name texts (param_name p) → meets seen (names_of (read_params texts (drop i ps))) ≡ (is_in t seen || meets (seen ++ t ∷ []) (names_of (read_params texts (drop (i + 1) ps))))
  at_param seen ps i p t less is text =
      meets_more seen ps i p less
      ∙ ap (λ x. is_in x seen || meets (seen ++ x ∷ []) (names_of (read_params texts (drop (i + 1) ps)))) (ap (λ x. text_of_name texts (param_name x)) (sym is) ∙ sym text)

  -- a name that was not seen yet
  pub meets_new : (ks new : List (Bor Bytes)) (ps : List (Param Node)) (i : ℕ) (p : Param Node) (t : Bor Bytes) (added : Bool) → i < length ps → p ≡ get_or ps i p → t.now ≡ text_of_name texts (param_name p) → added ≡ not (list_any (λ k. same t.now k.now) ks) → new ≡ insert_key (λ x y. same x.now y.now) ks t → added ≡ true → meets (lent new) (names_of (read_params texts (drop (i + 1) ps))) ≡ meets (lent ks) (names_of (read_params texts (drop i ps)))
  meets_new ks new ps i p t added less is text told grown was = by (is_in t.now (lent ks)) refl
    where
      by : (b : Bool) → is_in t.now (lent ks) ≡ b → meets (lent new) (names_of (read_params texts (drop (i + 1) ps))) ≡ meets (lent ks) (names_of (read_params texts (drop i ps)))
      by true there = let no : true ≡ false = sym was ∙ told ∙ ap not (is_in-lent t ks ∙ there) in cc
      by false there =
          ap (λ x. meets x (names_of (read_params texts (drop (i + 1) ps)))) (lent-insert ks new t grown ∙ ap (λ b. if b then lent ks else lent ks ++ t.now ∷ []) there)
          ∙ sym (at_param (lent ks) ps i p t.now less is text ∙ ap (λ b. b || meets (lent ks ++ t.now ∷ []) (names_of (read_params texts (drop (i + 1) ps)))) there)

  -- a name that was seen
  pub meets_old : (ks : List (Bor Bytes)) (ps : List (Param Node)) (i : ℕ) (p : Param Node) (t : Bor Bytes) (added : Bool) → i < length ps → p ≡ get_or ps i p → t.now ≡ text_of_name texts (param_name p) → added ≡ not (list_any (λ k. same t.now k.now) ks) → added ≡ false → meets (lent ks) (names_of (read_params texts (drop i ps))) ≡ true
  meets_old ks ps i p t added less is text told was = by (is_in t.now (lent ks)) refl
    where
      by : (b : Bool) → is_in t.now (lent ks) ≡ b → meets (lent ks) (names_of (read_params texts (drop i ps))) ≡ true
      by true there = at_param (lent ks) ps i p t.now less is text ∙ ap (λ b. b || meets (lent ks ++ t.now ∷ []) (names_of (read_params texts (drop (i + 1) ps)))) there
      by false there = let no : false ≡ true = sym was ∙ told ∙ ap not (is_in-lent t ks ∙ there) in cc
