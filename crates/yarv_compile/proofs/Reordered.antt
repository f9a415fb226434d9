-- Lists of the same elements, in parts that stand in other orders.
use Rattle.std.proofs.Common.{◌≡◌, sym, subst, List, ◌++◌}
use Rattle.std.specs.Prelude.{IsPermutation}
use Rattle.std.proofs.lemmas.List.{append_assoc}
use Rattle.std.proofs.lemmas.List.Sorted.{IsPermutation-refl, IsPermutation-trans, IsPermutation-append_left, IsPermutation-append_right, IsPermutation-append_comm}

module _ {X : Type 0} where
  infixr 10 ◌▸◌
  pub ◌▸◌ : {xs ys zs : List X} → IsPermutation xs ys → IsPermutation ys zs → IsPermutation xs zs
  ◌▸◌ {xs} {ys} {zs} a b = IsPermutation-trans xs ys zs a b

  pub of_same : {xs ys : List X} → xs ≡ ys → IsPermutation xs ys
  of_same {xs} e = subst (IsPermutation xs) e (IsPermutation-refl xs)

  pub joined : {xs ys zs us : List X} → IsPermutation xs ys → IsPermutation zs us → IsPermutation (xs ++ zs) (ys ++ us)
  joined {xs} {ys} {zs} {us} a b = IsPermutation-append_left zs xs ys a ▸ IsPermutation-append_right ys zs us b

  -- the second part first
  pub turned : {xs ys zs us : List X} → IsPermutation xs ys → IsPermutation zs us → IsPermutation (zs ++ xs) (ys ++ us)
  turned {xs} {ys} {zs} {us} a b = IsPermutation-append_comm zs xs ▸ joined a b

  -- two parts, each of two pieces that stand apart from one another
  pub mixed : (ws ts ps ss : List X) → IsPermutation ((ws ++ ts) ++ (ps ++ ss)) (ss ++ (ts ++ (ws ++ ps)))
  mixed ws ts ps ss =
      of_same (sym (append_assoc (ws ++ ts) ps ss)) ▸ turned (IsPermutation-refl ss) (joined (IsPermutation-append_comm ws ts) (IsPermutation-refl ps) ▸ of_same (append_assoc ts ws ps))

  -- a part of two pieces, between which another one stands
  pub parted : (ws os ps vs : List X) → IsPermutation (ws ++ (os ++ (ps ++ vs))) (vs ++ ((ws ++ ps) ++ os))
  parted ws os ps vs =
      joined (IsPermutation-refl ws) (of_same (sym (append_assoc os ps vs))) ▸ (of_same (sym (append_assoc ws (os ++ ps) vs)) ▸ turned (IsPermutation-refl vs) (joined (IsPermutation-refl ws) (IsPermutation-append_comm os ps) ▸ of_same (sym (append_assoc ws ps os))))
