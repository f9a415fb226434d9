-- Texts and symbols in a row, one more at a time.
use Rattle.std.proofs.Common.{◌≡◌, ℕ, ◌+◌, ◌<◌, Bool, true, false, ◌&&◌, List, [], ◌∷◌, ◌++◌, length, map, take, get_or, refl, sym, ap, ◌∙◌}
use Rattle.std.specs.List.{list_all}
use Rattle.std.proofs.lemmas.Bool.{ltb-true}
use Rattle.std.proofs.lemmas.List.{map-append, take_more}
use Rattle.std.proofs.lemmas.List.Folds.{list_all-append}
use Rattle.ruby_tree.specs.declared.names.Name.{Name}
use Rattle.ruby_tree.specs.Names.{Bytes, Texts, Extends}
use Rattle.ruby_tree.specs.Tree.{SourcePosition, more, at, text, symbol, trees_then}
use Rattle.ruby_tree.specs.Read.{text_of_name}
use Rattle.ruby_tree.specs.NamesFit.{name_fits}
use Rattle.ruby_tree.specs.Build.{one, texts_at, symbols_at}
use Rattle.tree_builder.specs.Subtrees.{IsNamed, AreNamed}
use Rattle.tree_builder.proofs.GoesOn.{extends_same}

texts_more : (o : SourcePosition) (fs : List Bytes) (f : Bytes) → texts_at o (fs ++ f ∷ []) ≡ trees_then (texts_at o fs) (one (at o (text f)))
texts_more o [] f = refl
texts_more o (g ∷ fs) f = ap (more (at o (text g))) (texts_more o fs f)

symbols_more : (o : SourcePosition) (fs : List Bytes) (f : Bytes) → symbols_at o (fs ++ f ∷ []) ≡ trees_then (symbols_at o fs) (one (at o (symbol f)))
symbols_more o [] f = refl
symbols_more o (g ∷ fs) f = ap (more (at o (symbol g))) (symbols_more o fs f)

pub texts_step : (o : SourcePosition) (xs : List Bytes) (i : ℕ) (f : Bytes) → i < length xs → f ≡ get_or xs i f → trees_then (texts_at o (take i xs)) (one (at o (text f))) ≡ texts_at o (take (i + 1) xs)
texts_step o xs i f within is = sym (texts_more o (take i xs) f) ∙ ap (texts_at o) (ap (λ (g : Bytes). take i xs ++ g ∷ []) is ∙ sym (take_more xs i f within))

both_of : (a b : Bool) → (a && b) ≡ true → (a ≡ true) × (b ≡ true)
both_of true b is = (refl, is)
both_of false b is = absurd cc

last_same : (xs ys : List Bytes) (x y : Bytes) → xs ++ x ∷ [] ≡ ys ++ y ∷ [] → (xs ≡ ys) × (x ≡ y)
last_same [] [] x y is = (refl, cc)
last_same [] (b ∷ []) x y is = absurd cc
last_same [] (b ∷ (d ∷ ys)) x y is = absurd cc
last_same (a ∷ []) [] x y is = absurd cc
last_same (a ∷ (d ∷ xs)) [] x y is = absurd cc
last_same (a ∷ xs) (b ∷ ys) x y is =
    let heads : a ≡ b = cc in
    let tails : xs ++ x ∷ [] ≡ ys ++ y ∷ [] = cc in
    let p = last_same xs ys x y tails in
    (cc, p.1)

module _ (T : Texts) (ns : List Name) (n : Name) (gs : List Bytes) (h : AreNamed T (ns ++ n ∷ []) gs) where
  split_at : (U : Texts) → map (text_of_name U) (ns ++ n ∷ []) ≡ map (text_of_name U) ns ++ text_of_name U n ∷ []
  split_at U = map-append (text_of_name U) ns (n ∷ [])

  pub split_is : gs ≡ map (text_of_name T) ns ++ text_of_name T n ∷ []
  split_is = sym (h.texts T (extends_same T)) ∙ split_at T

  same_in : (U : Texts) → Extends T U → (map (text_of_name U) ns ≡ map (text_of_name T) ns) × (text_of_name U n ≡ text_of_name T n)
  same_in U on = last_same _ _ _ _ (sym (split_at U) ∙ h.texts U on ∙ split_is)

  fits_in : (U : Texts) → Extends T U → (list_all (name_fits (length U)) ns ≡ true) × (list_all (name_fits (length U)) (n ∷ []) ≡ true)
  fits_in U on = both_of _ _ (sym (list_all-append (name_fits (length U)) ns (n ∷ [])) ∙ h.within U on)

  pub first_named : AreNamed T ns (map (text_of_name T) ns)
  first_named = record { within = λ U on. (fits_in U on).0; texts = λ U on. (same_in U on).0 }

  pub last_named : IsNamed T n (text_of_name T n)
  last_named = record { within = λ U on. ltb-true _ _ (both_of _ _ (fits_in U on).1).0; text = λ U on. (same_in U on).1 }

  pub symbols_step : (o : SourcePosition) → trees_then (symbols_at o (map (text_of_name T) ns)) (one (at o (symbol (text_of_name T n)))) ≡ symbols_at o gs
  symbols_step o = sym (symbols_more o (map (text_of_name T) ns) (text_of_name T n)) ∙ ap (symbols_at o) (sym split_is)

pub none_named : (T : Texts) (gs : List Bytes) → AreNamed T [] gs → gs ≡ []
none_named T gs h = sym (h.texts T (extends_same T))
