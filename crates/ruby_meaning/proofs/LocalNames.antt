-- The names of the locals with which a body begins are those of its code.
use Rattle.std.proofs.Common.{◌≡◌, ℕ, zero, suc, Bool, true, false, cond, ◌||◌, refl, ap, ◌∙◌, List, [], ◌∷◌}
use Rattle.std.proofs.lemmas.Bool.Decides.{Decides-eqb}
use Rattle.std.proofs.lemmas.Slice.Eq.{slice_eq-Decides}
use Rattle.std.proofs.lemmas.List.Folds.{list_any-append}
use Rattle.ruby_lexer.specs.Bytes.{same, is_in}
use Rattle.ruby_tree.specs.Names.{Bytes}
use Rattle.ruby_tree.specs.Tree.{Tree, Params, no_param, required, optional, rest_param, block_param}
use Rattle.ruby_meaning.specs.Value.{Value, nil}
use Rattle.ruby_meaning.specs.Store.{has_name, with_name}
use Rattle.ruby_meaning.specs.Locals.{params_of, names_of_params, locals_of}
use Rattle.ruby_meaning.specs.Calls.{bound, all_nil, with_names}
use Rattle.ruby_meaning.specs.Laws.{names_in}
use Rattle.ruby_meaning.proofs.Truths.{or_left, or_right}
use Rattle.ruby_meaning.proofs.Changes.{names_kept}

itself : (f : Bytes) → same f f ≡ true
itself f = (slice_eq-Decides Decides-eqb f f (same f f) refl).1 refl

either_if : (t u v : Bool) → u ≡ v → cond t true u ≡ (t || v)
either_if true u v e = refl
either_if false u v e = e

pub has_in : (x : Bytes) (bs : List (Bytes × Value)) → has_name x bs ≡ is_in x (names_in bs)
has_in x [] = refl
has_in x (b ∷ bs) = either_if (same x b.0) (has_name x bs) (is_in x (names_in bs)) (has_in x bs)

pub names_nil : (xs : List Bytes) → names_in (all_nil xs) ≡ xs
names_nil [] = refl
names_nil (x ∷ xs) = ap (λ ys. x ∷ ys) (names_nil xs)

-- a name among these is set, and they stay
name_set : (x : Bytes) (v : Value) (all : List (Bytes × Value)) (names : List Bytes) → names_in all ≡ names → is_in x names ≡ true → names_in (with_name x v all) ≡ names
name_set x v all names same_names h = names_kept x v all (has_in x all ∙ ap (is_in x) same_names ∙ h) ∙ same_names

abbrev Among : Params → List Bytes → Type 0
Among ps names = (x : Bytes) → is_in x (names_of_params ps) ≡ true → is_in x names ≡ true

first_among : (x : Bytes) (xs names : List Bytes) → ((y : Bytes) → is_in y (x ∷ xs) ≡ true → is_in y names ≡ true) → is_in x names ≡ true
first_among x xs names h = h x (or_left (same x x) (is_in x xs) (itself x))

others_among : (x : Bytes) (xs names : List Bytes) → ((y : Bytes) → is_in y (x ∷ xs) ≡ true → is_in y names ≡ true) → (y : Bytes) → is_in y xs ≡ true → is_in y names ≡ true
others_among x xs names h y e = h y (or_right (same y x) (is_in y xs) e)

-- Parameters that are bound are names among these, and they stay.
names_bound : (ps : Params) (vs : List Value) (k : ℕ) (r b : Value) (all : List (Bytes × Value)) (names : List Bytes) → names_in all ≡ names → Among ps names → names_in (with_names (bound ps vs k r b) all) ≡ names
names_bound no_param vs k r b all names e h = e
names_bound (required x ps) [] k r b all names e h =
    names_bound ps [] k r b (with_name x nil all) names (name_set x nil all names e (first_among x (names_of_params ps) names h)) (others_among x (names_of_params ps) names h)
names_bound (required x ps) (v ∷ vs) k r b all names e h =
    names_bound ps vs k r b (with_name x v all) names (name_set x v all names e (first_among x (names_of_params ps) names h)) (others_among x (names_of_params ps) names h)
names_bound (optional x t ps) [] k r b all names e h = names_bound ps [] k r b all names e (others_among x (names_of_params ps) names h)
names_bound (optional x t ps) (v ∷ vs) zero r b all names e h = names_bound ps (v ∷ vs) zero r b all names e (others_among x (names_of_params ps) names h)
names_bound (optional x t ps) (v ∷ vs) (suc k) r b all names e h =
    names_bound ps vs k r b (with_name x v all) names (name_set x v all names e (first_among x (names_of_params ps) names h)) (others_among x (names_of_params ps) names h)
names_bound (rest_param x ps) vs k r b all names e h =
    names_bound ps vs k r b (with_name x r all) names (name_set x r all names e (first_among x (names_of_params ps) names h)) (others_among x (names_of_params ps) names h)
names_bound (block_param x ps) vs k r b all names e h =
    names_bound ps vs k r b (with_name x b all) names (name_set x b all names e (first_among x (names_of_params ps) names h)) (others_among x (names_of_params ps) names h)

-- The locals with which a body begins, whatever its arguments, have the names of its code.
pub names_begin : (seen : List Bytes) (t : Tree) (names : List Bytes) (vs : List Value) (k : ℕ) (r b : Value) → names ≡ locals_of seen t → names_in (with_names (bound (params_of t) vs k r b) (all_nil names)) ≡ names
names_begin seen t names vs k r b are =
    names_bound (params_of t) vs k r b (all_nil names) names (names_nil names) (λ x h. ap (is_in x) are ∙ list_any-append (same x) (names_of_params (params_of t)) _ ∙ or_left (is_in x (names_of_params (params_of t))) _ h)
