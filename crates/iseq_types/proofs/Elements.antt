-- What holds of each element of a list, or of some, as its places show it.
use Rattle.std.proofs.Common.{◌≡◌, ℕ, ◌+◌, ◌<◌, List, [], ◌∷◌, ◌++◌, length, get_or, take, Some, All, Any, refl, sym, subst, ap, ◌∙◌, arith, length-append}
use Rattle.std.specs.Prelude.{slice_get, Contains}
use Rattle.std.proofs.lemmas.List.{take_more, get_or_append_left, get_or_push, length_push, take-take, get_or-take, length-take}
use Rattle.std.proofs.lemmas.List.Elements.{All-get_or, All-take, All-pop}
use Rattle.std.proofs.lemmas.Option.{slice_get_within, slice_get-get_or, get_or_from_slice_get}

pub All-at : {X : Type 0} (P : X → Type 0) (xs : List X) (k : ℕ) (x : X) → All P xs → slice_get xs k ≡ Some x → P x
All-at P xs k x all e = subst P (get_or_from_slice_get xs k x x e) (All-get_or P xs k x (slice_get_within xs k x e) all)

pub All-from_at : {X : Type 0} (P : X → Type 0) (xs : List X) → ((k : ℕ) (x : X) → slice_get xs k ≡ Some x → P x) → All P xs
All-from_at P xs each = λ k d l. each k (get_or xs k d) (slice_get-get_or xs k d l)

pub Any-at : {X : Type 0} (P : X → Type 0) (xs : List X) (k : ℕ) (x : X) → slice_get xs k ≡ Some x → P x → Any P xs
Any-at P xs k x e p = (k, x, slice_get_within xs k x e, get_or_from_slice_get xs k x x e, p)

pub Contains-at : {X : Type 0} (xs : List X) (k : ℕ) (x : X) → slice_get xs k ≡ Some x → Contains xs x
Contains-at xs k x e = (k, slice_get_within xs k x e, get_or_from_slice_get xs k x x e)

pub at-Contains : {X : Type 0} (xs : List X) (x : X) → (c : Contains xs x) → slice_get xs c.0 ≡ Some x
at-Contains xs x c = slice_get-get_or xs c.0 x c.1 ∙ ap Some c.2

pub Any-weaker : {X : Type 0} (P Q : X → Type 0) (xs : List X) → ((x : X) → P x → Q x) → Any P xs → Any Q xs
Any-weaker P Q xs f a = (a.0, a.1, a.2, a.3, f a.1 a.4)

Any-append_left : {X : Type 0} (P : X → Type 0) (xs ys : List X) → Any P xs → Any P (xs ++ ys)
Any-append_left P xs ys a =
    (a.0, a.1, omega (arith, a.2, length-append xs ys), get_or_append_left xs ys a.1 a.0 a.2 ∙ a.3, a.4)

pub Any-more : {X : Type 0} (P : X → Type 0) (xs : List X) (i : ℕ) (d : X) → i < length xs → Any P (take i xs) → Any P (take (i + 1) xs)
Any-more P xs i d l a = subst (λ ys. Any P ys) (sym (take_more xs i d l)) (Any-append_left P (take i xs) (get_or xs i d ∷ []) a)

Any-last : {X : Type 0} (P : X → Type 0) (xs : List X) (x : X) → P x → Any P (xs ++ x ∷ [])
Any-last P xs x p = (length xs, x, omega (arith, length_push xs x), get_or_push xs x x (length xs) refl, p)

pub Any-here : {X : Type 0} (P : X → Type 0) (xs : List X) (i : ℕ) (d : X) → i < length xs → P (get_or xs i d) → Any P (take (i + 1) xs)
Any-here P xs i d l p = subst (λ ys. Any P ys) (sym (take_more xs i d l)) (Any-last P (take i xs) (get_or xs i d) p)

pub All-less : {X : Type 0} (P : X → Type 0) (xs : List X) (i : ℕ) → All P (take (i + 1) xs) → All P (take i xs)
All-less P xs i all = subst (λ ys. All P ys) (take-take i (i + 1) xs (omega arith)) (All-take P i (take (i + 1) xs) all)

pub All-last : {X : Type 0} (P : X → Type 0) (xs : List X) (i : ℕ) (d : X) → i < length xs → All P (take (i + 1) xs) → P (get_or xs i d)
All-last P xs i d l all =
    let low : i < i + 1 = omega arith in
    subst P (get_or-take (i + 1) xs i d low) (All-get_or P (take (i + 1) xs) i d (omega (arith, l, length-take (i + 1) xs)) all)

pub All-before_push : {X : Type 0} (P : X → Type 0) (xs : List X) (x : X) → All P (xs ++ x ∷ []) → All P xs × P x
All-before_push P xs x all = All-pop P (xs ++ x ∷ []) xs (Some x) refl all
