-- What guests rename before a call.
use Rattle.std.proofs.Common.{◌≡◌, Bool, true, false, ◌==◌, ℕ, ◌+◌, ◌<◌, List, [], ◌∷◌, ◌++◌, length, take, drop, get_or, if◌then◌else◌, refl, sym, ◌∙◌, ap, take-append-drop}
use Rattle.std.proofs.lemmas.List.{take_at, take_more}
use Rattle.bs_outside.specs.Cache.{CacheItem}
use Rattle.mem_shelf.specs.Keeping.{GuestItem, item_of, due_at}

if_more : (t : Bool) (x : CacheItem) (l a more : List CacheItem) → l ≡ a ++ more → (if t then x ∷ l else l) ≡ (if t then x ∷ a else a) ++ more
if_more true x l a more is = ap (λ (r : List CacheItem). x ∷ r) is
if_more false x l a more is = is

due_at-append : (call : ℕ) (xs ys : List GuestItem) → due_at call (xs ++ ys) ≡ due_at call xs ++ due_at call ys
due_at-append call [] ys = refl
due_at-append call (x ∷ xs) ys = if_more (x.0 == call) (item_of x) (due_at call (xs ++ ys)) (due_at call xs) (due_at call ys) (due_at-append call xs ys)

pub due_at-more : (call : ℕ) (guests : List GuestItem) (i : ℕ) (guest : GuestItem) → i < length guests → guest ≡ get_or guests i guest
    → due_at call (take (i + 1) guests) ≡ due_at call (take i guests) ++ due_at call (guest ∷ [])
due_at-more call guests i guest within is =
    ap (due_at call) (take_more guests i guest within) ∙ due_at-append call (take i guests) (get_or guests i guest ∷ [])
    ∙ ap (λ (g : GuestItem). due_at call (take i guests) ++ due_at call (g ∷ [])) (sym is)

-- what the first guests rename is the first of what all do
pub due_at-front : (call : ℕ) (guests : List GuestItem) (i : ℕ) → due_at call (take i guests) ≡ take (length (due_at call (take i guests))) (due_at call guests)
due_at-front call guests i =
    let front = due_at call (take i guests) in
    sym (ap (λ (l : List GuestItem). take (length front) (due_at call l)) (sym (take-append-drop i guests))
    ∙ ap (take (length front)) (due_at-append call (take i guests) (drop i guests)) ∙ take_at front (due_at call (drop i guests)) (length front) refl)
