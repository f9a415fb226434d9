-- The texts of the keys of a table.
use Rattle.std.proofs.Common.{◌≡◌, ℕ, ◌<◌, ◌≤◌, List, [], ◌∷◌, ◌++◌, map, length, get_or, slice_get, if◌then◌else◌, Bool, true, false, Option, Some, None, Vec, refl, sym, ◌∙◌, ap, subst, arith, length-append}
use Rattle.std.specs.declared.alloc.Global.{Global}
use Rattle.std.specs.Option.{option_map}
use Rattle.std.specs.List.{AllByRecursion, IsDistinct, list_any, position}
use Rattle.std.proofs.lemmas.Option.{slice_get_within, slice_get-get_or, get_or_from_slice_get, slice_get-map}
use Rattle.std.proofs.lemmas.List.{length-map, get_or_append_left, map-append}
use Rattle.std.proofs.lemmas.List.Quantifiers.{position-Some}
use Rattle.ruby_lexer.specs.Bytes.{Bytes, same}
use Rattle.ruby_tree.specs.Names.{Extends}
use Rattle.token_lookahead.specs.LocalNames.{name_of, Indexed}
use Rattle.token_lookahead.proofs.SameBytes.{same_is}
use Rattle.token_lookahead.proofs.LocalIndex.{extended, kept, within_texts}

-- a key and its text
abbrev pub Key : Type 0
Key = Vec ℕ Global

abbrev pub text_of_key : Key → Bytes
text_of_key v = v.items

all_apart : (g : Bytes) (xs : List Key) → AllByRecursion (λ x. same g (text_of_key x) ≡ false) xs → AllByRecursion (λ h. same g h ≡ false) (map text_of_key xs)
all_apart g [] h = tt
all_apart g (x ∷ xs) h = (h.0, all_apart g xs h.1)

pub texts_apart : (xs : List Key) → IsDistinct (λ x y. same (text_of_key x) (text_of_key y)) xs → IsDistinct same (map text_of_key xs)
unfolding IsDistinct
texts_apart [] h = tt
texts_apart (x ∷ xs) h = (all_apart (text_of_key x) xs h.0, texts_apart xs h.1)

-- the key that was found has the name
pub found_at : (name : Bytes) (xs : List Key) (i : ℕ) → Some i ≡ position (λ x. same name (text_of_key x)) xs → slice_get (map text_of_key xs) i ≡ Some name
found_at name [] i h = let none : Some i ≡ (let o : Option ℕ = None in o) = h in cc
found_at name (x ∷ xs) i h =
    let at : (i < length (x ∷ xs)) × (same name (text_of_key (get_or (x ∷ xs) i x)) ≡ true) × ((k : ℕ) → k < i → same name (text_of_key (get_or (x ∷ xs) k x)) ≡ false) = position-Some (λ y. same name (text_of_key y)) (x ∷ xs) i x (sym h) in
    slice_get-map text_of_key (x ∷ xs) i ∙ ap (option_map text_of_key) (slice_get-get_or (x ∷ xs) i x at.0) ∙ ap (λ g. Some g) (sym (same_is _ _ at.1))

-- no key has it
pub found_none : (name : Bytes) (xs : List Key) → false ≡ list_any (λ x. same name (text_of_key x)) xs → list_any (same name) (map text_of_key xs) ≡ false
found_none name xs h = any_map name xs ∙ sym h
  where
    any_map : (name : Bytes) (xs : List Key) → list_any (same name) (map text_of_key xs) ≡ list_any (λ x. same name (text_of_key x)) xs
    any_map name [] = refl
    any_map name (x ∷ xs) = rw (any_map name xs) refl

-- a key like this one stands at the place
pub stored_at : (name : Bytes) (xs : List Key) (i : ℕ) (y : Key) → text_of_key y ≡ name → (x : Key) × (slice_get xs i ≡ Some x) × (same (text_of_key y) (text_of_key x) ≡ true) → slice_get (map text_of_key xs) i ≡ Some name
stored_at name xs i y is h = slice_get-map text_of_key xs i ∙ ap (option_map text_of_key) h.1 ∙ ap (λ g. Some g) (sym (same_is _ _ h.2) ∙ is)

append_get : (gs hs : List Bytes) (n : ℕ) (g : Bytes) → slice_get gs n ≡ Some g → slice_get (gs ++ hs) n ≡ Some g
append_get gs hs n g h =
    let below : n < length gs = slice_get_within gs n g h in
    slice_get-get_or (gs ++ hs) n [] (omega (arith, length-append gs hs)) ∙ ap (λ x. Some x) (get_or_append_left gs hs [] n below ∙ get_or_from_slice_get gs n g [] h)

-- an insertion leaves the texts where they are
pub inserted : (old new : List Key) (x : Key) (b : Bool) → new ≡ (if b then old else old ++ x ∷ []) → Extends (map text_of_key old) (map text_of_key new)
inserted old new x true e = subst (λ xs. Extends (map text_of_key old) (map text_of_key xs)) (sym e) (λ n g h. h)
inserted old new x false e = subst (λ xs. Extends (map text_of_key old) (map text_of_key xs)) (sym e) (λ n g h. rw (map-append text_of_key old (x ∷ [])) (append_get (map text_of_key old) (text_of_key x ∷ []) n g h))

-- the table grew, and places were added up to the one of the name
pub roomy : (old new : List Key) (places more ns bs : List ℕ) (n : ℕ) (name : Bytes) → Indexed (map text_of_key old) places ns bs → IsDistinct same (map text_of_key new) → length old ≤ length new → slice_get (map text_of_key new) n ≡ Some name → ((m : ℕ) → get_or more m 0 ≡ get_or places m 0) → length places ≤ length more → ((m : ℕ) → n < m → length places ≤ m → length more ≤ m) → Indexed (map text_of_key new) more ns bs
roomy old new places more ns bs n name h apart grown at_n same_places longer fits =
    let below : n < length (map text_of_key new) = slice_get_within _ n name at_n in
    let old_fits : length places ≤ length (map text_of_key old) = h.fits in
    let old_length : length (map text_of_key old) ≡ length old = length-map old text_of_key in
    let new_length : length (map text_of_key new) ≡ length new = length-map new text_of_key in
    let less : length more ≤ length (map text_of_key new) = fits (length (map text_of_key new)) below (omega arith) in
    extended _ _ places more ns bs h apart less same_places longer

-- the locals keep their names
pub same_names : (old new : List Key) (places ns bs : List ℕ) (names : List Bytes) → Indexed (map text_of_key old) places ns bs → Extends (map text_of_key old) (map text_of_key new) → map (name_of (map text_of_key old)) ns ≡ names → map (name_of (map text_of_key new)) ns ≡ names
same_names old new places ns bs names h more is = kept _ _ more ns (within_texts _ _ _ _ h) ∙ is
