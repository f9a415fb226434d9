-- A declaration more, and one less.
use Rattle.std.proofs.Common.{◌≡◌, ℕ, ◌+◌, ◌<◌, List, [], ◌∷◌, ◌++◌, map, reverse, length, get_or, slice_get, slice_set, Some, refl, sym, ◌∙◌, ap, subst}
use Rattle.std.proofs.lemmas.Option.{slice_get-get_or, get_or_from_slice_get}
use Rattle.std.proofs.lemmas.List.{length-map, length-reverse}
use Rattle.ruby_lexer.specs.Bytes.{Bytes}
use Rattle.token_lookahead.specs.declared.locals.Declared.{Declared}
use Rattle.token_lookahead.specs.LocalNames.{name_of, Indexed}
use Rattle.token_lookahead.proofs.LocalIndex.{pushed, popped, last_first}

abbrev pub numbers_of : List Declared → List ℕ
numbers_of ds = reverse (map (λ d. d.number) ds)

abbrev pub befores_of : List Declared → List ℕ
befores_of ds = reverse (map (λ d. d.before) ds)

count_is : (ds : List Declared) → length (numbers_of ds) ≡ length ds
count_is ds = length-reverse (map (λ d. d.number) ds) ∙ length-map ds (λ d. d.number)

pub place_at : (places : List ℕ) (n p : ℕ) → n < length places → p ≡ get_or places n p → p ≡ get_or places n 0
place_at places n p below e = e ∙ sym (get_or_from_slice_get places n (get_or places n p) 0 (slice_get-get_or places n p below))

pub one_more : (texts : List Bytes) (places : List ℕ) (ds new : List Declared) (n b k : ℕ) → Indexed texts places (numbers_of ds) (befores_of ds) → new ≡ ds ++ record { number = n; before = b } ∷ [] → b ≡ get_or places n 0 → n < length places → k ≡ length ds + 1 → Indexed texts (slice_set places n k) (numbers_of new) (befores_of new)
one_more texts places ds new n b k h is before below count =
    let counted : k ≡ length (numbers_of ds) + 1 = count ∙ ap (λ m. m + 1) (sym (count_is ds)) in
    rw (is, last_first (λ d. d.number) ds (record { number = n; before = b }), last_first (λ d. d.before) ds (record { number = n; before = b }), before, counted) (pushed texts places (numbers_of ds) (befores_of ds) n h below)

pub names_more : (texts : List Bytes) (ds new : List Declared) (n b : ℕ) (name : Bytes) (names : List Bytes) → new ≡ ds ++ record { number = n; before = b } ∷ [] → slice_get texts n ≡ Some name → map (name_of texts) (numbers_of ds) ≡ names → map (name_of texts) (numbers_of new) ≡ name ∷ names
names_more texts ds new n b name names is at_n others =
    rw (is, last_first (λ d. d.number) ds (record { number = n; before = b }), get_or_from_slice_get texts n name [] at_n, others) refl

pub one_less : (texts : List Bytes) (places : List ℕ) (old ds : List Declared) (d : Declared) → Indexed texts places (numbers_of old) (befores_of old) → old ≡ ds ++ d ∷ [] → Indexed texts (slice_set places d.number d.before) (numbers_of ds) (befores_of ds)
one_less texts places old ds d h is =
    popped texts places (numbers_of ds) (befores_of ds) d.number d.before
    (subst (λ x. Indexed texts places x (d.before ∷ befores_of ds)) (ap numbers_of is ∙ last_first (λ d. d.number) ds d)
    (subst (λ x. Indexed texts places (numbers_of old) x) (ap befores_of is ∙ last_first (λ d. d.before) ds d) h))

pub names_less : (texts : List Bytes) (old ds : List Declared) (d : Declared) → old ≡ ds ++ d ∷ [] → map (name_of texts) (numbers_of old) ≡ name_of texts d.number ∷ map (name_of texts) (numbers_of ds)
names_less texts old ds d is = rw (is, last_first (λ d. d.number) ds d) refl
