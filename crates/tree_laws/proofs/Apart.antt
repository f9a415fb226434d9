-- The sequences of a text's tree begin at places of their own, within the text.
use Rattle.std.proofs.Common.{true, ◌≡◌, ℕ, ◌≤◌, ◌<◌, false, nat_eq, List, [], ◌∷◌, length, inr, refl, ap, arith}
use Rattle.std.specs.List.{IsDistinct, AllByRecursion}
use Rattle.std.specs.Prelude.{◌^◌}
use Rattle.std.proofs.lemmas.Bool.{eq-eqb}
use Rattle.std.proofs.lemmas.List.{length-take}
use Rattle.ruby_lexer.specs.Bytes.{Bytes}
use Rattle.ruby_lexer.specs.Tokens.{end_length, before_end}
use Rattle.ruby_tree.specs.Tree.{Tree}
use Rattle.ruby_tree.specs.Reading.{Reads}
use Rattle.ruby_meaning.specs.Sequences.{places}
use Rattle.tree_laws.proofs.Spots.{one_if, one_at, zero_false, count}
use Rattle.tree_laws.proofs.Spans.{none_there, passed}
use Rattle.tree_laws.proofs.Nests.{text_spans}

itself : (x : ℕ) → one_at x x ≡ 1
itself x = ap one_if (eq-eqb x x refl)

absent : (x : ℕ) (xs : List ℕ) → count x xs ≡ 0 → AllByRecursion (λ y. nat_eq x y ≡ false) xs
absent x [] e = tt
absent x (y ∷ xs) e = (zero_false (nat_eq x y) (omega (arith, e)), absent x xs (omega (arith, e)))

distinct : (xs : List ℕ) → ((p : ℕ) → count p xs ≤ 1) → IsDistinct nat_eq xs
unfolding IsDistinct
distinct [] h = tt
distinct (x ∷ xs) h = (absent x xs (omega (arith, h x, itself x)), distinct xs (λ p. omega (arith, h p)))

module _ (source : Bytes) (t : Tree) (R : Reads source t) where
  pub places_apart : IsDistinct nat_eq (places t)
  places_apart = distinct (places t) (text_spans source t R).part.once

  pub places_below : AllByRecursion (λ p. p < length (before_end source)) (places t)
  places_below = let a = text_spans source t R in passed a.rest.holds a.part

  -- a text is short
  short : length (before_end source) ≤ 4194304
  unfolding before_end
  short = omega (arith, length-take (end_length true source) source, R.are_tokens.is_text.short)

  pub places_small : AllByRecursion (λ p. p < 2 ^ 64) (places t)
  places_small = let a = text_spans source t R in passed (omega (arith, a.rest.holds, short)) a.part

  -- no sequence begins so far behind
  pub none_beyond : (p : ℕ) → 2 ^ 64 ≤ p → count p (places t) ≡ 0
  none_beyond p h = let a = text_spans source t R in none_there p 0 a.end (places t) a.part.between (inr (omega (arith, a.rest.holds, short, h)))
