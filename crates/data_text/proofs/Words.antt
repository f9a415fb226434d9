-- Given bytes.
use Rattle.std.proofs.Common.{◌≡◌, ℕ, ◌<◌, ◌+◌, List, [], ◌∷◌, ◌++◌, length, take, drop, get_or, ◌≤◌, refl, sym, ◌∙◌, ap, append_assoc, append-nil, length-append, arith, add-one}
use Rattle.std.proofs.Math.Seq.{drop-cons}
use Rattle.std.proofs.lemmas.List.{take_all, length-take-le}
use Rattle.data_text.specs.Reading.{Found, Fails, Shorts, Anything, WordAt}

pub cancel : (s a b : List ℕ) → s ++ a ≡ s ++ b → a ≡ b
cancel [] a b h = h
cancel (x ∷ s) a b h = let tail : s ++ a ≡ s ++ b = cc in cancel s a b tail

pub word_found : (word w r : List ℕ) → w ≡ word ++ r → Found (WordAt word) tt w r
word_found word w r parts = record { front = word; parts = parts; reads = λ u. refl; only = λ y u t h. (refl, sym (cancel word u t h)) }

front_reads : (word front back t : List ℕ) → word ≡ front ++ back → front ++ (back ++ t) ≡ word ++ t
front_reads word front back t e = sym (append_assoc front back t) ∙ ap (λ k. k ++ t) (sym e)

pub word_short : (word w front back : List ℕ) → word ≡ front ++ back → length front < length word → w ≡ front ++ [] → Shorts Anything (WordAt word) w
word_short word w front back e less parts = record {
  begins = record { value = tt; more = back; reads = λ t h. ap (λ k. k ++ (back ++ t)) (parts ∙ append-nil front) ∙ front_reads word front back t e };
  none = λ y t h. omega (arith, less, ap length h, ap length parts, length-append word t, length-append front []);
}

first : (c b : ℕ) (u t : List ℕ) → c ∷ u ≡ b ∷ t → c ≡ b
first c b u t e = cc

pub word_bad : (word w front back after : List ℕ) (b c n : ℕ) → word ≡ front ++ b ∷ back → w ≡ front ++ c ∷ after → n ≡ length (c ∷ after) → (c ≡ b → ⊥) → Fails Anything (WordAt word) w n
word_bad word w front back after b c n e parts count ne = record {
  front = front;
  byte = c;
  rest = after;
  parts = parts;
  count = count;
  begins = record { value = tt; more = b ∷ back; reads = λ t h. front_reads word front (b ∷ back) t e };
  dead = λ y u t h. ne (first c b u (back ++ t) (cancel front (c ∷ u) (b ∷ (back ++ t)) (h ∙ ap (λ k. k ++ t) e ∙ append_assoc front (b ∷ back) t)));
}

pub drop_at : (w : List ℕ) (i : ℕ) → i < length w → drop i w ≡ get_or w i 0 ∷ drop (i + 1) w
drop_at w i h = rw (add-one, drop-cons w i 0)

pub whole_front : (w : List ℕ) (i : ℕ) → length w ≤ i → take i w ≡ w
whole_front w i h = take_all i w h

pub take_less : (w : List ℕ) (i : ℕ) → i < length w → length (take i w) < length w
take_less w i h = let e = length-take-le i w (omega arith) in omega arith
