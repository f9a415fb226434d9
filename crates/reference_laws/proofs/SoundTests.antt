-- What the tests of the first token mean.
use Rattle.std.proofs.Common.{◌≡◌, Bool, true, false, not, ◌&&◌, ◌||◌, List, [], ◌∷◌, Option, Some, refl, sym, ap, ◌∙◌}
use Rattle.std.proofs.lemmas.Bool.{true≢false, false≢true, and_parts}
use Rattle.std.proofs.lemmas.Cmp.{nat_list_eq_equiv}
use Rattle.std.specs.Cmp.Lexicographic.{same_text}
use Rattle.ruby_lexer.specs.Bytes.{Bytes, same, is_in}
use Rattle.ruby_lexer.specs.Pieces.{Kind, name, constant, Toks}
use Rattle.ruby_tree.specs.Rules.{front, word, is_kind_name, is_kind_constant, is_kind_keyword, is_word, word_in}
use Rattle.reference_parser.specs.Fronts.{is_name, is_constant}

pub is_not : (a : Bool) → not a ≡ true → a ≡ false
is_not true h = absurd (false≢true h)
is_not false h = refl

pub or_other : (a b : Bool) → (a || b) ≡ true → a ≡ false → b ≡ true
or_other true b h fails = absurd (true≢false fails)
or_other false b h fails = h

pub or_first : (a b : Bool) → (a || b) ≡ true → b ≡ false → a ≡ true
or_first true b h fails = refl
or_first false b h fails = absurd (true≢false (sym h ∙ fails))

-- neither of two, where the first is told with a `not` before it
pub and_not : (a b : Bool) → (not a && b) ≡ false → a ≡ false → b ≡ false
and_not true b h fails = absurd (true≢false fails)
and_not false b h fails = h

kind-name : (k : Option Kind) → is_kind_name k ≡ true → k ≡ Some name
kind-name (Some name) h = refl
kind-name _ h = absurd (false≢true h)

pub kind-constant : (k : Option Kind) → is_kind_constant k ≡ true → k ≡ Some constant
kind-constant (Some constant) h = refl
kind-constant _ h = absurd (false≢true h)

pub name-true : (w : Toks) → is_name w ≡ true → front w ≡ Some name
name-true w h = kind-name (front w) h

pub constant-true : (w : Toks) → is_constant w ≡ true → front w ≡ Some constant
constant-true w h = kind-constant (front w) h

kind_name_no_keyword : (k : Option Kind) → is_kind_name k ≡ true → is_kind_keyword k ≡ false
kind_name_no_keyword (Some name) h = refl
kind_name_no_keyword _ h = absurd (false≢true h)

-- the words of a list, one by one
one_more : (k : Bool) (f w : Bytes) (fs : List Bytes) → (k && (same w f || is_in w fs)) ≡ ((k && same f w) || (k && is_in w fs))
one_more true f w fs = ap (λ b. b || is_in w fs) (nat_list_eq_equiv.symm w f)
one_more false f w fs = refl

never : (k : Bool) → (k && false) ≡ false
never true = refl
never false = refl

module _ (source : Bytes) where
  -- a name is no word of the language
  pub name-no_word : (fs : List Bytes) (w : Toks) → is_name w ≡ true → word_in source fs w ≡ false
  name-no_word fs w h = ap (λ b. b && is_in (word source w) fs) (kind_name_no_keyword (front w) h)

  pub word_in-more : (f : Bytes) (fs : List Bytes) (w : Toks) → word_in source (f ∷ fs) w ≡ (is_word source f w || word_in source fs w)
  word_in-more f fs w = one_more (is_kind_keyword (front w)) f (word source w) fs

  pub word_in-none : (w : Toks) → word_in source [] w ≡ false
  word_in-none w = never (is_kind_keyword (front w))

  -- a word that is f is in a list where f is
  pub word_in-as : (f : Bytes) (fs : List Bytes) (w : Toks) → is_word source f w ≡ true → word_in source fs w ≡ is_in f fs
  word_in-as f fs w h =
      let parts = and_parts (is_kind_keyword (front w)) (same f (word source w)) h in
      let is : f ≡ word source w = same_text f (word source w) (sym parts.1) in
      rw (parts.0, ← is)

  -- the first word of a list, where it is none of the others; and the others
  pub word_in-rest : (f : Bytes) (fs : List Bytes) (w : Toks) → is_word source f w ≡ false → word_in source (f ∷ fs) w ≡ word_in source fs w
  word_in-rest f fs w h = word_in-more f fs w ∙ ap (λ b. b || word_in source fs w) h

  pub word_in-one : (f : Bytes) (w : Toks) → word_in source (f ∷ []) w ≡ true → is_word source f w ≡ true
  word_in-one f w h = or_first _ _ (sym (word_in-more f [] w) ∙ h) (word_in-none w)
