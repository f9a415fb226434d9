-- What the tests of tokens say.
use Rattle.std.proofs.Common.{◌≡◌, ◌<◌, ◌≤◌, List, [], ◌∷◌, Bool, true, false, not, ◌&&◌, ◌||◌, Option, Some, None, ℤ, refl, sym, ap, ◌∙◌, arith}
use Rattle.std.proofs.lemmas.Bool.{false≢true, true≢false}
use Rattle.std.specs.List.{list_all}
use Rattle.std.specs.Cmp.Lexicographic.{bytes_decides}
use Rattle.ruby_lexer.specs.Bytes.{Bytes, same, is_in}
use Rattle.ruby_lexer.specs.Pieces.{Kind, integer, name, constant, variable, global, keyword, mark, newline, label, Parts, Toks, none, more}
use Rattle.ruby_tree.specs.Tree.{Goal}
use Rattle.ruby_tree.specs.Rules.{next, front, is_kind_mark, is_kind_keyword, is_kind_name, is_kind_newline, is_kind_integer, is_kind_constant, is_kind_label, word, mark_in, word_in, is_mark, is_word, goal_by}
use Rattle.ruby_tree.specs.FaultLine.{count_of}

-- truth values

pub both_true : (a b : Bool) → (a && b) ≡ true → (a ≡ true) × (b ≡ true)
both_true true b h = (refl, h)
both_true false b h = absurd (false≢true h)

pub both_false : (a b : Bool) → a ≡ true → (a && b) ≡ false → b ≡ false
both_false true b e h = h
both_false false b e h = absurd (false≢true e)

pub and_true : (a b : Bool) → a ≡ true → b ≡ true → (a && b) ≡ true
and_true true b e h = h
and_true false b e h = e

pub and_false : (a : Bool) → (a && false) ≡ false
and_false true = refl
and_false false = refl

pub left_false : (a b : Bool) → a ≡ false → (a && b) ≡ false
left_false true b e = absurd (true≢false e)
left_false false b e = refl

pub right_false : (a b : Bool) → b ≡ false → (a && b) ≡ false
right_false true b e = e
right_false false b e = refl

pub neither : (a b : Bool) → (a || b) ≡ false → (a ≡ false) × (b ≡ false)
neither true b h = absurd (true≢false h)
neither false b h = (refl, h)

pub neither_one : (a b : Bool) → a ≡ false → b ≡ false → (a || b) ≡ false
neither_one true b e h = absurd (true≢false e)
neither_one false b e h = h

pub left_true : (a b : Bool) → a ≡ true → (a || b) ≡ true
left_true true b e = refl
left_true false b e = absurd (false≢true e)

pub right_true : (a b : Bool) → b ≡ true → (a || b) ≡ true
right_true true b e = refl
right_true false b e = e

pub not_true : (a : Bool) → not a ≡ true → a ≡ false
not_true true h = absurd (false≢true h)
not_true false h = refl

pub not_false : (a : Bool) → not a ≡ false → a ≡ true
not_false true h = refl
not_false false h = absurd (true≢false h)

-- a test, which is true or false
pub by_test : {X : Type 0} (b : Bool) → (b ≡ true → X) → (b ≡ false → X) → X
by_test true h g = h refl
by_test false h g = g refl

-- the kind of the first token

pub kind_mark : (o : Option Kind) → is_kind_mark o ≡ true → o ≡ Some mark
kind_mark (Some mark) h = refl
kind_mark _ h = absurd (false≢true h)

pub kind_keyword : (o : Option Kind) → is_kind_keyword o ≡ true → o ≡ Some keyword
kind_keyword (Some keyword) h = refl
kind_keyword _ h = absurd (false≢true h)

pub kind_name : (o : Option Kind) → is_kind_name o ≡ true → o ≡ Some name
kind_name (Some name) h = refl
kind_name _ h = absurd (false≢true h)

pub kind_constant : (o : Option Kind) → is_kind_constant o ≡ true → o ≡ Some constant
kind_constant (Some constant) h = refl
kind_constant _ h = absurd (false≢true h)

pub kind_newline : (o : Option Kind) → is_kind_newline o ≡ true → o ≡ Some newline
kind_newline (Some newline) h = refl
kind_newline _ h = absurd (false≢true h)

pub kind_integer : (o : Option Kind) → is_kind_integer o ≡ true → (n : ℤ) × (o ≡ Some (integer n))
kind_integer (Some (integer n)) h = (n, refl)
kind_integer _ h = absurd (false≢true h)

pub kind_label : (o : Option Kind) → is_kind_label o ≡ true → (ps : Parts) × (o ≡ Some (label ps))
kind_label (Some (label ps)) h = (ps, refl)
kind_label _ h = absurd (false≢true h)

-- what is set is a name or a variable
pub data IsGoal : Option Kind → Type 0 where
  a_name : IsGoal (Some name)
  a_variable : IsGoal (Some variable)
  a_global : IsGoal (Some global)

none_some : {A : Type 0} {x : A} → None ≡ Some x → ⊥
none_some h = grind arith

pub kind_goal : (source : Bytes) (o : Option Kind) (f : Bytes) (g : Goal) → goal_by source o f ≡ Some g → IsGoal o
kind_goal source (Some name) f g h = a_name
kind_goal source (Some variable) f g h = a_variable
kind_goal source (Some global) f g h = a_global
kind_goal source _ f g h = absurd (none_some h)

-- what is known of each is known of one of them
pub held : (P : Bytes → Bool) (fs : List Bytes) (x : Bytes) → is_in x fs ≡ true → list_all P fs ≡ true → P x ≡ true
held P [] x h a = absurd (false≢true h)
held P (f ∷ fs) x h a = by_test (same x f)
    (λ e. ap P ((bytes_decides x f).0 e) ∙ (both_true _ _ a).0)
    (λ e. held P fs x (ap (λ b. b || is_in x fs) (sym e) ∙ h) (both_true _ _ a).1)

-- the tokens behind the first one

pub next_le : (w : Toks) → count_of (next w) ≤ count_of w
next_le none = omega arith
next_le (more t ts) = omega arith

pub next_less : (w : Toks) (k : Kind) → front w ≡ Some k → count_of (next w) < count_of w
next_less none k h = absurd (none_some h)
next_less (more t ts) k h = omega arith

module _ (source : Bytes) where
  -- a mark, its kind and how it is written; and a word
  pub mark_kind : (f : Bytes) (w : Toks) → is_mark source f w ≡ true → front w ≡ Some mark
  mark_kind f w h = kind_mark _ (both_true _ _ h).0

  pub mark_text : (f : Bytes) (w : Toks) → is_mark source f w ≡ true → word source w ≡ f
  mark_text f w h = sym ((bytes_decides f (word source w)).0 (both_true _ _ h).1)

  pub word_kind : (f : Bytes) (w : Toks) → is_word source f w ≡ true → front w ≡ Some keyword
  word_kind f w h = kind_keyword _ (both_true _ _ h).0

  pub word_text : (f : Bytes) (w : Toks) → is_word source f w ≡ true → word source w ≡ f
  word_text f w h = sym ((bytes_decides f (word source w)).0 (both_true _ _ h).1)

  -- one of several
  pub marks_kind : (fs : List Bytes) (w : Toks) → mark_in source fs w ≡ true → front w ≡ Some mark
  marks_kind fs w h = kind_mark _ (both_true _ _ h).0

  pub words_kind : (fs : List Bytes) (w : Toks) → word_in source fs w ≡ true → front w ≡ Some keyword
  words_kind fs w h = kind_keyword _ (both_true _ _ h).0

  pub marks_held : (P : Bytes → Bool) (fs : List Bytes) (w : Toks) → mark_in source fs w ≡ true → list_all P fs ≡ true → P (word source w) ≡ true
  marks_held P fs w h a = held P fs (word source w) (both_true _ _ h).1 a

  pub words_held : (P : Bytes → Bool) (fs : List Bytes) (w : Toks) → word_in source fs w ≡ true → list_all P fs ≡ true → P (word source w) ≡ true
  words_held P fs w h a = held P fs (word source w) (both_true _ _ h).1 a

  -- A test of the kind and the text has the value at a mark, or a word, that it has there.
  pub at_mark : {X : Type 0} (test : Option Kind → Bytes → X) (f : Bytes) (w : Toks) → is_mark source f w ≡ true → test (front w) (word source w) ≡ test (Some mark) f
  at_mark test f w h = ap (λ k. test k (word source w)) (mark_kind f w h) ∙ ap (test (Some mark)) (mark_text f w h)

  pub at_word : {X : Type 0} (test : Option Kind → Bytes → X) (f : Bytes) (w : Toks) → is_word source f w ≡ true → test (front w) (word source w) ≡ test (Some keyword) f
  at_word test f w h = ap (λ k. test k (word source w)) (word_kind f w h) ∙ ap (test (Some keyword)) (word_text f w h)

  -- what is one mark is no other, and no word
  pub other_mark : (f g : Bytes) (w : Toks) → is_mark source f w ≡ true → same g f ≡ false → is_mark source g w ≡ false
  other_mark f g w h e = at_mark (λ k x. is_kind_mark k && same g x) f w h ∙ e

  pub other_word : (f g : Bytes) (w : Toks) → is_word source f w ≡ true → same g f ≡ false → is_word source g w ≡ false
  other_word f g w h e = at_word (λ k x. is_kind_keyword k && same g x) f w h ∙ e

  pub mark_no_word : (f g : Bytes) (w : Toks) → is_mark source f w ≡ true → is_word source g w ≡ false
  mark_no_word f g w h = ap (λ k. is_kind_keyword k && same g (word source w)) (mark_kind f w h)

  pub word_no_mark : (f g : Bytes) (w : Toks) → is_word source f w ≡ true → is_mark source g w ≡ false
  word_no_mark f g w h = ap (λ k. is_kind_mark k && same g (word source w)) (word_kind f w h)

  -- one of these marks is not that one, and none of those
  pub other_marks : (fs : List Bytes) (g : Bytes) (w : Toks) → mark_in source fs w ≡ true → list_all (λ f. not (same g f)) fs ≡ true → is_mark source g w ≡ false
  other_marks fs g w h a = right_false _ _ (not_true _ (marks_held (λ x. not (same g x)) fs w h a))

  pub apart_marks : (fs gs : List Bytes) (w : Toks) → mark_in source fs w ≡ true → list_all (λ f. not (is_in f gs)) fs ≡ true → mark_in source gs w ≡ false
  apart_marks fs gs w h a = right_false _ _ (not_true _ (marks_held (λ x. not (is_in x gs)) fs w h a))

  pub other_words : (fs : List Bytes) (g : Bytes) (w : Toks) → word_in source fs w ≡ true → list_all (λ f. not (same g f)) fs ≡ true → is_word source g w ≡ false
  other_words fs g w h a = right_false _ _ (not_true _ (words_held (λ x. not (same g x)) fs w h a))

  pub apart_words : (fs gs : List Bytes) (w : Toks) → word_in source fs w ≡ true → list_all (λ f. not (is_in f gs)) fs ≡ true → word_in source gs w ≡ false
  apart_words fs gs w h a = right_false _ _ (not_true _ (words_held (λ x. not (is_in x gs)) fs w h a))

  -- that mark is one of these
  pub mark_among : (f : Bytes) (fs : List Bytes) (w : Toks) → is_mark source f w ≡ true → is_in f fs ≡ true → mark_in source fs w ≡ true
  mark_among f fs w h e = at_mark (λ k x. is_kind_mark k && is_in x fs) f w h ∙ e

  pub mark_not_among : (f : Bytes) (fs : List Bytes) (w : Toks) → is_mark source f w ≡ true → is_in f fs ≡ false → mark_in source fs w ≡ false
  mark_not_among f fs w h e = at_mark (λ k x. is_kind_mark k && is_in x fs) f w h ∙ e

  pub word_among : (f : Bytes) (fs : List Bytes) (w : Toks) → is_word source f w ≡ true → is_in f fs ≡ true → word_in source fs w ≡ true
  word_among f fs w h e = at_word (λ k x. is_kind_keyword k && is_in x fs) f w h ∙ e

  pub word_not_among : (f : Bytes) (fs : List Bytes) (w : Toks) → is_word source f w ≡ true → is_in f fs ≡ false → word_in source fs w ≡ false
  word_not_among f fs w h e = at_word (λ k x. is_kind_keyword k && is_in x fs) f w h ∙ e

  -- a token of another kind is neither
  pub kind_no_mark : (f : Bytes) (w : Toks) (k : Kind) → front w ≡ Some k → is_kind_mark (Some k) ≡ false → is_mark source f w ≡ false
  kind_no_mark f w k h e = left_false _ _ (ap is_kind_mark h ∙ e)

  pub kind_no_word : (f : Bytes) (w : Toks) (k : Kind) → front w ≡ Some k → is_kind_keyword (Some k) ≡ false → is_word source f w ≡ false
  kind_no_word f w k h e = left_false _ _ (ap is_kind_keyword h ∙ e)

  pub newline_no_mark : (f : Bytes) (w : Toks) → is_kind_newline (front w) ≡ true → is_mark source f w ≡ false
  newline_no_mark f w h = kind_no_mark f w newline (kind_newline _ h) refl

  pub newline_no_word : (f : Bytes) (w : Toks) → is_kind_newline (front w) ≡ true → is_word source f w ≡ false
  newline_no_word f w h = kind_no_word f w newline (kind_newline _ h) refl
