-- What a test of the first token says of it.
use Rattle.std.proofs.Common.{◌≡◌, ℤ, ◌<◌, List, [], ◌∷◌, length, Bool, true, false, ◌&&◌, Option, Some, None, refl, ap, drop, arith, length-drop}
use Rattle.ruby_lexer.specs.declared.token.Token.{Token}
use Rattle.ruby_lexer.specs.Bytes.{Bytes, is_in}
use Rattle.ruby_lexer.specs.Pieces.{Kind, integer, name, constant, variable, global, keyword, mark, newline, label, literal, symbol, words, symbols, Parts, Tok, Toks, none, more, seen_all}
use Rattle.ruby_tree.specs.Rules.{front, word, is_kind_mark, is_kind_keyword, is_kind_name, is_kind_newline, is_kind_integer, is_kind_constant, is_kind_label, mark_in, word_in, is_mark, is_word}
use Rattle.token_lookahead.specs.Lookaheads.{is_empty, is_kind_variable, is_kind_global, integer_in, label_in, literal_in, symbol_in, words_in, symbols_in}
use Rattle.token_lookahead.proofs.SameBytes.{same_is}

false_true : {X : Type 0} → false ≡ true → X
false_true h = cc

none_some : {X A : Type 0} {x : A} → (let o : Option A = None in o) ≡ Some x → X
none_some h = cc

and_left : (a b : Bool) → (a && b) ≡ true → a ≡ true
and_left true b h = refl
and_left false b h = false_true h

and_right : (a b : Bool) → (a && b) ≡ true → b ≡ true
and_right true b h = h
and_right false b h = false_true h

pub not_empty : (ts : List Token) → 0 < length ts → false ≡ is_empty (seen_all ts)
not_empty [] h = absurd (omega arith)
not_empty (t ∷ ts) h = refl

-- a token whose kind is known is there
pub some_front : (ts : List Token) (k : Kind) → front (seen_all ts) ≡ Some k → 0 < length ts
some_front [] k h = none_some h
some_front (t ∷ ts) k h = omega arith

-- and fewer tokens are left behind it
pub next_shorter : (ts : List Token) (k : Kind) → front (seen_all ts) ≡ Some k → length (drop 1 ts) < length ts
next_shorter ts k h = omega (arith, some_front ts k h, length-drop 1 ts)

pub some_more : (w : Toks) (k : Kind) → front w ≡ Some k → (t : Tok) × (v : Toks) × (w ≡ more t v)
some_more none k h = none_some h
some_more (more t v) k h = (t, v, refl)

pub kind_mark : (o : Option Kind) → is_kind_mark o ≡ true → o ≡ Some mark
kind_mark (Some mark) h = refl
kind_mark _ h = false_true h

pub kind_keyword : (o : Option Kind) → is_kind_keyword o ≡ true → o ≡ Some keyword
kind_keyword (Some keyword) h = refl
kind_keyword _ h = false_true h

pub kind_name : (o : Option Kind) → is_kind_name o ≡ true → o ≡ Some name
kind_name (Some name) h = refl
kind_name _ h = false_true h

pub kind_newline : (o : Option Kind) → is_kind_newline o ≡ true → o ≡ Some newline
kind_newline (Some newline) h = refl
kind_newline _ h = false_true h

pub kind_constant : (o : Option Kind) → is_kind_constant o ≡ true → o ≡ Some constant
kind_constant (Some constant) h = refl
kind_constant _ h = false_true h

pub kind_variable : (o : Option Kind) → is_kind_variable o ≡ true → o ≡ Some variable
kind_variable (Some variable) h = refl
kind_variable _ h = false_true h

pub kind_global : (o : Option Kind) → is_kind_global o ≡ true → o ≡ Some global
kind_global (Some global) h = refl
kind_global _ h = false_true h

pub kind_integer : (o : Option Kind) → is_kind_integer o ≡ true → (z : ℤ) × (o ≡ Some (integer z))
kind_integer (Some (integer z)) h = (z, refl)
kind_integer _ h = false_true h

pub kind_label : (o : Option Kind) → is_kind_label o ≡ true → (ps : Parts) × (o ≡ Some (label ps))
kind_label (Some (label ps)) h = (ps, refl)
kind_label _ h = false_true h

-- what a token holds says what it is
pub holds_integer : (o : Option Kind) (z : ℤ) → integer_in o ≡ Some z → o ≡ Some (integer z)
holds_integer (Some (integer y)) z h = ap (λ x. Some (integer x)) (let e : Some y ≡ Some z = h in cc)
holds_integer _ z h = none_some h

pub holds_label : (o : Option Kind) (ps : Parts) → label_in o ≡ Some ps → o ≡ Some (label ps)
holds_label (Some (label qs)) ps h = ap (λ x. Some (label x)) (let e : Some qs ≡ Some ps = h in cc)
holds_label _ ps h = none_some h

pub holds_literal : (o : Option Kind) (ps : Parts) → literal_in o ≡ Some ps → o ≡ Some (literal ps)
holds_literal (Some (literal qs)) ps h = ap (λ x. Some (literal x)) (let e : Some qs ≡ Some ps = h in cc)
holds_literal _ ps h = none_some h

pub holds_symbol : (o : Option Kind) (f : Bytes) → symbol_in o ≡ Some f → o ≡ Some (symbol f)
holds_symbol (Some (symbol g)) f h = ap (λ x. Some (symbol x)) (let e : Some g ≡ Some f = h in cc)
holds_symbol _ f h = none_some h

pub holds_words : (o : Option Kind) (fs : List Bytes) → words_in o ≡ Some fs → o ≡ Some (words fs)
holds_words (Some (words gs)) fs h = ap (λ x. Some (words x)) (let e : Some gs ≡ Some fs = h in cc)
holds_words _ fs h = none_some h

pub holds_symbols : (o : Option Kind) (fs : List Bytes) → symbols_in o ≡ Some fs → o ≡ Some (symbols fs)
holds_symbols (Some (symbols gs)) fs h = ap (λ x. Some (symbols x)) (let e : Some gs ≡ Some fs = h in cc)
holds_symbols _ fs h = none_some h

module _ (source : Bytes) where
  -- a mark that is named, and one of a list
  pub mark_front : (f : Bytes) (w : Toks) → is_mark source f w ≡ true → front w ≡ Some mark
  mark_front f w h = kind_mark (front w) (and_left _ _ h)

  pub mark_word : (f : Bytes) (w : Toks) → is_mark source f w ≡ true → f ≡ word source w
  mark_word f w h = same_is f (word source w) (and_right _ _ h)

  pub mark_in_front : (fs : List Bytes) (w : Toks) → mark_in source fs w ≡ true → front w ≡ Some mark
  mark_in_front fs w h = kind_mark (front w) (and_left _ _ h)

  pub mark_in_list : (fs : List Bytes) (w : Toks) → mark_in source fs w ≡ true → is_in (word source w) fs ≡ true
  mark_in_list fs w h = and_right _ _ h

  -- the same for reserved words
  pub word_front : (f : Bytes) (w : Toks) → is_word source f w ≡ true → front w ≡ Some keyword
  word_front f w h = kind_keyword (front w) (and_left _ _ h)

  pub word_word : (f : Bytes) (w : Toks) → is_word source f w ≡ true → f ≡ word source w
  word_word f w h = same_is f (word source w) (and_right _ _ h)

  pub word_in_front : (fs : List Bytes) (w : Toks) → word_in source fs w ≡ true → front w ≡ Some keyword
  word_in_front fs w h = kind_keyword (front w) (and_left _ _ h)

  pub word_in_list : (fs : List Bytes) (w : Toks) → word_in source fs w ≡ true → is_in (word source w) fs ≡ true
  word_in_list fs w h = and_right _ _ h
