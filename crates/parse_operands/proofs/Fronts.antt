-- An operand by the kind of its first token.
use Rattle.std.proofs.Common.{◌≡◌, refl, sym, ap, ◌∙◌, ℤ, List, [], true, false, Option, Some, None}
use Rattle.ruby_lexer.specs.Bytes.{Bytes}
use Rattle.ruby_lexer.specs.Forms.{text_of}
use Rattle.ruby_lexer.specs.Pieces.{Kind, Parts, Toks}
use Rattle.ruby_lexer.specs.Pieces as token
use Rattle.ruby_tree.specs.Tree.{at, integer, symbol, array, instance, global}
use Rattle.ruby_tree.specs.Build.{texts_at, symbols_at}
use Rattle.ruby_tree.specs.Rules.{DoBlockOwner, Scope, front, next, position, word, is_kind_name, is_kind_constant, is_kind_keyword, is_kind_mark}
use Rattle.token_lookahead.specs.Lookaheads.{is_kind_variable, is_kind_global, integer_in, literal_in, symbol_in, words_in, symbols_in}
use Rattle.reference_parser.specs.Answers.{taken, fault}
use Rattle.reference_parser.specs.ReadItems.{Readers}
use Rattle.reference_parser.specs.ReadOperands.{literal_by, primary_by, read_name, read_constant, read_word, read_mark}
use Rattle.parse_operands.specs.Literals.{held_by}

-- what the first token shows, where its tokens stand
pub shown : {X : Type 0} {x y : X} {v w : Toks} (f : Option Kind → X) → x ≡ f (front v) → v ≡ w → x ≡ y → f (front w) ≡ y
shown f e is b = sym (ap (λ u. f (front u)) is) ∙ sym e ∙ b

module _ (source : Bytes) (R : Readers) (d : DoBlockOwner) (w : Toks) (s : Scope) where
  pub by_name : (k : Option Kind) → is_kind_name k ≡ true → primary_by source R d w s k ≡ read_name source R d w s
  unfolding primary_by
  by_name (Some token.name) is = refl
  by_name _ is = cc

  pub by_constant : (k : Option Kind) → is_kind_constant k ≡ true → primary_by source R d w s k ≡ read_constant source R d w s
  unfolding primary_by
  by_constant (Some token.constant) is = refl
  by_constant _ is = cc

  pub by_variable : (k : Option Kind) → is_kind_variable k ≡ true → primary_by source R d w s k ≡ taken (at (position w) (instance (word source w))) (next w) s
  unfolding primary_by
  by_variable (Some token.variable) is = refl
  by_variable _ is = cc

  pub by_global : (k : Option Kind) → is_kind_global k ≡ true → primary_by source R d w s k ≡ taken (at (position w) (global (word source w))) (next w) s
  unfolding primary_by
  by_global (Some token.global) is = refl
  by_global _ is = cc

  pub by_keyword : (k : Option Kind) → is_kind_keyword k ≡ true → primary_by source R d w s k ≡ read_word source R d w s
  unfolding primary_by
  by_keyword (Some token.keyword) is = refl
  by_keyword _ is = cc

  pub by_mark : (k : Option Kind) → is_kind_mark k ≡ true → primary_by source R d w s k ≡ read_mark source R d w s
  unfolding primary_by
  by_mark (Some token.mark) is = refl
  by_mark _ is = cc

  -- of no other kind
  pub by_held : (k : Option Kind) → is_kind_name k ≡ false → is_kind_constant k ≡ false → is_kind_variable k ≡ false → is_kind_global k ≡ false → is_kind_keyword k ≡ false → is_kind_mark k ≡ false → primary_by source R d w s k ≡ held_by source R w s k
  unfolding primary_by
  by_held (Some token.name) n c v g y m = cc
  by_held (Some token.constant) n c v g y m = cc
  by_held (Some token.variable) n c v g y m = cc
  by_held (Some token.global) n c v g y m = cc
  by_held (Some token.keyword) n c v g y m = cc
  by_held (Some token.mark) n c v g y m = cc
  by_held _ n c v g y m = refl

module _ (source : Bytes) (R : Readers) (w : Toks) (s : Scope) where
  pub held_integer : (k : Option Kind) (x : ℤ) → integer_in k ≡ Some x → held_by source R w s k ≡ taken (at (position w) (integer x)) (next w) s
  held_integer (Some (token.integer y)) x is = cc
  held_integer _ x is = cc

  pub held_literal : (k : Option Kind) (x : Parts) → literal_in k ≡ Some x → held_by source R w s k ≡ literal_by source R w s x (text_of x)
  held_literal (Some (token.literal y)) x is = cc
  held_literal _ x is = cc

  pub held_symbol : (k : Option Kind) (x : Bytes) → symbol_in k ≡ Some x → held_by source R w s k ≡ taken (at (position w) (symbol x)) (next w) s
  held_symbol (Some (token.symbol y)) x is = cc
  held_symbol _ x is = cc

  pub held_words : (k : Option Kind) (x : List Bytes) → words_in k ≡ Some x → held_by source R w s k ≡ taken (at (position w) (array (texts_at (position w) x) [])) (next w) s
  held_words (Some (token.words y)) x is = cc
  held_words _ x is = cc

  pub held_symbols : (k : Option Kind) (x : List Bytes) → symbols_in k ≡ Some x → held_by source R w s k ≡ taken (at (position w) (array (symbols_at (position w) x) [])) (next w) s
  held_symbols (Some (token.symbols y)) x is = cc
  held_symbols _ x is = cc

  -- what holds nothing
  pub held_none : (k : Option Kind) → integer_in k ≡ None → literal_in k ≡ None → symbol_in k ≡ None → words_in k ≡ None → symbols_in k ≡ None → held_by source R w s k ≡ fault
  held_none (Some (token.integer x)) i l f g h = cc
  held_none (Some (token.literal x)) i l f g h = cc
  held_none (Some (token.symbol x)) i l f g h = cc
  held_none (Some (token.words x)) i l f g h = cc
  held_none (Some (token.symbols x)) i l f g h = cc
  held_none _ i l f g h = refl
