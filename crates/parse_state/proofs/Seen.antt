-- What is seen, where a parser stands.
use Rattle.std.proofs.Common.{◌≡◌, sym, ap, ◌∙◌, Bool, true, false, ◌&&◌, List}
use Rattle.ruby_lexer.specs.declared.token.Token.{Token}
use Rattle.ruby_lexer.specs.Bytes.{Bytes}
use Rattle.ruby_lexer.specs.Pieces.{Toks, seen_all}
use Rattle.ruby_tree.specs.Rules.{Scope}
use Rattle.parse_state.specs.declared.standing.Parser.{Parser}
use Rattle.parse_state.specs.Standing.{At}

-- the tokens that are left
pub sees : {p : Parser} {w : Toks} {s : Scope} {rest : List Token} → rest ≡ p.rest.now → At p w s → seen_all rest ≡ w
sees same a = ap seen_all same ∙ a.tokens

-- what is told of them; and a test of them, which says yes or no
module _ {A : Type 0} {r : A} {v w : Toks} where
  pub seen_as : {x y : Bytes} (f : Bytes → Toks → A) → r ≡ f x v → x ≡ y → v ≡ w → r ≡ f y w
  seen_as {x} {y} f is at same = is ∙ ap (λ z. f z v) at ∙ ap (f y) same

  pub seen : {b : A} (f : Toks → A) → r ≡ f v → v ≡ w → r ≡ b → f w ≡ b
  seen f is same so = sym (is ∙ ap f same) ∙ so

  pub seen_in : {b : A} {x y : Bytes} (f : Bytes → Toks → A) → r ≡ f x v → x ≡ y → v ≡ w → r ≡ b → f y w ≡ b
  seen_in f is at same so = sym (seen_as f is at same) ∙ so

pub and_yes : {x y b : Bool} → x ≡ true → y ≡ b → (x && y) ≡ b
and_yes {x} {y} a b = ap (λ z. z && y) a ∙ b

pub and_no : {x : Bool} (y : Bool) → x ≡ false → (x && y) ≡ false
and_no y a = ap (λ z. z && y) a
