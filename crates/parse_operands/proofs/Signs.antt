-- A number with its sign, by the number that the token holds.
use Rattle.std.proofs.Common.{◌≡◌, refl, ap, ◌∙◌, ℤ, Option, Some, None, Result}
use Rattle.std.specs.Prelude.{neg_ℤ}
use Rattle.ruby_lexer.specs.Bytes.{Bytes}
use Rattle.ruby_lexer.specs.Pieces.{Toks, Kind}
use Rattle.ruby_lexer.specs.Pieces as token
use Rattle.ruby_tree.specs.Names.{Texts}
use Rattle.ruby_tree.specs.Tree.{Tree, at, integer}
use Rattle.ruby_tree.specs.Rules.{Scope, next, position}
use Rattle.token_lookahead.specs.Lookaheads.{integer_in}
use Rattle.reference_parser.specs.Answers.{Answer, taken, fault}
use Rattle.reference_parser.specs.ReadItems.{Readers}
use Rattle.reference_parser.specs.ReadOperands.{negative_by}
use Rattle.parse_state.specs.declared.failures.Failure.{Failure}
use Rattle.parse_state.specs.declared.standing.Parser.{Parser}
use Rattle.parse_state.specs.Gives.{Gives}
use Rattle.parse_state.proofs.Steps.{named}

module _ (source : Bytes) (R : Readers) (w : Toks) (s : Scope) where
  abbrev by_number : Option ℤ → Answer Tree
  by_number (Some n) = taken (at (position w) (integer (neg_ℤ n))) (next (next w)) s
  by_number None = fault

  same : (k : Option Kind) → negative_by source R w s k ≡ by_number (integer_in k)
  unfolding negative_by
  same (Some (token.integer n)) = refl
  same _ = refl

  module _ {X : Type 0} {H : Texts → X → Tree → Type 0} {p q : Parser} {result : Result X Failure} where
    pub negative_some : (k : Option Kind) {n : ℤ} → integer_in k ≡ Some n → Gives H p q result (taken (at (position w) (integer (neg_ℤ n))) (next (next w)) s) → Gives H p q result (negative_by source R w s k)
    negative_some k is g = named (same k ∙ ap by_number is) g

    pub negative_none : (k : Option Kind) → integer_in k ≡ None → Gives H p q result fault → Gives H p q result (negative_by source R w s k)
    negative_none k is g = named (same k ∙ ap by_number is) g
