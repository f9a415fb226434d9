-- Parameters of a method begin only with what the rules say. So a list of tokens either begins them or has none.
use Rattle.std.proofs.Common.{◌≡◌, ℕ, Bool, true, false, ◌||◌, codes, refl, ap, Some}
use Rattle.ruby_lexer.specs.Bytes.{Bytes}
use Rattle.ruby_lexer.specs.Pieces.{Toks, name}
use Rattle.ruby_tree.specs.Tree.{Params}
use Rattle.ruby_tree.specs.Rules.{Scope, DoBlockOwner, front, is_kind_name, begins_params}
use Rattle.ruby_tree.specs.Grammar.{Rels, Mark, Newline, MethodParams, ParameterList}
use Rattle.ruby_tree.specs.Grammar as g

right_of : (a b : Bool) → b ≡ true → (a || b) ≡ true
right_of true b is = refl
right_of false b is = is

left_of : (a b : Bool) → a ≡ true → (a || b) ≡ true
left_of a b is = ap (λ x. x || b) is

module _ (source : Bytes) where
  by_newline : (w : Toks) → Newline source w → begins_params source w ≡ true
  by_newline w is = left_of _ _ (left_of _ _ (left_of _ _ (left_of _ _ is)))

  by_name : (w : Toks) → front w ≡ Some name → begins_params source w ≡ true
  by_name w is = left_of _ _ (left_of _ _ (left_of _ _ (right_of _ _ (ap is_kind_name is))))

  by_bracket : (w : Toks) → Mark source (codes "(") w → begins_params source w ≡ true
  by_bracket w is = left_of _ _ (left_of _ _ (right_of _ _ is))

  by_star : (w : Toks) → Mark source (codes "*") w → begins_params source w ≡ true
  by_star w is = left_of _ _ (right_of _ _ is)

  by_and : (w : Toks) → Mark source (codes "&") w → begins_params source w ≡ true
  by_and w is = right_of _ _ is

  module _ (R : Rels) (d : DoBlockOwner) where
    method_params_begin : (l : ℕ) (w r : Toks) (s z : Scope) (ps : Params) → MethodParams source R d l w s ps r z → begins_params source w ≡ true
    method_params_begin l w r s z ps (g.named e f) = by_name w e
    method_params_begin l w r s z ps (g.named_more e f h) = by_name w e
    method_params_begin l w r s z ps (g.default k e f h) = by_name w e
    method_params_begin l w r s z ps (g.default_more k e f h i j) = by_name w e
    method_params_begin l w r s z ps (g.left k e f) = by_star w e
    method_params_begin l w r s z ps (g.left_more k e f h i) = by_star w e
    method_params_begin l w r s z ps (g.MethodParams.block e f) = by_and w e

    pub parameters_begin : (w r : Toks) (s z : Scope) (ps : Params) → ParameterList source R d w s ps r z → begins_params source w ≡ true
    parameters_begin w r s z ps (g.ParameterList.empty e f) = by_bracket w e
    parameters_begin w r s z ps (g.ParameterList.brackets e f h) = by_bracket w e
    parameters_begin w r s z ps (g.ParameterList.no_line e) = by_newline w e
    parameters_begin w r s z ps (g.ParameterList.line p e) = method_params_begin 0 w _ s _ _ p
