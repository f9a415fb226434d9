-- Symbols nest no deeper than trees: operators by their levels.
use Rattle.std.proofs.Common.{ℕ, ◌<◌, ◌≤◌, Bool, arith}
use Rattle.ruby_lexer.specs.Bytes.{Bytes}
use Rattle.ruby_lexer.specs.Pieces.{Toks}
use Rattle.ruby_tree.specs.Tree.{Tree}
use Rattle.ruby_tree.specs.Rules.{Scope, DoBlockOwner}
use Rattle.ruby_tree.specs.Build.{binary, conjunction, disjunction}
use Rattle.ruby_tree.specs.Depth.{depth}
use Rattle.ruby_tree.specs.Grammar.{Rel, Rels}
use Rattle.ruby_tree.specs.Grammar as g
use Rattle.reference_laws.proofs.FitsTools.{Fit}
use Rattle.reference_laws.proofs.FitsOperands.{fits-postfix}

-- a node that is deeper than both operands
pub record Deeper (make : Toks → Toks → Tree → Tree → Tree) : Type 0 where
  pub left : (o w : Toks) (a b : Tree) → depth a < depth (make o w a b)
  pub right : (o w : Toks) (a b : Tree) → depth b < depth (make o w a b)

deeper-binary : (source : Bytes) → Deeper (binary source)
deeper-binary source = record {
  left = λ o w a b. omega arith;
  right = λ o w a b. omega arith;
}

pub deeper-conjunction : Deeper conjunction
deeper-conjunction = record {
  left = λ o w a b. omega arith;
  right = λ o w a b. omega arith;
}

pub deeper-disjunction : Deeper disjunction
deeper-disjunction = record {
  left = λ o w a b. omega arith;
  right = λ o w a b. omega arith;
}

-- what O derives with a tree of at most k levels, P derives
abbrev pub Fitting : ℕ → Rel Tree → Rel Tree → Type 0
Fitting k O P = (w : Toks) (s : Scope) (t : Tree) (r : Toks) (z : Scope) → O w s t r z → depth t ≤ k → P w s t r z

module _ (source : Bytes) (R : Rels) (passes : Toks → Bool) (make : Toks → Toks → Tree → Tree → Tree) (D : Deeper make) (O : Rel Tree) where
  rest_depth : {o : Toks} {a : Tree} {w r : Toks} {s z : Scope} {t : Tree} → g.Rest source R passes make O o a w s t r z → depth a ≤ depth t
  rest_depth {o = o} (g.Rest.operator {w = w} {a = a} {b = b} e h i) = omega (arith, rest_depth i, D.left o w a b)
  rest_depth (g.Rest.end e) = omega arith

module _ (source : Bytes) (k : ℕ) (R T : Rels) (passes : Toks → Bool) (make : Toks → Toks → Tree → Tree → Tree) (D : Deeper make) (O P : Rel Tree) (H : Fitting k O P) where
  fits-rest : {o : Toks} {a : Tree} {w r : Toks} {s z : Scope} {t : Tree} → g.Rest source R passes make O o a w s t r z → depth t ≤ k → g.Rest source T passes make P o a w s t r z
  fits-rest {o = o} (g.Rest.operator {w = w} {a = a} {b = b} e h i) le = g.Rest.operator e (H _ _ _ _ _ h (omega (arith, rest_depth source R passes make D O i, D.right o w a b))) (fits-rest i le)
  fits-rest (g.Rest.end e) le = g.Rest.end e

  fits-chain : Fitting k (g.Chain source R passes make O) (g.Chain source T passes make P)
  fits-chain w s t r z (g.Chain.chain h i) le = g.Chain.chain (H w s _ _ _ h (omega (arith, rest_depth source R passes make D O i))) (fits-rest i le)

module _ (source : Bytes) (k : ℕ) (R T : Rels) (F : Fit k R T) (d : DoBlockOwner) where
  pub fits-unary_operand : Fitting k (g.UnaryOperand source R d) (g.UnaryOperand source T d)
  fits-unary_operand w s _ r z (g.UnaryOperand.inverted e h) le = g.UnaryOperand.inverted e (F.unary_operand h (omega arith))
  fits-unary_operand w s _ r z (g.UnaryOperand.complement e h) le = g.UnaryOperand.complement e (F.unary_operand h (omega arith))
  fits-unary_operand w s _ r z (g.UnaryOperand.positive e h) le = g.UnaryOperand.positive e (F.unary_operand h (omega arith))
  fits-unary_operand w s _ r z (g.UnaryOperand.plain h e) le = g.UnaryOperand.plain (fits-postfix source k R T F h le) e

  pub fits-power : Fitting k (g.Power source R d) (g.Power source T d)
  fits-power w s _ r z (g.Power.raised h e i) le = g.Power.raised (fits-unary_operand _ _ _ _ _ h (omega arith)) e (F.power i (omega arith))
  fits-power w s _ r z (g.Power.plain h e) le = g.Power.plain (fits-unary_operand _ _ _ _ _ h le) e

  pub fits-minus : Fitting k (g.Minus source R d) (g.Minus source T d)
  fits-minus w s _ r z (g.Minus.minus e n h) le = g.Minus.minus e n (F.minus h (omega arith))
  fits-minus w s _ r z (g.Minus.plain h) le = g.Minus.plain (fits-power _ _ _ _ _ h le)

  fits-product : Fitting k (g.Product source R d) (g.Product source T d)
  fits-product = fits-chain source k R T _ _ (deeper-binary source) _ _ fits-minus

  fits-sum : Fitting k (g.Sum source R d) (g.Sum source T d)
  fits-sum = fits-chain source k R T _ _ (deeper-binary source) _ _ fits-product

  fits-shift : Fitting k (g.Shift source R d) (g.Shift source T d)
  fits-shift = fits-chain source k R T _ _ (deeper-binary source) _ _ fits-sum

  fits-intersection : Fitting k (g.Intersection source R d) (g.Intersection source T d)
  fits-intersection = fits-chain source k R T _ _ (deeper-binary source) _ _ fits-shift

  fits-union : Fitting k (g.Union source R d) (g.Union source T d)
  fits-union = fits-chain source k R T _ _ (deeper-binary source) _ _ fits-intersection

  fits-order : Fitting k (g.Order source R d) (g.Order source T d)
  fits-order = fits-chain source k R T _ _ (deeper-binary source) _ _ fits-union

  fits-equality : Fitting k (g.Equality source R d) (g.Equality source T d)
  fits-equality w s _ r z (g.Equality.compared h e i) le = g.Equality.compared (fits-order _ _ _ _ _ h (omega arith)) e (fits-order _ _ _ _ _ i (omega arith))
  fits-equality w s _ r z (g.Equality.unequal h e i) le = g.Equality.unequal (fits-order _ _ _ _ _ h (omega arith)) e (fits-order _ _ _ _ _ i (omega arith))
  fits-equality w s _ r z (g.Equality.plain h e) le = g.Equality.plain (fits-order _ _ _ _ _ h le) e

  fits-conjunction : Fitting k (g.Conjunction source R d) (g.Conjunction source T d)
  fits-conjunction = fits-chain source k R T _ _ deeper-conjunction _ _ fits-equality

  fits-disjunction : Fitting k (g.Disjunction source R d) (g.Disjunction source T d)
  fits-disjunction = fits-chain source k R T _ _ deeper-disjunction _ _ fits-conjunction

  fits-range : Fitting k (g.Range source R d) (g.Range source T d)
  fits-range w s _ r z (g.Range.whole h e i) le = g.Range.whole (fits-disjunction _ _ _ _ _ h (omega arith)) e (fits-disjunction _ _ _ _ _ i (omega arith))
  fits-range w s _ r z (g.Range.without_last h e i) le = g.Range.without_last (fits-disjunction _ _ _ _ _ h (omega arith)) e (fits-disjunction _ _ _ _ _ i (omega arith))
  fits-range w s _ r z (g.Range.plain h e f) le = g.Range.plain (fits-disjunction _ _ _ _ _ h le) e f

  pub fits-conditional : Fitting k (g.Conditional source R d) (g.Conditional source T d)
  fits-conditional w s _ r z (g.Conditional.chosen h e i f j) le = g.Conditional.chosen (fits-range _ _ _ _ _ h (omega arith)) e (F.arg i (omega arith)) f (F.arg j (omega arith))
  fits-conditional w s _ r z (g.Conditional.plain h e) le = g.Conditional.plain (fits-range _ _ _ _ _ h le) e
