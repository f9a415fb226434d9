-- What is derived up to a newline is derived with more tokens behind it.
use Rattle.std.proofs.Common.{◌≡◌, ℕ, false, refl, ap, subst}
use Rattle.std.proofs.lemmas.Bool.{false≢true}
use Rattle.ruby_lexer.specs.Bytes.{Bytes}
use Rattle.ruby_lexer.specs.Pieces.{tok, newline, Toks, none, more}
use Rattle.ruby_tree.specs.Tree.{Tree, Other}
use Rattle.ruby_tree.specs.Rules.{Scope, DoBlockOwner}
use Rattle.ruby_tree.specs.Grammar.{Rel, Rels, derives, Newline, Stmt}
use Rattle.ruby_tree.specs.FaultLine.{toks_then}
use Rattle.reference_laws.proofs.Shorter.{movers}
use Rattle.reference_laws.proofs.SwapTools.{Alike, at_line, before, Swapped}
use Rattle.reference_laws.proofs.SwapStatements.{swap_stmt}
use Rattle.reference_laws.proofs.Swap.{swaps}

-- tokens like w, with v behind what stands behind the newline
alike_longer : (rs v w p : Toks) → Alike rs (toks_then rs v) w p → p ≡ toks_then w v
alike_longer rs v _ _ at_line = refl
alike_longer rs v _ _ (before {t = t} {w = w} {p = p} a) = ap (more t) (alike_longer rs v w p a)

-- what O derives, it derives of alike tokens
abbrev Swappable : {A : Type 0} → Rel A → Type 0
Swappable {A} O = (xs ys w : Toks) (s : Scope) (t : A) (r : Toks) (z : Scope) → O w s t r z → (q : Toks) → Alike xs ys r q → Swapped xs ys (λ (p : Toks). O p s t q z) w

module _ (source : Bytes) (v : Toks) where
  extend : {A : Type 0} (O : Rel A) → Swappable O → (w : Toks) (s : Scope) (t : A) (r : Toks) (z : Scope) → O w s t r z → Newline source r → O (toks_then w v) s t (toks_then r v) z
  extend O swap w s t none z h e = absurd (false≢true e)
  extend O swap w s t (more (tok newline from to line b) rs) z h e =
      let S = swap rs (toks_then rs v) w s t _ z h _ (at_line {from = from} {to = to} {line = line} {b = b}) in
      subst (λ (p : Toks). O p s t (more (tok newline from to line b) (toks_then rs v)) z) (alike_longer rs v w S.other S.alike) S.holds
  extend O swap w s t (more (tok _ from to line b) rs) z h e = absurd (false≢true e)

  pub record Extends (R : Rels) : Type 0 where
    pub stmts : (d : DoBlockOwner) (w : Toks) (s : Scope) (t : Tree) (r : Toks) (z : Scope) → R.stmts d w s t r z → Newline source r → R.stmts d (toks_then w v) s t (toks_then r v) z
    pub expr : (d : DoBlockOwner) (w : Toks) (s : Scope) (t : Tree) (r : Toks) (z : Scope) → R.expr d w s t r z → Newline source r → R.expr d (toks_then w v) s t (toks_then r v) z
    pub test : (d : DoBlockOwner) (w : Toks) (s : Scope) (t : Tree) (r : Toks) (z : Scope) → R.test d w s t r z → Newline source r → R.test d (toks_then w v) s t (toks_then r v) z
    pub assigned_value : (d : DoBlockOwner) (w : Toks) (s : Scope) (t : Tree) (r : Toks) (z : Scope) → R.assigned_value d w s t r z → Newline source r → R.assigned_value d (toks_then w v) s t (toks_then r v) z
    pub arg : (d : DoBlockOwner) (w : Toks) (s : Scope) (t : Tree) (r : Toks) (z : Scope) → R.arg d w s t r z → Newline source r → R.arg d (toks_then w v) s t (toks_then r v) z
    pub minus : (d : DoBlockOwner) (w : Toks) (s : Scope) (t : Tree) (r : Toks) (z : Scope) → R.minus d w s t r z → Newline source r → R.minus d (toks_then w v) s t (toks_then r v) z
    pub power : (d : DoBlockOwner) (w : Toks) (s : Scope) (t : Tree) (r : Toks) (z : Scope) → R.power d w s t r z → Newline source r → R.power d (toks_then w v) s t (toks_then r v) z
    pub unary_operand : (d : DoBlockOwner) (w : Toks) (s : Scope) (t : Tree) (r : Toks) (z : Scope) → R.unary_operand d w s t r z → Newline source r → R.unary_operand d (toks_then w v) s t (toks_then r v) z
    pub else_branches : (d : DoBlockOwner) (w : Toks) (s : Scope) (t : Other) (r : Toks) (z : Scope) → R.else_branches d w s t r z → Newline source r → R.else_branches d (toks_then w v) s t (toks_then r v) z

  pub extends : (n : ℕ) → Extends (derives source n)
  extends n = record {
    stmts = λ d. extend ((derives source n).stmts d) (λ xs ys w s t r z h q a. (swaps xs ys source n).stmts h a);
    expr = λ d. extend ((derives source n).expr d) (λ xs ys w s t r z h q a. (swaps xs ys source n).expr h a);
    test = λ d. extend ((derives source n).test d) (λ xs ys w s t r z h q a. (swaps xs ys source n).test h a);
    assigned_value = λ d. extend ((derives source n).assigned_value d) (λ xs ys w s t r z h q a. (swaps xs ys source n).assigned_value h a);
    arg = λ d. extend ((derives source n).arg d) (λ xs ys w s t r z h q a. (swaps xs ys source n).arg h a);
    minus = λ d. extend ((derives source n).minus d) (λ xs ys w s t r z h q a. (swaps xs ys source n).minus h a);
    power = λ d. extend ((derives source n).power d) (λ xs ys w s t r z h q a. (swaps xs ys source n).power h a);
    unary_operand = λ d. extend ((derives source n).unary_operand d) (λ xs ys w s t r z h q a. (swaps xs ys source n).unary_operand h a);
    else_branches = λ d. extend ((derives source n).else_branches d) (λ xs ys w s t r z h q a. (swaps xs ys source n).else_branches h a);
  }

  pub extend_stmt : (n : ℕ) (d : DoBlockOwner) (w : Toks) (s : Scope) (t : Tree) (r : Toks) (z : Scope) → Stmt source (derives source n) d w s t r z → Newline source r → Stmt source (derives source n) d (toks_then w v) s t (toks_then r v) z
  extend_stmt n d = extend (Stmt source (derives source n) d) (λ xs ys w s t r z h q a. swap_stmt xs ys source (derives source n) (swaps xs ys source n) (movers false source n) h a)
