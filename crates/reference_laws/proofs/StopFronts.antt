-- The walk over lines of statements: its answer is a front that is derived, and no longer one is.
use Rattle.std.proofs.Common.{◌≡◌, ℕ, zero, suc, ◌≤◌, true, false, refl, ap, arith, subst}
use Rattle.std.proofs.lemmas.Bool.{false≢true}
use Rattle.ruby_lexer.specs.Bytes.{Bytes}
use Rattle.ruby_lexer.specs.Pieces.{Tok, tok, newline, Toks, none, more}
use Rattle.ruby_tree.specs.Tree.{Tree, Trees}
use Rattle.ruby_tree.specs.Rules.{Scope, own, next, front, is_kind_newline, begins_statement}
use Rattle.ruby_tree.specs.Grammar.{derives, Stmt, StmtList, Stmts}
use Rattle.ruby_tree.specs.Grammar as g
use Rattle.ruby_tree.specs.FaultLine.{toks_then, count_of, ends_lines, IsFrontOf}
use Rattle.reference_parser.specs.Answers.{Answer}
use Rattle.reference_parser.specs.Fronts.{is_newline}
use Rattle.reference_parser.specs.ReadStatements.{readers}
use Rattle.reference_parser.specs.Stops.{Place, front_behind, front_from}
use Rattle.reference_laws.proofs.Promises.{Each, got, at_fault, at_depth}
use Rattle.reference_parser.proofs.Tests.{by_test}
use Rattle.reference_laws.proofs.SoundTools.{value_if}
use Rattle.reference_laws.proofs.Sound.{sound}
use Rattle.reference_laws.proofs.SoundStatements.{sound-stmt}
use Rattle.reference_laws.proofs.Shorter.{movers}
use Rattle.reference_laws.proofs.SwapTools.{Alike, at_line, before}
use Rattle.reference_laws.proofs.Swap.{swaps}
use Rattle.reference_laws.proofs.SwapStatements.{swap_stmt}

-- the first part of alike tokens, where ys is the first part of xs
alike_parts : (xs ys v w p : Toks) → toks_then ys v ≡ xs → Alike xs ys w p → toks_then p v ≡ w
alike_parts xs ys v _ _ e (at_line {from = from} {to = to} {line = line} {b = b}) = ap (more (tok newline from to line b)) e
alike_parts xs ys v _ _ e (before {t = t} {w = w} {p = p} a) = ap (more t) (alike_parts xs ys v w p e a)

alike_lines : (xs ys w p : Toks) → ends_lines ys ≡ true → Alike xs ys w p → ends_lines p ≡ true
alike_lines xs none _ _ e at_line = refl
alike_lines xs (more t ts) _ _ e at_line = e
alike_lines xs none _ _ e (before at_line) = refl
alike_lines xs (more t ts) _ _ e (before at_line) = e
alike_lines xs ys _ _ e (before (before a)) = alike_lines xs ys _ _ e (before a)

line_before : (t : Tok) (u : Toks) → is_kind_newline (front (more t none)) ≡ true → ends_lines u ≡ true → ends_lines (more t u) ≡ true
line_before t none h e = h
line_before t (more x u) h e = e

pub shorter_part : (u v w : Toks) → toks_then u v ≡ w → count_of v ≤ count_of w
shorter_part none v w e = subst (λ (x : Toks). count_of v ≤ count_of x) e (omega arith)
shorter_part (more t u) v w e = subst (λ (x : Toks). count_of v ≤ count_of x) e (let part : count_of v ≤ count_of (toks_then u v) = shorter_part u v (toks_then u v) refl in omega arith)

module _ (source : Bytes) (n : ℕ) where
  -- a front as a list of statements
  pub record DerivedLines (s : Scope) (w v : Toks) (y : Scope) : Type 0 where
    pub first : Toks
    pub parts : toks_then first v ≡ w
    pub lines : ends_lines first ≡ true
    pub trees : Trees
    pub derived : StmtList source (derives source n) own first s trees none y

  front_empty : (s : Scope) (w : Toks) → DerivedLines s w w s
  front_empty s w = record { first = none; parts = refl; lines = refl; trees = _; derived = g.StmtList.empty refl refl }

  front_line : {s y : Scope} (w : Toks) {v : Toks} → is_newline w ≡ true → DerivedLines s (next w) v y → DerivedLines s w v y
  front_line none e F = absurd (false≢true e)
  front_line (more (tok k from to line b) ws) e F = record {
    first = more (tok k from to line b) F.first;
    parts = ap (more (tok k from to line b)) F.parts;
    lines = line_before (tok k from to line b) F.first e F.lines;
    trees = F.trees;
    derived = g.StmtList.line e F.derived;
  }

  front_statement : {s y z : Scope} {w v : Toks} {t : Tree} (q : Toks) → Stmt source (derives source n) own w s t q y → is_newline q ≡ true → DerivedLines y (next q) v z → DerivedLines s w v z
  front_statement none h e F = absurd (false≢true e)
  front_statement {s = s} {y = y} {z = z} {w = w} {v = v} {t = t} (more (tok newline from to line b) qs) h e F =
      let S = swap_stmt qs F.first source (derives source n) (swaps qs F.first source n) (movers false source n) h (at_line {from = from} {to = to} {line = line} {b = b}) in
      record {
        first = S.other;
        parts = alike_parts qs F.first v w S.other F.parts S.alike;
        lines = alike_lines qs F.first w S.other F.lines S.alike;
        trees = _;
        derived = g.StmtList.another S.holds refl F.derived;
      }
  front_statement (more (tok _ from to line b) qs) h e F = absurd (false≢true e)

  front_after : (further : Toks → Scope → Place) → ((q : Toks) (y : Scope) → DerivedLines y q (further q y).rest (further q y).scope) → (w : Toks) (s : Scope) (o : Answer Tree) → Each (Stmt source (derives source n) own w s) o →
      DerivedLines s w (front_behind source (readers source n) further w s o).rest (front_behind source (readers source n) further w s o).scope
  unfolding front_behind
  front_after further behind w s _ (got {r = q} {z = y} h) = value_if (λ (p : Place). DerivedLines s w p.rest p.scope) (is_newline q) _ _ (λ e. front_statement q h e (behind (next q) y)) (λ e. front_empty s w)
  front_after further behind w s _ at_fault = front_empty s w
  front_after further behind w s _ at_depth = front_empty s w

  pub front_is : (m : ℕ) (w : Toks) (s : Scope) → DerivedLines s w (front_from source (readers source n) m w s).rest (front_from source (readers source n) m w s).scope
  unfolding front_from
  front_is zero w s = front_empty s w
  front_is (suc m) w s = value_if (λ (p : Place). DerivedLines s w p.rest p.scope) (is_newline w) _ _
      (λ e. front_line w e (front_is m (next w) s))
      (λ e. value_if (λ (p : Place). DerivedLines s w p.rest p.scope) (begins_statement source w) _ _
      (λ b. front_after _ (front_is m) w s _ (sound-stmt source (derives source n) (readers source n) (sound source n) own w s))
      (λ b. front_empty s w))

  -- the list of statements as one tree
  pub record Listed (s : Scope) (w r : Toks) (y : Scope) : Type 0 where
    pub tree : Tree
    pub derived : Stmts source (derives source n) own w s tree r y

  listed : {s y : Scope} {w r : Toks} {ts : Trees} → StmtList source (derives source n) own w s ts r y → Listed s w r y
  listed (g.StmtList.line e h) = record { tree = _; derived = g.Stmts.lines e (g.StmtList.line e h) }
  listed (g.StmtList.last {w = w} h e) = by_test (is_newline w)
      (λ l. record { tree = _; derived = g.Stmts.lines l (g.StmtList.last h e) })
      (λ l. record { tree = _; derived = g.Stmts.some l (g.StmtList.last h e) })
  listed (g.StmtList.another {w = w} h e hs) = by_test (is_newline w)
      (λ l. record { tree = _; derived = g.Stmts.lines l (g.StmtList.another h e hs) })
      (λ l. record { tree = _; derived = g.Stmts.some l (g.StmtList.another h e hs) })
  listed (g.StmtList.empty e i) = record { tree = _; derived = g.Stmts.none e i }

  pub front_of_list : {s y : Scope} {w v : Toks} (F : DerivedLines s w v y) → IsFrontOf source s w F.first v y
  unfolding derives
  front_of_list F =
      let L = listed F.derived in
      record { parts = F.parts; lines = F.lines; tree = L.tree; depth = suc n; derived = L.derived }
