-- No front is longer than the one that the walk finds, where the depth does not cut it. What is derived of the same tokens is the same.
use Rattle.std.proofs.Common.{◌≡◌, ℕ, zero, suc, ◌<◌, ◌≤◌, true, false, ◌⊎◌, inl, inr, refl, sym, ap, ◌∙◌, arith, subst}
use Rattle.std.proofs.lemmas.Bool.{false≢true, true≢false}
use Rattle.ruby_lexer.specs.Bytes.{Bytes}
use Rattle.ruby_lexer.specs.Pieces.{Tok, tok, Toks, none, more}
use Rattle.ruby_tree.specs.Tree.{Tree, Trees}
use Rattle.ruby_tree.specs.Rules.{Scope, own, next}
use Rattle.ruby_tree.specs.Grammar.{derives, Stmt, StmtList, Stmts}
use Rattle.ruby_tree.specs.Grammar as g
use Rattle.ruby_tree.specs.FaultLine.{toks_then, count_of, ends_lines, IsLongestFront}
use Rattle.reference_parser.specs.Answers.{Answer, taken, fault, deep}
use Rattle.reference_parser.specs.Fronts.{is_newline}
use Rattle.reference_parser.specs.ReadStatements.{read_stmt, readers}
use Rattle.reference_parser.specs.Stops.{Place, front_behind, front_from, front_of}
use Rattle.reference_laws.proofs.Moves.{is_there}
use Rattle.reference_laws.proofs.First.{firsts, first_stmt}
use Rattle.reference_laws.proofs.Begins.{statement_not_newline}
use Rattle.reference_laws.proofs.Shorter.{shorters, shorter_stmt}
use Rattle.reference_laws.proofs.KnownStatements.{known, known_stmt}
use Rattle.reference_laws.proofs.StableTools.{Agree}
use Rattle.reference_laws.proofs.Stable.{stable_more}
use Rattle.reference_laws.proofs.StableStatements.{stable_stmt}
use Rattle.reference_laws.proofs.Extend.{extend_stmt}
use Rattle.reference_laws.proofs.LastTools.{past_line, ◌▸◌}
use Rattle.reference_laws.proofs.LastStatements.{lasts, last_stmt}
use Rattle.reference_laws.proofs.StopFronts.{DerivedLines, front_is, front_of_list, shorter_part}

-- What is taken at one depth is taken at another, or that one is too small.
pub agree_taken : {A : Type 0} {n k both again : Answer A} {t : A} {r : Toks} {z : Scope} → Agree n both → Agree k again → both ≡ again → k ≡ taken t r z → (n ≡ deep) ⊎ (n ≡ taken t r z)
agree_taken (inl e) b same k = inl e
agree_taken (inr e) (inl f) same k = absurd cc
agree_taken (inr e) (inr f) same k = inr (e ∙ (same ∙ (sym f ∙ k)))

by_either : {A B X : Type 0} → A ⊎ B → (A → X) → (B → X) → X
by_either (inl a) f g = f a
by_either (inr b) f g = g b

module _ (source : Bytes) (n : ℕ) where
  -- a statement that is derived at any depth
  stmt_taken : (k : ℕ) (w : Toks) (s : Scope) (t : Tree) (q : Toks) (y : Scope) → Stmt source (derives source k) own w s t q y → (read_stmt source (readers source n) own w s ≡ deep) ⊎ (read_stmt source (readers source n) own w s ≡ taken t q y)
  stmt_taken k w s t q y h =
      agree_taken (stable_stmt source _ _ (stable_more source n k) own w s) (stable_stmt source _ _ (stable_more source k n) own w s)
      (ap (λ (m : ℕ). read_stmt source (readers source m) own w s) (omega arith)) (known_stmt source _ _ (firsts source k) (shorters source k) (known source k) own w s t q y h)

  -- the walk goes over a newline, over a statement and its newline, or it is cut
  over_line : (m : ℕ) (w : Toks) (s : Scope) → is_newline w ≡ true → front_from source (readers source n) (suc m) w s ≡ front_from source (readers source n) m (next w) s
  unfolding front_from
  over_line m w s e = rw e refl

  over_statement : (k m : ℕ) (w : Toks) (s : Scope) (t : Tree) (q : Toks) (y : Scope) → Stmt source (derives source k) own w s t q y → is_newline q ≡ true → read_stmt source (readers source n) own w s ≡ taken t q y →
      front_from source (readers source n) (suc m) w s ≡ front_from source (readers source n) m (next q) y
  unfolding front_from front_behind
  over_statement k m w s t q y h e is =
      let b = first_stmt source (derives source k) own _ _ _ _ _ h in
      rw (statement_not_newline source w b, b, is, e) refl

  cut_at : (k m : ℕ) (w : Toks) (s : Scope) (t : Tree) (q : Toks) (y : Scope) → Stmt source (derives source k) own w s t q y → read_stmt source (readers source n) own w s ≡ deep → (front_from source (readers source n) (suc m) w s).cut ≡ true
  unfolding front_from front_behind
  cut_at k m w s t q y h is =
      let b = first_stmt source (derives source k) own _ _ _ _ _ h in
      rw (statement_not_newline source w b, b, is) refl

  no_longer : (m : ℕ) (v : Toks) (s : Scope) → count_of (front_from source (readers source n) m v s).rest ≤ count_of v
  no_longer m v s = let F = front_is source n m v s in shorter_part F.first _ v F.parts

  -- The walk passes each front.
  passes : (k : ℕ) (v : Toks) {u : Toks} {s y : Scope} {ts : Trees} {r : Toks} → StmtList source (derives source k) own u s ts r y → r ≡ none → ends_lines u ≡ true → (m : ℕ) → count_of (toks_then u v) < m →
      (front_from source (readers source n) m (toks_then u v) s).cut ≡ false → count_of (front_from source (readers source n) m (toks_then u v) s).rest ≤ count_of v
  passes k v h is lines zero room whole = absurd (omega arith)
  passes k v (g.StmtList.line {w = none} e h) is lines (suc m) room whole = absurd (false≢true e)
  passes k v {s = s} (g.StmtList.line {w = more (tok i f t l b) ws} e h) is lines (suc m) room whole =
      let step = over_line m (more (tok i f t l b) (toks_then ws v)) s e in
      let rest = passes k v h is (past_line source (more (tok i f t l b) ws) e (record { holds = lines })).holds m (omega arith) (ap (λ (p : Place). p.cut) (sym step) ∙ whole) in
      subst (λ (p : Place). count_of p.rest ≤ count_of v) (sym step) rest
  passes k v (g.StmtList.last {r = r} h e) is lines (suc m) room whole =
      absurd (false≢true (ap is_there (sym is) ∙ (last_stmt source (derives source k) (lasts source k) h (record { holds = lines })).there))
  passes k v (g.StmtList.another {q = none} h e hs) is lines (suc m) room whole = absurd (false≢true e)
  passes k v {s = s} (g.StmtList.another {w = w} {q = more (tok i f t l b) qs} {y = y} {t = x} h e hs) is lines (suc m) room whole =
      let long = extend_stmt source v k own _ _ _ _ _ h e in
      let left = last_stmt source (derives source k) (lasts source k) h (record { holds = lines }) ▸ past_line source (more (tok i f t l b) qs) e in
      by_either (stmt_taken k (toks_then w v) s x (more (tok i f t l b) (toks_then qs v)) y long)
      (λ d. absurd (true≢false (sym (cut_at k m (toks_then w v) s x _ y long d) ∙ whole)))
      (λ d.
      let step = over_statement k m (toks_then w v) s x (more (tok i f t l b) (toks_then qs v)) y long e d in
      let rest = passes k v hs is left.holds m (omega (arith, shorter_stmt source (derives source k) (shorters source k) own _ _ _ _ _ long)) (ap (λ (p : Place). p.cut) (sym step) ∙ whole) in
      subst (λ (p : Place). count_of p.rest ≤ count_of v) (sym step) rest)
  passes k v {s = s} (g.StmtList.empty {w = w} e i) is lines (suc m) room whole =
      let none_left : count_of (toks_then w v) ≡ count_of v = ap (λ (x : Toks). count_of (toks_then x v)) is in
      omega (arith, no_longer (suc m) (toks_then w v) s)

  list_of : (k : ℕ) {u r : Toks} {s y : Scope} {t : Tree} → Stmts source (derives source k) own u s t r y → (ts : Trees) × StmtList source (derives source k) own u s ts r y
  list_of k (g.Stmts.none e i) = (_, g.StmtList.empty e i)
  list_of k (g.Stmts.lines e h) = (_, h)
  list_of k (g.Stmts.some e h) = (_, h)

  -- at any depth
  at_depths : (d : ℕ) (u v : Toks) (s y : Scope) (t : Tree) → (derives source d).stmts own u s t none y → ends_lines u ≡ true → (front_of source (readers source n) (toks_then u v) s).cut ≡ false →
      count_of (front_of source (readers source n) (toks_then u v) s).rest ≤ count_of v
  unfolding derives front_of
  at_depths zero u v s y t h lines whole = absurd h
  at_depths (suc k) u v s y t h lines whole = passes k v (list_of k h).1 refl lines (suc (count_of (toks_then u v))) (omega arith) whole

  pub walked : (w : Toks) (s : Scope) → DerivedLines source n s w (front_of source (readers source n) w s).rest (front_of source (readers source n) w s).scope
  unfolding front_of
  walked w s = front_is source n (suc (count_of w)) w s

  -- The walk ends behind the longest front.
  pub longest_is : (w : Toks) (s : Scope) → (front_of source (readers source n) w s).cut ≡ false →
      IsLongestFront source s w (walked w s).first (front_of source (readers source n) w s).rest (front_of source (readers source n) w s).scope
  longest_is w s whole = record {
    is = front_of_list source n (walked w s);
    longest = λ u1 v1 y1 I. subst (λ (x : Toks). (front_of source (readers source n) x s).cut ≡ false → count_of (front_of source (readers source n) x s).rest ≤ count_of v1) I.parts (at_depths I.depth u1 v1 s y1 I.tree I.derived I.lines) whole;
  }

-- there is one longest front

abbrev head_or : Tok → Toks → Tok
head_or d none = d
head_or d (more t ts) = t

same_cut : (u v p q : Toks) → toks_then u v ≡ toks_then p q → count_of v ≡ count_of q → (u ≡ p) × (v ≡ q)
same_cut none v none q e c = (refl, e)
same_cut none v (more x p) q e c =
    let counts : count_of v ≡ suc (count_of (toks_then p q)) = ap count_of e in
    let part : count_of q ≤ count_of (toks_then p q) = shorter_part p q _ refl in
    absurd (omega arith)
same_cut (more x u) v none q e c =
    let counts : suc (count_of (toks_then u v)) ≡ count_of q = ap count_of e in
    let part : count_of v ≤ count_of (toks_then u v) = shorter_part u v _ refl in
    absurd (omega arith)
same_cut (more x u) v (more y p) q e c =
    let rest = same_cut u v p q (ap next e) c in
    (ap (λ (t : Tok). more t u) (ap (head_or x) e) ∙ ap (more y) rest.0, rest.1)

abbrev scope_or : Scope → Answer Tree → Scope
scope_or s (taken t r z) = z
scope_or s fault = s
scope_or s deep = s

same_scope : (o : Answer Tree) (t u : Tree) (w : Toks) (y z : Scope) → o ≡ taken t w y → (o ≡ deep) ⊎ (o ≡ taken u w z) → y ≡ z
same_scope o t u w y z e (inl d) = absurd cc
same_scope o t u w y z e (inr f) = ap (scope_or y) (sym e ∙ f)

module _ (source : Bytes) where
  -- the locals behind what is derived
  same_locals : (n k : ℕ) (u : Toks) (s y z : Scope) (t x : Tree) → (derives source n).stmts own u s t none y → (derives source k).stmts own u s x none z → y ≡ z
  same_locals n k u s y z t x h i =
      same_scope ((readers source n).stmts own u s) t x none y z ((known source n).stmts own u s t none y h)
      (agree_taken ((stable_more source n k).stmts own u s) ((stable_more source k n).stmts own u s) (ap (λ (m : ℕ). (readers source m).stmts own u s) (omega arith)) ((known source k).stmts own u s x none z i))

  pub front_once : {s y z : Scope} {w u v p q : Toks} → IsLongestFront source s w u v y → IsLongestFront source s w p q z → (v ≡ q) × (y ≡ z)
  front_once {s = s} {y = y} {z = z} {u = u} {v = v} {p = p} {q = q} F G =
      let one : count_of v ≤ count_of q = F.longest p q z G.is in
      let two : count_of q ≤ count_of v = G.longest u v y F.is in
      let same = same_cut u v p q (F.is.parts ∙ sym G.is.parts) (omega arith) in
      let derived : (derives source F.is.depth).stmts own p s F.is.tree none y = subst (λ (x : Toks). (derives source F.is.depth).stmts own x s F.is.tree none y) same.0 F.is.derived in
      (same.1, same_locals F.is.depth G.is.depth p s y z F.is.tree G.is.tree derived G.is.derived)
