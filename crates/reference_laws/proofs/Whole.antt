-- Whole lists of tokens: they have at most one tree, and the reader of 200 symbols' depth finds it where it is no deeper than 200 nodes.
use Rattle.std.proofs.Common.{◌≡◌, ℕ, ◌+◌, ◌≤◌, max, inl, inr, sym, ap, ◌∙◌, arith, subst}
use Rattle.ruby_lexer.specs.Bytes.{Bytes}
use Rattle.ruby_lexer.specs.Pieces.{Toks, none}
use Rattle.ruby_tree.specs.Tree.{Tree}
use Rattle.ruby_tree.specs.Rules.{Scope, fresh, own}
use Rattle.ruby_tree.specs.Depth.{depth}
use Rattle.ruby_tree.specs.Grammar.{derives, Derives}
use Rattle.reference_parser.specs.Answers.{Answer, taken, fault, deep}
use Rattle.reference_parser.specs.ReadStatements.{readers}
use Rattle.reference_laws.proofs.Promises.{Each, got}
use Rattle.reference_laws.proofs.Sound.{sound}
use Rattle.reference_laws.proofs.Fits.{fits}
use Rattle.reference_laws.proofs.KnownStatements.{known}
use Rattle.reference_laws.proofs.StableTools.{Agree}
use Rattle.reference_laws.proofs.Stable.{stable_more}

-- the tree of what is taken
abbrev tree_or : Tree → Answer Tree → Tree
tree_or t (taken u r z) = u
tree_or t fault = t
tree_or t deep = t

abbrev rest_or : Toks → Answer Tree → Toks
rest_or w (taken u r z) = r
rest_or w fault = w
rest_or w deep = w

abbrev scope_or : Scope → Answer Tree → Scope
scope_or s (taken u r z) = z
scope_or s fault = s
scope_or s deep = s

module _ (source : Bytes) (w : Toks) where
  -- what is derived is read at each depth that the tree has
  pub read_at : (k : ℕ) (t : Tree) (D : Derives source w t) → depth t ≤ k → (readers source k).stmts own w fresh ≡ taken t none D.behind
  read_at k t D small = (known source k).stmts own w fresh t none D.behind (fits source D.depth k own w fresh t none D.behind D.derived small)

  -- A list of tokens has at most one tree.
  pub at_most_one : (t u : Tree) → Derives source w t → Derives source w u → t ≡ u
  at_most_one t u D E =
      let k = max (depth t) (depth u) in
      let one : (readers source k).stmts own w fresh ≡ taken t none D.behind = read_at k t D (omega arith) in
      let two : (readers source k).stmts own w fresh ≡ taken u none E.behind = read_at k u E (omega arith) in
      ap (tree_or t) (sym one ∙ two)

  -- what is taken whole is derived
  pub taken_is : (n : ℕ) (t : Tree) (z : Scope) → (readers source n).stmts own w fresh ≡ taken t none z → Derives source w t
  taken_is n t z e = by_each n t z ((readers source n).stmts own w fresh) ((sound source n).stmts own w fresh) e
    where
      by_each : (n : ℕ) (t : Tree) (z : Scope) (a : Answer Tree) → Each ((derives source n).stmts own w fresh) a → a ≡ taken t none z → Derives source w t
      by_each n t z (taken u r y) (got h) e =
          let derived : (derives source n).stmts own w fresh t r y = subst (λ (v : Tree). (derives source n).stmts own w fresh v r y) (ap (tree_or t) e) h in
          let whole : (derives source n).stmts own w fresh t none y = subst (λ (q : Toks). (derives source n).stmts own w fresh t q y) (ap (rest_or r) e) derived in
          record { depth = n; behind = z; derived = subst (λ (x : Scope). (derives source n).stmts own w fresh t none x) (ap (scope_or y) e) whole }
      by_each n t z fault h e = absurd cc
      by_each n t z deep h e = absurd cc

-- An answer that agrees with a whole list is no fault; and it leaves no tokens.
no_fault : (o : Answer Tree) (t : Tree) (z : Scope) → o ≡ fault → Agree o (taken t none z) → ⊥
no_fault o t z e (inl h) = absurd cc
no_fault o t z e (inr h) = absurd cc

nothing_behind : (o : Answer Tree) (t u : Tree) (r : Toks) (y z : Scope) → o ≡ taken t r z → Agree o (taken u none y) → r ≡ none
nothing_behind o t u r y z e (inl h) = absurd cc
nothing_behind o t u r y z e (inr h) = ap (rest_or r) (sym e ∙ h)

module _ (source : Bytes) (w : Toks) where
  -- Where a tree is derived, the reader of any depth goes too deep, or it takes that tree whole.
  deep_or_whole : (n : ℕ) (t : Tree) (D : Derives source w t) → Agree ((readers source n).stmts own w fresh) (taken t none D.behind)
  deep_or_whole n t D =
      subst (λ (o : Answer Tree). Agree ((readers source n).stmts own w fresh) o) (read_at source w (n + depth t) t D (omega arith)) ((stable_more source n (depth t)).stmts own w fresh)

  -- Where the reader of any depth finds a fault, or leaves tokens, no tree is derived.
  pub never : (n : ℕ) → (readers source n).stmts own w fresh ≡ fault → (t : Tree) → Derives source w t → ⊥
  never n e t D = no_fault _ t D.behind e (deep_or_whole n t D)

  pub never_behind : (n : ℕ) (t : Tree) (r : Toks) (z : Scope) → (readers source n).stmts own w fresh ≡ taken t r z → (r ≡ none → ⊥) → (u : Tree) → Derives source w u → ⊥
  never_behind n t r z e left u D = left (nothing_behind _ t u r D.behind z e (deep_or_whole n u D))
