-- More depth changes nothing but what goes too deep: operators by their levels.
use Rattle.std.proofs.Common.{ℕ, zero, suc, Bool, not, ◌&&◌, List, [], ◌∷◌, codes}
use Rattle.ruby_lexer.specs.Bytes.{Bytes}
use Rattle.ruby_lexer.specs.Pieces.{Toks}
use Rattle.ruby_tree.specs.Tree.{Tree}
use Rattle.ruby_tree.specs.Rules.{next, equality_marks, DoBlockOwner, mark_in, is_mark, is_negative}
use Rattle.ruby_tree.specs.FaultLine.{count_of}
use Rattle.reference_parser.specs.Answers.{Parse}
use Rattle.reference_parser.specs.ReadItems.{Readers}
use Rattle.reference_parser.specs.ReadOperands.{Start, operand}
use Rattle.reference_parser.specs.ReadLevels.{Level, product, sum, shift, intersection, union, order, equality, conjunctions, disjunctions, ranges, conditional, rest, read_rest, compare, ranged, operand_of, read_unary_operand, raised, read_power, read_minus, chosen, at_level, climb, read_level}
use Rattle.reference_laws.proofs.StableTools.{Stable, Stables, same, stable_then, stable_if}
use Rattle.reference_laws.proofs.StablePostfixes.{stable_postfix}

-- Operators, where their operands are read by functions that agree.
module _ (source : Bytes) where
  stable_rest : (passes : Toks → Bool) (make : Toks → Toks → Tree → Tree → Tree) {O U : Parse Tree} → Stable O U → (m : ℕ) (o : Toks) (a : Tree) →
      Stable (rest source passes make O m o a) (rest source passes make U m o a)
  unfolding rest
  stable_rest passes make h zero o a w s = same
  stable_rest passes make h (suc m) o a w s = stable_if (passes w) (stable_then (h (next w) s) (λ b q y. stable_rest passes make h m o _ q y)) same

  stable_read_rest : (passes : Toks → Bool) (make : Toks → Toks → Tree → Tree → Tree) {O U : Parse Tree} → Stable O U → (o : Toks) (a : Tree) →
      Stable (read_rest source passes make O o a) (read_rest source passes make U o a)
  unfolding read_rest
  stable_read_rest passes make h o a w s = stable_rest passes make h (suc (count_of w)) o a w s

  stable_compare : {O U : Parse Tree} → Stable O U → (o : Toks) (a : Tree) → Stable (compare source O o a) (compare source U o a)
  unfolding compare
  stable_compare h o a w s =
      stable_if (mark_in source equality_marks w) (stable_then (h (next w) s) (λ b r z. same))
      (stable_if (is_mark source (codes "!=") w) (stable_then (h (next w) s) (λ b r z. same)) same)

  stable_ranged : {O U : Parse Tree} → Stable O U → (o : Toks) (a : Tree) → Stable (ranged source O o a) (ranged source U o a)
  unfolding ranged
  stable_ranged h o a w s =
      stable_if (is_mark source (codes "..") w) (stable_then (h (next w) s) (λ b r z. same))
      (stable_if (is_mark source (codes "...") w) (stable_then (h (next w) s) (λ b r z. same)) same)

module _ (source : Bytes) (Q P : Readers) (S : Stables Q P) where
  stable_operand : (h : Start) → Stable (operand_of source Q h) (operand_of source P h)
  unfolding operand_of
  stable_operand (operand a) w s = same
  stable_operand _ w s = same

  pub stable_tight : (d : DoBlockOwner) → Stable (read_unary_operand source Q d) (read_unary_operand source P d)
  unfolding read_unary_operand
  stable_tight d w s =
      stable_if (is_mark source (codes "!") w) (stable_then (S.unary_operand d (next w) s) (λ a r z. same))
      (stable_if (is_mark source (codes "~") w) (stable_then (S.unary_operand d (next w) s) (λ a r z. same))
      (stable_if (is_mark source (codes "+") w) (stable_then (S.unary_operand d (next w) s) (λ a r z. same))
      (stable_then (stable_postfix source Q P S d w s) (λ h r z. stable_operand h r z))))

  pub stable_raised : (d : DoBlockOwner) (o : Toks) (a : Tree) → Stable (raised source Q d o a) (raised source P d o a)
  unfolding raised
  stable_raised d o a w s = stable_if (is_mark source (codes "**") w) (stable_then (S.power d (next w) s) (λ b r z. same)) same

  pub stable_power : (d : DoBlockOwner) → Stable (read_power source Q d) (read_power source P d)
  unfolding read_power
  stable_power d w s = stable_then (stable_tight d w s) (λ a q y. stable_raised d w a q y)

  pub stable_minus : (d : DoBlockOwner) → Stable (read_minus source Q d) (read_minus source P d)
  unfolding read_minus
  stable_minus d w s = stable_if (is_mark source (codes "-") w && not (is_negative source w)) (stable_then (S.minus d (next w) s) (λ a r z. same)) (stable_power d w s)

  stable_chosen : (d : DoBlockOwner) (o : Toks) (c : Tree) → Stable (chosen source Q d o c) (chosen source P d o c)
  unfolding chosen
  stable_chosen d o c w s =
      stable_if (is_mark source (codes "?") w)
      (stable_then (S.arg d (next w) s) (λ a p x. stable_if (is_mark source (codes ":") p) (stable_then (S.arg d (next p) x) (λ b r z. same)) same)) same

  stable_at_level : (v : Level) {O U : Parse Tree} → Stable O U → (d : DoBlockOwner) (o : Toks) (a : Tree) → Stable (at_level source Q v O d o a) (at_level source P v U d o a)
  unfolding at_level
  stable_at_level product h d o a w s = stable_read_rest source _ _ h o a w s
  stable_at_level sum h d o a w s = stable_read_rest source _ _ h o a w s
  stable_at_level shift h d o a w s = stable_read_rest source _ _ h o a w s
  stable_at_level intersection h d o a w s = stable_read_rest source _ _ h o a w s
  stable_at_level union h d o a w s = stable_read_rest source _ _ h o a w s
  stable_at_level order h d o a w s = stable_read_rest source _ _ h o a w s
  stable_at_level equality h d o a w s = stable_compare source h o a w s
  stable_at_level conjunctions h d o a w s = stable_read_rest source _ _ h o a w s
  stable_at_level disjunctions h d o a w s = stable_read_rest source _ _ h o a w s
  stable_at_level ranges h d o a w s = stable_ranged source h o a w s
  stable_at_level conditional h d o a w s = stable_chosen d o a w s

  pub stable_climb : (vs : List Level) (d : DoBlockOwner) (o : Toks) (a : Tree) → Stable (climb source Q vs d o a) (climb source P vs d o a)
  unfolding climb
  stable_climb [] d o a w s = same
  stable_climb (v ∷ vs) d o a w s =
      stable_then (stable_climb vs d o a w s) (λ b q y. stable_at_level v (λ p x. stable_then (stable_minus d p x) (λ c n l. stable_climb vs d p c n l)) d o b q y)

  pub stable_level : (vs : List Level) (d : DoBlockOwner) → Stable (read_level source Q vs d) (read_level source P vs d)
  unfolding read_level
  stable_level vs d w s = stable_then (stable_minus d w s) (λ a q y. stable_climb vs d w a q y)
