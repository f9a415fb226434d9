-- The reader takes what is derived: operators by their levels.
use Rattle.std.proofs.Common.{◌≡◌, ℕ, zero, suc, ◌<◌, Bool, true, false, not, ◌&&◌, List, [], ◌∷◌, codes, refl, ap, ◌∙◌, arith}
use Rattle.ruby_lexer.specs.Bytes.{Bytes, same}
use Rattle.ruby_lexer.specs.Pieces.{Toks}
use Rattle.ruby_tree.specs.Tree.{Tree}
use Rattle.ruby_tree.specs.Rules.{Scope, DoBlockOwner, mark_in, is_mark, is_negative, product_marks, sum_marks, shift_marks, intersection_marks, union_marks, order_marks, equality_marks}
use Rattle.ruby_tree.specs.Build.{binary, conjunction, disjunction}
use Rattle.ruby_tree.specs.Grammar.{Rel, Rels, UnaryOperand, Power, Minus, Rest, Chain, Product, Sum, Shift, Intersection, Union, Order, Equality, Conjunction, Disjunction, Range, Conditional}
use Rattle.ruby_tree.specs.Grammar as g
use Rattle.ruby_tree.specs.FaultLine.{count_of}
use Rattle.reference_parser.specs.Answers.{Answer, taken, fault, deep, Parse, ◌>>=◌}
use Rattle.reference_parser.specs.Fronts.{begins_operator}
use Rattle.reference_parser.specs.ReadItems.{Readers}
use Rattle.reference_parser.specs.ReadOperands.{read_postfix}
use Rattle.reference_parser.specs.ReadLevels.{Level, product, sum, shift, intersection, union, order, equality, conjunctions, disjunctions, ranges, conditional, up_to_product, up_to_sum, up_to_shift, up_to_intersection, up_to_union, up_to_order, up_to_equality, up_to_conjunctions, up_to_disjunctions, up_to_ranges, all_levels, rest, read_rest, compare, ranged, operand_of, read_unary_operand, raised, read_power, read_minus, chosen, at_level, climb, read_level}
use Rattle.reference_laws.proofs.Promises.{Shorter, Knows, Shorters, Firsts, Known}
use Rattle.reference_parser.proofs.Tests.{neither, and_true, left_false, next_le, other_mark, mark_not_among}
use Rattle.reference_laws.proofs.Shorter.{shorter_minus, shorter_product, shorter_sum, shorter_shift, shorter_intersection, shorter_union, shorter_equality, shorter_conjunction}
use Rattle.reference_laws.proofs.First.{first_postfix}
use Rattle.reference_laws.proofs.KnownPostfixes.{known_operand}

-- The reader of one level more reads what it did before, and then the operators of that level.
module _ (source : Bytes) (Q : Readers) where
  levels_by : (v : Level) (vs : List Level) (d : DoBlockOwner) (w : Toks) (o : Answer Tree) →
      (o >>= λ a q y. (climb source Q vs d w a q y >>= λ b p x. at_level source Q v (read_level source Q vs d) d w b p x))
      ≡ ((o >>= λ a q y. climb source Q vs d w a q y) >>= λ b p x. at_level source Q v (read_level source Q vs d) d w b p x)
  unfolding ◌>>=◌
  levels_by v vs d w (taken a q y) = refl
  levels_by v vs d w fault = refl
  levels_by v vs d w deep = refl

  level_more : (v : Level) (vs : List Level) (d : DoBlockOwner) (w : Toks) (s : Scope) → read_level source Q (v ∷ vs) d w s ≡ (read_level source Q vs d w s >>= λ b p x. at_level source Q v (read_level source Q vs d) d w b p x)
  unfolding read_level climb
  level_more v vs d w s = levels_by v vs d w (read_minus source Q d w s)

module _ (source : Bytes) (R : Rels) where
  -- the operators of one level, behind an operand
  known_rest : (passes : Toks → Bool) (make : Toks → Toks → Tree → Tree → Tree) (O : Rel Tree) (P : Parse Tree) → Knows O P → Shorter O →
      (m : ℕ) (o : Toks) (a : Tree) (w : Toks) (s : Scope) (t : Tree) (r : Toks) (z : Scope) → Rest source R passes make O o a w s t r z → count_of w < m → rest source passes make P m o a w s ≡ taken t r z
  unfolding ◌>>=◌ rest
  known_rest passes make O P K S zero o a w s t r z h room = absurd (omega arith)
  known_rest passes make O P K S (suc m) o a w s t r z (g.Rest.operator e h hs) room =
      rw (e, K _ _ _ _ _ h, known_rest passes make O P K S m o _ _ _ _ _ _ hs (omega (arith, next_le w, S _ _ _ _ _ h)))
  known_rest passes make O P K S (suc m) o a w s t r z (g.Rest.end e) room = rw e

  known_chain : (Q : Readers) (passes : Toks → Bool) (make : Toks → Toks → Tree → Tree → Tree) (O : Rel Tree) (v : Level) (vs : List Level) (d : DoBlockOwner) →
      ((P : Parse Tree) (o : Toks) (a : Tree) (w : Toks) (s : Scope) → at_level source Q v P d o a w s ≡ read_rest source passes make P o a w s) →
      Knows O (read_level source Q vs d) → Shorter O → Knows (Chain source R passes make O) (read_level source Q (v ∷ vs) d)
  unfolding ◌>>=◌ read_rest
  known_chain Q passes make O v vs d is K S w s t r z (g.Chain.chain {q = q} h hs) =
      level_more source Q v vs d w s ∙ rw (K _ _ _ _ _ h, is) (known_rest passes make O (read_level source Q vs d) K S (suc (count_of q)) w _ _ _ _ _ _ hs (omega arith))

-- Operators before an operand, and those between two.
module _ (source : Bytes) (R : Rels) (Q : Readers) (F : Firsts source R) (S : Shorters R) (K : Known R Q) where
  -- where no operator begins, an operand is read
  tight_by : (d : DoBlockOwner) (w : Toks) (s : Scope) → is_mark source (codes "!") w ≡ false → is_mark source (codes "~") w ≡ false → is_mark source (codes "+") w ≡ false → read_unary_operand source Q d w s ≡ (read_postfix source Q d w s >>= λ h r z. operand_of source Q h r z)
  unfolding read_unary_operand
  tight_by d w s a b c = rw (a, b, c)

  tight_plain : (d : DoBlockOwner) (w : Toks) (s : Scope) → begins_operator source w ≡ false → read_unary_operand source Q d w s ≡ (read_postfix source Q d w s >>= λ h r z. operand_of source Q h r z)
  tight_plain d w s h =
      let p = neither _ _ h in
      let q = neither _ _ p.0 in
      let n = neither _ _ q.0 in
      tight_by d w s n.0 n.1 q.1

  pub known_tight : (d : DoBlockOwner) → Knows (UnaryOperand source R d) (read_unary_operand source Q d)
  unfolding ◌>>=◌ read_unary_operand operand_of
  known_tight d w s t r z (g.UnaryOperand.inverted e h) = rw (e, K.unary_operand d _ _ _ _ _ h)
  known_tight d w s t r z (g.UnaryOperand.complement e h) = rw (other_mark source (codes "~") (codes "!") w e refl, e, K.unary_operand d _ _ _ _ _ h)
  known_tight d w s t r z (g.UnaryOperand.positive e h) = rw (other_mark source (codes "+") (codes "!") w e refl, other_mark source (codes "+") (codes "~") w e refl, e, K.unary_operand d _ _ _ _ _ h)
  known_tight d w s t r z (g.UnaryOperand.plain h e) = tight_plain d w s (first_postfix source R d _ _ _ _ _ h).plain ∙ rw (known_operand source R Q F S K d _ _ _ _ _ h e)

  pub known_power : (d : DoBlockOwner) → Knows (Power source R d) (read_power source Q d)
  unfolding ◌>>=◌ read_power raised
  known_power d w s t r z (g.Power.raised h e i) = rw (known_tight d _ _ _ _ _ h, e, K.power d _ _ _ _ _ i)
  known_power d w s t r z (g.Power.plain h e) = rw (known_tight d _ _ _ _ _ h, e)

  no_minus : (f : Bytes) (w : Toks) → is_mark source f w ≡ true → same (codes "-") f ≡ false → (is_mark source (codes "-") w && not (is_negative source w)) ≡ false
  no_minus f w h e = left_false _ _ (other_mark source f (codes "-") w h e)

  tight_unsigned : (d : DoBlockOwner) (w : Toks) (s : Scope) (t : Tree) (r : Toks) (z : Scope) → UnaryOperand source R d w s t r z → (is_mark source (codes "-") w && not (is_negative source w)) ≡ false
  tight_unsigned d w s t r z (g.UnaryOperand.inverted e h) = no_minus (codes "!") w e refl
  tight_unsigned d w s t r z (g.UnaryOperand.complement e h) = no_minus (codes "~") w e refl
  tight_unsigned d w s t r z (g.UnaryOperand.positive e h) = no_minus (codes "+") w e refl
  tight_unsigned d w s t r z (g.UnaryOperand.plain h e) = (neither _ _ (first_postfix source R d _ _ _ _ _ h).plain).1

  power_unsigned : (d : DoBlockOwner) (w : Toks) (s : Scope) (t : Tree) (r : Toks) (z : Scope) → Power source R d w s t r z → (is_mark source (codes "-") w && not (is_negative source w)) ≡ false
  power_unsigned d w s t r z (g.Power.raised h e i) = tight_unsigned d _ _ _ _ _ h
  power_unsigned d w s t r z (g.Power.plain h e) = tight_unsigned d _ _ _ _ _ h

  minus_plain : (d : DoBlockOwner) (w : Toks) (s : Scope) → (is_mark source (codes "-") w && not (is_negative source w)) ≡ false → read_minus source Q d w s ≡ read_power source Q d w s
  unfolding read_minus
  minus_plain d w s h = rw h

  pub known_minus : (d : DoBlockOwner) → Knows (Minus source R d) (read_minus source Q d)
  unfolding ◌>>=◌ read_minus
  known_minus d w s t r z (g.Minus.minus e i h) = rw (and_true _ _ e (ap not i), K.minus d _ _ _ _ _ h)
  known_minus d w s t r z (g.Minus.plain h) = minus_plain d w s (power_unsigned d _ _ _ _ _ h) ∙ known_power d _ _ _ _ _ h

  -- the levels, from the tightest on
  no_level : (d : DoBlockOwner) → Knows (Minus source R d) (read_level source Q [] d)
  unfolding ◌>>=◌ read_level climb
  no_level d w s t r z h = rw (known_minus d _ _ _ _ _ h)

  known_product : (d : DoBlockOwner) → Knows (Product source R d) (read_level source Q up_to_product d)
  unfolding at_level
  known_product d = known_chain source R Q (mark_in source product_marks) (binary source) (Minus source R d) product [] d (λ P o a w s. refl) (no_level d) (shorter_minus source R S d)

  known_sum : (d : DoBlockOwner) → Knows (Sum source R d) (read_level source Q up_to_sum d)
  unfolding at_level
  known_sum d = known_chain source R Q (mark_in source sum_marks) (binary source) (Product source R d) sum up_to_product d (λ P o a w s. refl) (known_product d) (shorter_product source R S d)

  known_shift : (d : DoBlockOwner) → Knows (Shift source R d) (read_level source Q up_to_shift d)
  unfolding at_level
  known_shift d = known_chain source R Q (mark_in source shift_marks) (binary source) (Sum source R d) shift up_to_sum d (λ P o a w s. refl) (known_sum d) (shorter_sum source R S d)

  known_intersection : (d : DoBlockOwner) → Knows (Intersection source R d) (read_level source Q up_to_intersection d)
  unfolding at_level
  known_intersection d = known_chain source R Q (mark_in source intersection_marks) (binary source) (Shift source R d) intersection up_to_shift d (λ P o a w s. refl) (known_shift d) (shorter_shift source R S d)

  known_union : (d : DoBlockOwner) → Knows (Union source R d) (read_level source Q up_to_union d)
  unfolding at_level
  known_union d = known_chain source R Q (mark_in source union_marks) (binary source) (Intersection source R d) union up_to_intersection d (λ P o a w s. refl) (known_intersection d) (shorter_intersection source R S d)

  known_order : (d : DoBlockOwner) → Knows (Order source R d) (read_level source Q up_to_order d)
  unfolding at_level
  known_order d = known_chain source R Q (mark_in source order_marks) (binary source) (Union source R d) order up_to_union d (λ P o a w s. refl) (known_union d) (shorter_union source R S d)

  no_equality : (w : Toks) → is_mark source (codes "!=") w ≡ true → mark_in source equality_marks w ≡ false
  no_equality w h = mark_not_among source (codes "!=") equality_marks w h refl

  known_equality : (d : DoBlockOwner) → Knows (Equality source R d) (read_level source Q up_to_equality d)
  unfolding ◌>>=◌ at_level compare
  known_equality d w s t r z (g.Equality.compared h e i) = level_more source Q equality up_to_order d w s ∙ rw (known_order d _ _ _ _ _ h, e, known_order d _ _ _ _ _ i)
  known_equality d w s t r z (g.Equality.unequal {q = q} h e i) = level_more source Q equality up_to_order d w s ∙ rw (known_order d _ _ _ _ _ h, no_equality q e, e, known_order d _ _ _ _ _ i)
  known_equality d w s t r z (g.Equality.plain {r = q} h e) =
      level_more source Q equality up_to_order d w s ∙ rw (known_order d _ _ _ _ _ h, (neither (mark_in source equality_marks r) (is_mark source (codes "!=") r) e).0, (neither (mark_in source equality_marks r) (is_mark source (codes "!=") r) e).1)

  known_conjunction : (d : DoBlockOwner) → Knows (Conjunction source R d) (read_level source Q up_to_conjunctions d)
  unfolding at_level
  known_conjunction d = known_chain source R Q (is_mark source (codes "&&")) conjunction (Equality source R d) conjunctions up_to_equality d (λ P o a w s. refl) (known_equality d) (shorter_equality source R S d)

  known_disjunction : (d : DoBlockOwner) → Knows (Disjunction source R d) (read_level source Q up_to_disjunctions d)
  unfolding at_level
  known_disjunction d = known_chain source R Q (is_mark source (codes "||")) disjunction (Conjunction source R d) disjunctions up_to_conjunctions d (λ P o a w s. refl) (known_conjunction d) (shorter_conjunction source R S d)

  known_range : (d : DoBlockOwner) → Knows (Range source R d) (read_level source Q up_to_ranges d)
  unfolding ◌>>=◌ at_level ranged
  known_range d w s t r z (g.Range.whole h e i) = level_more source Q ranges up_to_disjunctions d w s ∙ rw (known_disjunction d _ _ _ _ _ h, e, known_disjunction d _ _ _ _ _ i)
  known_range d w s t r z (g.Range.without_last {q = q} h e i) =
      level_more source Q ranges up_to_disjunctions d w s ∙ rw (known_disjunction d _ _ _ _ _ h, other_mark source (codes "...") (codes "..") q e refl, e, known_disjunction d _ _ _ _ _ i)
  known_range d w s t r z (g.Range.plain h e i) = level_more source Q ranges up_to_disjunctions d w s ∙ rw (known_disjunction d _ _ _ _ _ h, e, i)

  pub known_conditional : (d : DoBlockOwner) → Knows (Conditional source R d) (read_level source Q all_levels d)
  unfolding ◌>>=◌ at_level chosen
  known_conditional d w s t r z (g.Conditional.chosen h e i f j) = level_more source Q conditional up_to_ranges d w s ∙ rw (known_range d _ _ _ _ _ h, e, K.arg d _ _ _ _ _ i, f, K.arg d _ _ _ _ _ j)
  known_conditional d w s t r z (g.Conditional.plain h e) = level_more source Q conditional up_to_ranges d w s ∙ rw (known_range d _ _ _ _ _ h, e)

  -- Where no operator begins, an operand is read, and then operators behind it.
  pub level_plain : (vs : List Level) (d : DoBlockOwner) (w : Toks) (s : Scope) → begins_operator source w ≡ false →
      read_level source Q vs d w s ≡ (((read_postfix source Q d w s >>= λ h q y. operand_of source Q h q y) >>= λ a q y. raised source Q d w a q y) >>= λ a q y. climb source Q vs d w a q y)
  unfolding read_level read_power
  level_plain vs d w s h =
      let n : (is_mark source (codes "-") w && not (is_negative source w)) ≡ false = (neither _ _ h).1 in
      rw (minus_plain d w s n, tight_plain d w s h)
