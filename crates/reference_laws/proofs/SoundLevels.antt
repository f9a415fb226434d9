-- What a reader takes is derived: operators by their levels.
use Rattle.std.proofs.Common.{ℕ, zero, suc, Bool, not, ◌&&◌, List, [], codes}
use Rattle.std.proofs.lemmas.Bool.{and_parts, or_from}
use Rattle.ruby_lexer.specs.Bytes.{Bytes}
use Rattle.ruby_lexer.specs.Pieces.{Toks}
use Rattle.ruby_tree.specs.Tree.{Tree}
use Rattle.ruby_tree.specs.Rules.{Scope, next, equality_marks, DoBlockOwner, mark_in, is_mark, is_negative}
use Rattle.ruby_tree.specs.FaultLine.{count_of}
use Rattle.ruby_tree.specs.Grammar.{Rel, Rels, Postfix, UnaryOperand, Power, Minus, Rest, Chain, Product, Sum, Shift, Intersection, Union, Order, Equality, Conjunction, Disjunction, Range, Conditional}
use Rattle.ruby_tree.specs.Grammar as g
use Rattle.reference_parser.specs.Answers.{Parse, ◌>>=◌}
use Rattle.reference_parser.specs.ReadItems.{Readers}
use Rattle.reference_parser.specs.ReadOperands.{Start}
use Rattle.reference_parser.specs.ReadLevels.{Level, up_to_product, up_to_sum, up_to_shift, up_to_intersection, up_to_union, up_to_order, up_to_equality, up_to_conjunctions, up_to_disjunctions, up_to_ranges, all_levels, rest, read_rest, compare, ranged, operand_of, read_unary_operand, raised, read_power, read_minus, chosen, at_level, climb, read_level}
use Rattle.reference_laws.proofs.Promises.{Each, got, at_fault, Sound, Sounds}
use Rattle.reference_laws.proofs.SoundTools.{each_then, each_of, each_if}
use Rattle.reference_laws.proofs.SoundTests.{is_not}
use Rattle.reference_laws.proofs.SoundPostfixes.{Begun, sound-postfix}
use Rattle.reference_laws.proofs.SoundPostfixes as begun

module _ (source : Bytes) (R : Rels) where
  sound-rest : (passes : Toks → Bool) (make : Toks → Toks → Tree → Tree → Tree) (O : Rel Tree) (F : Parse Tree) → Sound O F → (m : ℕ) (o : Toks) (a : Tree) → Sound (Rest source R passes make O o a) (rest source passes make F m o a)
  unfolding rest
  sound-rest passes make O F H zero o a w s = at_fault
  sound-rest passes make O F H (suc m) o a w s =
      each_if (passes w) _ _
      (λ e. each_then _ (H (next w) s) (λ b q y h. each_of (sound-rest passes make O F H m o (make o w a b) q y) (λ t r z i. g.Rest.operator e h i)))
      (λ e. got (g.Rest.end e))

  -- a level of operators to the left, behind its first operand
  sound-chain : (passes : Toks → Bool) (make : Toks → Toks → Tree → Tree → Tree) (O : Rel Tree) (F : Parse Tree) → Sound O F → (o : Toks) (s : Scope) (a : Tree) (q : Toks) (y : Scope) → O o s a q y → Each (Chain source R passes make O o s) (read_rest source passes make F o a q y)
  unfolding read_rest
  sound-chain passes make O F H o s a q y h = each_of (sound-rest passes make O F H (suc (count_of q)) o a q y) (λ t r z i. g.Chain.chain h i)

  sound-compare : (d : DoBlockOwner) (F : Parse Tree) → Sound (Order source R d) F → (o : Toks) (s : Scope) (a : Tree) (q : Toks) (y : Scope) → Order source R d o s a q y → Each (Equality source R d o s) (compare source F o a q y)
  unfolding compare
  sound-compare d F H o s a q y h =
      each_if (mark_in source equality_marks q) _ _
      (λ e. each_then _ (H (next q) y) (λ b r z i. got (g.Equality.compared h e i)))
      (λ e. each_if (is_mark source (codes "!=") q) _ _
      (λ f. each_then _ (H (next q) y) (λ b r z i. got (g.Equality.unequal h f i)))
      (λ f. got (g.Equality.plain h (or_from _ _ e f))))

  sound-ranged : (d : DoBlockOwner) (F : Parse Tree) → Sound (Disjunction source R d) F → (o : Toks) (s : Scope) (a : Tree) (q : Toks) (y : Scope) → Disjunction source R d o s a q y → Each (g.Range source R d o s) (ranged source F o a q y)
  unfolding ranged
  sound-ranged d F H o s a q y h =
      each_if (is_mark source (codes "..") q) _ _
      (λ e. each_then _ (H (next q) y) (λ b r z i. got (g.Range.whole h e i)))
      (λ e. each_if (is_mark source (codes "...") q) _ _
      (λ f. each_then _ (H (next q) y) (λ b r z i. got (g.Range.without_last h f i)))
      (λ f. got (g.Range.plain h e f)))

module _ (source : Bytes) (R : Rels) (Q : Readers) (S : Sounds R Q) where
  sound-operand_of : (d : DoBlockOwner) (w : Toks) (s : Scope) (h : Start) (q : Toks) (y : Scope) → Begun source R (λ t r z. Postfix source R d w s t r z) w h q y → Each (UnaryOperand source R d w s) (operand_of source Q h q y)
  unfolding operand_of
  sound-operand_of d w s _ q y (begun.operand h e) = got (g.UnaryOperand.plain h e)
  sound-operand_of d w s _ _ y (begun.attribute h e n i) = at_fault
  sound-operand_of d w s _ _ y (begun.element h e n i c l) = at_fault
  sound-operand_of d w s _ q y (begun.command h e n i) = at_fault

  pub sound-unary_operand : (d : DoBlockOwner) → Sound (UnaryOperand source R d) (read_unary_operand source Q d)
  unfolding read_unary_operand
  sound-unary_operand d w s =
      each_if (is_mark source (codes "!") w) _ _
      (λ e. each_then _ (S.unary_operand d (next w) s) (λ a r z h. got (g.UnaryOperand.inverted e h)))
      (λ _. each_if (is_mark source (codes "~") w) _ _
      (λ e. each_then _ (S.unary_operand d (next w) s) (λ a r z h. got (g.UnaryOperand.complement e h)))
      (λ _. each_if (is_mark source (codes "+") w) _ _
      (λ e. each_then _ (S.unary_operand d (next w) s) (λ a r z h. got (g.UnaryOperand.positive e h)))
      (λ _. each_then _ (sound-postfix source R Q S d w s) (λ h q y b. sound-operand_of d w s h q y b))))

  -- `**` behind an operand, or none
  pub sound-raised : (d : DoBlockOwner) (o : Toks) (s : Scope) (a : Tree) (q : Toks) (y : Scope) → UnaryOperand source R d o s a q y → Each (Power source R d o s) (raised source Q d o a q y)
  unfolding raised
  sound-raised d o s a q y h =
      each_if (is_mark source (codes "**") q) _ _
      (λ e. each_then _ (S.power d (next q) y) (λ b r z i. got (g.Power.raised h e i)))
      (λ e. got (g.Power.plain h e))

  pub sound-power : (d : DoBlockOwner) → Sound (Power source R d) (read_power source Q d)
  unfolding read_power
  sound-power d w s = each_then _ (sound-unary_operand d w s) (λ a q y h. sound-raised d w s a q y h)

  pub sound-minus : (d : DoBlockOwner) → Sound (Minus source R d) (read_minus source Q d)
  unfolding read_minus
  sound-minus d w s =
      each_if (is_mark source (codes "-") w && not (is_negative source w)) _ _
      (λ e. let both = and_parts _ _ e in each_then _ (S.minus d (next w) s) (λ a r z h. got (g.Minus.minus both.0 (is_not _ both.1) h)))
      (λ _. each_of (sound-power d w s) (λ a r z h. g.Minus.plain h))

  sound-chosen : (d : DoBlockOwner) (o : Toks) (s : Scope) (a : Tree) (q : Toks) (y : Scope) → g.Range source R d o s a q y → Each (Conditional source R d o s) (chosen source Q d o a q y)
  unfolding chosen
  sound-chosen d o s a q y h =
      each_if (is_mark source (codes "?") q) _ _
      (λ e. each_then _ (S.arg d (next q) y) (λ b p x hb. each_if (is_mark source (codes ":") p) _ _
      (λ f. each_then _ (S.arg d (next p) x) (λ c r z hc. got (g.Conditional.chosen h e hb f hc)))
      (λ _. at_fault)))
      (λ e. got (g.Conditional.plain h e))

  -- The operators of these levels behind an operand give what O derives.
  abbrev pub Climbs : List Level → DoBlockOwner → Rel Tree → Type 0
  Climbs vs d O = (o : Toks) (s : Scope) (a : Tree) (q : Toks) (y : Scope) → Minus source R d o s a q y → Each (O o s) (climb source Q vs d o a q y)

  -- an operand with the operators of these levels
  sound-operand : (vs : List Level) (d : DoBlockOwner) (O : Rel Tree) → Climbs vs d O → Sound O (λ w s. read_minus source Q d w s >>= λ a q y. climb source Q vs d w a q y)
  sound-operand vs d O C w s = each_then _ (sound-minus d w s) (λ a q y h. C w s a q y h)

  climbs-none : (d : DoBlockOwner) → Climbs [] d (Minus source R d)
  unfolding climb
  climbs-none d o s a q y h = got h

  climbs-product : (d : DoBlockOwner) → Climbs up_to_product d (Product source R d)
  unfolding climb at_level
  climbs-product d o s a q y h = each_then _ (climbs-none d o s a q y h) (λ b p x i. sound-chain source R _ _ _ _ (sound-operand [] d _ (climbs-none d)) o s b p x i)

  climbs-sum : (d : DoBlockOwner) → Climbs up_to_sum d (Sum source R d)
  unfolding climb at_level
  climbs-sum d o s a q y h = each_then _ (climbs-product d o s a q y h) (λ b p x i. sound-chain source R _ _ _ _ (sound-operand up_to_product d _ (climbs-product d)) o s b p x i)

  climbs-shift : (d : DoBlockOwner) → Climbs up_to_shift d (Shift source R d)
  unfolding climb at_level
  climbs-shift d o s a q y h = each_then _ (climbs-sum d o s a q y h) (λ b p x i. sound-chain source R _ _ _ _ (sound-operand up_to_sum d _ (climbs-sum d)) o s b p x i)

  climbs-intersection : (d : DoBlockOwner) → Climbs up_to_intersection d (Intersection source R d)
  unfolding climb at_level
  climbs-intersection d o s a q y h = each_then _ (climbs-shift d o s a q y h) (λ b p x i. sound-chain source R _ _ _ _ (sound-operand up_to_shift d _ (climbs-shift d)) o s b p x i)

  climbs-union : (d : DoBlockOwner) → Climbs up_to_union d (Union source R d)
  unfolding climb at_level
  climbs-union d o s a q y h = each_then _ (climbs-intersection d o s a q y h) (λ b p x i. sound-chain source R _ _ _ _ (sound-operand up_to_intersection d _ (climbs-intersection d)) o s b p x i)

  climbs-order : (d : DoBlockOwner) → Climbs up_to_order d (Order source R d)
  unfolding climb at_level
  climbs-order d o s a q y h = each_then _ (climbs-union d o s a q y h) (λ b p x i. sound-chain source R _ _ _ _ (sound-operand up_to_union d _ (climbs-union d)) o s b p x i)

  climbs-equality : (d : DoBlockOwner) → Climbs up_to_equality d (Equality source R d)
  unfolding climb at_level
  climbs-equality d o s a q y h = each_then _ (climbs-order d o s a q y h) (λ b p x i. sound-compare source R d _ (sound-operand up_to_order d _ (climbs-order d)) o s b p x i)

  climbs-conjunctions : (d : DoBlockOwner) → Climbs up_to_conjunctions d (Conjunction source R d)
  unfolding climb at_level
  climbs-conjunctions d o s a q y h = each_then _ (climbs-equality d o s a q y h) (λ b p x i. sound-chain source R _ _ _ _ (sound-operand up_to_equality d _ (climbs-equality d)) o s b p x i)

  climbs-disjunctions : (d : DoBlockOwner) → Climbs up_to_disjunctions d (Disjunction source R d)
  unfolding climb at_level
  climbs-disjunctions d o s a q y h = each_then _ (climbs-conjunctions d o s a q y h) (λ b p x i. sound-chain source R _ _ _ _ (sound-operand up_to_conjunctions d _ (climbs-conjunctions d)) o s b p x i)

  climbs-ranges : (d : DoBlockOwner) → Climbs up_to_ranges d (g.Range source R d)
  unfolding climb at_level
  climbs-ranges d o s a q y h = each_then _ (climbs-disjunctions d o s a q y h) (λ b p x i. sound-ranged source R d _ (sound-operand up_to_disjunctions d _ (climbs-disjunctions d)) o s b p x i)

  pub climbs-all : (d : DoBlockOwner) → Climbs all_levels d (Conditional source R d)
  unfolding climb at_level
  climbs-all d o s a q y h = each_then _ (climbs-ranges d o s a q y h) (λ b p x i. sound-chosen d o s b p x i)

  pub sound-level : (d : DoBlockOwner) → Sound (Conditional source R d) (read_level source Q all_levels d)
  unfolding read_level
  sound-level d w s = sound-operand all_levels d _ (climbs-all d) w s
