-- What a reader takes is derived: lists of arguments, and what stands in brackets.
use Rattle.std.proofs.Common.{◌≡◌, ℕ, zero, suc, Bool, false, not, ◌&&◌, codes, Option, Some, None, refl}
use Rattle.std.proofs.lemmas.Bool.{true≢false, and_parts}
use Rattle.ruby_lexer.specs.Bytes.{Bytes}
use Rattle.ruby_lexer.specs.Forms.{text_of}
use Rattle.ruby_lexer.specs.Pieces.{Kind, label, Parts, Toks}
use Rattle.ruby_tree.specs.Tree.{Goal, Tree, Pairs}
use Rattle.ruby_tree.specs.Rules.{Scope, declare, declared, next, front, DoBlockOwner, own, in_arguments, word, is_mark, begins_arg, goal_at}
use Rattle.ruby_tree.specs.Build.{Given, symbol_of}
use Rattle.ruby_tree.specs.FaultLine.{count_of}
use Rattle.ruby_tree.specs.Grammar.{Rel, Rels, Mark, Trailing}
use Rattle.ruby_tree.specs.Grammar as g
use Rattle.reference_parser.specs.Answers.{Answer, Parse}
use Rattle.reference_parser.specs.Fronts.{is_name, is_label, label_by, more_elements, more_pairs, more_items, more_passed}
use Rattle.reference_parser.specs.ReadItems.{Readers, Element, KeyValue, Passing, passing_by, block_params, read_bars, exception_name, with_goal, more_targets, read_targets, closed, several, read_several, read_element, elements, pair_by, read_pair, pair_list, read_passed, end_pairs, pairs_from, items_from, items, read_items, in_brackets, command_items, read_classes}
use Rattle.reference_laws.proofs.Promises.{Each, got, at_fault, Sound, Sounds}
use Rattle.reference_laws.proofs.SoundTools.{each_then, each_of, each_if}
use Rattle.reference_laws.proofs.SoundTests.{is_not, name-true}

module _ (source : Bytes) where
  sound-block_params : (m : ℕ) → Sound (g.BlockParams source) (block_params source m)
  unfolding block_params
  sound-block_params zero w s = at_fault
  sound-block_params (suc m) w s =
      each_if (is_name w) _ _
      (λ n. each_if (is_mark source (codes ",") (next w)) _ _
      (λ c. each_then _ (sound-block_params m (next (next w)) (declare (word source w) s)) (λ ps r z h. got (g.BlockParams.another (name-true w n) c h)))
      (λ _. got (g.BlockParams.last (name-true w n))))
      (λ _. each_if (is_mark source (codes "*") w && is_name (next w)) _ _
      (λ e. let both = and_parts _ _ e in got (g.BlockParams.rest both.0 (name-true _ both.1)))
      (λ _. at_fault))

  pub sound-bars : Sound (g.Bars source) (read_bars source)
  unfolding read_bars
  sound-bars w s =
      each_if (is_mark source (codes "|") w) _ _
      (λ o. each_if (is_mark source (codes "|") (next w)) _ _
      (λ c. got (g.Bars.empty o c))
      (λ _. each_then _ (sound-block_params (suc (count_of w)) (next w) s) (λ ps r z h. each_if (is_mark source (codes "|") r) _ _
      (λ c. got (g.Bars.given o h c))
      (λ _. at_fault))))
      (λ o. got (g.Bars.missing o))

  pub sound-exception_name : Sound (g.ExceptionName source) (exception_name source)
  unfolding exception_name
  sound-exception_name w s =
      each_if (is_mark source (codes "=>") w) _ _
      (λ e. each_if (is_name (next w)) _ _
      (λ n. got (g.ExceptionName.given e (name-true _ n)))
      (λ _. at_fault))
      (λ e. got (g.ExceptionName.missing e))

  each_goal : {A : Type 0} {P : A → Toks → Scope → Type 0} (o : Option Goal) (f : Goal → Answer A) → ((t : Goal) → o ≡ Some t → Each P (f t)) → Each P (with_goal source o f)
  unfolding with_goal
  each_goal None f next = at_fault
  each_goal (Some t) f next = next t refl

  sound-more_targets : (m : ℕ) → Sound (g.MoreTargets source) (more_targets source m)
  unfolding more_targets
  sound-more_targets zero w s = at_fault
  sound-more_targets (suc m) w s =
      each_goal (goal_at source w) _ (λ t is. each_if (is_mark source (codes ",") (next w)) _ _
      (λ c. each_then _ (sound-more_targets m (next (next w)) (declared t s)) (λ ts r z h. got (g.MoreTargets.another is c h)))
      (λ _. got (g.MoreTargets.last is)))

  pub sound-targets : Sound (g.Targets source) (read_targets source)
  unfolding read_targets
  sound-targets w s =
      each_goal (goal_at source w) _ (λ t is. each_if (is_mark source (codes ",") (next w)) _ _
      (λ c. each_then _ (sound-more_targets (suc (count_of w)) (next (next w)) (declared t s)) (λ ts r z h. got (g.Targets.several is c h)))
      (λ _. at_fault))

  -- the bracket f closes what a was read as
  pub each_closed : {A : Type 0} {P : A → Toks → Scope → Type 0} (f : Bytes) (a : A) (w : Toks) (s : Scope) → ((q : Toks) → Trailing source w q → Mark source f q → P a (next q) s) → Each P (closed source f a w s)
  unfolding closed
  each_closed f a w s then =
      each_if (is_mark source (codes ",") w) _ _
      (λ c. each_if (is_mark source f (next w)) _ _
      (λ e. got (then (next w) (g.Trailing.comma c) e))
      (λ _. at_fault))
      (λ _. each_if (is_mark source f w) _ _
      (λ e. got (then w g.Trailing.no_comma e))
      (λ _. at_fault))

-- elements, a pair and what is passed, as the reader makes them
module _ (source : Bytes) (R : Rels) where
  abbrev pub ElementOf : DoBlockOwner → Rel Element
  ElementOf d w s e r z = g.Element source R d e.spread w s e.tree r z

  abbrev pub ElementsOf : ℕ → Rel Given
  ElementsOf k w s e r z = g.Elements source R own k w s e.trees e.spread r z

  abbrev pub PairOf : DoBlockOwner → Rel KeyValue
  PairOf d w s p r z = g.Pair source R d w s p.key p.value r z

  abbrev pub PassedOf : DoBlockOwner → Rel Passing
  PassedOf d w s p r z = g.Passed source R d w s p.value p.block r z

module _ (source : Bytes) (R : Rels) (Q : Readers) (S : Sounds R Q) where
  sound-several_turns : (m : ℕ) (d : DoBlockOwner) → Sound (g.Several source R d) (several source Q m d)
  unfolding several
  sound-several_turns zero d w s = at_fault
  sound-several_turns (suc m) d w s =
      each_then _ (S.arg d w s) (λ a q y h. each_if (is_mark source (codes ",") q) _ _
      (λ c. each_then _ (sound-several_turns m d (next q) y) (λ ts r z k. got (g.Several.another h c k)))
      (λ c. got (g.Several.last h c)))

  pub sound-several : (d : DoBlockOwner) → Sound (g.Several source R d) (read_several source Q d)
  unfolding read_several
  sound-several d w s = sound-several_turns (suc (count_of w)) d w s

  pub sound-element : (d : DoBlockOwner) → Sound (ElementOf source R d) (read_element source Q d)
  unfolding read_element
  sound-element d w s =
      each_if (is_mark source (codes "*") w) _ _
      (λ e. each_then _ (S.arg d (next w) s) (λ a r z h. got (g.Element.spread e h)))
      (λ _. each_then _ (S.arg d w s) (λ a r z h. got (g.Element.plain h)))

  pub sound-elements : (m k : ℕ) → Sound (ElementsOf source R k) (elements source Q m k)
  unfolding elements
  sound-elements zero k w s = at_fault
  sound-elements (suc m) k w s =
      each_then _ (sound-element own w s) (λ e q y h. each_if (more_elements source q) _ _
      (λ c. each_then _ (sound-elements m (suc k) (next q) y) (λ t r z i. got (g.Elements.another h (and_parts _ _ c).0 i)))
      (λ _. got (g.Elements.last h)))

  pair-text : (d : DoBlockOwner) (w : Toks) (s : Scope) (ps : Parts) → front w ≡ Some (label ps) → (o : Option Bytes) → text_of ps ≡ o → Each (PairOf source R d w s) (pair_by source Q d w s o)
  unfolding pair_by
  pair-text d w s ps is None e = at_fault
  pair-text d w s ps is (Some f) e = each_then _ (S.arg d (next w) s) (λ v r z h. got (g.Pair.label is e h))

  pair-label : (d : DoBlockOwner) (w : Toks) (s : Scope) (k : Option Kind) → front w ≡ k → Each (PairOf source R d w s) (pair_by source Q d w s (label_by k))
  unfolding pair_by
  pair-label d w s (Some (label ps)) is = pair-text d w s ps is (text_of ps) refl
  pair-label d w s _ is = at_fault

  sound-pair : (d : DoBlockOwner) → Sound (PairOf source R d) (read_pair source Q d)
  unfolding read_pair
  sound-pair d w s =
      each_if (is_label w) _ _
      (λ _. pair-label d w s (front w) refl)
      (λ _. each_then _ (S.arg d w s) (λ k q y h. each_if (is_mark source (codes "=>") q) _ _
      (λ e. each_then _ (S.arg d (next q) y) (λ v r z i. got (g.Pair.arrow h e i)))
      (λ _. at_fault)))

  pub sound-pair_list : (m : ℕ) (d : DoBlockOwner) → Sound (g.PairList source R d) (pair_list source Q m d)
  unfolding pair_list
  sound-pair_list zero d w s = at_fault
  sound-pair_list (suc m) d w s =
      each_then _ (sound-pair d w s) (λ p q y h. each_if (more_pairs source q) _ _
      (λ c. each_then _ (sound-pair_list m d (next q) y) (λ ps r z i. got (g.PairList.another h (and_parts _ _ c).0 i)))
      (λ _. got (g.PairList.last h)))

  passed-as : (d : DoBlockOwner) (w r : Toks) (s z : Scope) (a : Tree) → Mark source (codes "&") w → R.arg d (next w) s a r z → (o : Option Bytes) → symbol_of a ≡ o → PassedOf source R d w s (passing_by w a o) r z
  passed-as d w r s z a e h None is = g.Passed.value e h is
  passed-as d w r s z a e h (Some m) is = g.Passed.named e h is

  sound-passed : (d : DoBlockOwner) (w : Toks) (s : Scope) → Mark source (codes "&") w → Each (PassedOf source R d w s) (read_passed source Q d w s)
  unfolding read_passed
  sound-passed d w s e = each_then _ (S.arg d (next w) s) (λ a r z h. got (passed-as d w r s z a e h (symbol_of a) refl))

  sound-end_pairs : (d : DoBlockOwner) (k : ℕ) (w : Toks) (s : Scope) (ps : Pairs) (q : Toks) (y : Scope) → g.PairList source R d w s ps q y → Each (g.Items source R d k w s) (end_pairs source Q d w ps q y)
  unfolding end_pairs
  sound-end_pairs d k w s ps q y h =
      each_if (more_passed source q) _ _
      (λ c. let both = and_parts _ _ c in each_then _ (sound-passed d (next q) y both.1) (λ p r z i. got (g.Items.pairs_and_passed h both.0 i)))
      (λ _. got (g.Items.pairs h))

  sound-pairs_from : (d : DoBlockOwner) (k : ℕ) (w : Toks) (s : Scope) (p : KeyValue) (q : Toks) (y : Scope) → PairOf source R d w s p q y → Each (g.Items source R d k w s) (pairs_from source Q d w p q y)
  unfolding pairs_from
  sound-pairs_from d k w s p q y h =
      each_if (more_pairs source q) _ _
      (λ c. each_then _ (sound-pair_list (suc (count_of q)) d (next q) y) (λ ps r z i. sound-end_pairs d k w s _ r z (g.PairList.another h (and_parts _ _ c).0 i)))
      (λ _. sound-end_pairs d k w s _ q y (g.PairList.last h))

  -- an element that is not spread
  plain_element : (d : DoBlockOwner) (b : Bool) (w q : Toks) (s y : Scope) (a : Tree) → g.Element source R d b w s a q y → b ≡ false → R.arg d w s a q y
  plain_element d _ w q s y a (g.Element.plain h) is = h
  plain_element d _ w q s y a (g.Element.spread e h) is = absurd (true≢false is)

  pub sound-items_from : (further : Parse Given) (d : DoBlockOwner) (k : ℕ) → Sound (g.Items source R d (suc k)) further → (w : Toks) (s : Scope) (e : Element) (q : Toks) (y : Scope) → ElementOf source R d w s e q y → Each (g.Items source R d k w s) (items_from source Q further d k w e q y)
  unfolding items_from
  sound-items_from further d k F w s e q y h =
      each_if (not e.spread && is_mark source (codes "=>") q) _ _
      (λ c. let both = and_parts _ _ c in each_then _ (S.arg d (next q) y) (λ v p x i. sound-pairs_from d k w s _ p x (g.Pair.arrow (plain_element d _ w q s y _ h (is_not _ both.0)) both.1 i)))
      (λ n. each_if (more_items source q) _ _
      (λ c. each_then _ (F (next q) y) (λ t r z i. got (g.Items.another h (and_parts _ _ c).0 i)))
      (λ _. got (g.Items.element h n)))

  pub sound-items_turns : (m : ℕ) (d : DoBlockOwner) (k : ℕ) → Sound (g.Items source R d k) (items source Q m d k)
  unfolding items
  sound-items_turns zero d k w s = at_fault
  sound-items_turns (suc m) d k w s =
      each_if (is_mark source (codes "&") w) _ _
      (λ e. each_then _ (sound-passed d w s e) (λ p r z h. got (g.Items.passed h)))
      (λ _. each_if (is_label w) _ _
      (λ _. each_then _ (sound-pair d w s) (λ p q y h. sound-pairs_from d k w s p q y h))
      (λ _. each_then _ (sound-element d w s) (λ e q y h. sound-items_from _ d k (sound-items_turns m d (suc k)) w s e q y h)))

  pub sound-items : (d : DoBlockOwner) → Sound (g.Items source R d 0) (read_items source Q d)
  unfolding read_items
  sound-items d w s = sound-items_turns (suc (count_of w)) d 0 w s

  pub sound-in_brackets : (w : Toks) (s : Scope) → Mark source (codes "(") w → Each (g.InBrackets source R w s) (in_brackets source Q w s)
  unfolding in_brackets
  sound-in_brackets w s o =
      each_if (is_mark source (codes ")") (next w)) _ _
      (λ c. got (g.InBrackets.empty o c))
      (λ _. each_then _ (sound-items own (next w) s) (λ t q z h. each_closed source _ _ _ _ (λ r e c. g.InBrackets.full o h e c)))

  pub sound-command_items : (d : DoBlockOwner) → Sound (g.CommandItems source R d) (command_items source Q d)
  unfolding command_items
  sound-command_items d w s =
      each_then _ (sound-items (in_arguments d) w s) (λ t r z h. each_if (is_mark source (codes ",") r) _ _
      (λ _. at_fault)
      (λ e. got (g.CommandItems.items h e)))

  pub sound-classes : (d : DoBlockOwner) → Sound (g.Classes source R d) (read_classes source Q d)
  unfolding read_classes
  sound-classes d w s =
      each_if (begins_arg source w) _ _
      (λ _. each_of (sound-several d w s) (λ ts r z h. g.Classes.given h))
      (λ e. got (g.Classes.missing e))
