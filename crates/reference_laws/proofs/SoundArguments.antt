-- What a reader takes is derived: assignments, arguments and commands.
use Rattle.std.proofs.Common.{◌≡◌, Bool, true, false, not, ◌&&◌, ◌||◌, [], ◌∷◌, codes, Option, Some, None, refl, sym, ap, ◌∙◌}
use Rattle.std.proofs.lemmas.Bool.{and_parts, or_from, false≢true}
use Rattle.ruby_lexer.specs.Bytes.{Bytes}
use Rattle.ruby_lexer.specs.Pieces.{Kind, name, constant, Toks}
use Rattle.ruby_tree.specs.Tree.{Goal, Tree, at}
use Rattle.ruby_tree.specs.Rules.{Scope, declared, in_clause, next, front, blank, is_kind_constant, is_goal, position, position_with, DoBlockOwner, own, modifiers, sending_assignments, word, mark_in, word_in, is_mark, is_word, begins_arg, begins_value, begins_arguments, is_command, assigns, sets, goal_by, goal_at}
use Rattle.ruby_tree.specs.Build.{has_block}
use Rattle.ruby_tree.specs.Grammar.{Rels, Mark, Word, Postfix, Conditional, Values, Command, Value, Unset, Arg, CommandOrArg}
use Rattle.ruby_tree.specs.Grammar as g
use Rattle.reference_parser.specs.Fronts.{is_name, calling_words, leaving_words, begins_command, begins_operator}
use Rattle.reference_parser.specs.ReadItems.{Readers}
use Rattle.reference_parser.specs.ReadOperands.{Start}
use Rattle.reference_parser.specs.ReadStatements.{variable_form, attribute_form, element_form, read_value, set_by, command_by, unassigned, start_by, read_unset, read_settable, read_arg, read_values, read_command, read_assigned_value}
use Rattle.reference_laws.proofs.Promises.{Each, got, at_fault, Sound, Sounds}
use Rattle.reference_laws.proofs.SoundTools.{each_then, each_of, each_if, value_if}
use Rattle.reference_laws.proofs.SoundTests.{is_not, or_other, or_first, kind-constant, name-true, name-no_word, word_in-as, word_in-rest, word_in-one, word_in-none}
use Rattle.reference_laws.proofs.SoundItems.{sound-several, sound-command_items}
use Rattle.reference_laws.proofs.SoundBodies.{sound-command_block}
use Rattle.reference_laws.proofs.SoundPostfixes.{Begun, operand, attribute, element, command, sound-postfix}
use Rattle.reference_laws.proofs.SoundLevels.{sound-raised, climbs-all, sound-level}

module _ (source : Bytes) where
  -- the last way to assign
  sends : (w : Toks) → assigns source w ≡ true → is_mark source (codes "=") w ≡ false → is_mark source (codes "||=") w ≡ false → is_mark source (codes "&&=") w ≡ false → mark_in source sending_assignments w ≡ true
  sends w h a b c = or_other _ _ h (or_from _ _ (or_from _ _ a b) c)

  -- no variable is a constant
  not_constant : (k : Option Kind) (f : Bytes) (t : Goal) → goal_by source k f ≡ Some t → is_kind_constant k ≡ false
  not_constant (Some constant) f t is = absurd cc
  not_constant _ f t is = refl

  set_variable : (w : Toks) (t : Goal) → sets source w ≡ true → goal_at source w ≡ Some t → assigns source (next w) ≡ true
  set_variable w t h is =
      let first : (is_goal (goal_at source w) && assigns source (next w)) ≡ true = or_first _ _ h (ap (λ b. b && is_mark source (codes "=") (next w)) (not_constant (front w) (word source w) t is)) in
      (and_parts _ _ first).1

  set_constant : (w : Toks) → sets source w ≡ true → goal_at source w ≡ None → (is_kind_constant (front w) && is_mark source (codes "=") (next w)) ≡ true
  set_constant w h is = or_other _ _ h (ap (λ o. is_goal o && assigns source (next w)) is)

module _ (source : Bytes) (R : Rels) where
  -- Trees of assignments, by the token that assigns.
  variable-arg : (d : DoBlockOwner) (w r : Toks) (s z : Scope) (t : Goal) (v : Tree) → goal_at source w ≡ Some t → assigns source (next w) ≡ true → Value source R d (next (next w)) (declared t s) v r z → Arg source R d w s (at (position w) (variable_form source t w (next w) v)) r z
  variable-arg d w r s z t v is h i =
      value_if (λ f. Arg source R d w s (at (position w) f) r z) (is_mark source (codes "=") (next w)) _ _
      (λ e. g.Arg.variable is e i)
      (λ a. value_if (λ f. Arg source R d w s (at (position w) f) r z) (is_mark source (codes "||=") (next w)) _ _
      (λ e. g.Arg.either_variable is e i)
      (λ b. value_if (λ f. Arg source R d w s (at (position w) f) r z) (is_mark source (codes "&&=") (next w)) _ _
      (λ e. g.Arg.both_variable is e i)
      (λ c. g.Arg.operated_variable is (sends source (next w) h a b c) i)))

  attribute-unset : (d : DoBlockOwner) (w q r : Toks) (s y z : Scope) (t v : Tree) → Postfix source R d w s t q y → Mark source (codes ".") q → front (next q) ≡ Some name → assigns source (next (next q)) ≡ true → Value source R d (next (next (next q))) y v r z →
      Unset source R d w s (at (position_with w (next q)) (attribute_form source t (word source (next q)) (next (next q)) v)) r z
  attribute-unset d w q r s y z t v h e n is i =
      value_if (λ f. Unset source R d w s (at (position_with w (next q)) f) r z) (is_mark source (codes "=") (next (next q))) _ _
      (λ k. g.Unset.attribute h e n k i)
      (λ a. value_if (λ f. Unset source R d w s (at (position_with w (next q)) f) r z) (is_mark source (codes "||=") (next (next q))) _ _
      (λ k. g.Unset.either_attribute h e n k i)
      (λ b. value_if (λ f. Unset source R d w s (at (position_with w (next q)) f) r z) (is_mark source (codes "&&=") (next (next q))) _ _
      (λ k. g.Unset.both_attribute h e n k i)
      (λ c. g.Unset.operated_attribute h e n (sends source (next (next q)) is a b c) i)))

  element-unset : (d : DoBlockOwner) (w q p r : Toks) (s y x z : Scope) (t j v : Tree) → Postfix source R d w s t q y → Mark source (codes "[") q → blank q ≡ false → R.arg own (next q) y j p x → Mark source (codes "]") p → assigns source (next p) ≡ true → Value source R d (next (next p)) x v r z →
      Unset source R d w s (at (position_with w q) (element_form source t j (next p) v)) r z
  element-unset d w q p r s y x z t j v h e n hj l is i =
      value_if (λ f. Unset source R d w s (at (position_with w q) f) r z) (is_mark source (codes "=") (next p)) _ _
      (λ k. g.Unset.element h e n hj l k i)
      (λ a. value_if (λ f. Unset source R d w s (at (position_with w q) f) r z) (is_mark source (codes "||=") (next p)) _ _
      (λ k. g.Unset.either_element h e n hj l k i)
      (λ b. value_if (λ f. Unset source R d w s (at (position_with w q) f) r z) (is_mark source (codes "&&=") (next p)) _ _
      (λ k. g.Unset.both_element h e n hj l k i)
      (λ c. g.Unset.operated_element h e n hj l (sends source (next p) is a b c) i)))

  -- an argument that sets no variable; or a command, where one may stand
  data Unsets (c : Bool) (d : DoBlockOwner) (w : Toks) (s : Scope) : Tree → Toks → Scope → Type 0 where
    unset : {t : Tree} {r : Toks} {z : Scope} → Unset source R d w s t r z → Unsets c d w s t r z
    commands : {t : Tree} {r : Toks} {z : Scope} → c ≡ true → Command source R d w s t r z → Unsets c d w s t r z

  -- an argument; or a command, where one may stand
  data Settable (c : Bool) (d : DoBlockOwner) (w : Toks) (s : Scope) : Tree → Toks → Scope → Type 0 where
    argument : {t : Tree} {r : Toks} {z : Scope} → Arg source R d w s t r z → Settable c d w s t r z
    other_command : {t : Tree} {r : Toks} {z : Scope} → c ≡ true → Command source R d w s t r z → Settable c d w s t r z

  settable : (c : Bool) (d : DoBlockOwner) (w : Toks) (s : Scope) → sets source w ≡ false → (t : Tree) (r : Toks) (z : Scope) → Unsets c d w s t r z → Settable c d w s t r z
  settable c d w s e t r z (unset h) = argument (g.Arg.other e h)
  settable c d w s e t r z (commands is h) = other_command is h

  only_argument : (d : DoBlockOwner) (w : Toks) (s : Scope) (t : Tree) (r : Toks) (z : Scope) → Settable false d w s t r z → Arg source R d w s t r z
  only_argument d w s t r z (argument h) = h
  only_argument d w s t r z (other_command is h) = absurd (false≢true is)

  one_of_both : (d : DoBlockOwner) (w : Toks) (s : Scope) (t : Tree) (r : Toks) (z : Scope) → Settable true d w s t r z → CommandOrArg source R d w s t r z
  one_of_both d w s t r z (argument h) = g.CommandOrArg.arg h
  one_of_both d w s t r z (other_command is h) = g.CommandOrArg.command h

module _ (source : Bytes) (R : Rels) (Q : Readers) (S : Sounds R Q) where
  sound-value : (d : DoBlockOwner) → Sound (Value source R d) (read_value source Q d)
  unfolding read_value
  sound-value d w s =
      each_then _ (S.assigned_value d w s) (λ a q y h. each_if (is_word source (codes "rescue") q) _ _
      (λ e. each_then _ (S.arg d (next q) (in_clause y)) (λ b r z i. got (g.Value.saved h e i)))
      (λ e. got (g.Value.plain h e)))

  sound-set : (d : DoBlockOwner) (w : Toks) (s : Scope) → sets source w ≡ true → (o : Option Goal) → goal_at source w ≡ o → Each (Arg source R d w s) (set_by source Q d w s o)
  unfolding set_by
  sound-set d w s h (Some t) is = each_then _ (sound-value d (next (next w)) (declared t s)) (λ v r z i. got (variable-arg source R d w r s z t v is (set_variable source w t h is) i))
  sound-set d w s h None is =
      let both = and_parts (is_kind_constant (front w)) (is_mark source (codes "=") (next w)) (set_constant source w h is) in
      each_then _ (sound-value d (next (next w)) s) (λ v r z i. got (g.Arg.constant (kind-constant (front w) both.0) both.1 i))

  sound-unassigned : (c : Bool) (d : DoBlockOwner) (w : Toks) (s : Scope) (t : Tree) (r : Toks) (z : Scope) → Conditional source R d w s t r z → Each (Unsets source R c d w s) (unassigned source Q t r z)
  unfolding unassigned
  sound-unassigned c d w s t r z h = each_if (assigns source r) _ _ (λ _. at_fault) (λ e. got (unset (g.Unset.plain h e)))

  sound-start : (c : Bool) (d : DoBlockOwner) (w : Toks) (s : Scope) → sets source w ≡ false → (h : Start) (q : Toks) (y : Scope) → Begun source R (λ t r z. Postfix source R d w s t r z) w h q y → Each (Unsets source R c d w s) (start_by source Q c d w h q y)
  unfolding start_by command_by
  sound-start c d w s f _ q y (operand h e) =
      each_then _ (sound-raised source R Q S d w s _ q y (g.UnaryOperand.plain h e)) (λ b p x i. each_then _ (climbs-all source R Q S d w s b p x (g.Minus.plain i)) (λ t r z k. sound-unassigned c d w s t r z k))
  sound-start c d w s f _ _ y (attribute h e n is) = each_then _ (sound-value d _ y) (λ v r z i. got (unset (attribute-unset source R d w _ r s y z _ v h e n is i)))
  sound-start c d w s f _ _ y (element h e n hj l is) = each_then _ (sound-value d _ y) (λ v r z i. got (unset (element-unset source R d w _ _ r s _ y z _ _ v h e n hj l is i)))
  sound-start c d w s f _ q y (command h k m e) =
      each_if c _ _
      (λ is. each_then _ (sound-command_items source R Q S d q y) (λ t p x hi. each_then _ (sound-command_block source R Q S d t p x) (λ b r z hb. got (commands is (g.Command.called f h k m e hi hb)))))
      (λ _. at_fault)

  sound-unset : (c : Bool) (d : DoBlockOwner) (w : Toks) (s : Scope) → sets source w ≡ false → Each (Unsets source R c d w s) (read_unset source Q c d w s)
  unfolding read_unset
  sound-unset c d w s f =
      each_if (begins_operator source w) _ _
      (λ _. each_then _ (sound-level source R Q S d w s) (λ t r z h. sound-unassigned c d w s t r z h))
      (λ _. each_then _ (sound-postfix source R Q S d w s) (λ h q y b. sound-start c d w s f h q y b))

  sound-settable : (c : Bool) (d : DoBlockOwner) → Sound (Settable source R c d) (read_settable source Q c d)
  unfolding read_settable
  sound-settable c d w s =
      each_if (sets source w) _ _
      (λ e. each_of (sound-set d w s e (goal_at source w) refl) (λ t r z h. argument h))
      (λ e. each_of (sound-unset c d w s e) (settable source R c d w s e))

  pub sound-arg : (d : DoBlockOwner) → Sound (Arg source R d) (read_arg source Q d)
  unfolding read_arg
  sound-arg d w s = each_of (sound-settable false d w s) (only_argument source R d w s)

  sound-values : (d : DoBlockOwner) → Sound (Values source R d) (read_values source Q d)
  unfolding read_values
  sound-values d w s =
      each_if (begins_value source w) _ _
      (λ e. each_of (sound-several source R Q S d w s) (λ ts r z h. g.Values.given (is_not _ (and_parts (begins_arg source w) (not (word_in source modifiers w)) e).1) h))
      (λ e. got (g.Values.missing e))

  -- What begins a command here, by its first word.
  named_command : (s : Scope) (w : Toks) → begins_command source s w ≡ true → is_name w ≡ true → is_command source s (word source w) (next w) ≡ true
  named_command s w h n =
      let either = or_first _ _ h (name-no_word source (leaving_words source) w n) in
      (and_parts (is_name w) (is_command source s (word source w) (next w)) (or_first _ _ either (ap (λ b. b && begins_arguments source (next w)) (name-no_word source (calling_words source) w n)))).1

  other_than_name : (s : Scope) (w : Toks) → is_name w ≡ false → begins_command source s w ≡ ((word_in source (calling_words source) w && begins_arguments source (next w)) || word_in source (leaving_words source) w)
  other_than_name s w n = ap (λ b. ((b && is_command source s (word source w) (next w)) || (word_in source (calling_words source) w && begins_arguments source (next w))) || word_in source (leaving_words source) w) n

  calling_command : (s : Scope) (w : Toks) → begins_command source s w ≡ true → is_name w ≡ false → word_in source (leaving_words source) w ≡ false → begins_arguments source (next w) ≡ true
  calling_command s w h n e = (and_parts (word_in source (calling_words source) w) _ (or_first _ _ (sym (other_than_name s w n) ∙ h) e)).1

  next_command : (s : Scope) (w : Toks) → begins_command source s w ≡ true → is_name w ≡ false → is_word source (codes "yield") w ≡ false → is_word source (codes "super") w ≡ false → is_word source (codes "return") w ≡ false → is_word source (codes "break") w ≡ false → Word source (codes "next") w
  next_command s w h n a b c e =
      let calling : word_in source (calling_words source) w ≡ false = word_in-rest source (codes "yield") (codes "super" ∷ []) w a ∙ word_in-rest source (codes "super") [] w b ∙ word_in-none source w in
      let leaving : word_in source (leaving_words source) w ≡ true = or_other _ _ (sym (other_than_name s w n) ∙ h) (ap (λ k. k && begins_arguments source (next w)) calling) in
      word_in-one source (codes "next") w (sym (word_in-rest source (codes "return") (codes "break" ∷ codes "next" ∷ []) w c ∙ word_in-rest source (codes "break") (codes "next" ∷ []) w e) ∙ leaving)

  sound-command : (d : DoBlockOwner) (w : Toks) (s : Scope) → begins_command source s w ≡ true → Each (Command source R d w s) (read_command source Q d w s)
  unfolding read_command
  sound-command d w s h =
      each_if (is_name w) _ _
      (λ n. each_then _ (sound-command_items source R Q S d (next w) s) (λ t q y hi. each_then _ (sound-command_block source R Q S d t q y) (λ b r z hb. got (g.Command.named (name-true w n) (named_command s w h n) hi hb))))
      (λ n. each_if (is_word source (codes "yield") w) _ _
      (λ e. each_then _ (sound-command_items source R Q S d (next w) s) (λ t r z hi. each_if (has_block t) _ _ (λ _. at_fault) (λ k. got (g.Command.yielded e (calling_command s w h n (word_in-as source (codes "yield") (leaving_words source) w e)) hi k))))
      (λ a. each_if (is_word source (codes "super") w) _ _
      (λ e. each_then _ (sound-command_items source R Q S d (next w) s) (λ t q y hi. each_then _ (sound-command_block source R Q S d t q y) (λ b r z hb. got (g.Command.super_with e (calling_command s w h n (word_in-as source (codes "super") (leaving_words source) w e)) hi hb))))
      (λ b. each_if (is_word source (codes "return") w) _ _
      (λ e. each_then _ (sound-values d (next w) s) (λ ts r z hv. got (g.Command.returned e hv)))
      (λ c. each_if (is_word source (codes "break") w) _ _
      (λ e. each_then _ (sound-values d (next w) s) (λ ts r z hv. got (g.Command.broken e hv)))
      (λ e. each_then _ (sound-values d (next w) s) (λ ts r z hv. got (g.Command.nexted (next_command s w h n a b c e) hv)))))))

  pub sound-whole : (d : DoBlockOwner) → Sound (CommandOrArg source R d) (read_assigned_value source Q d)
  unfolding read_assigned_value
  sound-whole d w s =
      each_if (begins_command source s w) _ _
      (λ e. each_of (sound-command d w s e) (λ t r z h. g.CommandOrArg.command h))
      (λ _. each_of (sound-settable true d w s) (one_of_both source R d w s))
