-- The reader takes what is derived: assignments, and arguments.
use Rattle.std.proofs.Common.{◌≡◌, Bool, true, false, codes, Some, None, refl, sym, ap, ◌∙◌, arith}
use Rattle.ruby_lexer.specs.Bytes.{Bytes}
use Rattle.ruby_lexer.specs.Pieces.{Toks, name, constant}
use Rattle.ruby_tree.specs.Tree.{Goal, Tree, at, assign, to_constant}
use Rattle.ruby_tree.specs.Rules.{Scope, DoBlockOwner, own, next, front, blank, position, position_with, sending_assignments, word, mark_in, is_mark, is_goal, is_kind_constant, goal_by, goal_at, declared, begins_arguments, assigns, sets}
use Rattle.ruby_tree.specs.Grammar.{Rels, Postfix, Value, Unset, Arg}
use Rattle.ruby_tree.specs.Grammar as g
use Rattle.reference_parser.specs.Answers.{Answer, taken, fault, deep, ◌>>=◌}
use Rattle.reference_parser.specs.Fronts.{begins_operator}
use Rattle.reference_parser.specs.ReadItems.{Readers}
use Rattle.reference_parser.specs.ReadOperands.{Start, operand, attribute, element, command, read_postfix}
use Rattle.reference_parser.specs.ReadLevels.{all_levels, operand_of, raised, climb, read_level}
use Rattle.reference_parser.specs.ReadStatements.{variable_form, attribute_form, element_form, read_value, set_by, unassigned, start_by, read_unset, read_settable}
use Rattle.reference_laws.proofs.Promises.{Knows, Known, Shorters, Firsts}
use Rattle.reference_parser.proofs.Tests.{and_true, left_true, right_true, by_test, other_mark, other_marks}
use Rattle.reference_laws.proofs.Begins.{mark_no_arguments, sending_no_arguments}
use Rattle.reference_laws.proofs.First.{first_postfix}
use Rattle.reference_laws.proofs.KnownPostfixes.{known_attribute, known_element}
use Rattle.reference_laws.proofs.KnownLevels.{known_conditional, level_plain}

-- nothing is taken at a fault
not_fault : {A : Type 0} {t : A} {r : Toks} {z : Scope} → fault ≡ taken t r z → ⊥
not_fault h = grind arith

not_deep : {A : Type 0} {t : A} {r : Toks} {z : Scope} → deep ≡ taken t r z → ⊥
not_deep h = grind arith

module _ (source : Bytes) where
  -- what assigns
  assigns_equal : (w : Toks) → is_mark source (codes "=") w ≡ true → assigns source w ≡ true
  assigns_equal w h = left_true _ _ (left_true _ _ (left_true _ _ h))

  assigns_either : (w : Toks) → is_mark source (codes "||=") w ≡ true → assigns source w ≡ true
  assigns_either w h = left_true _ _ (left_true _ _ (right_true _ _ h))

  assigns_both : (w : Toks) → is_mark source (codes "&&=") w ≡ true → assigns source w ≡ true
  assigns_both w h = left_true _ _ (right_true _ _ h)

  assigns_sending : (w : Toks) → mark_in source sending_assignments w ≡ true → assigns source w ≡ true
  assigns_sending w h = right_true _ _ h

  sets_goal : (w : Toks) (x : Goal) → goal_at source w ≡ Some x → assigns source (next w) ≡ true → sets source w ≡ true
  sets_goal w x e h = left_true _ _ (and_true _ _ (ap is_goal e) h)

  sets_constant : (w : Toks) → front w ≡ Some constant → is_mark source (codes "=") (next w) ≡ true → sets source w ≡ true
  sets_constant w e h = right_true _ _ (and_true _ _ (ap is_kind_constant e) h)

  module _ (R : Rels) (Q : Readers) (F : Firsts source R) (S : Shorters R) (K : Known R Q) where
    pub known_value : (d : DoBlockOwner) → Knows (Value source R d) (read_value source Q d)
    unfolding ◌>>=◌ read_value
    known_value d w s t r z (g.Value.plain h e) = rw (K.assigned_value d _ _ _ _ _ h, e)
    known_value d w s t r z (g.Value.saved h e i) = rw (K.assigned_value d _ _ _ _ _ h, e, K.arg d _ _ _ _ _ i)

    -- an attribute, and an element, that is set
    set_attribute : (c : Bool) (d : DoBlockOwner) (w : Toks) (s : Scope) (a : Tree) (q : Toks) (y : Scope) (v : Tree) (r : Toks) (z : Scope) → Postfix source R d w s a q y → is_mark source (codes ".") q ≡ true → front (next q) ≡ Some name →
        begins_arguments source (next (next q)) ≡ false → assigns source (next (next q)) ≡ true → Value source R d (next (next (next q))) y v r z →
        read_unset source Q c d w s ≡ taken (at (position_with w (next q)) (attribute_form source a (word source (next q)) (next (next q)) v)) r z
    unfolding ◌>>=◌ read_unset start_by
    set_attribute c d w s a q y v r z h e n k f i = rw ((first_postfix source R d _ _ _ _ _ h).plain, known_attribute source R Q F S K d _ _ _ _ _ h e n k f, known_value d _ _ _ _ _ i)

    set_element : (c : Bool) (d : DoBlockOwner) (w : Toks) (s : Scope) (a i : Tree) (q p : Toks) (y x : Scope) (v : Tree) (r : Toks) (z : Scope) → Postfix source R d w s a q y → is_mark source (codes "[") q ≡ true → blank q ≡ false → R.arg own (next q) y i p x →
        is_mark source (codes "]") p ≡ true → assigns source (next p) ≡ true → Value source R d (next (next p)) x v r z →
        read_unset source Q c d w s ≡ taken (at (position_with w q) (element_form source a i (next p) v)) r z
    unfolding ◌>>=◌ read_unset start_by
    set_element c d w s a i q p y x v r z h e k j f l u = rw ((first_postfix source R d _ _ _ _ _ h).plain, known_element source R Q F S K d _ _ _ _ _ _ _ _ h e k j f l, known_value d _ _ _ _ _ u)

    -- Where operators are read behind an operand, they are read from the start of an argument too.
    unassigned_by : (d : DoBlockOwner) (w : Toks) (o : Answer Tree) (t : Tree) (r : Toks) (z : Scope) → (o >>= λ a q y. climb source Q all_levels d w a q y) ≡ taken t r z → assigns source r ≡ false →
        (o >>= λ b p x. climb source Q all_levels d w b p x >>= λ t r z. unassigned source Q t r z) ≡ taken t r z
    unfolding ◌>>=◌ unassigned
    unassigned_by d w (taken b p x) t r z h e = rw (h, e)
    unassigned_by d w fault t r z h e = absurd (not_fault h)
    unassigned_by d w deep t r z h e = absurd (not_deep h)

    started : (c : Bool) (d : DoBlockOwner) (w : Toks) (o : Answer Start) (t : Tree) (r : Toks) (z : Scope) →
        (((o >>= λ h q y. operand_of source Q h q y) >>= λ a q y. raised source Q d w a q y) >>= λ a q y. climb source Q all_levels d w a q y) ≡ taken t r z → assigns source r ≡ false →
        (o >>= λ h q y. start_by source Q c d w h q y) ≡ taken t r z
    unfolding ◌>>=◌ operand_of start_by
    started c d w (taken (operand a) q y) t r z h e = unassigned_by d w (raised source Q d w a q y) t r z h e
    started c d w (taken (attribute a o m) q y) t r z h e = absurd (not_fault h)
    started c d w (taken (element a o i) q y) t r z h e = absurd (not_fault h)
    started c d w (taken (command k a o m) q y) t r z h e = absurd (not_fault h)
    started c d w fault t r z h e = absurd (not_fault h)
    started c d w deep t r z h e = absurd (not_deep h)

    at_operator : (c : Bool) (d : DoBlockOwner) (w : Toks) (s : Scope) (t : Tree) (r : Toks) (z : Scope) → read_level source Q all_levels d w s ≡ taken t r z → assigns source r ≡ false → begins_operator source w ≡ true → read_unset source Q c d w s ≡ taken t r z
    unfolding ◌>>=◌ read_unset unassigned
    at_operator c d w s t r z h e b = rw (b, h, e)

    at_operand : (c : Bool) (d : DoBlockOwner) (w : Toks) (s : Scope) (t : Tree) (r : Toks) (z : Scope) → read_level source Q all_levels d w s ≡ taken t r z → assigns source r ≡ false → begins_operator source w ≡ false → read_unset source Q c d w s ≡ taken t r z
    unfolding read_unset
    at_operand c d w s t r z h e b = rw b (started c d w (read_postfix source Q d w s) t r z (sym (level_plain source R Q F S K all_levels d w s b) ∙ h) e)

    known_unset : (c : Bool) (d : DoBlockOwner) → Knows (Unset source R d) (read_unset source Q c d)
    known_unset c d w s t r z (g.Unset.attribute {q = q} h e i k v) = set_attribute c d w _ _ q _ _ _ _ h e i (mark_no_arguments source (codes "=") (next (next q)) k refl) (assigns_equal (next (next q)) k) v ∙ rw k
    known_unset c d w s t r z (g.Unset.operated_attribute {q = q} h e i k v) =
        set_attribute c d w _ _ q _ _ _ _ h e i (sending_no_arguments source (next (next q)) k) (assigns_sending (next (next q)) k) v
        ∙ rw (other_marks source sending_assignments (codes "=") (next (next q)) k refl, other_marks source sending_assignments (codes "||=") (next (next q)) k refl, other_marks source sending_assignments (codes "&&=") (next (next q)) k refl)
    known_unset c d w s t r z (g.Unset.either_attribute {q = q} h e i k v) =
        set_attribute c d w _ _ q _ _ _ _ h e i (mark_no_arguments source (codes "||=") (next (next q)) k refl) (assigns_either (next (next q)) k) v ∙ rw (other_mark source (codes "||=") (codes "=") (next (next q)) k refl, k)
    known_unset c d w s t r z (g.Unset.both_attribute {q = q} h e i k v) =
        set_attribute c d w _ _ q _ _ _ _ h e i (mark_no_arguments source (codes "&&=") (next (next q)) k refl) (assigns_both (next (next q)) k) v ∙ rw (other_mark source (codes "&&=") (codes "=") (next (next q)) k refl, other_mark source (codes "&&=") (codes "||=") (next (next q)) k refl, k)
    known_unset c d w s t r z (g.Unset.element {q = q} {p = p} h e k j f l v) = set_element c d w _ _ _ q p _ _ _ _ _ h e k j f (assigns_equal (next p) l) v ∙ rw l
    known_unset c d w s t r z (g.Unset.operated_element {q = q} {p = p} h e k j f l v) =
        set_element c d w _ _ _ q p _ _ _ _ _ h e k j f (assigns_sending (next p) l) v
        ∙ rw (other_marks source sending_assignments (codes "=") (next p) l refl, other_marks source sending_assignments (codes "||=") (next p) l refl, other_marks source sending_assignments (codes "&&=") (next p) l refl)
    known_unset c d w s t r z (g.Unset.either_element {q = q} {p = p} h e k j f l v) = set_element c d w _ _ _ q p _ _ _ _ _ h e k j f (assigns_either (next p) l) v ∙ rw (other_mark source (codes "||=") (codes "=") (next p) l refl, l)
    known_unset c d w s t r z (g.Unset.both_element {q = q} {p = p} h e k j f l v) =
        set_element c d w _ _ _ q p _ _ _ _ _ h e k j f (assigns_both (next p) l) v ∙ rw (other_mark source (codes "&&=") (codes "=") (next p) l refl, other_mark source (codes "&&=") (codes "||=") (next p) l refl, l)
    known_unset c d w s t r z (g.Unset.plain h e) =
        let all = known_conditional source R Q F S K d _ _ _ _ _ h in
        by_test (begins_operator source w) (at_operator c d w s t r z all e) (at_operand c d w s t r z all e)

    -- a variable that is set
    set_variable : (c : Bool) (d : DoBlockOwner) (w : Toks) (s : Scope) (x : Goal) (v : Tree) (r : Toks) (z : Scope) → goal_at source w ≡ Some x → assigns source (next w) ≡ true → Value source R d (next (next w)) (declared x s) v r z →
        read_settable source Q c d w s ≡ taken (at (position w) (variable_form source x w (next w) v)) r z
    unfolding ◌>>=◌ read_settable set_by
    set_variable c d w s x v r z e k h = rw (sets_goal w x e k, e, known_value d _ _ _ _ _ h)

    set_constant : (c : Bool) (d : DoBlockOwner) (w : Toks) (s : Scope) (v : Tree) (r : Toks) (z : Scope) → front w ≡ Some constant → is_mark source (codes "=") (next w) ≡ true → Value source R d (next (next w)) s v r z →
        read_settable source Q c d w s ≡ taken (at (position w) (assign v (to_constant (word source w)))) r z
    unfolding ◌>>=◌ read_settable set_by
    set_constant c d w s v r z e k h =
        let no_goal : goal_at source w ≡ None = ap (λ o. goal_by source o (word source w)) e in
        rw (sets_constant w e k, no_goal, known_value d _ _ _ _ _ h)

    pub known_settable : (c : Bool) (d : DoBlockOwner) → Knows (Arg source R d) (read_settable source Q c d)
    unfolding read_settable
    known_settable c d w s t r z (g.Arg.variable {g = x} e k v) = set_variable c d w s x _ r z e (assigns_equal (next w) k) v ∙ rw k
    known_settable c d w s t r z (g.Arg.operated_variable {g = x} e k v) =
        set_variable c d w s x _ r z e (assigns_sending (next w) k) v
        ∙ rw (other_marks source sending_assignments (codes "=") (next w) k refl, other_marks source sending_assignments (codes "||=") (next w) k refl, other_marks source sending_assignments (codes "&&=") (next w) k refl)
    known_settable c d w s t r z (g.Arg.either_variable {g = x} e k v) = set_variable c d w s x _ r z e (assigns_either (next w) k) v ∙ rw (other_mark source (codes "||=") (codes "=") (next w) k refl, k)
    known_settable c d w s t r z (g.Arg.both_variable {g = x} e k v) =
        set_variable c d w s x _ r z e (assigns_both (next w) k) v ∙ rw (other_mark source (codes "&&=") (codes "=") (next w) k refl, other_mark source (codes "&&=") (codes "||=") (next w) k refl, k)
    known_settable c d w s t r z (g.Arg.constant e k v) = set_constant c d w s _ r z e k v
    known_settable c d w s t r z (g.Arg.other e h) = rw e (known_unset c d _ _ _ _ _ h)
