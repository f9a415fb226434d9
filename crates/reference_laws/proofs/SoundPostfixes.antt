-- What a reader takes is derived: what stands behind operands.
use Rattle.std.proofs.Common.{◌≡◌, ℕ, zero, suc, Bool, true, false, not, ◌&&◌, codes, Some, inl, inr, refl, sym, ◌∙◌}
use Rattle.std.proofs.lemmas.Bool.{and_parts, false≢true, or_from}
use Rattle.ruby_lexer.specs.Bytes.{Bytes}
use Rattle.ruby_lexer.specs.Pieces.{Toks, name}
use Rattle.ruby_tree.specs.Tree.{Tree}
use Rattle.ruby_tree.specs.Rules.{Scope, next, front, blank, position_with, DoBlockOwner, own, word, is_mark, goes_on, begins_arguments, begins_arg, assigns}
use Rattle.ruby_tree.specs.Build.{Given}
use Rattle.ruby_tree.specs.FaultLine.{count_of}
use Rattle.ruby_tree.specs.Grammar.{Rel, Rels, Mark, Dot, MethodName, Items, Postfixes, Postfix}
use Rattle.ruby_tree.specs.Grammar as g
use Rattle.reference_parser.specs.Answers.{Answer, Parse}
use Rattle.reference_parser.specs.Fronts.{is_name, is_constant, is_dot}
use Rattle.reference_parser.specs.ReadItems.{Readers}
use Rattle.reference_parser.specs.ReadOperands.{Start, read_call, end_index, read_index, postfixes, read_postfix, path_at, postfix_at}
use Rattle.reference_parser.specs.ReadOperands as start
use Rattle.reference_laws.proofs.Promises.{Each, got, at_fault, Sound, Sounds}
use Rattle.reference_laws.proofs.SoundTools.{each_then, each_of, each_if, each_found}
use Rattle.reference_laws.proofs.SoundTests.{is_not, or_first, constant-true}
use Rattle.reference_laws.proofs.SoundItems.{sound-items_from, sound-items_turns, sound-items}
use Rattle.reference_laws.proofs.SoundBodies.{sound-call_items}
use Rattle.reference_laws.proofs.SoundOperands.{NameAt, name_alone, another_name, found-name, named_as, sound-primary}

-- What the start of something is that begins at o, where P says what is derived as an operand, and q is what stands behind it: an operand with
-- nothing that goes on with it; an attribute or an element that is set; or a command behind a dot, up to its name.
pub data Begun (source : Bytes) (R : Rels) (P : Tree → Toks → Scope → Type 0) (o : Toks) : Start → Toks → Scope → Type 0 where
  operand : {q : Toks} {y : Scope} {a : Tree} → P a q y → goes_on source q ≡ false → Begun source R P o (start.operand a) q y
  attribute : {q : Toks} {y : Scope} {a : Tree} → P a q y → Mark source (codes ".") q → front (next q) ≡ Some name → assigns source (next (next q)) ≡ true → Begun source R P o (start.attribute a (position_with o (next q)) (word source (next q))) (next (next q)) y
  element : {q p : Toks} {y x : Scope} {a i : Tree} → P a q y → Mark source (codes "[") q → blank q ≡ false → R.arg own (next q) y i p x → Mark source (codes "]") p → assigns source (next p) ≡ true → Begun source R P o (start.element a (position_with o q) i) (next p) x
  command : {k : Bool} {q v : Toks} {y : Scope} {a : Tree} {m : Bytes} → P a q y → Dot source k q → MethodName source false (next q) m v → begins_arguments source v ≡ true → Begun source R P o (start.command k a (position_with o (next q)) m) v y

pub begun_of : {source : Bytes} {R : Rels} {P : Tree → Toks → Scope → Type 0} {G : Tree → Toks → Scope → Type 0} {o : Toks} → ((t : Tree) (r : Toks) (z : Scope) → P t r z → G t r z) → (h : Start) (q : Toks) (y : Scope) → Begun source R P o h q y → Begun source R G o h q y
begun_of f h q y (operand a e) = operand (f _ _ _ a) e
begun_of f h q y (attribute a e n i) = attribute (f _ _ _ a) e n i
begun_of f h q y (element a e n i c l) = element (f _ _ _ a) e n i c l
begun_of f h q y (command a e n i) = command (f _ _ _ a) e n i

module _ (source : Bytes) (R : Rels) (Q : Readers) (S : Sounds R Q) where
  abbrev Begins : DoBlockOwner → Toks → Tree → Rel Start
  Begins d o a w s = Begun source R (λ t r z. Postfixes source R d o a w s t r z) o

  -- what is begun behind one more part is begun before it
  begins_behind : (d : DoBlockOwner) (o : Toks) (a : Tree) (w : Toks) (s : Scope) (b : Tree) (p : Toks) (y : Scope) → ((t : Tree) (r : Toks) (z : Scope) → Postfixes source R d o b p y t r z → Postfixes source R d o a w s t r z) → (x : Answer Start) → Each (Begins d o b p y) x → Each (Begins d o a w s) x
  begins_behind d o a w s b p y f x e = each_of e (begun_of f)

  dot_at : (w : Toks) → is_dot source w ≡ true → (k : Bool) → is_mark source (codes "&.") w ≡ k → Dot source k w
  dot_at w e true is = g.Dot.safe is
  dot_at w e false is = g.Dot.plain (or_first _ _ e is)

  -- an attribute that is set
  sound-attribute : (d : DoBlockOwner) (o : Toks) (a : Tree) (w : Toks) (s : Scope) (m : Bytes) (v : Toks) → NameAt source false (next w) m v → assigns source v ≡ true → (is_mark source (codes ".") w && is_name (next w)) ≡ true → Begins d o a w s (start.attribute a (position_with o (next w)) m) v s
  sound-attribute d o a w s _ _ (name_alone n _) e both = attribute g.Postfixes.end (and_parts _ _ both).0 n e
  sound-attribute d o a w s m v (another_name (inl e) _) _ _ = absurd (false≢true e)
  sound-attribute d o a w s m v (another_name (inr n) _) _ both = absurd (false≢true (sym n ∙ (and_parts _ _ both).1))

  sound-call : (further : Tree → Parse Start) (d : DoBlockOwner) (o : Toks) → ((b : Tree) → Sound (Begins d o b) (further b)) → (a : Tree) (w : Toks) (s : Scope) → is_dot source w ≡ true → Each (Begins d o a w s) (read_call source Q further d o a w s)
  unfolding read_call
  sound-call further d o F a w s e =
      let dot : Dot source (is_mark source (codes "&.") w) w = dot_at w e (is_mark source (codes "&.") w) refl in
      each_found _ (found-name source false (next w)) (λ m v hm. each_if (begins_arguments source v) _ _
      (λ b. got (command g.Postfixes.end dot (named_as source false (next w) v m hm) b))
      (λ b. each_if (assigns source v) _ _
      (λ i. each_if (is_mark source (codes ".") w && is_name (next w)) _ _
      (λ both. got (sound-attribute d o a w s m v hm i both))
      (λ _. at_fault))
      (λ i. each_then _ (sound-call_items source R Q S d v s) (λ c p y hc. begins_behind d o a w s _ p y (λ t r z h. g.Postfixes.called dot (named_as source false (next w) v m hm) b i hc h) _ (F _ p y)))))

  -- the part of an index up to its end
  sound-end_index : (further : Tree → Parse Start) (d : DoBlockOwner) (o : Toks) → ((b : Tree) → Sound (Begins d o b) (further b)) → (a : Tree) (w : Toks) (s : Scope) (t : Given) (p : Toks) (y : Scope) → Mark source (codes "[") w → blank w ≡ false → Items source R own 0 (next w) s t p y → Each (Begins d o a w s) (end_index source Q further o a w t p y)
  unfolding end_index
  sound-end_index further d o F a w s t p y e n h =
      each_if (is_mark source (codes "]") p && not (assigns source (next p))) _ _
      (λ c. let both = and_parts _ _ c in begins_behind d o a w s _ (next p) y (λ u r z i. g.Postfixes.index e n h both.0 (is_not _ both.1) i) _ (F _ (next p) y))
      (λ _. at_fault)

  sound-index : (further : Tree → Parse Start) (d : DoBlockOwner) (o : Toks) → ((b : Tree) → Sound (Begins d o b) (further b)) → (a : Tree) (w : Toks) (s : Scope) → Mark source (codes "[") w → blank w ≡ false → Each (Begins d o a w s) (read_index source Q further o a w s)
  unfolding read_index
  sound-index further d o F a w s e n =
      each_if (begins_arg source (next w)) _ _
      (λ _. each_then _ (S.arg own (next w) s) (λ i q x hi. each_if (is_mark source (codes "]") q && assigns source (next q)) _ _
      (λ c. let both = and_parts _ _ c in got (element g.Postfixes.end e n hi both.0 both.1))
      (λ _. each_then _ (sound-items_from source R Q S _ own 0 (sound-items_turns source R Q S (suc (count_of w)) own 1) (next w) s _ q x (g.Element.plain hi)) (λ t p y h. sound-end_index further d o F a w s t p y e n h))))
      (λ _. each_then _ (sound-items source R Q S own (next w) s) (λ t p y h. sound-end_index further d o F a w s t p y e n h))

  sound-postfixes : (m : ℕ) (d : DoBlockOwner) (o : Toks) (a : Tree) → Sound (Begins d o a) (postfixes source Q m d o a)
  unfolding postfixes postfix_at path_at
  sound-postfixes zero d o a w s = at_fault
  sound-postfixes (suc m) d o a w s =
      each_if (is_dot source w) _ _
      (λ e. sound-call (postfixes source Q m d o) d o (sound-postfixes m d o) a w s e)
      (λ e. each_if (is_mark source (codes "::") w) _ _
      (λ c. each_if (is_constant (next w)) _ _
      (λ k. begins_behind d o a w s _ (next (next w)) s (λ t r z h. g.Postfixes.constant c (constant-true _ k) h) _ (sound-postfixes m d o _ (next (next w)) s))
      (λ _. at_fault))
      (λ c. each_if (is_mark source (codes "[") w && not (blank w)) _ _
      (λ i. let both = and_parts _ _ i in sound-index (postfixes source Q m d o) d o (sound-postfixes m d o) a w s both.0 (is_not _ both.1))
      (λ i. got (operand g.Postfixes.end (or_from _ _ (or_from _ _ e c) i)))))

  -- what an operand was begun as
  pub sound-postfix : (d : DoBlockOwner) (w : Toks) (s : Scope) → Each (Begun source R (λ t r z. Postfix source R d w s t r z) w) (read_postfix source Q d w s)
  unfolding read_postfix
  sound-postfix d w s = each_then _ (sound-primary source R Q S d w s) (λ a q y h. each_of (sound-postfixes (suc (count_of q)) d w a q y) (begun_of (λ t r z i. g.Postfix.postfix h i)))
