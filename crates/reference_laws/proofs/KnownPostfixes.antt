-- The reader takes what is derived: what stands behind an operand. It goes through all of that, and stops as what stands next decides.
use Rattle.std.proofs.Common.{◌≡◌, ℕ, zero, suc, ◌<◌, Bool, true, false, not, ◌&&◌, codes, Some, refl, ap, ◌∙◌, arith}
use Rattle.ruby_lexer.specs.Bytes.{Bytes, same}
use Rattle.ruby_lexer.specs.Pieces.{Toks, name, constant}
use Rattle.ruby_tree.specs.Tree.{Tree, at, Other, send, with}
use Rattle.ruby_tree.specs.Rules.{Scope, DoBlockOwner, own, next, front, blank, position_with, is_kind_name, is_kind_constant, word, is_mark, goes_on, begins_arg, begins_arguments, assigns}
use Rattle.ruby_tree.specs.Build.{Given, call_form, path_with}
use Rattle.ruby_tree.specs.Grammar.{Rels, Dot, MethodName, CallItems, Items, Postfixes, Postfix}
use Rattle.ruby_tree.specs.Grammar as g
use Rattle.ruby_tree.specs.FaultLine.{count_of}
use Rattle.reference_parser.specs.Answers.{Answer, taken, Parse, ◌>>=◌, ◌>>>◌}
use Rattle.reference_parser.specs.Fronts.{is_dot, more_items}
use Rattle.reference_parser.specs.ReadItems.{Readers}
use Rattle.reference_parser.specs.ReadOperands.{Start, operand, attribute, element, command, read_call, end_index, read_index, postfixes, read_postfix, path_at, postfix_at}
use Rattle.reference_laws.proofs.Promises.{Known, Shorters, Firsts}
use Rattle.reference_parser.proofs.Tests.{and_true, left_true, left_false, right_false, neither, neither_one, by_test, next_le, next_less, other_mark}
use Rattle.reference_laws.proofs.Shorter.{shorter_items, shorter_method_name, shorter_call_items}
use Rattle.reference_laws.proofs.KnownFronts.{known_dot, dot_is, known_method_name}
use Rattle.reference_laws.proofs.KnownItems.{ByArgument, known_by_argument, known_read_items}
use Rattle.reference_laws.proofs.KnownForms.{known_primary}
use Rattle.reference_laws.proofs.KnownBodies.{known_call_items}

module _ (source : Bytes) (R : Rels) (Q : Readers) (F : Firsts source R) (S : Shorters R) (K : Known R Q) where
  -- What is behind w up to r: the reader goes on there, with turns left.
  record Through (m : ℕ) (d : DoBlockOwner) (o : Toks) (a : Tree) (w : Toks) (s : Scope) (t : Tree) (r : Toks) (z : Scope) : Type 0 where
    left : ℕ
    room : count_of r < suc left
    goes : postfixes source Q m d o a w s ≡ postfixes source Q (suc left) d o t r z

  -- one step, and then what follows
  further : (m n : ℕ) (d : DoBlockOwner) (o : Toks) (a b : Tree) (w v : Toks) (s y : Scope) (t : Tree) (r : Toks) (z : Scope) → postfixes source Q m d o a w s ≡ postfixes source Q n d o b v y → Through n d o b v y t r z → Through m d o a w s t r z
  further m n d o a b w v s y t r z e h = record { left = h.left; room = h.room; goes = e ∙ h.goes }

  -- a call
  call_step : (m : ℕ) (d : DoBlockOwner) (k : Bool) (o : Toks) (a : Tree) (w v p : Toks) (s y : Scope) (x : Bytes) (i : Given) (b : Other) → Dot source k w → MethodName source false (next w) x v → begins_arguments source v ≡ false → assigns source v ≡ false → CallItems source R d v s i b p y →
      postfixes source Q (suc m) d o a w s ≡ postfixes source Q m d o (at (position_with o (next w)) (call_form k a i x b)) p y
  unfolding ◌>>=◌ ◌>>>◌ postfixes postfix_at path_at read_call
  call_step m d k o a w v p s y x i b e n c f h = rw (dot_is source k w e, known_method_name source false _ _ _ n, c, f, known_call_items source R Q F S K d _ _ _ _ _ _ h, known_dot source k w e)

  no_dot : (f : Bytes) (w : Toks) → is_mark source f w ≡ true → same (codes ".") f ≡ false → same (codes "&.") f ≡ false → is_dot source w ≡ false
  no_dot f w h a b = neither_one _ _ (other_mark source f (codes ".") w h a) (other_mark source f (codes "&.") w h b)

  constant_step : (m : ℕ) (d : DoBlockOwner) (o : Toks) (a : Tree) (w : Toks) (s : Scope) → is_mark source (codes "::") w ≡ true → front (next w) ≡ Some constant →
      postfixes source Q (suc m) d o a w s ≡ postfixes source Q m d o (path_with o a (word source (next w))) (next (next w)) s
  unfolding postfixes postfix_at path_at
  constant_step m d o a w s e h = rw (no_dot (codes "::") w e refl refl, e, ap is_kind_constant h)

  -- an index
  no_items_more : (p : Toks) → is_mark source (codes "]") p ≡ true → more_items source p ≡ false
  no_items_more p e = left_false _ _ (other_mark source (codes "]") (codes ",") p e refl)

  ends_index : (rest : Tree → Parse Start) (o : Toks) (a : Tree) (w : Toks) (i : Given) (p : Toks) (y : Scope) → is_mark source (codes "]") p ≡ true → assigns source (next p) ≡ false →
      end_index source Q rest o a w i p y ≡ rest (at (position_with o w) (send (with a) i.trees i.spread i.value (codes "[]") false i.block)) (next p) y
  unfolding end_index
  ends_index rest o a w i p y e f = rw (and_true _ _ e (ap not f))

  -- where the argument ends the items, nothing is assigned to the element
  no_element : (q p : Toks) → (is_mark source (codes "]") q ≡ true → q ≡ p) → assigns source (next p) ≡ false → (is_mark source (codes "]") q && assigns source (next q)) ≡ false
  no_element q p h f = by_test (is_mark source (codes "]") q) (λ e. right_false _ _ (ap (λ v. assigns source (next v)) (h e) ∙ f)) (λ e. left_false _ _ e)

  index_by_argument : (rest : Tree → Parse Start) (o : Toks) (a : Tree) (w p : Toks) (s y : Scope) (i : Given) → begins_arg source (next w) ≡ true → ByArgument source R Q F S K (suc (count_of w)) own 0 (next w) s i p y → is_mark source (codes "]") p ≡ true → assigns source (next p) ≡ false →
      read_index source Q rest o a w s ≡ end_index source Q rest o a w i p y
  unfolding ◌>>=◌ read_index
  index_by_argument rest o a w p s y i b h e f = rw (b, K.arg own _ _ _ _ _ h.first, no_element h.end p (λ c. h.ends (codes "]") refl refl c) f, h.rest)

  index_otherwise : (rest : Tree → Parse Start) (o : Toks) (a : Tree) (w p : Toks) (s y : Scope) (i : Given) → begins_arg source (next w) ≡ false → Items source R own 0 (next w) s i p y → is_mark source (codes "]") p ≡ true →
      read_index source Q rest o a w s ≡ end_index source Q rest o a w i p y
  unfolding ◌>>=◌ read_index
  index_otherwise rest o a w p s y i b h e = rw (b, known_read_items source R Q F S K own _ _ _ _ _ h (no_items_more p e))

  index_read : (rest : Tree → Parse Start) (o : Toks) (a : Tree) (w p : Toks) (s y : Scope) (i : Given) → Items source R own 0 (next w) s i p y → is_mark source (codes "]") p ≡ true → assigns source (next p) ≡ false →
      read_index source Q rest o a w s ≡ end_index source Q rest o a w i p y
  index_read rest o a w p s y i h e f =
      by_test (begins_arg source (next w))
      (λ b. index_by_argument rest o a w p s y i b (known_by_argument source R Q F S K (suc (count_of w)) own 0 (next w) s i p y h (no_items_more p e) (omega (arith, next_le w)) b) e f)
      (λ b. index_otherwise rest o a w p s y i b h e)

  index_step : (m : ℕ) (d : DoBlockOwner) (o : Toks) (a : Tree) (w p : Toks) (s y : Scope) (i : Given) → is_mark source (codes "[") w ≡ true → blank w ≡ false → Items source R own 0 (next w) s i p y → is_mark source (codes "]") p ≡ true → assigns source (next p) ≡ false →
      postfixes source Q (suc m) d o a w s ≡ postfixes source Q m d o (at (position_with o w) (send (with a) i.trees i.spread i.value (codes "[]") false i.block)) (next p) y
  unfolding postfixes postfix_at path_at
  index_step m d o a w p s y i e c h f j =
      rw (no_dot (codes "[") w e refl refl, other_mark source (codes "[") (codes "::") w e refl, and_true _ _ e (ap not c))
      (index_read (postfixes source Q m d o) o a w p s y i h f j ∙ ends_index (postfixes source Q m d o) o a w i p y f j)

  through : (m : ℕ) (d : DoBlockOwner) (o : Toks) (a : Tree) (w : Toks) (s : Scope) (t : Tree) (r : Toks) (z : Scope) → Postfixes source R d o a w s t r z → count_of w < m → Through m d o a w s t r z
  through zero d o a w s t r z h room = absurd (omega arith)
  through (suc m) d o a w s t r z (g.Postfixes.called {k = k} {v = v} {p = p} {y = y} {m = x} {g = i} {b = b} e n c f h hs) room =
      further (suc m) m d o a _ w p s y t r z (call_step m d k o a w v p s y x i b e n c f h)
      (through m d o _ p y t r z hs (omega (arith, next_le w, shorter_method_name source false (next w) x v n, shorter_call_items source R S d v s i b p y h)))
  through (suc m) d o a w s t r z (g.Postfixes.constant e h hs) room =
      further (suc m) m d o a _ w _ s s t r z (constant_step m d o a w s e h) (through m d o _ _ s t r z hs (omega (arith, next_le w, next_less (next w) constant h)))
  through (suc m) d o a w s t r z (g.Postfixes.index {p = p} {y = y} {g = i} e c h f j hs) room =
      further (suc m) m d o a _ w (next p) s y t r z (index_step m d o a w p s y i e c h f j) (through m d o _ _ y t r z hs (omega (arith, next_le w, shorter_items source R S own 0 _ _ _ _ _ h, next_le p)))
  through (suc m) d o a w s t r z g.Postfixes.end room = record { left = m; room = room; goes = refl }

  -- where the reader stops
  stops : (d : DoBlockOwner) (w : Toks) (s : Scope) (t : Tree) (r : Toks) (z : Scope) (x : Answer Start) → Postfix source R d w s t r z → ((m : ℕ) → postfixes source Q (suc m) d w t r z ≡ x) → read_postfix source Q d w s ≡ x
  unfolding ◌>>=◌ read_postfix
  stops d w s t r z x (g.Postfix.postfix {q = q} {y = y} {a = a} h hs) stop =
      let all = through (suc (count_of q)) d w a q y t r z hs (omega arith) in
      rw (known_primary source R Q F S K d _ _ _ _ _ h) (all.goes ∙ stop all.left)

  stop_operand : (m : ℕ) (d : DoBlockOwner) (o : Toks) (a : Tree) (w : Toks) (s : Scope) → is_dot source w ≡ false → is_mark source (codes "::") w ≡ false → (is_mark source (codes "[") w && not (blank w)) ≡ false → postfixes source Q (suc m) d o a w s ≡ taken (operand a) w s
  unfolding postfixes postfix_at path_at
  stop_operand m d o a w s e h i = rw (e, h, i)

  pub known_operand : (d : DoBlockOwner) (w : Toks) (s : Scope) (t : Tree) (r : Toks) (z : Scope) → Postfix source R d w s t r z → goes_on source r ≡ false → read_postfix source Q d w s ≡ taken (operand t) r z
  known_operand d w s t r z h f =
      let p = neither _ _ f in
      let q = neither _ _ p.0 in
      stops d w s t r z (taken (operand t) r z) h (λ m. stop_operand m d w t r z q.0 q.1 p.1)

  stop_attribute : (m : ℕ) (d : DoBlockOwner) (o : Toks) (a : Tree) (w : Toks) (s : Scope) → is_mark source (codes ".") w ≡ true → front (next w) ≡ Some name → begins_arguments source (next (next w)) ≡ false → assigns source (next (next w)) ≡ true →
      postfixes source Q (suc m) d o a w s ≡ taken (attribute a (position_with o (next w)) (word source (next w))) (next (next w)) s
  unfolding ◌>>>◌ postfixes postfix_at path_at read_call
  stop_attribute m d o a w s e h c f = rw (left_true (is_mark source (codes ".") w) (is_mark source (codes "&.") w) e, known_method_name source false _ _ _ (g.MethodName.name h refl), c, f, and_true _ _ e (ap is_kind_name h))

  pub known_attribute : (d : DoBlockOwner) (w : Toks) (s : Scope) (a : Tree) (q : Toks) (y : Scope) → Postfix source R d w s a q y → is_mark source (codes ".") q ≡ true → front (next q) ≡ Some name → begins_arguments source (next (next q)) ≡ false → assigns source (next (next q)) ≡ true →
      read_postfix source Q d w s ≡ taken (attribute a (position_with w (next q)) (word source (next q))) (next (next q)) y
  known_attribute d w s a q y h e n c f = stops d w s a q y (taken (attribute a (position_with w (next q)) (word source (next q))) (next (next q)) y) h (λ m. stop_attribute m d w a q y e n c f)

  stop_element : (m : ℕ) (d : DoBlockOwner) (o : Toks) (a i : Tree) (w p : Toks) (s x : Scope) → is_mark source (codes "[") w ≡ true → blank w ≡ false → R.arg own (next w) s i p x → is_mark source (codes "]") p ≡ true → assigns source (next p) ≡ true →
      postfixes source Q (suc m) d o a w s ≡ taken (element a (position_with o w) i) (next p) x
  unfolding ◌>>=◌ postfixes postfix_at path_at read_index
  stop_element m d o a i w p s x e c h f j =
      rw (no_dot (codes "[") w e refl refl, other_mark source (codes "[") (codes "::") w e refl, and_true _ _ e (ap not c), (F.arg own _ _ _ _ _ h).begins, K.arg own _ _ _ _ _ h, and_true _ _ f j)

  pub known_element : (d : DoBlockOwner) (w : Toks) (s : Scope) (a i : Tree) (q p : Toks) (y x : Scope) → Postfix source R d w s a q y → is_mark source (codes "[") q ≡ true → blank q ≡ false → R.arg own (next q) y i p x → is_mark source (codes "]") p ≡ true → assigns source (next p) ≡ true →
      read_postfix source Q d w s ≡ taken (element a (position_with w q) i) (next p) x
  known_element d w s a i q p y x h e c v f j = stops d w s a q y (taken (element a (position_with w q) i) (next p) x) h (λ m. stop_element m d w a i q p y x e c v f j)

  stop_command : (m : ℕ) (d : DoBlockOwner) (k : Bool) (o : Toks) (a : Tree) (w v : Toks) (s : Scope) (x : Bytes) → Dot source k w → MethodName source false (next w) x v → begins_arguments source v ≡ true → postfixes source Q (suc m) d o a w s ≡ taken (command k a (position_with o (next w)) x) v s
  unfolding ◌>>>◌ postfixes postfix_at path_at read_call
  stop_command m d k o a w v s x e n c = rw (dot_is source k w e, known_method_name source false _ _ _ n, c, known_dot source k w e)

  pub known_command : (d : DoBlockOwner) (k : Bool) (w : Toks) (s : Scope) (a : Tree) (q v : Toks) (y : Scope) (x : Bytes) → Postfix source R d w s a q y → Dot source k q → MethodName source false (next q) x v → begins_arguments source v ≡ true →
      read_postfix source Q d w s ≡ taken (command k a (position_with w (next q)) x) v y
  known_command d k w s a q v y x h e n c = stops d w s a q y (taken (command k a (position_with w (next q)) x) v y) h (λ m. stop_command m d k w a q v y x e n c)
