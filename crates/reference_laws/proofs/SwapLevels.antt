-- What is derived up to a newline stays derived with other tokens behind it: operators by their levels.
use Rattle.std.proofs.Common.{◌≡◌, Bool, false, codes, refl, sym, ◌∙◌, subst}
use Rattle.std.proofs.lemmas.Bool.{false≢true}
use Rattle.ruby_lexer.specs.Bytes.{Bytes}
use Rattle.ruby_lexer.specs.Pieces.{Tok, tok, Toks, none, more}
use Rattle.ruby_tree.specs.Tree.{Tree}
use Rattle.ruby_tree.specs.Rules.{Scope, DoBlockOwner, mark_in, is_mark, product_marks, sum_marks, shift_marks, intersection_marks, union_marks, order_marks}
use Rattle.ruby_tree.specs.Build.{binary, conjunction, disjunction}
use Rattle.ruby_tree.specs.Grammar.{Rel, Rels, UnaryOperand, Power, Minus, Rest, Chain, Product, Sum, Shift, Intersection, Union, Order, Equality, Conjunction, Disjunction, Range, Conditional}
use Rattle.ruby_tree.specs.Grammar as g
use Rattle.reference_laws.proofs.Moves.{at_mark, at_one_of, Moving, Movers}
use Rattle.reference_laws.proofs.ShorterLevels.{Steps, moves_tight, moves_minus, moves_product, moves_sum, moves_shift, moves_intersection, moves_union, moves_order, moves_equality, moves_conjunction, moves_disjunction, moves_range}
use Rattle.reference_laws.proofs.SwapTools.{takes_none, Alike, at_line, before, Swapped, swapped, opened, alike_mark, alike_marks, alike_goes_on, alike_is_negative, Swapping, Swaps}
use Rattle.reference_laws.proofs.SwapOperands.{swap_postfix}

module _ (xs ys : Toks) where
  -- What a level needs: its operators and its nodes are the same where tokens are alike, and its operands are derived so.
  record Level (passes : Toks → Bool) (make : Toks → Toks → Tree → Tree → Tree) (O : Rel Tree) : Type 0 where
    tests : (w p : Toks) → Alike xs ys w p → passes p ≡ passes w
    nodes : (t : Tok) (os us w p : Toks) → Alike xs ys w p → (a b : Tree) → make (more t us) p a b ≡ make (more t os) w a b
    steps : Steps false passes
    moves : Moving false 1 O
    swaps : (w : Toks) (s : Scope) (t : Tree) (r : Toks) (z : Scope) → O w s t r z → (q : Toks) → Alike xs ys r q → Swapped xs ys (λ (p : Toks). O p s t q z) w

  same_binary : (source : Bytes) (t : Tok) (os us w p : Toks) → Alike xs ys w p → (a b : Tree) → binary source (more t us) p a b ≡ binary source (more t os) w a b
  same_binary source (tok _ _ _ _ _) os us _ _ at_line a b = refl
  same_binary source (tok _ _ _ _ _) os us _ _ (before {t = tok _ _ _ _ _} h) a b = refl

  same_conjunction : (t : Tok) (os us w p : Toks) → Alike xs ys w p → (a b : Tree) → conjunction (more t us) p a b ≡ conjunction (more t os) w a b
  same_conjunction (tok _ _ _ _ _) os us w p h a b = refl

  same_disjunction : (t : Tok) (os us w p : Toks) → Alike xs ys w p → (a b : Tree) → disjunction (more t us) p a b ≡ disjunction (more t os) w a b
  same_disjunction (tok _ _ _ _ _) os us w p h a b = refl

module _ (xs ys : Toks) (source : Bytes) (R : Rels) (S : Swaps xs ys source R) (M : Movers false R) where
  pub swap_tight : (d : DoBlockOwner) → Swapping xs ys source (UnaryOperand source R d)
  swap_tight d _ _ _ _ _ (g.UnaryOperand.inverted {w = none} e h) q a = absurd (false≢true e)
  swap_tight d _ _ _ _ _ (g.UnaryOperand.inverted {w = more (tok _ _ _ _ _) ws} e h) q a = let H = S.unary_operand h a in swapped xs ys (before H.alike) (g.UnaryOperand.inverted e H.holds)
  swap_tight d _ _ _ _ _ (g.UnaryOperand.complement {w = none} e h) q a = absurd (false≢true e)
  swap_tight d _ _ _ _ _ (g.UnaryOperand.complement {w = more (tok _ _ _ _ _) ws} e h) q a = let H = S.unary_operand h a in swapped xs ys (before H.alike) (g.UnaryOperand.complement e H.holds)
  swap_tight d _ _ _ _ _ (g.UnaryOperand.positive {w = none} e h) q a = absurd (false≢true e)
  swap_tight d _ _ _ _ _ (g.UnaryOperand.positive {w = more (tok _ _ _ _ _) ws} e h) q a = let H = S.unary_operand h a in swapped xs ys (before H.alike) (g.UnaryOperand.positive e H.holds)
  swap_tight d _ _ _ _ _ (g.UnaryOperand.plain h e) q a = let H = swap_postfix xs ys source R S M h a in swapped xs ys H.alike (g.UnaryOperand.plain H.holds (alike_goes_on xs ys source a ∙ e))

  pub swap_power : (d : DoBlockOwner) → Swapping xs ys source (Power source R d)
  swap_power d _ _ _ _ _ (g.Power.raised {w = none} h e i) q a = absurd (takes_none (moves_tight source false R M _ _ _ _ _ _ h))
  swap_power d _ _ _ _ _ (g.Power.raised {w = more (tok _ _ _ _ _) ws} {q = none} h e i) q a = absurd (false≢true e)
  swap_power d _ _ _ _ _ (g.Power.raised {w = more (tok _ _ _ _ _) ws} {q = more (tok _ _ _ _ _) qs} h e i) q a = let I = S.power i a in let H = opened xs ys (swap_tight d _ _ _ _ _ h _ (before I.alike)) in swapped xs ys H.alike (g.Power.raised H.holds e I.holds)
  swap_power d _ _ _ _ _ (g.Power.plain h e) q a = let H = swap_tight d _ _ _ _ _ h _ a in swapped xs ys H.alike (g.Power.plain H.holds (alike_mark xs ys source (codes "**") a ∙ e))

  pub swap_minus : (d : DoBlockOwner) → Swapping xs ys source (Minus source R d)
  swap_minus d _ _ _ _ _ (g.Minus.minus {w = none} e i h) q a = absurd (false≢true e)
  swap_minus d _ _ _ _ _ (g.Minus.minus {w = more (tok k from to line b) ws} e i h) q a = let H = S.minus h a in swapped xs ys (before H.alike) (g.Minus.minus e (alike_is_negative xs ys source (before {t = tok k from to line b} H.alike) ∙ i) H.holds)
  swap_minus d _ _ _ _ _ (g.Minus.plain h) q a = let H = swap_power d _ _ _ _ _ h _ a in swapped xs ys H.alike (g.Minus.plain H.holds)

  swap_rest : (passes : Toks → Bool) (make : Toks → Toks → Tree → Tree → Tree) (O : Rel Tree) → Level xs ys passes make O → (x : Tok) (os : Toks) (c : Tree) (w : Toks) (s : Scope) (t : Tree) (r : Toks) (z : Scope) →
      Rest source R passes make O (more x os) c w s t r z → (q : Toks) → Alike xs ys r q → Swapped xs ys (λ (p : Toks). (us : Toks) → Rest source R passes make O (more x us) c p s t q z) w
  swap_rest passes make O L x os c w s t r z (g.Rest.operator {w = none} e h hs) q a = absurd (takes_none (L.steps s none e))
  swap_rest passes make O L x os c w s t r z (g.Rest.operator {w = more u ws} {y = y} {b = b} e h hs) q a =
      let N = swap_rest passes make O L x os _ _ _ _ _ _ hs q a in
      let H = L.swaps _ _ _ _ _ h _ N.alike in
      let node = λ (us : Toks). L.nodes x os us (more u ws) (more u H.other) (before H.alike) c b in
      swapped xs ys (before H.alike) (λ (us : Toks). g.Rest.operator (L.tests (more u ws) (more u H.other) (before H.alike) ∙ e) H.holds (subst (λ (n : Tree). Rest source R passes make O (more x us) n N.other y t q z) (sym (node us)) (N.holds us)))
  swap_rest passes make O L x os c w s t r z (g.Rest.end e) q a = swapped xs ys a (λ (us : Toks). g.Rest.end (L.tests w q a ∙ e))

  swap_chain : (passes : Toks → Bool) (make : Toks → Toks → Tree → Tree → Tree) (O : Rel Tree) → Level xs ys passes make O → Swapping xs ys source (Chain source R passes make O)
  swap_chain passes make O L w s t r z (g.Chain.chain {w = none} h hs) q a = absurd (takes_none (L.moves _ _ _ _ _ h))
  swap_chain passes make O L w s t r z (g.Chain.chain {w = more x ws} h hs) q a =
      let N = swap_rest passes make O L x ws _ _ _ _ _ _ hs q a in
      let H = opened xs ys (L.swaps _ _ _ _ _ h _ N.alike) in
      swapped xs ys H.alike (g.Chain.chain H.holds (N.holds H.rest))

  pub swap_product : (d : DoBlockOwner) → Swapping xs ys source (Product source R d)
  swap_product d w s t r z h q a = swap_chain (mark_in source product_marks) (binary source) (Minus source R d) level w s t r z h q a
    where
      level : Level xs ys (mark_in source product_marks) (binary source) (Minus source R d)
      level = record {
        tests = λ w p h. alike_marks xs ys source product_marks h;
        nodes = λ x os us w p h a b. same_binary xs ys source x os us w p h a b;
        steps = λ s w e. at_one_of source product_marks w e;
        moves = moves_minus source false R M d;
        swaps = swap_minus d;
      }

  pub swap_sum : (d : DoBlockOwner) → Swapping xs ys source (Sum source R d)
  swap_sum d w s t r z h q a = swap_chain (mark_in source sum_marks) (binary source) (Product source R d) level w s t r z h q a
    where
      level : Level xs ys (mark_in source sum_marks) (binary source) (Product source R d)
      level = record {
        tests = λ w p h. alike_marks xs ys source sum_marks h;
        nodes = λ x os us w p h a b. same_binary xs ys source x os us w p h a b;
        steps = λ s w e. at_one_of source sum_marks w e;
        moves = moves_product source false R M d;
        swaps = swap_product d;
      }

  pub swap_shift : (d : DoBlockOwner) → Swapping xs ys source (Shift source R d)
  swap_shift d w s t r z h q a = swap_chain (mark_in source shift_marks) (binary source) (Sum source R d) level w s t r z h q a
    where
      level : Level xs ys (mark_in source shift_marks) (binary source) (Sum source R d)
      level = record {
        tests = λ w p h. alike_marks xs ys source shift_marks h;
        nodes = λ x os us w p h a b. same_binary xs ys source x os us w p h a b;
        steps = λ s w e. at_one_of source shift_marks w e;
        moves = moves_sum source false R M d;
        swaps = swap_sum d;
      }

  pub swap_intersection : (d : DoBlockOwner) → Swapping xs ys source (Intersection source R d)
  swap_intersection d w s t r z h q a = swap_chain (mark_in source intersection_marks) (binary source) (Shift source R d) level w s t r z h q a
    where
      level : Level xs ys (mark_in source intersection_marks) (binary source) (Shift source R d)
      level = record {
        tests = λ w p h. alike_marks xs ys source intersection_marks h;
        nodes = λ x os us w p h a b. same_binary xs ys source x os us w p h a b;
        steps = λ s w e. at_one_of source intersection_marks w e;
        moves = moves_shift source false R M d;
        swaps = swap_shift d;
      }

  pub swap_union : (d : DoBlockOwner) → Swapping xs ys source (Union source R d)
  swap_union d w s t r z h q a = swap_chain (mark_in source union_marks) (binary source) (Intersection source R d) level w s t r z h q a
    where
      level : Level xs ys (mark_in source union_marks) (binary source) (Intersection source R d)
      level = record {
        tests = λ w p h. alike_marks xs ys source union_marks h;
        nodes = λ x os us w p h a b. same_binary xs ys source x os us w p h a b;
        steps = λ s w e. at_one_of source union_marks w e;
        moves = moves_intersection source false R M d;
        swaps = swap_intersection d;
      }

  pub swap_order : (d : DoBlockOwner) → Swapping xs ys source (Order source R d)
  swap_order d w s t r z h q a = swap_chain (mark_in source order_marks) (binary source) (Union source R d) level w s t r z h q a
    where
      level : Level xs ys (mark_in source order_marks) (binary source) (Union source R d)
      level = record {
        tests = λ w p h. alike_marks xs ys source order_marks h;
        nodes = λ x os us w p h a b. same_binary xs ys source x os us w p h a b;
        steps = λ s w e. at_one_of source order_marks w e;
        moves = moves_union source false R M d;
        swaps = swap_union d;
      }

  pub swap_equality : (d : DoBlockOwner) → Swapping xs ys source (Equality source R d)
  swap_equality d _ _ _ _ _ (g.Equality.compared {w = none} h e i) q a = absurd (takes_none (moves_order source false R M _ _ _ _ _ _ h))
  swap_equality d _ _ _ _ _ (g.Equality.compared {w = more (tok _ _ _ _ _) ws} {q = none} h e i) q a = absurd (false≢true e)
  swap_equality d _ _ _ _ _ (g.Equality.compared {w = more (tok _ _ _ _ _) ws} {q = more (tok _ _ _ _ _) qs} h e i) q a = let I = swap_order d _ _ _ _ _ i _ a in let H = opened xs ys (swap_order d _ _ _ _ _ h _ (before I.alike)) in swapped xs ys H.alike (g.Equality.compared H.holds e I.holds)
  swap_equality d _ _ _ _ _ (g.Equality.unequal {w = none} h e i) q a = absurd (takes_none (moves_order source false R M _ _ _ _ _ _ h))
  swap_equality d _ _ _ _ _ (g.Equality.unequal {w = more (tok _ _ _ _ _) ws} {q = none} h e i) q a = absurd (false≢true e)
  swap_equality d _ _ _ _ _ (g.Equality.unequal {w = more (tok _ _ _ _ _) ws} {q = more (tok _ _ _ _ _) qs} h e i) q a = let I = swap_order d _ _ _ _ _ i _ a in let H = opened xs ys (swap_order d _ _ _ _ _ h _ (before I.alike)) in swapped xs ys H.alike (g.Equality.unequal H.holds e I.holds)
  swap_equality d _ _ _ _ _ (g.Equality.plain h e) q at_line = let H = swap_order d _ _ _ _ _ h _ at_line in swapped xs ys H.alike (g.Equality.plain H.holds e)
  swap_equality d _ _ _ _ _ (g.Equality.plain h e) q (before {t = tok _ _ _ _ _} a) = let H = swap_order d _ _ _ _ _ h _ (before a) in swapped xs ys H.alike (g.Equality.plain H.holds e)

  pub swap_conjunction : (d : DoBlockOwner) → Swapping xs ys source (Conjunction source R d)
  swap_conjunction d w s t r z h q a = swap_chain (is_mark source (codes "&&")) conjunction (Equality source R d) level w s t r z h q a
    where
      level : Level xs ys (is_mark source (codes "&&")) conjunction (Equality source R d)
      level = record {
        tests = λ w p h. alike_mark xs ys source (codes "&&") h;
        nodes = λ x os us w p h a b. same_conjunction xs ys x os us w p h a b;
        steps = λ s w e. at_mark source (codes "&&") w e;
        moves = moves_equality source false R M d;
        swaps = swap_equality d;
      }

  pub swap_disjunction : (d : DoBlockOwner) → Swapping xs ys source (Disjunction source R d)
  swap_disjunction d w s t r z h q a = swap_chain (is_mark source (codes "||")) disjunction (Conjunction source R d) level w s t r z h q a
    where
      level : Level xs ys (is_mark source (codes "||")) disjunction (Conjunction source R d)
      level = record {
        tests = λ w p h. alike_mark xs ys source (codes "||") h;
        nodes = λ x os us w p h a b. same_disjunction xs ys x os us w p h a b;
        steps = λ s w e. at_mark source (codes "||") w e;
        moves = moves_conjunction source false R M d;
        swaps = swap_conjunction d;
      }

  pub swap_range : (d : DoBlockOwner) → Swapping xs ys source (Range source R d)
  swap_range d _ _ _ _ _ (g.Range.whole {w = none} h e i) q a = absurd (takes_none (moves_disjunction source false R M _ _ _ _ _ _ h))
  swap_range d _ _ _ _ _ (g.Range.whole {w = more (tok _ _ _ _ _) ws} {q = none} h e i) q a = absurd (false≢true e)
  swap_range d _ _ _ _ _ (g.Range.whole {w = more (tok _ _ _ _ _) ws} {q = more (tok _ _ _ _ _) qs} h e i) q a = let I = swap_disjunction d _ _ _ _ _ i _ a in let H = opened xs ys (swap_disjunction d _ _ _ _ _ h _ (before I.alike)) in swapped xs ys H.alike (g.Range.whole H.holds e I.holds)
  swap_range d _ _ _ _ _ (g.Range.without_last {w = none} h e i) q a = absurd (takes_none (moves_disjunction source false R M _ _ _ _ _ _ h))
  swap_range d _ _ _ _ _ (g.Range.without_last {w = more (tok _ _ _ _ _) ws} {q = none} h e i) q a = absurd (false≢true e)
  swap_range d _ _ _ _ _ (g.Range.without_last {w = more (tok _ _ _ _ _) ws} {q = more (tok _ _ _ _ _) qs} h e i) q a = let I = swap_disjunction d _ _ _ _ _ i _ a in let H = opened xs ys (swap_disjunction d _ _ _ _ _ h _ (before I.alike)) in swapped xs ys H.alike (g.Range.without_last H.holds e I.holds)
  swap_range d _ _ _ _ _ (g.Range.plain h e i) q a = let H = swap_disjunction d _ _ _ _ _ h _ a in swapped xs ys H.alike (g.Range.plain H.holds (alike_mark xs ys source (codes "..") a ∙ e) (alike_mark xs ys source (codes "...") a ∙ i))

  pub swap_conditional : (d : DoBlockOwner) → Swapping xs ys source (Conditional source R d)
  swap_conditional d _ _ _ _ _ (g.Conditional.chosen {w = none} h e i f j) q a = absurd (takes_none (moves_range source false R M _ _ _ _ _ _ h))
  swap_conditional d _ _ _ _ _ (g.Conditional.chosen {w = more (tok _ _ _ _ _) ws} {q = none} h e i f j) q a = absurd (false≢true e)
  swap_conditional d _ _ _ _ _ (g.Conditional.chosen {w = more (tok _ _ _ _ _) ws} {q = more (tok _ _ _ _ _) qs} {p = none} h e i f j) q a = absurd (false≢true f)
  swap_conditional d _ _ _ _ _ (g.Conditional.chosen {w = more (tok _ _ _ _ _) ws} {q = more (tok _ _ _ _ _) qs} {p = more (tok _ _ _ _ _) ps} h e i f j) q a =
      let J = S.arg j a in
      let I = S.arg i (before J.alike) in
      let H = opened xs ys (swap_range d _ _ _ _ _ h _ (before I.alike)) in
      swapped xs ys H.alike (g.Conditional.chosen H.holds e I.holds f J.holds)
  swap_conditional d _ _ _ _ _ (g.Conditional.plain h e) q a = let H = swap_range d _ _ _ _ _ h _ a in swapped xs ys H.alike (g.Conditional.plain H.holds (alike_mark xs ys source (codes "?") a ∙ e))
