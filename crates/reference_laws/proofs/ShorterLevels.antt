-- What is derived takes tokens and keeps the locals: operators by their levels.
use Rattle.std.proofs.Common.{◌≡◌, Bool, true, codes, arith}
use Rattle.ruby_lexer.specs.Bytes.{Bytes}
use Rattle.ruby_lexer.specs.Pieces.{Toks}
use Rattle.ruby_tree.specs.Tree.{Tree}
use Rattle.ruby_tree.specs.Rules.{Scope, DoBlockOwner, next, mark_in, is_mark, product_marks, sum_marks, shift_marks, intersection_marks, union_marks, order_marks, equality_marks}
use Rattle.ruby_tree.specs.Build.{binary, conjunction, disjunction}
use Rattle.ruby_tree.specs.Grammar.{Rel, Rels, UnaryOperand, Power, Minus, Rest, Chain, Product, Sum, Shift, Intersection, Union, Order, Equality, Conjunction, Disjunction, Range, Conditional}
use Rattle.ruby_tree.specs.Grammar as g
use Rattle.reference_laws.proofs.Moves.{Moves, ◌▷◌, least, stays, at_mark, at_one_of, Moving, Movers}
use Rattle.reference_laws.proofs.ShorterOperands.{moves_postfix}

-- the operators of a level are there where they pass the test
abbrev pub Steps : Bool → (Toks → Bool) → Type 0
Steps b passes = (s : Scope) (w : Toks) → passes w ≡ true → Moves b 1 w s (next w) s

module _ (source : Bytes) (b : Bool) (R : Rels) (M : Movers b R) where
  pub moves_tight : (d : DoBlockOwner) → Moving b 1 (UnaryOperand source R d)
  moves_tight d w s t r z (g.UnaryOperand.inverted e h) = least (at_mark source (codes "!") w e ▷ M.unary_operand d _ _ _ _ _ h) (omega arith)
  moves_tight d w s t r z (g.UnaryOperand.complement e h) = least (at_mark source (codes "~") w e ▷ M.unary_operand d _ _ _ _ _ h) (omega arith)
  moves_tight d w s t r z (g.UnaryOperand.positive e h) = least (at_mark source (codes "+") w e ▷ M.unary_operand d _ _ _ _ _ h) (omega arith)
  moves_tight d w s t r z (g.UnaryOperand.plain h e) = moves_postfix source b R M d _ _ _ _ _ h

  pub moves_power : (d : DoBlockOwner) → Moving b 1 (Power source R d)
  moves_power d w s t r z (g.Power.raised h e i) = least (moves_tight d _ _ _ _ _ h ▷ at_mark source (codes "**") _ e ▷ M.power d _ _ _ _ _ i) (omega arith)
  moves_power d w s t r z (g.Power.plain h e) = moves_tight d _ _ _ _ _ h

  pub moves_minus : (d : DoBlockOwner) → Moving b 1 (Minus source R d)
  moves_minus d w s t r z (g.Minus.minus e i h) = least (at_mark source (codes "-") w e ▷ M.minus d _ _ _ _ _ h) (omega arith)
  moves_minus d w s t r z (g.Minus.plain h) = moves_power d _ _ _ _ _ h

  pub moves_rest : (passes : Toks → Bool) (make : Toks → Toks → Tree → Tree → Tree) (O : Rel Tree) → Steps b passes → Moving b 1 O → (o : Toks) (a : Tree) → Moving b 0 (Rest source R passes make O o a)
  moves_rest passes make O steps moves o a w s t r z (g.Rest.operator e h hs) = least (steps _ _ e ▷ moves _ _ _ _ _ h ▷ moves_rest passes make O steps moves o _ _ _ _ _ _ hs) (omega arith)
  moves_rest passes make O steps moves o a w s t r z (g.Rest.end e) = stays

  pub moves_chain : (passes : Toks → Bool) (make : Toks → Toks → Tree → Tree → Tree) (O : Rel Tree) → Steps b passes → Moving b 1 O → Moving b 1 (Chain source R passes make O)
  moves_chain passes make O steps moves w s t r z (g.Chain.chain h hs) = moves _ _ _ _ _ h ▷ moves_rest passes make O steps moves _ _ _ _ _ _ _ hs

  pub moves_product : (d : DoBlockOwner) → Moving b 1 (Product source R d)
  moves_product d w s t r z h = moves_chain (mark_in source product_marks) (binary source) (Minus source R d) (λ s w e. at_one_of source product_marks w e) (moves_minus d) _ _ _ _ _ h

  pub moves_sum : (d : DoBlockOwner) → Moving b 1 (Sum source R d)
  moves_sum d w s t r z h = moves_chain (mark_in source sum_marks) (binary source) (Product source R d) (λ s w e. at_one_of source sum_marks w e) (moves_product d) _ _ _ _ _ h

  pub moves_shift : (d : DoBlockOwner) → Moving b 1 (Shift source R d)
  moves_shift d w s t r z h = moves_chain (mark_in source shift_marks) (binary source) (Sum source R d) (λ s w e. at_one_of source shift_marks w e) (moves_sum d) _ _ _ _ _ h

  pub moves_intersection : (d : DoBlockOwner) → Moving b 1 (Intersection source R d)
  moves_intersection d w s t r z h = moves_chain (mark_in source intersection_marks) (binary source) (Shift source R d) (λ s w e. at_one_of source intersection_marks w e) (moves_shift d) _ _ _ _ _ h

  pub moves_union : (d : DoBlockOwner) → Moving b 1 (Union source R d)
  moves_union d w s t r z h = moves_chain (mark_in source union_marks) (binary source) (Intersection source R d) (λ s w e. at_one_of source union_marks w e) (moves_intersection d) _ _ _ _ _ h

  pub moves_order : (d : DoBlockOwner) → Moving b 1 (Order source R d)
  moves_order d w s t r z h = moves_chain (mark_in source order_marks) (binary source) (Union source R d) (λ s w e. at_one_of source order_marks w e) (moves_union d) _ _ _ _ _ h

  pub moves_equality : (d : DoBlockOwner) → Moving b 1 (Equality source R d)
  moves_equality d w s t r z (g.Equality.compared h e i) = least (moves_order d _ _ _ _ _ h ▷ at_one_of source equality_marks _ e ▷ moves_order d _ _ _ _ _ i) (omega arith)
  moves_equality d w s t r z (g.Equality.unequal h e i) = least (moves_order d _ _ _ _ _ h ▷ at_mark source (codes "!=") _ e ▷ moves_order d _ _ _ _ _ i) (omega arith)
  moves_equality d w s t r z (g.Equality.plain h e) = moves_order d _ _ _ _ _ h

  pub moves_conjunction : (d : DoBlockOwner) → Moving b 1 (Conjunction source R d)
  moves_conjunction d w s t r z h = moves_chain (is_mark source (codes "&&")) conjunction (Equality source R d) (λ s w e. at_mark source (codes "&&") w e) (moves_equality d) _ _ _ _ _ h

  pub moves_disjunction : (d : DoBlockOwner) → Moving b 1 (Disjunction source R d)
  moves_disjunction d w s t r z h = moves_chain (is_mark source (codes "||")) disjunction (Conjunction source R d) (λ s w e. at_mark source (codes "||") w e) (moves_conjunction d) _ _ _ _ _ h

  pub moves_range : (d : DoBlockOwner) → Moving b 1 (Range source R d)
  moves_range d w s t r z (g.Range.whole h e i) = least (moves_disjunction d _ _ _ _ _ h ▷ at_mark source (codes "..") _ e ▷ moves_disjunction d _ _ _ _ _ i) (omega arith)
  moves_range d w s t r z (g.Range.without_last h e i) = least (moves_disjunction d _ _ _ _ _ h ▷ at_mark source (codes "...") _ e ▷ moves_disjunction d _ _ _ _ _ i) (omega arith)
  moves_range d w s t r z (g.Range.plain h e i) = moves_disjunction d _ _ _ _ _ h

  pub moves_conditional : (d : DoBlockOwner) → Moving b 1 (Conditional source R d)
  moves_conditional d w s t r z (g.Conditional.chosen h e i f j) = least (moves_range d _ _ _ _ _ h ▷ at_mark source (codes "?") _ e ▷ M.arg d _ _ _ _ _ i ▷ at_mark source (codes ":") _ f ▷ M.arg d _ _ _ _ _ j) (omega arith)
  moves_conditional d w s t r z (g.Conditional.plain h e) = moves_range d _ _ _ _ _ h
