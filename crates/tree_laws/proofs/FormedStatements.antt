-- The trees of a text are formed: operators, assignments, commands and statements.
use Rattle.std.proofs.Common.{ℕ, zero, suc, Bool, true, [], None, refl, codes}
use Rattle.ruby_lexer.specs.Bytes.{Bytes}
use Rattle.ruby_lexer.specs.Pieces.{Toks}
use Rattle.ruby_tree.specs.Tree.{SourcePosition, Goal, to_local, to_instance, to_global, to_constant, Tree, at, Trees, no_more, no_clause, clause}
use Rattle.ruby_tree.specs.Rules.{Scope, DoBlockOwner, next, word, position, position_with, but_last, mark_in, is_mark, product_marks, sum_marks, shift_marks, intersection_marks, union_marks, order_marks}
use Rattle.ruby_tree.specs.Build.{sent, binary, conjunction, disjunction, one, alone, read_form, rescued}
use Rattle.ruby_tree.specs.Grammar.{Rel, Rels, derives, UnaryOperand, Power, Minus, Rest, Chain, Product, Sum, Shift, Intersection, Union, Order, Equality, Conjunction, Disjunction, Range, Conditional, Values, Command, Value, Unset, Arg, CommandOrArg, Test, Tests, Expr, Head, Modifiers, Stmt, StmtList, Stmts}
use Rattle.ruby_tree.specs.Grammar as g
use Rattle.ruby_tree.specs.Placement.{in_clause}
use Rattle.tree_laws.proofs.Forming.{FormingTree, FormingTrees, FormingClauses, still, ◌⊕◌, ◌⊗◌, after, before, node, node_with, looped, none_spread, longer_path, rescue_formed}
use Rattle.tree_laws.proofs.FormedParts.{Forms, given, call_formed, declared_keeps, form_targets, form_several, facts_of_command, facts_with_do, form_command_items, form_command_block, form_elses, form_postfix}

-- what two operands and an operator make
abbrev Making : (Toks → Toks → Tree → Tree → Tree) → Type 0
Making make = (o w : Toks) (a b : Tree) (s y z : Bool) → FormingTree s a y → FormingTree y b z → FormingTree s (make o w a b) z

abbrev Operands : Rel Tree → Type 0
Operands O = (w : Toks) (s : Scope) (t : Tree) (r : Toks) (z : Scope) → O w s t r z → FormingTree s.clause t z.clause

-- an operator that is sent with one argument, or with none
pub sent_formed : {s y z : Bool} (o : SourcePosition) (a : Tree) (m : Bytes) (b : Tree) → FormingTree s a y → FormingTree y b z → FormingTree s (sent o a m (one b)) z
sent_formed o a m b h i = node_with (none_spread (one b), tt) (h ⊕ ((i ⊕ still) ⊕ (still ⊕ still)))

pub sent_alone : {s z : Bool} (o : SourcePosition) (a : Tree) (m : Bytes) → FormingTree s a z → FormingTree s (sent o a m no_more) z
sent_alone o a m h = node_with (none_spread no_more, tt) (h ⊕ (still ⊕ (still ⊕ still)))

-- one statement
alone_formed : {s z : Bool} (w : Toks) (a : Tree) → FormingTree s a z → FormingTree s (alone w a) z
alone_formed w a h = node (h ⊕ still)

-- a variable that is read
read_formed : {s : Bool} (o : SourcePosition) (n : Goal) → FormingTree s (at o (read_form n)) s
read_formed o (to_local x) = still
read_formed o (to_instance x) = still
read_formed o (to_global x) = still
read_formed o (to_constant x) = node_with (longer_path [] x) still

saved_clause : {s z : Bool} (w : Toks) (b : Tree) → FormingTree true b z → FormingClauses s (clause no_more None (alone w b) no_clause) s
saved_clause w b h = record { kept = refl; is = λ c e p. (tt, ((alone_formed w b h).is (in_clause c) refl p.1.0, tt)) }

rescued_formed : {s y z : Bool} (w v : Toks) (a b : Tree) → FormingTree s a y → FormingTree true b z → FormingTree s (rescued w v a b) y
rescued_formed w v a b h i = node (alone_formed w a h ⊕ (still ⊕ rescue_formed (position v) (clause no_more None (alone (next v) b) no_clause) (saved_clause (next v) b i)))

module _ (source : Bytes) (R : Rels) (S : Forms R) where
  form_tight : {d : DoBlockOwner} {s z : Scope} {t : Tree} {w r : Toks} → UnaryOperand source R d w s t r z → FormingTree s.clause t z.clause
  form_tight (g.UnaryOperand.inverted {w = w} {a = a} h i) = sent_alone (position w) a (codes "!") (S.unary_operand i)
  form_tight (g.UnaryOperand.complement {w = w} {a = a} h i) = sent_alone (position w) a (codes "~") (S.unary_operand i)
  form_tight (g.UnaryOperand.positive {w = w} {a = a} h i) = sent_alone (position w) a (codes "+@") (S.unary_operand i)
  form_tight (g.UnaryOperand.plain h i) = form_postfix source R S h

  form_power : {d : DoBlockOwner} {s z : Scope} {t : Tree} {w r : Toks} → Power source R d w s t r z → FormingTree s.clause t z.clause
  form_power (g.Power.raised {w = w} {q = q} {a = a} {b = b} h i j) = sent_formed (position_with w q) a (word source q) b (form_tight h) (S.power j)
  form_power (g.Power.plain h i) = form_tight h

  form_minus : {d : DoBlockOwner} {s z : Scope} {t : Tree} {w r : Toks} → Minus source R d w s t r z → FormingTree s.clause t z.clause
  form_minus (g.Minus.minus {w = w} {a = a} h i j) = sent_alone (position w) a (codes "-@") (S.minus j)
  form_minus (g.Minus.plain h) = form_power h

  form_rest : (passes : Toks → Bool) (make : Toks → Toks → Tree → Tree → Tree) (O : Rel Tree) → Making make → Operands O → (o : Toks) (x : Tree) (w : Toks) (s : Scope) (t : Tree) (r : Toks) (z : Scope) (l : Bool) → Rest source R passes make O o x w s t r z →
      FormingTree l x s.clause → FormingTree l t z.clause
  form_rest passes make O makes forms o x w s t r z l (g.Rest.operator {y = y} {b = b} h i j) a =
      form_rest passes make O makes forms o _ _ y _ _ _ l j (makes o w x b l s.clause y.clause a (forms _ _ _ _ _ i))
  form_rest passes make O makes forms o x w s t r z l (g.Rest.end h) a = a

  form_chain : (passes : Toks → Bool) (make : Toks → Toks → Tree → Tree → Tree) (O : Rel Tree) → Making make → Operands O → Operands (Chain source R passes make O)
  form_chain passes make O makes forms w s t r z (g.Chain.chain h i) = form_rest passes make O makes forms _ _ _ _ _ _ _ s.clause i (forms _ _ _ _ _ h)

  sent_makes : Making (binary source)
  sent_makes o w a b s y z h i = sent_formed (position_with o w) a (word source w) b h i

  form_product : (d : DoBlockOwner) → Operands (Product source R d)
  form_product d = form_chain (mark_in source product_marks) (binary source) (Minus source R d) sent_makes (λ w s t r z h. form_minus h)

  form_sum : (d : DoBlockOwner) → Operands (Sum source R d)
  form_sum d = form_chain (mark_in source sum_marks) (binary source) (Product source R d) sent_makes (form_product d)

  form_shift : (d : DoBlockOwner) → Operands (Shift source R d)
  form_shift d = form_chain (mark_in source shift_marks) (binary source) (Sum source R d) sent_makes (form_sum d)

  form_intersection : (d : DoBlockOwner) → Operands (Intersection source R d)
  form_intersection d = form_chain (mark_in source intersection_marks) (binary source) (Shift source R d) sent_makes (form_shift d)

  form_union : (d : DoBlockOwner) → Operands (Union source R d)
  form_union d = form_chain (mark_in source union_marks) (binary source) (Intersection source R d) sent_makes (form_intersection d)

  form_order : (d : DoBlockOwner) → Operands (Order source R d)
  form_order d = form_chain (mark_in source order_marks) (binary source) (Union source R d) sent_makes (form_union d)

  form_equality : (d : DoBlockOwner) → Operands (Equality source R d)
  form_equality d w s t r z (g.Equality.compared {q = q} {a = a} {b = b} h i j) = sent_formed (position_with w q) a (word source q) b (form_order d _ _ _ _ _ h) (form_order d _ _ _ _ _ j)
  form_equality d w s t r z (g.Equality.unequal {q = q} {a = a} {b = b} h i j) =
      sent_alone (position_with w q) (sent (position_with w q) a (codes "==") (one b)) (codes "!") (sent_formed (position_with w q) a (codes "==") b (form_order d _ _ _ _ _ h) (form_order d _ _ _ _ _ j))
  form_equality d w s t r z (g.Equality.plain h i) = form_order d _ _ _ _ _ h

  form_conjunction : (d : DoBlockOwner) → Operands (Conjunction source R d)
  form_conjunction d = form_chain (is_mark source (codes "&&")) conjunction (Equality source R d) (λ o w a b s y z h i. node (h ⊕ i)) (form_equality d)

  form_disjunction : (d : DoBlockOwner) → Operands (Disjunction source R d)
  form_disjunction d = form_chain (is_mark source (codes "||")) disjunction (Conjunction source R d) (λ o w a b s y z h i. node (h ⊕ i)) (form_conjunction d)

  form_range : (d : DoBlockOwner) → Operands (Range source R d)
  form_range d w s t r z (g.Range.whole h i j) = node (form_disjunction d _ _ _ _ _ h ⊕ form_disjunction d _ _ _ _ _ j)
  form_range d w s t r z (g.Range.without_last h i j) = node (form_disjunction d _ _ _ _ _ h ⊕ form_disjunction d _ _ _ _ _ j)
  form_range d w s t r z (g.Range.plain h i j) = form_disjunction d _ _ _ _ _ h

  form_conditional : (d : DoBlockOwner) → Operands (Conditional source R d)
  form_conditional d w s t r z (g.Conditional.chosen h i j f k) = node (form_range d _ _ _ _ _ h ⊕ (S.arg j ⊕ S.arg k))
  form_conditional d w s t r z (g.Conditional.plain h i) = form_range d _ _ _ _ _ h

  form_values : {d : DoBlockOwner} {s z : Scope} {ts : Trees} {w r : Toks} → Values source R d w s ts r z → FormingTrees s.clause ts z.clause
  form_values (g.Values.missing h) = still
  form_values (g.Values.given h i) = form_several source R S i

  form_command : {d : DoBlockOwner} {s z : Scope} {t : Tree} {w r : Toks} → Command source R d w s t r z → FormingTree s.clause t z.clause
  form_command (g.Command.named h i j c) =
      let a = form_command_items source R S j in
      node_with (facts_with_do source R S c (facts_of_command source R S j)) (still ⊕ (a.trees ⊕ (a.value ⊕ form_command_block source R S c a.block)))
  form_command (g.Command.called {k = k} {w = w} {q = q} {a = x} {m = m} {g = v0} {b = b0} y0 h j n y f c) =
      let v = form_command_items source R S f in
      call_formed k x v0 m b0 (position_with w (next q)) (facts_with_do source R S c (facts_of_command source R S f)) (form_postfix source R S h) (given v.trees v.value (form_command_block source R S c v.block))
  form_command (g.Command.yielded {g = c} h i j k) = let a = form_command_items source R S j in node_with (facts_of_command source R S j).0 (before (before a.trees a.value) a.block)
  form_command (g.Command.super_with h i j c) =
      let a = form_command_items source R S j in
      node_with (facts_with_do source R S c (facts_of_command source R S j)) (a.trees ⊕ (a.value ⊕ form_command_block source R S c a.block))
  form_command (g.Command.returned h i) = node (form_values i)
  form_command (g.Command.broken h i) = node (form_values i)
  form_command (g.Command.nexted h i) = node (form_values i)

  form_value : {d : DoBlockOwner} {s z : Scope} {t : Tree} {w r : Toks} → Value source R d w s t r z → FormingTree s.clause t z.clause
  form_value (g.Value.plain h i) = S.assigned_value h
  form_value {w = w} (g.Value.saved {q = q} {a = t} {b = u} h i j) = rescued_formed w q t u (S.assigned_value h) (S.arg j)

  form_unset : {d : DoBlockOwner} {s z : Scope} {t : Tree} {w r : Toks} → Unset source R d w s t r z → FormingTree s.clause t z.clause
  form_unset (g.Unset.attribute h i j c x) = node (form_postfix source R S h ⊕ form_value x)
  form_unset (g.Unset.operated_attribute h i j c x) = node (form_postfix source R S h ⊕ form_value x)
  form_unset (g.Unset.either_attribute h i j c x) = node (form_postfix source R S h ⊕ form_value x)
  form_unset (g.Unset.both_attribute h i j c x) = node (form_postfix source R S h ⊕ form_value x)
  form_unset (g.Unset.element h i j k f c x) = node (form_postfix source R S h ⊕ (S.arg k ⊕ form_value x))
  form_unset (g.Unset.operated_element h i j k f c x) = node (form_postfix source R S h ⊕ (S.arg k ⊕ form_value x))
  form_unset (g.Unset.either_element h i j k f c x) = node (form_postfix source R S h ⊕ (S.arg k ⊕ form_value x))
  form_unset (g.Unset.both_element h i j k f c x) = node (form_postfix source R S h ⊕ (S.arg k ⊕ form_value x))
  form_unset (g.Unset.plain h i) = form_conditional _ _ _ _ _ _ h

  form_arg : {d : DoBlockOwner} {s z : Scope} {t : Tree} {w r : Toks} → Arg source R d w s t r z → FormingTree s.clause t z.clause
  form_arg {s = s} (g.Arg.variable {g = n} h c x) = node (after (declared_keeps source n s) (form_value x))
  form_arg {s = s} (g.Arg.operated_variable {w = w} {g = n} {v = v} h c x) =
      node (sent_formed (position_with w (next w)) (at (position w) (read_form n)) (but_last (word source (next w))) v (read_formed (position w) n) (after (declared_keeps source n s) (form_value x)))
  form_arg {s = s} (g.Arg.either_variable {w = w} {g = n} h c x) = node (read_formed (position w) n ⊕ node (after (declared_keeps source n s) (form_value x)))
  form_arg {s = s} (g.Arg.both_variable {w = w} {g = n} h c x) = node (read_formed (position w) n ⊕ node (after (declared_keeps source n s) (form_value x)))
  form_arg (g.Arg.constant h c x) = node (form_value x)
  form_arg (g.Arg.other h i) = form_unset i

  form_whole : {d : DoBlockOwner} {s z : Scope} {t : Tree} {w r : Toks} → CommandOrArg source R d w s t r z → FormingTree s.clause t z.clause
  form_whole (g.CommandOrArg.command h) = form_command h
  form_whole (g.CommandOrArg.arg h) = form_arg h

  form_test : {d : DoBlockOwner} {s z : Scope} {t : Tree} {w r : Toks} → Test source R d w s t r z → FormingTree s.clause t z.clause
  form_test (g.Test.inverted h i) = node (S.test i)
  form_test (g.Test.plain h) = form_whole h

  form_tests : {d : DoBlockOwner} {o : Toks} {s z : Scope} {x t : Tree} {w r : Toks} {l : Bool} → Tests source R d o x w s t r z → FormingTree l x s.clause → FormingTree l t z.clause
  form_tests (g.Tests.and_test h i j) a = form_tests j (node (a ⊕ S.test i))
  form_tests (g.Tests.or_test h i j) a = form_tests j (node (a ⊕ S.test i))
  form_tests (g.Tests.end h i) a = a

  form_expr : {d : DoBlockOwner} {s z : Scope} {t : Tree} {w r : Toks} → Expr source R d w s t r z → FormingTree s.clause t z.clause
  form_expr (g.Expr.tests h i) = form_tests i (form_test h)

  form_head : {d : DoBlockOwner} {s z : Scope} {t : Tree} {w r : Toks} → Head source R d w s t r z → FormingTree s.clause t z.clause
  form_head (g.Head.several h i j) = node (after (form_targets source h) (form_several source R S j))
  form_head (g.Head.plain h i) = form_expr i

  form_modifiers : {d : DoBlockOwner} {o : Toks} {c : Bool} {s z : Scope} {x t : Tree} {w r : Toks} {l : Bool} → Modifiers source R d o c x w s t r z → FormingTree l x s.clause → FormingTree l t z.clause
  form_modifiers (g.Modifiers.if_holds h i j) a = form_modifiers j (node ((node (a ⊕ still) ⊕ still) ⊗ S.expr i))
  form_modifiers (g.Modifiers.unless_holds h i j) a = form_modifiers j (node ((still ⊕ node (a ⊕ still)) ⊗ S.expr i))
  form_modifiers {o = o} {x = x} (g.Modifiers.while_holds h i j) a = form_modifiers j (node (looped (alone o x) (alone_formed o x a) ⊕ S.expr i))
  form_modifiers {o = o} {x = x} (g.Modifiers.until_holds h i j) a = form_modifiers j (node (looped (alone o x) (alone_formed o x a) ⊕ S.expr i))
  form_modifiers {o = o} {x = x} {w = w} (g.Modifiers.saved {c = u} h i j) a = form_modifiers j (rescued_formed o w x u a (S.expr i))
  form_modifiers (g.Modifiers.end h) a = a

  form_stmt : {d : DoBlockOwner} {s z : Scope} {t : Tree} {w r : Toks} → Stmt source R d w s t r z → FormingTree s.clause t z.clause
  form_stmt (g.Stmt.head h i) = form_modifiers i (form_head h)

  form_stmt_list : {d : DoBlockOwner} {s z : Scope} {ts : Trees} {w r : Toks} → StmtList source R d w s ts r z → FormingTrees s.clause ts z.clause
  form_stmt_list (g.StmtList.line h i) = form_stmt_list i
  form_stmt_list (g.StmtList.last h i) = form_stmt h ⊕ still
  form_stmt_list (g.StmtList.another h i j) = form_stmt h ⊕ form_stmt_list j
  form_stmt_list (g.StmtList.empty h i) = still

  form_stmts : {d : DoBlockOwner} {s z : Scope} {t : Tree} {w r : Toks} → Stmts source R d w s t r z → FormingTree s.clause t z.clause
  form_stmts (g.Stmts.none h i) = still
  form_stmts (g.Stmts.lines h i) = node (form_stmt_list i)
  form_stmts (g.Stmts.some h i) = node (form_stmt_list i)

pub forms : (source : Bytes) (n : ℕ) → Forms (derives source n)
unfolding derives
forms source zero = record {
  stmts = λ h. absurd h;
  expr = λ h. absurd h;
  test = λ h. absurd h;
  assigned_value = λ h. absurd h;
  arg = λ h. absurd h;
  minus = λ h. absurd h;
  power = λ h. absurd h;
  unary_operand = λ h. absurd h;
  else_branches = λ h. absurd h;
}
forms source (suc n) =
    let S = forms source n in
    let R = derives source n in
    record {
      stmts = λ h. form_stmts source R S h;
      expr = λ h. form_expr source R S h;
      test = λ h. form_test source R S h;
      assigned_value = λ h. form_whole source R S h;
      arg = λ h. form_arg source R S h;
      minus = λ h. form_minus source R S h;
      power = λ h. form_power source R S h;
      unary_operand = λ h. form_tight source R S h;
      else_branches = λ h. form_elses source R S h;
    }
