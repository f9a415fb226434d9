-- Each local is held where it stands: operators, assignments, commands and statements.
use Rattle.std.proofs.Common.{ℕ, zero, suc, Bool, List, codes}
use Rattle.ruby_lexer.specs.Bytes.{Bytes}
use Rattle.ruby_lexer.specs.Pieces.{Toks}
use Rattle.ruby_tree.specs.Tree.{SourcePosition, Tree, Trees}
use Rattle.ruby_tree.specs.Rules.{Scope, DoBlockOwner, next, position_with, mark_in, is_mark, product_marks, sum_marks, shift_marks, intersection_marks, union_marks, order_marks}
use Rattle.ruby_tree.specs.Build.{sent, binary, conjunction, disjunction, one, rescued}
use Rattle.ruby_tree.specs.Grammar.{Rel, Rels, derives, UnaryOperand, Power, Minus, Rest, Chain, Product, Sum, Shift, Intersection, Union, Order, Equality, Conjunction, Disjunction, Range, Conditional, Values, Command, Value, Unset, Arg, CommandOrArg, Test, Tests, Expr, Head, Modifiers, Stmt, StmtList, Stmts}
use Rattle.ruby_tree.specs.Grammar as g
use Rattle.tree_laws.proofs.Housing.{HousedTree, HousedTrees, still, ◌⊕◌, ◌⊗◌, between, goal_housed, read_housed, alone_given}
use Rattle.tree_laws.proofs.HousedParts.{Houses, given, call_housed, house_targets, house_several, house_command_items, house_command_block, house_elses, house_postfix}

-- what two operands and an operator make
abbrev Making : (Toks → Toks → Tree → Tree → Tree) → Type 0
Making make = (o w : Toks) (a b : Tree) (s y z : List Bytes) → HousedTree s a y → HousedTree y b z → HousedTree s (make o w a b) z

abbrev Operands : Rel Tree → Type 0
Operands O = (w : Toks) (s : Scope) (t : Tree) (r : Toks) (z : Scope) → O w s t r z → HousedTree s.locals t z.locals

one_sent : {s z : List Bytes} (o : SourcePosition) (a : Tree) (m : Bytes) (b : Tree) {y : List Bytes} → HousedTree s a y → HousedTree y b z → HousedTree s (sent o a m (one b)) z
one_sent o a m b h i = h ⊕ ((i ⊕ still) ⊕ (still ⊕ still))

rescued_housed : {s y z : List Bytes} (w v : Toks) (a b : Tree) → HousedTree s a y → HousedTree y b z → HousedTree s (rescued w v a b) z
rescued_housed w v a b h i = (h ⊕ still) ⊕ (still ⊕ (still ⊕ (still ⊕ ((i ⊕ still) ⊕ still))))

module _ (source : Bytes) (R : Rels) (S : Houses R) where
  house_tight : {d : DoBlockOwner} {s z : Scope} {t : Tree} {w r : Toks} → UnaryOperand source R d w s t r z → HousedTree s.locals t z.locals
  house_tight (g.UnaryOperand.inverted h i) = S.unary_operand i ⊕ (still ⊕ (still ⊕ still))
  house_tight (g.UnaryOperand.complement h i) = S.unary_operand i ⊕ (still ⊕ (still ⊕ still))
  house_tight (g.UnaryOperand.positive h i) = S.unary_operand i ⊕ (still ⊕ (still ⊕ still))
  house_tight (g.UnaryOperand.plain h i) = house_postfix source R S h

  house_power : {d : DoBlockOwner} {s z : Scope} {t : Tree} {w r : Toks} → Power source R d w s t r z → HousedTree s.locals t z.locals
  house_power (g.Power.raised h i j) = house_tight h ⊕ ((S.power j ⊕ still) ⊕ (still ⊕ still))
  house_power (g.Power.plain h i) = house_tight h

  house_minus : {d : DoBlockOwner} {s z : Scope} {t : Tree} {w r : Toks} → Minus source R d w s t r z → HousedTree s.locals t z.locals
  house_minus (g.Minus.minus h i j) = S.minus j ⊕ (still ⊕ (still ⊕ still))
  house_minus (g.Minus.plain h) = house_power h

  house_rest : (passes : Toks → Bool) (make : Toks → Toks → Tree → Tree → Tree) (O : Rel Tree) → Making make → Operands O → (o : Toks) (x : Tree) (w : Toks) (s : Scope) (t : Tree) (r : Toks) (z : Scope) (l : List Bytes) → Rest source R passes make O o x w s t r z →
      HousedTree l x s.locals → HousedTree l t z.locals
  house_rest passes make O makes houses o x w s t r z l (g.Rest.operator {y = y} {b = b} h i j) a =
      house_rest passes make O makes houses o _ _ y _ _ _ l j (makes o w x b l s.locals y.locals a (houses _ _ _ _ _ i))
  house_rest passes make O makes houses o x w s t r z l (g.Rest.end h) a = a

  house_chain : (passes : Toks → Bool) (make : Toks → Toks → Tree → Tree → Tree) (O : Rel Tree) → Making make → Operands O → Operands (Chain source R passes make O)
  house_chain passes make O makes houses w s t r z (g.Chain.chain h i) = house_rest passes make O makes houses _ _ _ _ _ _ _ s.locals i (houses _ _ _ _ _ h)

  sent_makes : Making (binary source)
  sent_makes o w a b s y z h i = h ⊕ ((i ⊕ still) ⊕ (still ⊕ still))

  house_product : (d : DoBlockOwner) → Operands (Product source R d)
  house_product d = house_chain (mark_in source product_marks) (binary source) (Minus source R d) sent_makes (λ w s t r z h. house_minus h)

  house_sum : (d : DoBlockOwner) → Operands (Sum source R d)
  house_sum d = house_chain (mark_in source sum_marks) (binary source) (Product source R d) sent_makes (house_product d)

  house_shift : (d : DoBlockOwner) → Operands (Shift source R d)
  house_shift d = house_chain (mark_in source shift_marks) (binary source) (Sum source R d) sent_makes (house_sum d)

  house_intersection : (d : DoBlockOwner) → Operands (Intersection source R d)
  house_intersection d = house_chain (mark_in source intersection_marks) (binary source) (Shift source R d) sent_makes (house_shift d)

  house_union : (d : DoBlockOwner) → Operands (Union source R d)
  house_union d = house_chain (mark_in source union_marks) (binary source) (Intersection source R d) sent_makes (house_intersection d)

  house_order : (d : DoBlockOwner) → Operands (Order source R d)
  house_order d = house_chain (mark_in source order_marks) (binary source) (Union source R d) sent_makes (house_union d)

  house_equality : (d : DoBlockOwner) → Operands (Equality source R d)
  house_equality d w s t r z (g.Equality.compared h i j) = house_order d _ _ _ _ _ h ⊕ ((house_order d _ _ _ _ _ j ⊕ still) ⊕ (still ⊕ still))
  house_equality d w s t r z (g.Equality.unequal h i j) = (house_order d _ _ _ _ _ h ⊕ ((house_order d _ _ _ _ _ j ⊕ still) ⊕ (still ⊕ still))) ⊕ (still ⊕ (still ⊕ still))
  house_equality d w s t r z (g.Equality.plain h i) = house_order d _ _ _ _ _ h

  house_conjunction : (d : DoBlockOwner) → Operands (Conjunction source R d)
  house_conjunction d = house_chain (is_mark source (codes "&&")) conjunction (Equality source R d) (λ o w a b s y z h i. h ⊕ i) (house_equality d)

  house_disjunction : (d : DoBlockOwner) → Operands (Disjunction source R d)
  house_disjunction d = house_chain (is_mark source (codes "||")) disjunction (Conjunction source R d) (λ o w a b s y z h i. h ⊕ i) (house_conjunction d)

  house_range : (d : DoBlockOwner) → Operands (Range source R d)
  house_range d w s t r z (g.Range.whole h i j) = house_disjunction d _ _ _ _ _ h ⊕ house_disjunction d _ _ _ _ _ j
  house_range d w s t r z (g.Range.without_last h i j) = house_disjunction d _ _ _ _ _ h ⊕ house_disjunction d _ _ _ _ _ j
  house_range d w s t r z (g.Range.plain h i j) = house_disjunction d _ _ _ _ _ h

  house_conditional : (d : DoBlockOwner) → Operands (Conditional source R d)
  house_conditional d w s t r z (g.Conditional.chosen h i j f k) = house_range d _ _ _ _ _ h ⊕ (S.arg j ⊕ S.arg k)
  house_conditional d w s t r z (g.Conditional.plain h i) = house_range d _ _ _ _ _ h

  house_values : {d : DoBlockOwner} {s z : Scope} {ts : Trees} {w r : Toks} → Values source R d w s ts r z → HousedTrees s.locals ts z.locals
  house_values (g.Values.missing h) = still
  house_values (g.Values.given h i) = house_several source R S i

  house_command : {d : DoBlockOwner} {s z : Scope} {t : Tree} {w r : Toks} → Command source R d w s t r z → HousedTree s.locals t z.locals
  house_command (g.Command.named h i j c) = let a = house_command_items source R S j in still ⊕ (a.trees ⊕ (a.value ⊕ house_command_block source R S c a.block))
  house_command (g.Command.called {k = k} {w = w} {q = q} {a = x} {m = m} {g = v0} {b = b0} y0 h j n y f c) =
      let v = house_command_items source R S f in
      call_housed k x v0 m b0 (position_with w (next q)) (house_postfix source R S h) (given v.trees v.value (house_command_block source R S c v.block))
  house_command (g.Command.yielded {g = c} h i j k) = let a = house_command_items source R S j in alone_given c.value c.block k a.trees a.value a.block
  house_command (g.Command.super_with h i j c) = let a = house_command_items source R S j in a.trees ⊕ (a.value ⊕ house_command_block source R S c a.block)
  house_command (g.Command.returned h i) = house_values i
  house_command (g.Command.broken h i) = house_values i
  house_command (g.Command.nexted h i) = house_values i

  house_value : {d : DoBlockOwner} {s z : Scope} {t : Tree} {w r : Toks} → Value source R d w s t r z → HousedTree s.locals t z.locals
  house_value (g.Value.plain h i) = S.assigned_value h
  house_value {w = w} (g.Value.saved {q = q} {a = t} {b = u} h i j) = rescued_housed w q t u (S.assigned_value h) (S.arg j)

  house_unset : {d : DoBlockOwner} {s z : Scope} {t : Tree} {w r : Toks} → Unset source R d w s t r z → HousedTree s.locals t z.locals
  house_unset (g.Unset.attribute h i j c x) = house_postfix source R S h ⊕ house_value x
  house_unset (g.Unset.operated_attribute h i j c x) = house_postfix source R S h ⊕ house_value x
  house_unset (g.Unset.either_attribute h i j c x) = house_postfix source R S h ⊕ house_value x
  house_unset (g.Unset.both_attribute h i j c x) = house_postfix source R S h ⊕ house_value x
  house_unset (g.Unset.element h i j k f c x) = house_postfix source R S h ⊕ (S.arg k ⊕ house_value x)
  house_unset (g.Unset.operated_element h i j k f c x) = house_postfix source R S h ⊕ (S.arg k ⊕ house_value x)
  house_unset (g.Unset.either_element h i j k f c x) = house_postfix source R S h ⊕ (S.arg k ⊕ house_value x)
  house_unset (g.Unset.both_element h i j k f c x) = house_postfix source R S h ⊕ (S.arg k ⊕ house_value x)
  house_unset (g.Unset.plain h i) = house_conditional _ _ _ _ _ _ h

  house_arg : {d : DoBlockOwner} {s z : Scope} {t : Tree} {w r : Toks} → Arg source R d w s t r z → HousedTree s.locals t z.locals
  house_arg {s = s} (g.Arg.variable {g = n} h c x) = goal_housed n s ⊕ house_value x
  house_arg {s = s} (g.Arg.operated_variable {g = n} h c x) = goal_housed n s ⊕ (read_housed n s ⊕ ((house_value x ⊕ still) ⊕ (still ⊕ still)))
  house_arg {s = s} (g.Arg.either_variable {g = n} h c x) = between (goal_housed n s ⊕ (read_housed n s ⊕ house_value x))
  house_arg {s = s} (g.Arg.both_variable {g = n} h c x) = between (goal_housed n s ⊕ (read_housed n s ⊕ house_value x))
  house_arg (g.Arg.constant h c x) = still ⊕ house_value x
  house_arg (g.Arg.other h i) = house_unset i

  house_whole : {d : DoBlockOwner} {s z : Scope} {t : Tree} {w r : Toks} → CommandOrArg source R d w s t r z → HousedTree s.locals t z.locals
  house_whole (g.CommandOrArg.command h) = house_command h
  house_whole (g.CommandOrArg.arg h) = house_arg h

  house_test : {d : DoBlockOwner} {s z : Scope} {t : Tree} {w r : Toks} → Test source R d w s t r z → HousedTree s.locals t z.locals
  house_test (g.Test.inverted h i) = S.test i
  house_test (g.Test.plain h) = house_whole h

  house_tests : {d : DoBlockOwner} {o : Toks} {s z : Scope} {x t : Tree} {w r : Toks} {l : List Bytes} → Tests source R d o x w s t r z → HousedTree l x s.locals → HousedTree l t z.locals
  house_tests (g.Tests.and_test h i j) a = house_tests j (a ⊕ S.test i)
  house_tests (g.Tests.or_test h i j) a = house_tests j (a ⊕ S.test i)
  house_tests (g.Tests.end h i) a = a

  house_expr : {d : DoBlockOwner} {s z : Scope} {t : Tree} {w r : Toks} → Expr source R d w s t r z → HousedTree s.locals t z.locals
  house_expr (g.Expr.tests h i) = house_tests i (house_test h)

  house_head : {d : DoBlockOwner} {s z : Scope} {t : Tree} {w r : Toks} → Head source R d w s t r z → HousedTree s.locals t z.locals
  house_head (g.Head.several h i j) = house_targets source h ⊕ house_several source R S j
  house_head (g.Head.plain h i) = house_expr i

  house_modifiers : {d : DoBlockOwner} {o : Toks} {c : Bool} {s z : Scope} {x t : Tree} {w r : Toks} {l : List Bytes} → Modifiers source R d o c x w s t r z → HousedTree l x s.locals → HousedTree l t z.locals
  house_modifiers (g.Modifiers.if_holds h i j) a = house_modifiers j (((a ⊕ still) ⊕ still) ⊗ S.expr i)
  house_modifiers (g.Modifiers.unless_holds h i j) a = house_modifiers j ((still ⊕ (a ⊕ still)) ⊗ S.expr i)
  house_modifiers (g.Modifiers.while_holds h i j) a = house_modifiers j ((a ⊕ still) ⊕ S.expr i)
  house_modifiers (g.Modifiers.until_holds h i j) a = house_modifiers j ((a ⊕ still) ⊕ S.expr i)
  house_modifiers {o = o} {x = x} {w = w} (g.Modifiers.saved {c = u} h i j) a = house_modifiers j (rescued_housed o w x u a (S.expr i))
  house_modifiers (g.Modifiers.end h) a = a

  house_stmt : {d : DoBlockOwner} {s z : Scope} {t : Tree} {w r : Toks} → Stmt source R d w s t r z → HousedTree s.locals t z.locals
  house_stmt (g.Stmt.head h i) = house_modifiers i (house_head h)

  house_stmt_list : {d : DoBlockOwner} {s z : Scope} {ts : Trees} {w r : Toks} → StmtList source R d w s ts r z → HousedTrees s.locals ts z.locals
  house_stmt_list (g.StmtList.line h i) = house_stmt_list i
  house_stmt_list (g.StmtList.last h i) = house_stmt h ⊕ still
  house_stmt_list (g.StmtList.another h i j) = house_stmt h ⊕ house_stmt_list j
  house_stmt_list (g.StmtList.empty h i) = still

  house_stmts : {d : DoBlockOwner} {s z : Scope} {t : Tree} {w r : Toks} → Stmts source R d w s t r z → HousedTree s.locals t z.locals
  house_stmts (g.Stmts.none h i) = still
  house_stmts (g.Stmts.lines h i) = house_stmt_list i
  house_stmts (g.Stmts.some h i) = house_stmt_list i

pub houses : (source : Bytes) (n : ℕ) → Houses (derives source n)
unfolding derives
houses source zero = record {
  stmts = λ h. absurd h;
  expr = λ h. absurd h;
  test = λ h. absurd h;
  assigned_value = λ h. absurd h;
  arg = λ h. absurd h;
  minus = λ h. absurd h;
  power = λ h. absurd h;
  unary_operand = λ h. absurd h;
  else_branches = λ h. absurd h;
}
houses source (suc n) =
    let S = houses source n in
    let R = derives source n in
    record {
      stmts = λ h. house_stmts source R S h;
      expr = λ h. house_expr source R S h;
      test = λ h. house_test source R S h;
      assigned_value = λ h. house_whole source R S h;
      arg = λ h. house_arg source R S h;
      minus = λ h. house_minus source R S h;
      power = λ h. house_power source R S h;
      unary_operand = λ h. house_tight source R S h;
      else_branches = λ h. house_elses source R S h;
    }
