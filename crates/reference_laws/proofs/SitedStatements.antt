-- Where the line of each token is that of its place, so is the line of each node: operators, assignments, commands and statements.
use Rattle.std.proofs.Common.{ℕ, zero, suc, Bool, codes}
use Rattle.ruby_lexer.specs.Bytes.{Bytes}
use Rattle.ruby_lexer.specs.Pieces.{Toks, constant}
use Rattle.ruby_tree.specs.Tree.{Tree, Trees}
use Rattle.ruby_tree.specs.Rules.{Scope, DoBlockOwner, position, mark_in, is_mark, product_marks, sum_marks, shift_marks, intersection_marks, union_marks, order_marks}
use Rattle.ruby_tree.specs.Build.{binary, conjunction, disjunction}
use Rattle.ruby_tree.specs.Grammar.{Rel, Rels, derives, UnaryOperand, Power, Minus, Rest, Chain, Product, Sum, Shift, Intersection, Union, Order, Equality, Conjunction, Disjunction, Range, Conditional, Values, Command, Value, Unset, Arg, CommandOrArg, Test, Tests, Expr, Head, Modifiers, Stmt, StmtList, Stmts}
use Rattle.ruby_tree.specs.Grammar as g
use Rattle.reference_laws.proofs.Sited.{Lined, past, spot_sits, goal_sits, GoodTree, GoodTrees, good_none, good_more, good_one, good_without, good_with, good_range, good_assign, good_assign_all, good_assign_attribute, good_assign_index, good_operate_attribute, good_or_attribute, good_and_attribute, good_operate_index, good_or_index, good_and_index, good_send, good_yield, good_super, good_statements, good_both, good_either, good_negated, good_if, good_while, good_return, good_break, good_next, good_alone, good_empty, good_read, good_sent, good_call, good_rescued, Got, got}
use Rattle.reference_laws.proofs.SitedParts.{Sitting, word_sits, sit_method_name, sit_targets, sit_several, sit_command_items, sit_command_block, sit_elses, sit_postfix}

-- what two operands and an operator make
abbrev Making : (ℕ → ℕ) → (Toks → Toks → Tree → Tree → Tree) → Type 0
Making L make = (o w : Toks) (a b : Tree) → GoodTree L a → GoodTree L b → GoodTree L (make o w a b)

abbrev Operands : (ℕ → ℕ) → Rel Tree → Type 0
Operands L O = (w : Toks) (s : Scope) (t : Tree) (r : Toks) (z : Scope) → O w s t r z → Lined L w → Got L (GoodTree L t) r

module _ (L : ℕ → ℕ) (source : Bytes) (R : Rels) (S : Sitting L R) where
  sit_tight : {d : DoBlockOwner} {s z : Scope} {t : Tree} {w r : Toks} → UnaryOperand source R d w s t r z → Lined L w → Got L (GoodTree L t) r
  sit_tight (g.UnaryOperand.inverted h i) e = let a = S.unary_operand i (past L e) in got L (good_sent L a.part (good_none L)) a.rest
  sit_tight (g.UnaryOperand.complement h i) e = let a = S.unary_operand i (past L e) in got L (good_sent L a.part (good_none L)) a.rest
  sit_tight (g.UnaryOperand.positive h i) e = let a = S.unary_operand i (past L e) in got L (good_sent L a.part (good_none L)) a.rest
  sit_tight (g.UnaryOperand.plain h i) e = sit_postfix L source R S h e

  sit_power : {d : DoBlockOwner} {s z : Scope} {t : Tree} {w r : Toks} → Power source R d w s t r z → Lined L w → Got L (GoodTree L t) r
  sit_power (g.Power.raised h i j) e = let a = sit_tight h e in let b = S.power j (past L a.rest) in got L (good_sent L a.part (good_one L b.part)) b.rest
  sit_power (g.Power.plain h i) e = sit_tight h e

  sit_minus : {d : DoBlockOwner} {s z : Scope} {t : Tree} {w r : Toks} → Minus source R d w s t r z → Lined L w → Got L (GoodTree L t) r
  sit_minus (g.Minus.minus h i j) e = let a = S.minus j (past L e) in got L (good_sent L a.part (good_none L)) a.rest
  sit_minus (g.Minus.plain h) e = sit_power h e

  sit_rest : (passes : Toks → Bool) (make : Toks → Toks → Tree → Tree → Tree) (O : Rel Tree) → Making L make → Operands L O → (o : Toks) (x : Tree) (w : Toks) (s : Scope) (t : Tree) (r : Toks) (z : Scope) → Rest source R passes make O o x w s t r z →
      GoodTree L x → Lined L w → Got L (GoodTree L t) r
  sit_rest passes make O makes sits o x w s t r z (g.Rest.operator h i j) A e = let b = sits _ _ _ _ _ i (past L e) in sit_rest passes make O makes sits o _ _ _ _ _ _ j (makes o w x _ A b.part) b.rest
  sit_rest passes make O makes sits o x w s t r z (g.Rest.end h) A e = got L A e

  sit_chain : (passes : Toks → Bool) (make : Toks → Toks → Tree → Tree → Tree) (O : Rel Tree) → Making L make → Operands L O → Operands L (Chain source R passes make O)
  sit_chain passes make O makes sits w s t r z (g.Chain.chain h i) e = let a = sits _ _ _ _ _ h e in sit_rest passes make O makes sits _ _ _ _ _ _ _ i a.part a.rest

  sent_makes : Making L (binary source)
  sent_makes o w a b A B = good_sent L A (good_one L B)

  sit_product : (d : DoBlockOwner) → Operands L (Product source R d)
  sit_product d = sit_chain (mark_in source product_marks) (binary source) (Minus source R d) sent_makes (λ w s t r z h e. sit_minus h e)

  sit_sum : (d : DoBlockOwner) → Operands L (Sum source R d)
  sit_sum d = sit_chain (mark_in source sum_marks) (binary source) (Product source R d) sent_makes (sit_product d)

  sit_shift : (d : DoBlockOwner) → Operands L (Shift source R d)
  sit_shift d = sit_chain (mark_in source shift_marks) (binary source) (Sum source R d) sent_makes (sit_sum d)

  sit_intersection : (d : DoBlockOwner) → Operands L (Intersection source R d)
  sit_intersection d = sit_chain (mark_in source intersection_marks) (binary source) (Shift source R d) sent_makes (sit_shift d)

  sit_union : (d : DoBlockOwner) → Operands L (Union source R d)
  sit_union d = sit_chain (mark_in source union_marks) (binary source) (Intersection source R d) sent_makes (sit_intersection d)

  sit_order : (d : DoBlockOwner) → Operands L (Order source R d)
  sit_order d = sit_chain (mark_in source order_marks) (binary source) (Union source R d) sent_makes (sit_union d)

  sit_equality : (d : DoBlockOwner) → Operands L (Equality source R d)
  sit_equality d w s t r z (g.Equality.compared h i j) e =
      let a = sit_order d _ _ _ _ _ h e in let b = sit_order d _ _ _ _ _ j (past L a.rest) in got L (good_sent L a.part (good_one L b.part)) b.rest
  sit_equality d w s t r z (g.Equality.unequal h i j) e =
      let a = sit_order d _ _ _ _ _ h e in let b = sit_order d _ _ _ _ _ j (past L a.rest) in got L (good_sent L (good_sent L a.part (good_one L b.part)) (good_none L)) b.rest
  sit_equality d w s t r z (g.Equality.plain h i) e = sit_order d _ _ _ _ _ h e

  sit_conjunction : (d : DoBlockOwner) → Operands L (Conjunction source R d)
  sit_conjunction d = sit_chain (is_mark source (codes "&&")) conjunction (Equality source R d) (λ o w a b A B. good_both L A B) (sit_equality d)

  sit_disjunction : (d : DoBlockOwner) → Operands L (Disjunction source R d)
  sit_disjunction d = sit_chain (is_mark source (codes "||")) disjunction (Conjunction source R d) (λ o w a b A B. good_either L A B) (sit_conjunction d)

  sit_range : (d : DoBlockOwner) → Operands L (Range source R d)
  sit_range d w s t r z (g.Range.whole h i j) e =
      let a = sit_disjunction d _ _ _ _ _ h e in let b = sit_disjunction d _ _ _ _ _ j (past L a.rest) in got L (good_range L a.part b.part) b.rest
  sit_range d w s t r z (g.Range.without_last h i j) e =
      let a = sit_disjunction d _ _ _ _ _ h e in let b = sit_disjunction d _ _ _ _ _ j (past L a.rest) in got L (good_range L a.part b.part) b.rest
  sit_range d w s t r z (g.Range.plain h i j) e = sit_disjunction d _ _ _ _ _ h e

  sit_conditional : (d : DoBlockOwner) → Operands L (Conditional source R d)
  sit_conditional d w s t r z (g.Conditional.chosen h i j f k) e =
      let c = sit_range d _ _ _ _ _ h e in let a = S.arg j (past L c.rest) in let b = S.arg k (past L a.rest) in got L (good_if L c.part a.part (good_with L b.part)) b.rest
  sit_conditional d w s t r z (g.Conditional.plain h i) e = sit_range d _ _ _ _ _ h e

  sit_values : {d : DoBlockOwner} {s z : Scope} {ts : Trees} {w r : Toks} → Values source R d w s ts r z → Lined L w → Got L (GoodTrees L ts) r
  sit_values (g.Values.missing h) e = got L (good_none L) e
  sit_values (g.Values.given h i) e = sit_several L source R S i e

  sit_command : {d : DoBlockOwner} {s z : Scope} {t : Tree} {w r : Toks} → Command source R d w s t r z → Lined L w → Got L (GoodTree L t) r
  sit_command (g.Command.named h i j c) e =
      let a = sit_command_items L source R S j (past L e) in let b = sit_command_block L source R S c a.part.block a.rest in got L (good_send L (good_without L) a.part.trees a.part.value b.part) b.rest
  sit_command (g.Command.called {k = k} {m = m} x h j n y f c) e =
      let a = sit_postfix L source R S h e in
      let v = sit_command_items L source R S f (sit_method_name L source n (past L a.rest)) in
      let b = sit_command_block L source R S c v.part.block v.rest in
      got L (good_call L k m a.part v.part b.part) b.rest
  sit_command (g.Command.yielded h i j k) e = let a = sit_command_items L source R S j (past L e) in got L (good_yield L (word_sits L source (codes "yield") _ h e) a.part.trees) a.rest
  sit_command (g.Command.super_with h i j c) e =
      let a = sit_command_items L source R S j (past L e) in let b = sit_command_block L source R S c a.part.block a.rest in
      got L (good_super L (word_sits L source (codes "super") _ h e) a.part.trees a.part.value b.part) b.rest
  sit_command (g.Command.returned h i) e = let a = sit_values i (past L e) in got L (good_return L (word_sits L source (codes "return") _ h e) a.part) a.rest
  sit_command (g.Command.broken h i) e = let a = sit_values i (past L e) in got L (good_break L (word_sits L source (codes "break") _ h e) a.part) a.rest
  sit_command (g.Command.nexted h i) e = let a = sit_values i (past L e) in got L (good_next L (word_sits L source (codes "next") _ h e) a.part) a.rest

  sit_value : {d : DoBlockOwner} {s z : Scope} {t : Tree} {w r : Toks} → Value source R d w s t r z → Lined L w → Got L (GoodTree L t) r
  sit_value (g.Value.plain h i) e = S.assigned_value h e
  sit_value {w = w} (g.Value.saved {q = q} h i j) e = let a = S.assigned_value h e in let b = S.arg j (past L a.rest) in got L (good_rescued L w q a.part b.part) b.rest

  sit_unset : {d : DoBlockOwner} {s z : Scope} {t : Tree} {w r : Toks} → Unset source R d w s t r z → Lined L w → Got L (GoodTree L t) r
  sit_unset (g.Unset.attribute h i j c x) e = let a = sit_postfix L source R S h e in let v = sit_value x (past L (past L (past L a.rest))) in got L (good_assign_attribute L a.part v.part) v.rest
  sit_unset (g.Unset.operated_attribute h i j c x) e = let a = sit_postfix L source R S h e in let v = sit_value x (past L (past L (past L a.rest))) in got L (good_operate_attribute L a.part v.part) v.rest
  sit_unset (g.Unset.either_attribute h i j c x) e = let a = sit_postfix L source R S h e in let v = sit_value x (past L (past L (past L a.rest))) in got L (good_or_attribute L a.part v.part) v.rest
  sit_unset (g.Unset.both_attribute h i j c x) e = let a = sit_postfix L source R S h e in let v = sit_value x (past L (past L (past L a.rest))) in got L (good_and_attribute L a.part v.part) v.rest
  sit_unset (g.Unset.element h i j k f c x) e =
      let a = sit_postfix L source R S h e in let n = S.arg k (past L a.rest) in let v = sit_value x (past L (past L n.rest)) in got L (good_assign_index L a.part n.part v.part) v.rest
  sit_unset (g.Unset.operated_element h i j k f c x) e =
      let a = sit_postfix L source R S h e in let n = S.arg k (past L a.rest) in let v = sit_value x (past L (past L n.rest)) in got L (good_operate_index L a.part n.part v.part) v.rest
  sit_unset (g.Unset.either_element h i j k f c x) e =
      let a = sit_postfix L source R S h e in let n = S.arg k (past L a.rest) in let v = sit_value x (past L (past L n.rest)) in got L (good_or_index L a.part n.part v.part) v.rest
  sit_unset (g.Unset.both_element h i j k f c x) e =
      let a = sit_postfix L source R S h e in let n = S.arg k (past L a.rest) in let v = sit_value x (past L (past L n.rest)) in got L (good_and_index L a.part n.part v.part) v.rest
  sit_unset (g.Unset.plain h i) e = sit_conditional _ _ _ _ _ _ h e

  sit_arg : {d : DoBlockOwner} {s z : Scope} {t : Tree} {w r : Toks} → Arg source R d w s t r z → Lined L w → Got L (GoodTree L t) r
  sit_arg (g.Arg.variable h c x) e = let v = sit_value x (past L (past L e)) in got L (good_assign L (goal_sits L source _ _ h e) v.part) v.rest
  sit_arg {w = w} (g.Arg.operated_variable {g = n} h c x) e =
      let v = sit_value x (past L (past L e)) in got L (good_assign L (goal_sits L source _ _ h e) (good_sent L (good_read L (position w) n) (good_one L v.part))) v.rest
  sit_arg {w = w} (g.Arg.either_variable {g = n} h c x) e =
      let v = sit_value x (past L (past L e)) in got L (good_either L (good_read L (position w) n) (good_assign L (goal_sits L source _ _ h e) v.part)) v.rest
  sit_arg {w = w} (g.Arg.both_variable {g = n} h c x) e =
      let v = sit_value x (past L (past L e)) in got L (good_both L (good_read L (position w) n) (good_assign L (goal_sits L source _ _ h e) v.part)) v.rest
  sit_arg (g.Arg.constant h c x) e = let v = sit_value x (past L (past L e)) in got L (good_assign L (spot_sits L _ constant h e) v.part) v.rest
  sit_arg (g.Arg.other h i) e = sit_unset i e

  sit_whole : {d : DoBlockOwner} {s z : Scope} {t : Tree} {w r : Toks} → CommandOrArg source R d w s t r z → Lined L w → Got L (GoodTree L t) r
  sit_whole (g.CommandOrArg.command h) e = sit_command h e
  sit_whole (g.CommandOrArg.arg h) e = sit_arg h e

  sit_test : {d : DoBlockOwner} {s z : Scope} {t : Tree} {w r : Toks} → Test source R d w s t r z → Lined L w → Got L (GoodTree L t) r
  sit_test (g.Test.inverted h i) e = let a = S.test i (past L e) in got L (good_negated L a.part) a.rest
  sit_test (g.Test.plain h) e = sit_whole h e

  sit_tests : {d : DoBlockOwner} {o : Toks} {s z : Scope} {x t : Tree} {w r : Toks} → Tests source R d o x w s t r z → GoodTree L x → Lined L w → Got L (GoodTree L t) r
  sit_tests (g.Tests.and_test h i j) A e = let b = S.test i (past L e) in sit_tests j (good_both L A b.part) b.rest
  sit_tests (g.Tests.or_test h i j) A e = let b = S.test i (past L e) in sit_tests j (good_either L A b.part) b.rest
  sit_tests (g.Tests.end h i) A e = got L A e

  sit_expr : {d : DoBlockOwner} {s z : Scope} {t : Tree} {w r : Toks} → Expr source R d w s t r z → Lined L w → Got L (GoodTree L t) r
  sit_expr (g.Expr.tests h i) e = let a = sit_test h e in sit_tests i a.part a.rest

  sit_head : {d : DoBlockOwner} {s z : Scope} {t : Tree} {w r : Toks} → Head source R d w s t r z → Lined L w → Got L (GoodTree L t) r
  sit_head (g.Head.several h i j) e = let a = sit_several L source R S j (past L (sit_targets L source h e)) in got L (good_assign_all L a.part) a.rest
  sit_head (g.Head.plain h i) e = sit_expr i e

  sit_modifiers : {d : DoBlockOwner} {o : Toks} {c : Bool} {s z : Scope} {x t : Tree} {w r : Toks} → Modifiers source R d o c x w s t r z → GoodTree L x → Lined L w → Got L (GoodTree L t) r
  sit_modifiers {o = o} (g.Modifiers.if_holds h i j) A e = let c = S.expr i (past L e) in sit_modifiers j (good_if L c.part (good_alone L o A) (good_without L)) c.rest
  sit_modifiers {o = o} (g.Modifiers.unless_holds h i j) A e = let c = S.expr i (past L e) in sit_modifiers j (good_if L c.part (good_empty L) (good_with L (good_alone L o A))) c.rest
  sit_modifiers {o = o} (g.Modifiers.while_holds h i j) A e = let c = S.expr i (past L e) in sit_modifiers j (good_while L (good_alone L o A) c.part) c.rest
  sit_modifiers {o = o} (g.Modifiers.until_holds h i j) A e = let c = S.expr i (past L e) in sit_modifiers j (good_while L (good_alone L o A) c.part) c.rest
  sit_modifiers {o = o} {w = w} (g.Modifiers.saved h i j) A e = let c = S.expr i (past L e) in sit_modifiers j (good_rescued L o w A c.part) c.rest
  sit_modifiers (g.Modifiers.end h) A e = got L A e

  sit_stmt : {d : DoBlockOwner} {s z : Scope} {t : Tree} {w r : Toks} → Stmt source R d w s t r z → Lined L w → Got L (GoodTree L t) r
  sit_stmt (g.Stmt.head h i) e = let a = sit_head h e in sit_modifiers i a.part a.rest

  sit_stmt_list : {d : DoBlockOwner} {s z : Scope} {ts : Trees} {w r : Toks} → StmtList source R d w s ts r z → Lined L w → Got L (GoodTrees L ts) r
  sit_stmt_list (g.StmtList.line h i) e = sit_stmt_list i (past L e)
  sit_stmt_list (g.StmtList.last h i) e = let a = sit_stmt h e in got L (good_one L a.part) a.rest
  sit_stmt_list (g.StmtList.another h i j) e = let a = sit_stmt h e in let b = sit_stmt_list j (past L a.rest) in got L (good_more L a.part b.part) b.rest
  sit_stmt_list (g.StmtList.empty h i) e = got L (good_none L) e

  sit_stmts : {d : DoBlockOwner} {s z : Scope} {t : Tree} {w r : Toks} → Stmts source R d w s t r z → Lined L w → Got L (GoodTree L t) r
  sit_stmts (g.Stmts.none h i) e = got L (good_empty L) e
  sit_stmts (g.Stmts.lines h i) e = let a = sit_stmt_list i e in got L (good_statements L a.part) a.rest
  sit_stmts (g.Stmts.some h i) e = let a = sit_stmt_list i e in got L (good_statements L a.part) a.rest

pub sitting : (L : ℕ → ℕ) (source : Bytes) (n : ℕ) → Sitting L (derives source n)
unfolding derives
sitting L source zero = record {
  stmts = λ h e. absurd h;
  expr = λ h e. absurd h;
  test = λ h e. absurd h;
  assigned_value = λ h e. absurd h;
  arg = λ h e. absurd h;
  minus = λ h e. absurd h;
  power = λ h e. absurd h;
  unary_operand = λ h e. absurd h;
  else_branches = λ h e. absurd h;
}
sitting L source (suc n) =
    let S = sitting L source n in
    let R = derives source n in
    record {
      stmts = λ h e. sit_stmts L source R S h e;
      expr = λ h e. sit_expr L source R S h e;
      test = λ h e. sit_test L source R S h e;
      assigned_value = λ h e. sit_whole L source R S h e;
      arg = λ h e. sit_arg L source R S h e;
      minus = λ h e. sit_minus L source R S h e;
      power = λ h e. sit_power L source R S h e;
      unary_operand = λ h e. sit_tight L source R S h e;
      else_branches = λ h e. sit_elses L source R S h e;
    }
