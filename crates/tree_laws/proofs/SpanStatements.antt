-- Sequences nest in what is derived: operators, assignments, commands and statements.
use Rattle.std.proofs.Common.{refl, ℕ, zero, suc, ◌≤◌, Bool, codes}
use Rattle.ruby_lexer.specs.Bytes.{Bytes}
use Rattle.ruby_lexer.specs.Pieces.{Toks}
use Rattle.ruby_tree.specs.Tree.{SourcePosition, Goal, to_local, to_instance, to_global, to_constant, Tree, at, Trees}
use Rattle.ruby_tree.specs.Rules.{Scope, DoBlockOwner, next, place_at, position, position_with, mark_in, is_mark, product_marks, sum_marks, shift_marks, intersection_marks, union_marks, order_marks}
use Rattle.ruby_tree.specs.Build.{sent, binary, conjunction, disjunction, read_form, rescued}
use Rattle.ruby_tree.specs.Grammar.{Rel, Rels, derives, UnaryOperand, Power, Minus, Rest, Chain, Product, Sum, Shift, Intersection, Union, Order, Equality, Conjunction, Disjunction, Range, Conditional, Values, Command, Value, Unset, Arg, CommandOrArg, Test, Tests, Expr, Head, Modifiers, Stmt, StmtList, Stmts}
use Rattle.ruby_tree.specs.Grammar as g
use Rattle.tree_laws.proofs.Spans.{TreeSpan, TreesSpan, still, turned, ◌⊕◌, ◌⊗◌, stay, begun, passed, Fits, past, got, GotTree, GotTrees}
use Rattle.tree_laws.proofs.SpanParts.{Spanning, call_spans, word_spent, span_method_name, span_targets, span_several, span_command_items, span_command_block, span_elses, span_postfix}

-- what two operands and an operator make
abbrev Making : (Toks → Toks → Tree → Tree → Tree) → Type 0
Making make = (o w : Toks) (a b : Tree) (l j m : ℕ) → TreeSpan a l j → TreeSpan b j m → TreeSpan (make o w a b) l m

abbrev Operands : Rel Tree → Type 0
Operands O = (w : Toks) (s : Scope) (t : Tree) (r : Toks) (z : Scope) (top l : ℕ) → O w s t r z → Fits top l w → GotTree top t l r

read_spans : (o : SourcePosition) (x : Goal) {l : ℕ} → TreeSpan (at o (read_form x)) l l
read_spans o (to_local x) = still
read_spans o (to_instance x) = still
read_spans o (to_global x) = still
read_spans o (to_constant x) = still

-- an operator that is sent with these arguments
sent_spans : (o : SourcePosition) (a : Tree) (m : Bytes) (ts : Trees) {l j n : ℕ} → TreeSpan a l j → TreesSpan ts j n → TreeSpan (sent o a m ts) l n
sent_spans o a m ts A B = A ⊕ (B ⊕ (still ⊕ still))

rescued_spans : (w v : Toks) (a b : Tree) {l j m : ℕ} → TreeSpan a l j → j ≤ place_at v → TreeSpan b (suc (place_at v)) m → TreeSpan (rescued w v a b) l m
rescued_spans w v a b A less B = turned (λ k. (k, (refl, passed less (A ⊕ still)))) ((A ⊕ still) ⊕ (still ⊕ begun less (still ⊕ ((B ⊕ still) ⊕ still))))

module _ (source : Bytes) (R : Rels) (S : Spanning R) where
  span_tight : {d : DoBlockOwner} {s z : Scope} {t : Tree} {w r : Toks} {top l : ℕ} → UnaryOperand source R d w s t r z → Fits top l w → GotTree top t l r
  span_tight (g.UnaryOperand.inverted h i) e = let a = S.unary_operand i (past e) in got (a.part ⊕ (still ⊕ (still ⊕ still))) a.rest
  span_tight (g.UnaryOperand.complement h i) e = let a = S.unary_operand i (past e) in got (a.part ⊕ (still ⊕ (still ⊕ still))) a.rest
  span_tight (g.UnaryOperand.positive h i) e = let a = S.unary_operand i (past e) in got (a.part ⊕ (still ⊕ (still ⊕ still))) a.rest
  span_tight (g.UnaryOperand.plain h i) e = span_postfix source R S h e

  span_power : {d : DoBlockOwner} {s z : Scope} {t : Tree} {w r : Toks} {top l : ℕ} → Power source R d w s t r z → Fits top l w → GotTree top t l r
  span_power (g.Power.raised h i j) e = let a = span_tight h e in let b = S.power j (past a.rest) in got (a.part ⊕ ((b.part ⊕ still) ⊕ (still ⊕ still))) b.rest
  span_power (g.Power.plain h i) e = span_tight h e

  span_minus : {d : DoBlockOwner} {s z : Scope} {t : Tree} {w r : Toks} {top l : ℕ} → Minus source R d w s t r z → Fits top l w → GotTree top t l r
  span_minus (g.Minus.minus h i j) e = let a = S.minus j (past e) in got (a.part ⊕ (still ⊕ (still ⊕ still))) a.rest
  span_minus (g.Minus.plain h) e = span_power h e

  span_rest : (passes : Toks → Bool) (make : Toks → Toks → Tree → Tree → Tree) (O : Rel Tree) → Making make → Operands O → (o : Toks) (x : Tree) (w : Toks) (s : Scope) (t : Tree) (r : Toks) (z : Scope) (top k l : ℕ) → Rest source R passes make O o x w s t r z →
      TreeSpan x k l → Fits top l w → GotTree top t k r
  span_rest passes make O makes fills o x w s t r z top k l (g.Rest.operator h i j) A e =
      let b = fills _ _ _ _ _ top l i (past e) in span_rest passes make O makes fills o _ _ _ _ _ _ top k b.end j (makes o w x _ k l b.end A b.part) b.rest
  span_rest passes make O makes fills o x w s t r z top k l (g.Rest.end h) A e = got A e

  span_chain : (passes : Toks → Bool) (make : Toks → Toks → Tree → Tree → Tree) (O : Rel Tree) → Making make → Operands O → Operands (Chain source R passes make O)
  span_chain passes make O makes fills w s t r z top l (g.Chain.chain h i) e = let a = fills _ _ _ _ _ top l h e in span_rest passes make O makes fills _ _ _ _ _ _ _ top l a.end i a.part a.rest

  sent_makes : Making (binary source)
  sent_makes o w a b l j m A B = A ⊕ ((B ⊕ still) ⊕ (still ⊕ still))

  span_product : (d : DoBlockOwner) → Operands (Product source R d)
  span_product d = span_chain (mark_in source product_marks) (binary source) (Minus source R d) sent_makes (λ w s t r z top l h e. span_minus h e)

  span_sum : (d : DoBlockOwner) → Operands (Sum source R d)
  span_sum d = span_chain (mark_in source sum_marks) (binary source) (Product source R d) sent_makes (span_product d)

  span_shift : (d : DoBlockOwner) → Operands (Shift source R d)
  span_shift d = span_chain (mark_in source shift_marks) (binary source) (Sum source R d) sent_makes (span_sum d)

  span_intersection : (d : DoBlockOwner) → Operands (Intersection source R d)
  span_intersection d = span_chain (mark_in source intersection_marks) (binary source) (Shift source R d) sent_makes (span_shift d)

  span_union : (d : DoBlockOwner) → Operands (Union source R d)
  span_union d = span_chain (mark_in source union_marks) (binary source) (Intersection source R d) sent_makes (span_intersection d)

  span_order : (d : DoBlockOwner) → Operands (Order source R d)
  span_order d = span_chain (mark_in source order_marks) (binary source) (Union source R d) sent_makes (span_union d)

  span_equality : (d : DoBlockOwner) → Operands (Equality source R d)
  span_equality d w s t r z top l (g.Equality.compared h i j) e =
      let a = span_order d _ _ _ _ _ _ _ h e in let b = span_order d _ _ _ _ _ _ _ j (past a.rest) in got (a.part ⊕ ((b.part ⊕ still) ⊕ (still ⊕ still))) b.rest
  span_equality d w s t r z top l (g.Equality.unequal h i j) e =
      let a = span_order d _ _ _ _ _ _ _ h e in let b = span_order d _ _ _ _ _ _ _ j (past a.rest) in got ((a.part ⊕ ((b.part ⊕ still) ⊕ (still ⊕ still))) ⊕ (still ⊕ (still ⊕ still))) b.rest
  span_equality d w s t r z top l (g.Equality.plain h i) e = span_order d _ _ _ _ _ _ _ h e

  span_conjunction : (d : DoBlockOwner) → Operands (Conjunction source R d)
  span_conjunction d = span_chain (is_mark source (codes "&&")) conjunction (Equality source R d) (λ o w a b l j m A B. A ⊕ B) (span_equality d)

  span_disjunction : (d : DoBlockOwner) → Operands (Disjunction source R d)
  span_disjunction d = span_chain (is_mark source (codes "||")) disjunction (Conjunction source R d) (λ o w a b l j m A B. A ⊕ B) (span_conjunction d)

  span_range : (d : DoBlockOwner) → Operands (Range source R d)
  span_range d w s t r z top l (g.Range.whole h i j) e =
      let a = span_disjunction d _ _ _ _ _ _ _ h e in let b = span_disjunction d _ _ _ _ _ _ _ j (past a.rest) in got (a.part ⊕ b.part) b.rest
  span_range d w s t r z top l (g.Range.without_last h i j) e =
      let a = span_disjunction d _ _ _ _ _ _ _ h e in let b = span_disjunction d _ _ _ _ _ _ _ j (past a.rest) in got (a.part ⊕ b.part) b.rest
  span_range d w s t r z top l (g.Range.plain h i j) e = span_disjunction d _ _ _ _ _ _ _ h e

  span_conditional : (d : DoBlockOwner) → Operands (Conditional source R d)
  span_conditional d w s t r z top l (g.Conditional.chosen h i j f k) e =
      let c = span_range d _ _ _ _ _ _ _ h e in let a = S.arg j (past c.rest) in let b = S.arg k (past a.rest) in got (c.part ⊕ (a.part ⊕ b.part)) b.rest
  span_conditional d w s t r z top l (g.Conditional.plain h i) e = span_range d _ _ _ _ _ _ _ h e

  span_values : {d : DoBlockOwner} {s z : Scope} {ts : Trees} {w r : Toks} {top l : ℕ} → Values source R d w s ts r z → Fits top l w → GotTrees top ts l r
  span_values (g.Values.missing h) e = got still e
  span_values (g.Values.given h i) e = span_several source R S i e

  span_command : {d : DoBlockOwner} {s z : Scope} {t : Tree} {w r : Toks} {top l : ℕ} → Command source R d w s t r z → Fits top l w → GotTree top t l r
  span_command (g.Command.named h i j c) e =
      let a = span_command_items source R S j (past e) in let b = span_command_block source R S c a.block a.rest in got (still ⊕ (a.trees ⊕ (a.value ⊕ b.part))) b.rest
  span_command (g.Command.called {k = k} {w = w} {q = q} {a = x} {m = m} {g = v0} {b = b0} y0 h j n y f c) e =
      let a = span_postfix source R S h e in
      let v = span_command_items source R S f (span_method_name source n (past a.rest)) in
      let b = span_command_block source R S c v.block v.rest in
      got (call_spans k x v0 m b0 (position_with w (next q)) (a.part ⊕ (v.trees ⊕ (v.value ⊕ b.part)))) b.rest
  span_command (g.Command.yielded h i j k) e = let a = span_command_items source R S j (past e) in got (stay (stay a.trees a.value) a.block) a.rest
  span_command (g.Command.super_with h i j c) e =
      let a = span_command_items source R S j (past e) in let b = span_command_block source R S c a.block a.rest in
      got (a.trees ⊕ (a.value ⊕ b.part)) b.rest
  span_command (g.Command.returned h i) e = let a = span_values i (past e) in got a.part a.rest
  span_command (g.Command.broken h i) e = let a = span_values i (past e) in got a.part a.rest
  span_command (g.Command.nexted h i) e = let a = span_values i (past e) in got a.part a.rest

  span_value : {d : DoBlockOwner} {s z : Scope} {t : Tree} {w r : Toks} {top l : ℕ} → Value source R d w s t r z → Fits top l w → GotTree top t l r
  span_value (g.Value.plain h i) e = S.assigned_value h e
  span_value {w = w} (g.Value.saved {q = q} {a = t} {b = u} h i j) e =
      let a = S.assigned_value h e in
      let n = word_spent source (codes "rescue") q i a.rest in
      let b = S.arg j n.rest in
      got (rescued_spans w q t u a.part n.low b.part) b.rest

  span_unset : {d : DoBlockOwner} {s z : Scope} {t : Tree} {w r : Toks} {top l : ℕ} → Unset source R d w s t r z → Fits top l w → GotTree top t l r
  span_unset (g.Unset.attribute h i j c x) e = let a = span_postfix source R S h e in let v = span_value x (past (past (past a.rest))) in got (a.part ⊕ v.part) v.rest
  span_unset (g.Unset.operated_attribute h i j c x) e = let a = span_postfix source R S h e in let v = span_value x (past (past (past a.rest))) in got (a.part ⊕ v.part) v.rest
  span_unset (g.Unset.either_attribute h i j c x) e = let a = span_postfix source R S h e in let v = span_value x (past (past (past a.rest))) in got (a.part ⊕ v.part) v.rest
  span_unset (g.Unset.both_attribute h i j c x) e = let a = span_postfix source R S h e in let v = span_value x (past (past (past a.rest))) in got (a.part ⊕ v.part) v.rest
  span_unset (g.Unset.element h i j k f c x) e =
      let a = span_postfix source R S h e in let n = S.arg k (past a.rest) in let v = span_value x (past (past n.rest)) in got (a.part ⊕ (n.part ⊕ v.part)) v.rest
  span_unset (g.Unset.operated_element h i j k f c x) e =
      let a = span_postfix source R S h e in let n = S.arg k (past a.rest) in let v = span_value x (past (past n.rest)) in got (a.part ⊕ (n.part ⊕ v.part)) v.rest
  span_unset (g.Unset.either_element h i j k f c x) e =
      let a = span_postfix source R S h e in let n = S.arg k (past a.rest) in let v = span_value x (past (past n.rest)) in got (a.part ⊕ (n.part ⊕ v.part)) v.rest
  span_unset (g.Unset.both_element h i j k f c x) e =
      let a = span_postfix source R S h e in let n = S.arg k (past a.rest) in let v = span_value x (past (past n.rest)) in got (a.part ⊕ (n.part ⊕ v.part)) v.rest
  span_unset (g.Unset.plain h i) e = span_conditional _ _ _ _ _ _ _ _ h e

  span_arg : {d : DoBlockOwner} {s z : Scope} {t : Tree} {w r : Toks} {top l : ℕ} → Arg source R d w s t r z → Fits top l w → GotTree top t l r
  span_arg (g.Arg.variable h c x) e = let v = span_value x (past (past e)) in got v.part v.rest
  span_arg {w = w} (g.Arg.operated_variable {g = n} h c x) e =
      let v = span_value x (past (past e)) in got (read_spans (position w) n ⊕ ((v.part ⊕ still) ⊕ (still ⊕ still))) v.rest
  span_arg {w = w} (g.Arg.either_variable {g = n} h c x) e =
      let v = span_value x (past (past e)) in got (read_spans (position w) n ⊕ v.part) v.rest
  span_arg {w = w} (g.Arg.both_variable {g = n} h c x) e =
      let v = span_value x (past (past e)) in got (read_spans (position w) n ⊕ v.part) v.rest
  span_arg (g.Arg.constant h c x) e = let v = span_value x (past (past e)) in got v.part v.rest
  span_arg (g.Arg.other h i) e = span_unset i e

  span_whole : {d : DoBlockOwner} {s z : Scope} {t : Tree} {w r : Toks} {top l : ℕ} → CommandOrArg source R d w s t r z → Fits top l w → GotTree top t l r
  span_whole (g.CommandOrArg.command h) e = span_command h e
  span_whole (g.CommandOrArg.arg h) e = span_arg h e

  span_test : {d : DoBlockOwner} {s z : Scope} {t : Tree} {w r : Toks} {top l : ℕ} → Test source R d w s t r z → Fits top l w → GotTree top t l r
  span_test (g.Test.inverted h i) e = let a = S.test i (past e) in got a.part a.rest
  span_test (g.Test.plain h) e = span_whole h e

  span_tests : {d : DoBlockOwner} {o : Toks} {s z : Scope} {x t : Tree} {w r : Toks} {top k l : ℕ} → Tests source R d o x w s t r z → TreeSpan x k l → Fits top l w → GotTree top t k r
  span_tests (g.Tests.and_test h i j) A e = let b = S.test i (past e) in span_tests j (A ⊕ b.part) b.rest
  span_tests (g.Tests.or_test h i j) A e = let b = S.test i (past e) in span_tests j (A ⊕ b.part) b.rest
  span_tests (g.Tests.end h i) A e = got A e

  span_expr : {d : DoBlockOwner} {s z : Scope} {t : Tree} {w r : Toks} {top l : ℕ} → Expr source R d w s t r z → Fits top l w → GotTree top t l r
  span_expr (g.Expr.tests h i) e = let a = span_test h e in span_tests i a.part a.rest

  span_head : {d : DoBlockOwner} {s z : Scope} {t : Tree} {w r : Toks} {top l : ℕ} → Head source R d w s t r z → Fits top l w → GotTree top t l r
  span_head (g.Head.several h i j) e = let a = span_several source R S j (past (span_targets source h e)) in got a.part a.rest
  span_head (g.Head.plain h i) e = span_expr i e

  span_modifiers : {d : DoBlockOwner} {o : Toks} {c : Bool} {s z : Scope} {x t : Tree} {w r : Toks} {top k l : ℕ} → Modifiers source R d o c x w s t r z → TreeSpan x k l → Fits top l w → GotTree top t k r
  span_modifiers {o = o} (g.Modifiers.if_holds h i j) A e = let c = S.expr i (past e) in span_modifiers j (((A ⊕ still) ⊕ still) ⊗ c.part) c.rest
  span_modifiers {o = o} (g.Modifiers.unless_holds h i j) A e = let c = S.expr i (past e) in span_modifiers j ((still ⊕ (A ⊕ still)) ⊗ c.part) c.rest
  span_modifiers {o = o} (g.Modifiers.while_holds h i j) A e = let c = S.expr i (past e) in span_modifiers j ((A ⊕ still) ⊕ c.part) c.rest
  span_modifiers {o = o} (g.Modifiers.until_holds h i j) A e = let c = S.expr i (past e) in span_modifiers j ((A ⊕ still) ⊕ c.part) c.rest
  span_modifiers {o = o} {x = x} {w = w} (g.Modifiers.saved {c = u} h i j) A e =
      let n = word_spent source (codes "rescue") w h e in
      let c = S.expr i n.rest in
      span_modifiers j (rescued_spans o w x u A n.low c.part) c.rest
  span_modifiers (g.Modifiers.end h) A e = got A e

  span_stmt : {d : DoBlockOwner} {s z : Scope} {t : Tree} {w r : Toks} {top l : ℕ} → Stmt source R d w s t r z → Fits top l w → GotTree top t l r
  span_stmt (g.Stmt.head h i) e = let a = span_head h e in span_modifiers i a.part a.rest

  span_stmt_list : {d : DoBlockOwner} {s z : Scope} {ts : Trees} {w r : Toks} {top l : ℕ} → StmtList source R d w s ts r z → Fits top l w → GotTrees top ts l r
  span_stmt_list (g.StmtList.line h i) e = span_stmt_list i (past e)
  span_stmt_list (g.StmtList.last h i) e = let a = span_stmt h e in got (a.part ⊕ still) a.rest
  span_stmt_list (g.StmtList.another h i j) e = let a = span_stmt h e in let b = span_stmt_list j (past a.rest) in got (a.part ⊕ b.part) b.rest
  span_stmt_list (g.StmtList.empty h i) e = got still e

  span_stmts : {d : DoBlockOwner} {s z : Scope} {t : Tree} {w r : Toks} {top l : ℕ} → Stmts source R d w s t r z → Fits top l w → GotTree top t l r
  span_stmts (g.Stmts.none h i) e = got still e
  span_stmts (g.Stmts.lines h i) e = let a = span_stmt_list i e in got a.part a.rest
  span_stmts (g.Stmts.some h i) e = let a = span_stmt_list i e in got a.part a.rest

pub spanning : (source : Bytes) (n : ℕ) → Spanning (derives source n)
unfolding derives
spanning source zero = record {
  stmts = λ h e. absurd h;
  expr = λ h e. absurd h;
  test = λ h e. absurd h;
  assigned_value = λ h e. absurd h;
  arg = λ h e. absurd h;
  minus = λ h e. absurd h;
  power = λ h e. absurd h;
  unary_operand = λ h e. absurd h;
  else_branches = λ h e. absurd h;
}
spanning source (suc n) =
    let S = spanning source n in
    let R = derives source n in
    record {
      stmts = λ h e. span_stmts source R S h e;
      expr = λ h e. span_expr source R S h e;
      test = λ h e. span_test source R S h e;
      assigned_value = λ h e. span_whole source R S h e;
      arg = λ h e. span_arg source R S h e;
      minus = λ h e. span_minus source R S h e;
      power = λ h e. span_power source R S h e;
      unary_operand = λ h e. span_tight source R S h e;
      else_branches = λ h e. span_elses source R S h e;
    }
