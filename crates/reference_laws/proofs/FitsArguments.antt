-- Symbols nest no deeper than trees: assignments, arguments, commands and statements.
use Rattle.std.proofs.Common.{ℕ, suc, ◌<◌, ◌≤◌, Bool, arith}
use Rattle.ruby_lexer.specs.Bytes.{Bytes}
use Rattle.ruby_lexer.specs.Pieces.{Toks}
use Rattle.ruby_tree.specs.Tree.{Tree, Trees}
use Rattle.ruby_tree.specs.Rules.{Scope, DoBlockOwner}
use Rattle.ruby_tree.specs.Depth.{depth, trees_depth}
use Rattle.ruby_tree.specs.Grammar.{Rels}
use Rattle.ruby_tree.specs.Grammar as g
use Rattle.reference_laws.proofs.FitsTools.{Fit, no_block, call_depth}
use Rattle.reference_laws.proofs.FitsItems.{fits-several, fits-command_items}
use Rattle.reference_laws.proofs.FitsBodies.{command_block_depth, fits-command_block}
use Rattle.reference_laws.proofs.FitsOperands.{fits-postfix}
use Rattle.reference_laws.proofs.FitsLevels.{deeper-conjunction, deeper-disjunction, fits-conditional}

module _ (source : Bytes) (k : ℕ) (R T : Rels) (F : Fit k R T) where
  fits-values : {d : DoBlockOwner} {w r : Toks} {s z : Scope} {ts : Trees} → g.Values source R d w s ts r z → trees_depth ts < k → g.Values source T d w s ts r z
  fits-values (g.Values.missing e) le = g.Values.missing e
  fits-values (g.Values.given e h) le = g.Values.given e (fits-several source k R T F h le)

  fits-command : {d : DoBlockOwner} {w r : Toks} {s z : Scope} {t : Tree} → g.Command source R d w s t r z → depth t ≤ k → g.Command source T d w s t r z
  fits-command (g.Command.named n c h i) le = g.Command.named n c (fits-command_items source k R T F h (omega (arith, command_block_depth source R i))) (fits-command_block source k R T F i (omega arith))
  fits-command (g.Command.called {k = safe} {a = a} {m = m} {g = p} {b = b} f a1 e n c h i) le =
      let parts = call_depth safe a p m b in
      g.Command.called f (fits-postfix source k R T F a1 (omega arith)) e n c (fits-command_items source k R T F h (omega (arith, command_block_depth source R i))) (fits-command_block source k R T F i (omega arith))
  fits-command (g.Command.yielded {g = p} e c h b) le = g.Command.yielded e c (fits-command_items source k R T F h (omega (arith, (no_block p b).0, (no_block p b).1))) b
  fits-command (g.Command.super_with e c h i) le = g.Command.super_with e c (fits-command_items source k R T F h (omega (arith, command_block_depth source R i))) (fits-command_block source k R T F i (omega arith))
  fits-command (g.Command.returned e h) le = g.Command.returned e (fits-values h (omega arith))
  fits-command (g.Command.broken e h) le = g.Command.broken e (fits-values h (omega arith))
  fits-command (g.Command.nexted e h) le = g.Command.nexted e (fits-values h (omega arith))

  fits-value : {d : DoBlockOwner} {w r : Toks} {s z : Scope} {t : Tree} → g.Value source R d w s t r z → depth t < k → g.Value source T d w s t r z
  fits-value (g.Value.plain h e) le = g.Value.plain (F.assigned_value h le) e
  fits-value (g.Value.saved h e i) le = g.Value.saved (F.assigned_value h (omega arith)) e (F.arg i (omega arith))

  fits-unset : {d : DoBlockOwner} {w r : Toks} {s z : Scope} {t : Tree} → g.Unset source R d w s t r z → depth t ≤ k → g.Unset source T d w s t r z
  fits-unset (g.Unset.attribute h e n c v) le = g.Unset.attribute (fits-postfix source k R T F h (omega arith)) e n c (fits-value v (omega arith))
  fits-unset (g.Unset.operated_attribute h e n c v) le = g.Unset.operated_attribute (fits-postfix source k R T F h (omega arith)) e n c (fits-value v (omega arith))
  fits-unset (g.Unset.either_attribute h e n c v) le = g.Unset.either_attribute (fits-postfix source k R T F h (omega arith)) e n c (fits-value v (omega arith))
  fits-unset (g.Unset.both_attribute h e n c v) le = g.Unset.both_attribute (fits-postfix source k R T F h (omega arith)) e n c (fits-value v (omega arith))
  fits-unset (g.Unset.element h e n i l c v) le = g.Unset.element (fits-postfix source k R T F h (omega arith)) e n (F.arg i (omega arith)) l c (fits-value v (omega arith))
  fits-unset (g.Unset.operated_element h e n i l c v) le = g.Unset.operated_element (fits-postfix source k R T F h (omega arith)) e n (F.arg i (omega arith)) l c (fits-value v (omega arith))
  fits-unset (g.Unset.either_element h e n i l c v) le = g.Unset.either_element (fits-postfix source k R T F h (omega arith)) e n (F.arg i (omega arith)) l c (fits-value v (omega arith))
  fits-unset (g.Unset.both_element h e n i l c v) le = g.Unset.both_element (fits-postfix source k R T F h (omega arith)) e n (F.arg i (omega arith)) l c (fits-value v (omega arith))
  fits-unset (g.Unset.plain h e) le = g.Unset.plain (fits-conditional source k R T F _ _ _ _ _ _ h le) e

  pub fits-arg : {d : DoBlockOwner} {w r : Toks} {s z : Scope} {t : Tree} → g.Arg source R d w s t r z → depth t ≤ k → g.Arg source T d w s t r z
  fits-arg (g.Arg.variable is e v) le = g.Arg.variable is e (fits-value v (omega arith))
  fits-arg (g.Arg.operated_variable is e v) le = g.Arg.operated_variable is e (fits-value v (omega arith))
  fits-arg (g.Arg.either_variable is e v) le = g.Arg.either_variable is e (fits-value v (omega arith))
  fits-arg (g.Arg.both_variable is e v) le = g.Arg.both_variable is e (fits-value v (omega arith))
  fits-arg (g.Arg.constant is e v) le = g.Arg.constant is e (fits-value v (omega arith))
  fits-arg (g.Arg.other e h) le = g.Arg.other e (fits-unset h le)

  pub fits-whole : {d : DoBlockOwner} {w r : Toks} {s z : Scope} {t : Tree} → g.CommandOrArg source R d w s t r z → depth t ≤ k → g.CommandOrArg source T d w s t r z
  fits-whole (g.CommandOrArg.command h) le = g.CommandOrArg.command (fits-command h le)
  fits-whole (g.CommandOrArg.arg h) le = g.CommandOrArg.arg (fits-arg h le)

  pub fits-test : {d : DoBlockOwner} {w r : Toks} {s z : Scope} {t : Tree} → g.Test source R d w s t r z → depth t ≤ k → g.Test source T d w s t r z
  fits-test (g.Test.inverted e h) le = g.Test.inverted e (F.test h (omega arith))
  fits-test (g.Test.plain h) le = g.Test.plain (fits-whole h le)

-- Further tests and modifiers make a tree no less deep.
module _ (source : Bytes) (R : Rels) where
  tests_depth : {d : DoBlockOwner} {o : Toks} {a : Tree} {w r : Toks} {s z : Scope} {t : Tree} → g.Tests source R d o a w s t r z → depth a ≤ depth t
  tests_depth {o = o} (g.Tests.and_test {w = w} {a = a} {b = b} e h i) = omega (arith, tests_depth i, deeper-conjunction.left o w a b)
  tests_depth {o = o} (g.Tests.or_test {w = w} {a = a} {b = b} e h i) = omega (arith, tests_depth i, deeper-disjunction.left o w a b)
  tests_depth (g.Tests.end e f) = omega arith

  modifiers_depth : {d : DoBlockOwner} {o : Toks} {b : Bool} {a : Tree} {w r : Toks} {s z : Scope} {t : Tree} → g.Modifiers source R d o b a w s t r z → depth a ≤ depth t
  modifiers_depth (g.Modifiers.if_holds e h i) = omega (arith, modifiers_depth i)
  modifiers_depth (g.Modifiers.unless_holds e h i) = omega (arith, modifiers_depth i)
  modifiers_depth (g.Modifiers.while_holds e h i) = omega (arith, modifiers_depth i)
  modifiers_depth (g.Modifiers.until_holds e h i) = omega (arith, modifiers_depth i)
  modifiers_depth (g.Modifiers.saved e h i) = omega (arith, modifiers_depth i)
  modifiers_depth (g.Modifiers.end e) = omega arith

module _ (source : Bytes) (k : ℕ) (R T : Rels) (F : Fit k R T) where
  fits-tests : {d : DoBlockOwner} {o : Toks} {a : Tree} {w r : Toks} {s z : Scope} {t : Tree} → g.Tests source R d o a w s t r z → depth t ≤ k → g.Tests source T d o a w s t r z
  fits-tests {o = o} (g.Tests.and_test {w = w} {a = a} {b = b} e h i) le = g.Tests.and_test e (F.test h (omega (arith, tests_depth source R i, deeper-conjunction.right o w a b))) (fits-tests i le)
  fits-tests {o = o} (g.Tests.or_test {w = w} {a = a} {b = b} e h i) le = g.Tests.or_test e (F.test h (omega (arith, tests_depth source R i, deeper-disjunction.right o w a b))) (fits-tests i le)
  fits-tests (g.Tests.end e f) le = g.Tests.end e f

  pub fits-expr : {d : DoBlockOwner} {w r : Toks} {s z : Scope} {t : Tree} → g.Expr source R d w s t r z → depth t ≤ k → g.Expr source T d w s t r z
  fits-expr (g.Expr.tests h i) le = g.Expr.tests (fits-test source k R T F h (omega (arith, tests_depth source R i))) (fits-tests i le)

  fits-head : {d : DoBlockOwner} {w r : Toks} {s z : Scope} {t : Tree} → g.Head source R d w s t r z → depth t ≤ k → g.Head source T d w s t r z
  fits-head (g.Head.several h e i) le = g.Head.several h e (fits-several source k R T F i (omega arith))
  fits-head (g.Head.plain e h) le = g.Head.plain e (fits-expr h le)

  fits-modifiers : {d : DoBlockOwner} {o : Toks} {b : Bool} {a : Tree} {w r : Toks} {s z : Scope} {t : Tree} → g.Modifiers source R d o b a w s t r z → depth t ≤ k → g.Modifiers source T d o b a w s t r z
  fits-modifiers (g.Modifiers.if_holds e h i) le = g.Modifiers.if_holds e (F.expr h (omega (arith, modifiers_depth source R i))) (fits-modifiers i le)
  fits-modifiers (g.Modifiers.unless_holds e h i) le = g.Modifiers.unless_holds e (F.expr h (omega (arith, modifiers_depth source R i))) (fits-modifiers i le)
  fits-modifiers (g.Modifiers.while_holds e h i) le = g.Modifiers.while_holds e (F.expr h (omega (arith, modifiers_depth source R i))) (fits-modifiers i le)
  fits-modifiers (g.Modifiers.until_holds e h i) le = g.Modifiers.until_holds e (F.expr h (omega (arith, modifiers_depth source R i))) (fits-modifiers i le)
  fits-modifiers (g.Modifiers.saved e h i) le = g.Modifiers.saved e (F.expr h (omega (arith, modifiers_depth source R i))) (fits-modifiers i le)
  fits-modifiers (g.Modifiers.end e) le = g.Modifiers.end e

  fits-stmt : {d : DoBlockOwner} {w r : Toks} {s z : Scope} {t : Tree} → g.Stmt source R d w s t r z → depth t ≤ k → g.Stmt source T d w s t r z
  fits-stmt (g.Stmt.head h i) le = g.Stmt.head (fits-head h (omega (arith, modifiers_depth source R i))) (fits-modifiers i le)

  fits-stmt_list : {d : DoBlockOwner} {w r : Toks} {s z : Scope} {ts : Trees} → g.StmtList source R d w s ts r z → trees_depth ts ≤ k → g.StmtList source T d w s ts r z
  fits-stmt_list (g.StmtList.line n h) le = g.StmtList.line n (fits-stmt_list h le)
  fits-stmt_list (g.StmtList.last h e) le = g.StmtList.last (fits-stmt h (omega arith)) e
  fits-stmt_list (g.StmtList.another h n i) le = g.StmtList.another (fits-stmt h (omega arith)) n (fits-stmt_list i (omega arith))
  fits-stmt_list (g.StmtList.empty n b) le = g.StmtList.empty n b

  pub fits-stmts : {d : DoBlockOwner} {w r : Toks} {s z : Scope} {t : Tree} → g.Stmts source R d w s t r z → depth t ≤ suc k → g.Stmts source T d w s t r z
  fits-stmts (g.Stmts.none n b) le = g.Stmts.none n b
  fits-stmts (g.Stmts.lines n h) le = g.Stmts.lines n (fits-stmt_list h (omega arith))
  fits-stmts (g.Stmts.some n h) le = g.Stmts.some n (fits-stmt_list h (omega arith))
