-- Symbols nest no deeper than trees: operands, and what stands behind them.
use Rattle.std.proofs.Common.{ℕ, ◌≤◌, Bool, arith}
use Rattle.ruby_lexer.specs.Bytes.{Bytes}
use Rattle.ruby_lexer.specs.Pieces.{Toks}
use Rattle.ruby_tree.specs.Tree.{Tree, Other, without, with}
use Rattle.ruby_tree.specs.Rules.{Scope, next, DoBlockOwner, word}
use Rattle.ruby_tree.specs.Build.{or_empty}
use Rattle.ruby_tree.specs.Depth.{depth, other_depth}
use Rattle.ruby_tree.specs.Grammar.{Rels}
use Rattle.ruby_tree.specs.Grammar as g
use Rattle.reference_laws.proofs.FitsTools.{Fit, no_block, call_depth, path_depth}
use Rattle.reference_laws.proofs.FitsItems.{fits-elements, fits-pair_list, fits-items, fits-in_brackets}
use Rattle.reference_laws.proofs.FitsBodies.{call_block_depth, fits-else, fits-body, fits-block, fits-call_block, fits-call_items, fits-text_parts, fits-when_list, fits-parameters, fits-superclass}

or_empty_depth : (e : Other) → other_depth e ≤ depth (or_empty e)
or_empty_depth without = omega arith
or_empty_depth (with t) = omega arith

module _ (source : Bytes) (R : Rels) where
  -- What stands behind an operand makes it no less deep.
  pub postfixes_depth : {d : DoBlockOwner} {o : Toks} {a : Tree} {w r : Toks} {s z : Scope} {t : Tree} → g.Postfixes source R d o a w s t r z → depth a ≤ depth t
  postfixes_depth (g.Postfixes.called {k = k} {a = a} {m = m} {g = p} {b = b} e n f i h j) = omega (arith, postfixes_depth j, call_depth k a p m b)
  postfixes_depth {o = o} (g.Postfixes.constant {w = w} {a = a} e n j) = omega (arith, postfixes_depth j, path_depth o a (word source (next w)))
  postfixes_depth (g.Postfixes.index e n h c f j) = omega (arith, postfixes_depth j)
  postfixes_depth g.Postfixes.end = omega arith

module _ (source : Bytes) (k : ℕ) (R T : Rels) (F : Fit k R T) where
  fits-literal : {w r : Toks} {s z : Scope} {t : Tree} → g.Literal source R w s t r z → depth t ≤ k → g.Literal source T w s t r z
  fits-literal (g.Literal.nil_word e) le = g.Literal.nil_word e
  fits-literal (g.Literal.true_word e) le = g.Literal.true_word e
  fits-literal (g.Literal.false_word e) le = g.Literal.false_word e
  fits-literal (g.Literal.file_word e) le = g.Literal.file_word e
  fits-literal (g.Literal.folder_word e) le = g.Literal.folder_word e
  fits-literal (g.Literal.line_word e) le = g.Literal.line_word e
  fits-literal (g.Literal.number e) le = g.Literal.number e
  fits-literal (g.Literal.negative_number e n) le = g.Literal.negative_number e n
  fits-literal (g.Literal.plain_text e n) le = g.Literal.plain_text e n
  fits-literal (g.Literal.text_with_code e n h) le = g.Literal.text_with_code e n (fits-text_parts source k R T F h (omega arith))
  fits-literal (g.Literal.symbol_name e) le = g.Literal.symbol_name e
  fits-literal (g.Literal.word_list e) le = g.Literal.word_list e
  fits-literal (g.Literal.symbol_list e) le = g.Literal.symbol_list e

  fits-primary : {d : DoBlockOwner} {w r : Toks} {s z : Scope} {t : Tree} → g.Primary source R d w s t r z → depth t ≤ k → g.Primary source T d w s t r z
  fits-primary (g.Primary.literal h) le = g.Primary.literal (fits-literal h le)
  fits-primary (g.Primary.empty_list o c) le = g.Primary.empty_list o c
  fits-primary (g.Primary.list o h e c) le = g.Primary.list o (fits-elements source k R T F h (omega arith)) e c
  fits-primary (g.Primary.empty_hash o c) le = g.Primary.empty_hash o c
  fits-primary (g.Primary.pairs o h e c) le = g.Primary.pairs o (fits-pair_list source k R T F h (omega arith)) e c
  fits-primary (g.Primary.brackets o h c) le = g.Primary.brackets o (F.stmts h le) c
  fits-primary (g.Primary.self_word e) le = g.Primary.self_word e
  fits-primary (g.Primary.local_name n o b l) le = g.Primary.local_name n o b l
  fits-primary (g.Primary.bare_name n o b l a) le = g.Primary.bare_name n o b l a
  fits-primary (g.Primary.name_with_block n o c h) le = g.Primary.name_with_block n o c (fits-block source k R T F h (omega arith))
  fits-primary (g.Primary.called_name n o h i) le = g.Primary.called_name n o (fits-in_brackets source k R T F h (omega (arith, call_block_depth source R i))) (fits-call_block source k R T F i (omega arith))
  fits-primary (g.Primary.instance_name e) le = g.Primary.instance_name e
  fits-primary (g.Primary.global_name e) le = g.Primary.global_name e
  fits-primary (g.Primary.constant n o) le = g.Primary.constant n o
  fits-primary (g.Primary.called_constant n o h i) le = g.Primary.called_constant n o (fits-in_brackets source k R T F h (omega (arith, call_block_depth source R i))) (fits-call_block source k R T F i (omega arith))
  fits-primary (g.Primary.top_constant e n) le = g.Primary.top_constant e n
  fits-primary (g.Primary.bare_yield e o a) le = g.Primary.bare_yield e o a
  fits-primary (g.Primary.called_yield {g = t} e o h b) le = g.Primary.called_yield e o (fits-in_brackets source k R T F h (omega (arith, (no_block t b).0, (no_block t b).1))) b
  fits-primary (g.Primary.super_alone e o a h) le = g.Primary.super_alone e o a (fits-call_block source k R T F h (omega arith))
  fits-primary (g.Primary.called_super e o h i) le = g.Primary.called_super e o (fits-in_brackets source k R T F h (omega (arith, call_block_depth source R i))) (fits-call_block source k R T F i (omega arith))
  fits-primary (g.Primary.if_form e c t h i l) le = g.Primary.if_form e (F.expr c (omega arith)) t (F.stmts h (omega arith)) (F.else_branches i (omega arith)) l
  fits-primary (g.Primary.unless_form {e = b} e c t h i l) le = g.Primary.unless_form e (F.expr c (omega arith)) t (F.stmts h (omega arith)) (F.else_branches i (omega (arith, or_empty_depth b))) l
  fits-primary (g.Primary.while_form e c t h l) le = g.Primary.while_form e (F.expr c (omega arith)) t (F.stmts h (omega arith)) l
  fits-primary (g.Primary.until_form e c t h l) le = g.Primary.until_form e (F.expr c (omega arith)) t (F.stmts h (omega arith)) l
  fits-primary (g.Primary.begin_form e h l) le = g.Primary.begin_form e (fits-body source k R T F h le) l
  fits-primary (g.Primary.case_form e c n h i l) le = g.Primary.case_form e (F.expr c (omega arith)) n (fits-when_list source k R T F h (omega arith)) (fits-else source k R T F i (omega arith)) l
  fits-primary (g.Primary.case_of_tests e n h i l) le = g.Primary.case_of_tests e n (fits-when_list source k R T F h (omega arith)) (fits-else source k R T F i (omega arith)) l
  fits-primary (g.Primary.method_form e o n p h l) le = g.Primary.method_form e (on_self o) n (fits-parameters source k R T F p (omega arith)) (fits-body source k R T F h (omega arith)) l
    where
      on_self : {v r : Toks} {b : Bool} → g.OnSelf source R v b r → g.OnSelf source T v b r
      on_self (g.OnSelf.on_self x c) = g.OnSelf.on_self x c
      on_self (g.OnSelf.plain x) = g.OnSelf.plain x
  fits-primary (g.Primary.class_form e n c m h l) le = g.Primary.class_form e n (fits-superclass source k R T F c (omega arith)) m (fits-body source k R T F h (omega arith)) l
  fits-primary (g.Primary.module_form e n m h l) le = g.Primary.module_form e n m (fits-body source k R T F h (omega arith)) l
  fits-primary (g.Primary.retry_word e) le = g.Primary.retry_word e

  fits-postfixes : {d : DoBlockOwner} {o : Toks} {a : Tree} {w r : Toks} {s z : Scope} {t : Tree} → g.Postfixes source R d o a w s t r z → depth t ≤ k → g.Postfixes source T d o a w s t r z
  fits-postfixes (g.Postfixes.called {k = safe} {a = a} {m = m} {g = p} {b = b} e n f i h j) le = g.Postfixes.called e n f i (fits-call_items source k R T F h (omega (arith, postfixes_depth source R j, call_depth safe a p m b))) (fits-postfixes j le)
  fits-postfixes (g.Postfixes.constant e n j) le = g.Postfixes.constant e n (fits-postfixes j le)
  fits-postfixes (g.Postfixes.index e n h c f j) le = g.Postfixes.index e n (fits-items source k R T F h (omega (arith, postfixes_depth source R j))) c f (fits-postfixes j le)
  fits-postfixes g.Postfixes.end le = g.Postfixes.end

  pub fits-postfix : {d : DoBlockOwner} {w r : Toks} {s z : Scope} {t : Tree} → g.Postfix source R d w s t r z → depth t ≤ k → g.Postfix source T d w s t r z
  fits-postfix (g.Postfix.postfix h i) le = g.Postfix.postfix (fits-primary h (omega (arith, postfixes_depth source R i))) (fits-postfixes i le)
