-- Where the line of each token is that of its place, so is the line of each node: lists, bodies and operands.
use Rattle.std.proofs.Common.{◌≡◌, ℕ, Bool, true, List, Option, codes, refl}
use Rattle.ruby_lexer.specs.Bytes.{Bytes}
use Rattle.ruby_lexer.specs.Pieces.{Parts, Toks, keyword, mark}
use Rattle.ruby_tree.specs.Tree.{SourcePosition, Goal, Tree, Trees, Pairs, Pieces, Other, Whens, Rescues, Params}
use Rattle.ruby_tree.specs.Rules.{Scope, DoBlockOwner, next, position, word, is_mark, is_word}
use Rattle.ruby_tree.specs.Build.{Given, nothing}
use Rattle.ruby_tree.specs.Grammar.{Rels, Trailing, Then, LoopStart, Newlines, MethodName, BlockParams, Bars, ExceptionName, MoreTargets, Targets, OnSelf, Several, Element, Elements, Pair, PairList, Passed, Items, InBrackets, CommandItems, Classes, Clauses, Else, Rescued, Body, DoBlock, Block, CallBlock, CommandBlock, CallItems, TextParts, ElseBranches, WhenList, MethodParams, ParameterList, Parameters, Superclass, Literal, Primary, Postfixes, Postfix}
use Rattle.ruby_tree.specs.Grammar as g
use Rattle.reference_parser.proofs.Tests.{mark_kind, word_kind}
use Rattle.reference_laws.proofs.Sited.{LinedParts, Lined, past, lined_literal, Sits, spot_sits, GoodTree, GoodTrees, GoodOther, GoodPairs, GoodPieces, GoodWhens, GoodRescues, GoodParams, GoodGiven, quiet, good_none, good_more, good_one, good_without, good_with, good_no_pair, good_pair, good_no_piece, good_plain, good_code, good_no_when, good_when, good_no_clause, good_clause, good_no_param, good_required, good_optional, good_rest, good_block, good_joined, good_array, good_hash, good_send, good_yield, good_super, good_bare_super, good_if, good_while, good_case, good_tests, good_retry, good_rescue, good_ensure, good_ensure_sequence, good_body, good_method, good_class, good_module, good_or_empty, good_call, good_bare, good_longer, good_symbol_block, good_texts, good_symbols, Got, got}

pub record Sitting (L : ℕ → ℕ) (R : Rels) : Type 0 where
  pub stmts : {d : DoBlockOwner} {w r : Toks} {s z : Scope} {t : Tree} → R.stmts d w s t r z → Lined L w → Got L (GoodTree L t) r
  pub expr : {d : DoBlockOwner} {w r : Toks} {s z : Scope} {t : Tree} → R.expr d w s t r z → Lined L w → Got L (GoodTree L t) r
  pub test : {d : DoBlockOwner} {w r : Toks} {s z : Scope} {t : Tree} → R.test d w s t r z → Lined L w → Got L (GoodTree L t) r
  pub assigned_value : {d : DoBlockOwner} {w r : Toks} {s z : Scope} {t : Tree} → R.assigned_value d w s t r z → Lined L w → Got L (GoodTree L t) r
  pub arg : {d : DoBlockOwner} {w r : Toks} {s z : Scope} {t : Tree} → R.arg d w s t r z → Lined L w → Got L (GoodTree L t) r
  pub minus : {d : DoBlockOwner} {w r : Toks} {s z : Scope} {t : Tree} → R.minus d w s t r z → Lined L w → Got L (GoodTree L t) r
  pub power : {d : DoBlockOwner} {w r : Toks} {s z : Scope} {t : Tree} → R.power d w s t r z → Lined L w → Got L (GoodTree L t) r
  pub unary_operand : {d : DoBlockOwner} {w r : Toks} {s z : Scope} {t : Tree} → R.unary_operand d w s t r z → Lined L w → Got L (GoodTree L t) r
  pub else_branches : {d : DoBlockOwner} {w r : Toks} {s z : Scope} {v : Other} → R.else_branches d w s v r z → Lined L w → Got L (GoodOther L v) r

module _ (L : ℕ → ℕ) (source : Bytes) where
  pub word_sits : (f : Bytes) (w : Toks) → is_word source f w ≡ true → Lined L w → Sits L (position w)
  word_sits f w h e = spot_sits L w keyword (word_kind source f w h) e

  mark_sits : (f : Bytes) (w : Toks) → is_mark source f w ≡ true → Lined L w → Sits L (position w)
  mark_sits f w h e = spot_sits L w mark (mark_kind source f w h) e

  pub sit_trailing : {w r : Toks} → Trailing source w r → Lined L w → Lined L r
  sit_trailing (g.Trailing.comma h) e = past L e
  sit_trailing (g.Trailing.no_comma) e = e

  pub sit_then : {w r : Toks} → Then source w r → Lined L w → Lined L r
  sit_then (g.Then.line h i) e = past L e
  sit_then (g.Then.written h) e = past L e
  sit_then (g.Then.line_and_written h i) e = past L (past L e)

  pub sit_loop_start : {w r : Toks} → LoopStart source w r → Lined L w → Lined L r
  sit_loop_start (g.LoopStart.line h) e = past L e
  sit_loop_start (g.LoopStart.written h) e = past L e

  pub sit_newlines : {w r : Toks} → Newlines source w r → Lined L w → Lined L r
  sit_newlines (g.Newlines.skipped h i) e = sit_newlines i (past L e)
  sit_newlines (g.Newlines.passed h) e = e

  pub sit_method_name : {defines : Bool} {m : Bytes} {w r : Toks} → MethodName source defines w m r → Lined L w → Lined L r
  sit_method_name (g.MethodName.name h i) e = past L e
  sit_method_name (g.MethodName.setter i h f t) e = past L (past L e)
  sit_method_name (g.MethodName.constant h) e = past L e
  sit_method_name (g.MethodName.operator h) e = past L e
  sit_method_name (g.MethodName.index h i t f) e = past L (past L e)
  sit_method_name (g.MethodName.index_setter h i t f u) e = past L (past L (past L e))

  pub sit_block_params : {s z : Scope} {ps : Params} {w r : Toks} → BlockParams source w s ps r z → Lined L w → Got L (GoodParams L ps) r
  sit_block_params (g.BlockParams.last h) e = got L (good_required L (good_no_param L)) (past L e)
  sit_block_params (g.BlockParams.another h c i) e = let b = sit_block_params i (past L (past L e)) in got L (good_required L b.part) b.rest
  sit_block_params (g.BlockParams.rest h i) e = got L (good_rest L (good_no_param L)) (past L (past L e))

  pub sit_bars : {s z : Scope} {ps : Params} {w r : Toks} → Bars source w s ps r z → Lined L w → Got L (GoodParams L ps) r
  sit_bars (g.Bars.missing h) e = got L (good_no_param L) e
  sit_bars (g.Bars.empty h i) e = got L (good_no_param L) (past L (past L e))
  sit_bars (g.Bars.given h i c) e = let b = sit_block_params i (past L e) in got L b.part (past L b.rest)

  pub sit_exception_name : {s z : Scope} {x : Option Bytes} {w r : Toks} → ExceptionName source w s x r z → Lined L w → Lined L r
  sit_exception_name (g.ExceptionName.missing h) e = e
  sit_exception_name (g.ExceptionName.given h i) e = past L (past L e)

  pub sit_more_targets : {s z : Scope} {gs : List Goal} {w r : Toks} → MoreTargets source w s gs r z → Lined L w → Lined L r
  sit_more_targets (g.MoreTargets.last h) e = past L e
  sit_more_targets (g.MoreTargets.another h c i) e = sit_more_targets i (past L (past L e))

  pub sit_targets : {s z : Scope} {gs : List Goal} {w r : Toks} → Targets source w s gs r z → Lined L w → Lined L r
  sit_targets (g.Targets.several h c i) e = sit_more_targets i (past L (past L e))

  module _ (R : Rels) (S : Sitting L R) where
    pub sit_several : {d : DoBlockOwner} {s z : Scope} {ts : Trees} {w r : Toks} → Several source R d w s ts r z → Lined L w → Got L (GoodTrees L ts) r
    sit_several (g.Several.last h i) e = let a = S.arg h e in got L (good_one L a.part) a.rest
    sit_several (g.Several.another h i j) e = let a = S.arg h e in let b = sit_several j (past L a.rest) in got L (good_more L a.part b.part) b.rest

    pub sit_element : {d : DoBlockOwner} {s z : Scope} {k : Bool} {t : Tree} {w r : Toks} → Element source R d k w s t r z → Lined L w → Got L (GoodTree L t) r
    sit_element (g.Element.plain h) e = S.arg h e
    sit_element (g.Element.spread h i) e = S.arg i (past L e)

    pub sit_elements : {d : DoBlockOwner} {s z : Scope} {k : ℕ} {ts : Trees} {ks : List ℕ} {w r : Toks} → Elements source R d k w s ts ks r z → Lined L w → Got L (GoodTrees L ts) r
    sit_elements (g.Elements.last h) e = let a = sit_element h e in got L (good_one L a.part) a.rest
    sit_elements (g.Elements.another h i j) e = let a = sit_element h e in let b = sit_elements j (past L a.rest) in got L (good_more L a.part b.part) b.rest

    pub sit_pair : {d : DoBlockOwner} {s z : Scope} {k x : Tree} {w r : Toks} → Pair source R d w s k x r z → Lined L w → Got L (GoodTree L k × GoodTree L x) r
    sit_pair (g.Pair.label h t i) e = let a = S.arg i (past L e) in got L (quiet L (λ c. refl) (λ c. (refl, tt)), a.part) a.rest
    sit_pair (g.Pair.arrow h i j) e = let a = S.arg h e in let b = S.arg j (past L a.rest) in got L (a.part, b.part) b.rest

    pub sit_pair_list : {d : DoBlockOwner} {s z : Scope} {ps : Pairs} {w r : Toks} → PairList source R d w s ps r z → Lined L w → Got L (GoodPairs L ps) r
    sit_pair_list (g.PairList.last h) e = let a = sit_pair h e in got L (good_pair L a.part.0 a.part.1 (good_no_pair L)) a.rest
    sit_pair_list (g.PairList.another h i j) e = let a = sit_pair h e in let b = sit_pair_list j (past L a.rest) in got L (good_pair L a.part.0 a.part.1 b.part) b.rest

    pub sit_passed : {d : DoBlockOwner} {s z : Scope} {x b : Other} {w r : Toks} → Passed source R d w s x b r z → Lined L w → Got L (GoodOther L x × GoodOther L b) r
    sit_passed (g.Passed.value h i j) e = let a = S.arg i (past L e) in got L (good_with L a.part, good_without L) a.rest
    sit_passed (g.Passed.named {w = w} {m = m} h i j) e = let a = S.arg i (past L e) in got L (good_without L, good_with L (good_symbol_block L w m)) a.rest

    pub sit_items : {d : DoBlockOwner} {s z : Scope} {k : ℕ} {c : Given} {w r : Toks} → Items source R d k w s c r z → Lined L w → Got L (GoodGiven L c) r
    sit_items (g.Items.element h i) e = let a = sit_element h e in got L (record { trees = good_one L a.part; value = good_without L; block = good_without L }) a.rest
    sit_items (g.Items.another h i j) e =
        let a = sit_element h e in let b = sit_items j (past L a.rest) in got L (record { trees = good_more L a.part b.part.trees; value = b.part.value; block = b.part.block }) b.rest
    sit_items (g.Items.pairs h) e = let a = sit_pair_list h e in got L (record { trees = good_one L (good_hash L a.part); value = good_without L; block = good_without L }) a.rest
    sit_items (g.Items.pairs_and_passed h i j) e =
        let a = sit_pair_list h e in let b = sit_passed j (past L a.rest) in got L (record { trees = good_one L (good_hash L a.part); value = b.part.0; block = b.part.1 }) b.rest
    sit_items (g.Items.passed h) e = let a = sit_passed h e in got L (record { trees = good_none L; value = a.part.0; block = a.part.1 }) a.rest

    good_nothing : GoodGiven L nothing
    good_nothing = record { trees = good_none L; value = good_without L; block = good_without L }

    pub sit_in_brackets : {s z : Scope} {c : Given} {w r : Toks} → InBrackets source R w s c r z → Lined L w → Got L (GoodGiven L c) r
    sit_in_brackets (g.InBrackets.empty h i) e = got L good_nothing (past L (past L e))
    sit_in_brackets (g.InBrackets.full h i j k) e = let a = sit_items i (past L e) in got L a.part (past L (sit_trailing j a.rest))

    pub sit_command_items : {d : DoBlockOwner} {s z : Scope} {c : Given} {w r : Toks} → CommandItems source R d w s c r z → Lined L w → Got L (GoodGiven L c) r
    sit_command_items (g.CommandItems.items h i) e = sit_items h e

    pub sit_classes : {d : DoBlockOwner} {s z : Scope} {ts : Trees} {w r : Toks} → Classes source R d w s ts r z → Lined L w → Got L (GoodTrees L ts) r
    sit_classes (g.Classes.missing h) e = got L (good_none L) e
    sit_classes (g.Classes.given h) e = sit_several h e

    pub sit_clauses : {d : DoBlockOwner} {s z : Scope} {rs : Rescues} {w r : Toks} → Clauses source R d w s rs r z → Lined L w → Got L (GoodRescues L rs) r
    sit_clauses (g.Clauses.last h c x i j k) e =
        let a = sit_classes c (past L e) in let t = S.stmts j (sit_then i (sit_exception_name x a.rest)) in got L (good_clause L a.part t.part (good_no_clause L)) t.rest
    sit_clauses (g.Clauses.another h c x i j k) e =
        let a = sit_classes c (past L e) in let t = S.stmts j (sit_then i (sit_exception_name x a.rest)) in let n = sit_clauses k t.rest in got L (good_clause L a.part t.part n.part) n.rest

    pub sit_else : {d : DoBlockOwner} {s z : Scope} {v : Other} {w r : Toks} → Else source R d w s v r z → Lined L w → Got L (GoodOther L v) r
    sit_else (g.Else.missing h) e = got L (good_without L) e
    sit_else (g.Else.given h i) e = let a = S.stmts i (past L e) in got L (good_with L a.part) a.rest

    pub sit_rescued : {o : SourcePosition} {d : DoBlockOwner} {s z : Scope} {t : Tree} {w r : Toks} → Rescued source R d o w s t r z → Lined L w → Got L (GoodTree L t) r
    sit_rescued (g.Rescued.plain h i) e = S.stmts h e
    sit_rescued (g.Rescued.clauses h i j) e =
        let a = S.stmts h e in let c = sit_clauses i a.rest in let n = sit_else j c.rest in got L (good_rescue L a.part n.part c.part) n.rest

    pub sit_body : {o : SourcePosition} {d : DoBlockOwner} {s z : Scope} {t : Tree} {w r : Toks} → Body source R d o w s t r z → Lined L w → Got L (GoodTree L t) r
    sit_body (g.Body.plain h i) e = sit_rescued h e
    sit_body (g.Body.ensured h i j) e = let a = sit_rescued h e in let n = S.stmts j (past L a.rest) in got L (good_ensure L a.part (good_ensure_sequence L n.part)) n.rest

    pub sit_do_block : {s z : Scope} {t : Tree} {w r : Toks} → DoBlock source R w s t r z → Lined L w → Got L (GoodTree L t) r
    sit_do_block (g.DoBlock.block h p i c) e =
        let ps = sit_bars p (past L e) in let a = sit_body i ps.rest in got L (good_body L (word_sits (codes "do") _ h e) ps.part a.part) (past L a.rest)

    pub sit_block : {d : DoBlockOwner} {s z : Scope} {t : Tree} {w r : Toks} → Block source R d w s t r z → Lined L w → Got L (GoodTree L t) r
    sit_block (g.Block.braces h p i c) e =
        let ps = sit_bars p (past L e) in let a = S.stmts i ps.rest in got L (good_body L (mark_sits (codes "{") _ h e) ps.part a.part) (past L a.rest)
    sit_block (g.Block.with_do h i) e = sit_do_block i e

    pub sit_call_block : {c : Given} {d : DoBlockOwner} {s z : Scope} {b : Other} {w r : Toks} → CallBlock source R d c w s b r z → GoodOther L c.block → Lined L w → Got L (GoodOther L b) r
    sit_call_block (g.CallBlock.missing h) v e = got L v e
    sit_call_block (g.CallBlock.given h i) v e = let a = sit_block i e in got L (good_with L a.part) a.rest

    pub sit_command_block : {c : Given} {d : DoBlockOwner} {s z : Scope} {b : Other} {w r : Toks} → CommandBlock source R d c w s b r z → GoodOther L c.block → Lined L w → Got L (GoodOther L b) r
    sit_command_block (g.CommandBlock.missing h) v e = got L v e
    sit_command_block (g.CommandBlock.given h i j) v e = let a = sit_do_block j e in got L (good_with L a.part) a.rest

    pub sit_call_items : {d : DoBlockOwner} {s z : Scope} {c : Given} {b : Other} {w r : Toks} → CallItems source R d w s c b r z → Lined L w → Got L (GoodGiven L c × GoodOther L b) r
    sit_call_items (g.CallItems.bare h i) e = let b = sit_call_block i (good_without L) e in got L (good_nothing, b.part) b.rest
    sit_call_items (g.CallItems.brackets h i j) e = let a = sit_in_brackets i e in let b = sit_call_block j a.part.block a.rest in got L (a.part, b.part) b.rest

    pub sit_text : {ps : Parts} {s z : Scope} {qs : Pieces} → TextParts source R ps s qs z → LinedParts L ps → GoodPieces L qs
    sit_text (g.TextParts.ends) e = good_no_piece L
    sit_text (g.TextParts.plain h) e = good_plain L (sit_text h e)
    sit_text (g.TextParts.code h i) e = let a = S.stmts h (record { holds = e.0 }) in good_code L a.part (sit_text i e.1)

    pub sit_elses : {d : DoBlockOwner} {s z : Scope} {v : Other} {w r : Toks} → ElseBranches source R d w s v r z → Lined L w → Got L (GoodOther L v) r
    sit_elses (g.ElseBranches.elsif h i j k l) e =
        let c = S.expr i (past L e) in let t = S.stmts k (sit_then j c.rest) in let n = S.else_branches l t.rest in got L (good_with L (good_if L c.part t.part n.part)) n.rest
    sit_elses (g.ElseBranches.other h i) e = sit_else i e

    pub sit_whens : {d : DoBlockOwner} {s z : Scope} {ws : Whens} {w r : Toks} → WhenList source R d w s ws r z → Lined L w → Got L (GoodWhens L ws) r
    sit_whens (g.WhenList.last h i j k l) e = let a = sit_several i (past L e) in let t = S.stmts k (sit_then j a.rest) in got L (good_when L a.part t.part (good_no_when L)) t.rest
    sit_whens (g.WhenList.another h i j k l) e =
        let a = sit_several i (past L e) in let t = S.stmts k (sit_then j a.rest) in let n = sit_whens l t.rest in got L (good_when L a.part t.part n.part) n.rest

    pub sit_method_params : {d : DoBlockOwner} {l : ℕ} {s z : Scope} {ps : Params} {w r : Toks} → MethodParams source R d l w s ps r z → Lined L w → Got L (GoodParams L ps) r
    sit_method_params (g.MethodParams.named h i) e = got L (good_required L (good_no_param L)) (past L e)
    sit_method_params (g.MethodParams.named_more h i j) e = let b = sit_method_params j (past L (past L e)) in got L (good_required L b.part) b.rest
    sit_method_params (g.MethodParams.default n h i j) e = let a = S.arg j (past L (past L e)) in got L (good_optional L a.part (good_no_param L)) a.rest
    sit_method_params (g.MethodParams.default_more n h i j c k) e =
        let a = S.arg j (past L (past L e)) in let b = sit_method_params k (past L a.rest) in got L (good_optional L a.part b.part) b.rest
    sit_method_params (g.MethodParams.left n h i) e = got L (good_rest L (good_no_param L)) (past L (past L e))
    sit_method_params (g.MethodParams.left_more n h i c j) e = let b = sit_method_params j (past L (past L (past L e))) in got L (good_rest L b.part) b.rest
    sit_method_params (g.MethodParams.block h i) e = got L (good_block L (good_no_param L)) (past L (past L e))

    pub sit_parameter_list : {d : DoBlockOwner} {s z : Scope} {ps : Params} {w r : Toks} → ParameterList source R d w s ps r z → Lined L w → Got L (GoodParams L ps) r
    sit_parameter_list (g.ParameterList.empty h i) e = got L (good_no_param L) (past L (past L e))
    sit_parameter_list (g.ParameterList.brackets h i j) e = let b = sit_method_params i (past L e) in got L b.part (past L b.rest)
    sit_parameter_list (g.ParameterList.no_line h) e = got L (good_no_param L) (past L e)
    sit_parameter_list (g.ParameterList.line h i) e = let b = sit_method_params h e in got L b.part (past L b.rest)

    pub sit_parameters : {d : DoBlockOwner} {s z : Scope} {ps : Params} {w r : Toks} → Parameters source R d w s ps r z → Lined L w → Got L (GoodParams L ps) r
    sit_parameters (g.Parameters.missing h) e = got L (good_no_param L) e
    sit_parameters (g.Parameters.given h) e = sit_parameter_list h e

    pub sit_on_self : {k : Bool} {w r : Toks} → OnSelf source R w k r → Lined L w → Lined L r
    sit_on_self (g.OnSelf.on_self h i) e = past L (past L e)
    sit_on_self (g.OnSelf.plain h) e = e

    pub sit_superclass : {d : DoBlockOwner} {s z : Scope} {v : Other} {w r : Toks} → Superclass source R d w s v r z → Lined L w → Got L (GoodOther L v) r
    sit_superclass (g.Superclass.missing h) e = got L (good_without L) e
    sit_superclass (g.Superclass.given h i) e = let a = S.arg i (past L e) in got L (good_with L a.part) a.rest

    pub sit_literal : {s z : Scope} {t : Tree} {w r : Toks} → Literal source R w s t r z → Lined L w → Got L (GoodTree L t) r
    sit_literal (g.Literal.nil_word h) e = got L (quiet L (λ c. refl) (λ c. (refl, tt))) (past L e)
    sit_literal (g.Literal.true_word h) e = got L (quiet L (λ c. refl) (λ c. (refl, tt))) (past L e)
    sit_literal (g.Literal.false_word h) e = got L (quiet L (λ c. refl) (λ c. (refl, tt))) (past L e)
    sit_literal (g.Literal.file_word h) e = got L (quiet L (λ c. refl) (λ c. (refl, tt))) (past L e)
    sit_literal (g.Literal.folder_word h) e = got L (quiet L (λ c. refl) (λ c. (refl, tt))) (past L e)
    sit_literal (g.Literal.line_word h) e = got L (quiet L (λ c. refl) (λ c. (refl, tt))) (past L e)
    sit_literal (g.Literal.number h) e = got L (quiet L (λ c. refl) (λ c. (refl, tt))) (past L e)
    sit_literal (g.Literal.negative_number h i) e = got L (quiet L (λ c. refl) (λ c. (refl, tt))) (past L (past L e))
    sit_literal (g.Literal.plain_text h i) e = got L (quiet L (λ c. refl) (λ c. (refl, tt))) (past L e)
    sit_literal (g.Literal.text_with_code h i j) e = got L (good_joined L (sit_text j (lined_literal L _ _ h e))) (past L e)
    sit_literal (g.Literal.symbol_name h) e = got L (quiet L (λ c. refl) (λ c. (refl, tt))) (past L e)
    sit_literal (g.Literal.word_list {w = w} {fs = fs} h) e = got L (good_array L (good_texts L (position w) fs)) (past L e)
    sit_literal (g.Literal.symbol_list {w = w} {fs = fs} h) e = got L (good_array L (good_symbols L (position w) fs)) (past L e)

    pub sit_primary : {d : DoBlockOwner} {s z : Scope} {t : Tree} {w r : Toks} → Primary source R d w s t r z → Lined L w → Got L (GoodTree L t) r
    sit_primary (g.Primary.literal h) e = sit_literal h e
    sit_primary (g.Primary.empty_list h i) e = got L (good_array L (good_none L)) (past L (past L e))
    sit_primary (g.Primary.list h i j k) e = let a = sit_elements i (past L e) in got L (good_array L a.part) (past L (sit_trailing j a.rest))
    sit_primary (g.Primary.empty_hash h i) e = got L (good_hash L (good_no_pair L)) (past L (past L e))
    sit_primary (g.Primary.pairs h i j k) e = let a = sit_pair_list i (past L e) in got L (good_hash L a.part) (past L (sit_trailing j a.rest))
    sit_primary (g.Primary.brackets h i j) e = let a = S.stmts i (past L e) in got L a.part (past L a.rest)
    sit_primary (g.Primary.self_word h) e = got L (quiet L (λ c. refl) (λ c. (refl, tt))) (past L e)
    sit_primary (g.Primary.local_name h i j k) e = got L (quiet L (λ c. refl) (λ c. (refl, tt))) (past L e)
    sit_primary (g.Primary.bare_name {w = w} {s = s} h i j k l) e = got L (good_bare L (position w) s (word source w)) (past L e)
    sit_primary (g.Primary.name_with_block h i j k) e =
        let b = sit_block k (past L e) in got L (good_send L (good_without L) (good_none L) (good_without L) (good_with L b.part)) b.rest
    sit_primary (g.Primary.called_name h i j k) e =
        let a = sit_in_brackets j (past L e) in let b = sit_call_block k a.part.block a.rest in got L (good_send L (good_without L) a.part.trees a.part.value b.part) b.rest
    sit_primary (g.Primary.instance_name h) e = got L (quiet L (λ c. refl) (λ c. (refl, tt))) (past L e)
    sit_primary (g.Primary.global_name h) e = got L (quiet L (λ c. refl) (λ c. (refl, tt))) (past L e)
    sit_primary (g.Primary.constant h i) e = got L (quiet L (λ c. refl) (λ c. (refl, tt))) (past L e)
    sit_primary (g.Primary.called_constant h i j k) e =
        let a = sit_in_brackets j (past L e) in let b = sit_call_block k a.part.block a.rest in got L (good_send L (good_without L) a.part.trees a.part.value b.part) b.rest
    sit_primary (g.Primary.top_constant h i) e = got L (quiet L (λ c. refl) (λ c. (refl, tt))) (past L (past L e))
    sit_primary (g.Primary.bare_yield h i j) e = got L (good_yield L (word_sits (codes "yield") _ h e) (good_none L)) (past L e)
    sit_primary (g.Primary.called_yield h i j k) e = let a = sit_in_brackets j (past L e) in got L (good_yield L (word_sits (codes "yield") _ h e) a.part.trees) a.rest
    sit_primary (g.Primary.super_alone h i j k) e = let b = sit_call_block k (good_without L) (past L e) in got L (good_bare_super L (word_sits (codes "super") _ h e) b.part) b.rest
    sit_primary (g.Primary.called_super h i j k) e =
        let a = sit_in_brackets j (past L e) in let b = sit_call_block k a.part.block a.rest in got L (good_super L (word_sits (codes "super") _ h e) a.part.trees a.part.value b.part) b.rest
    sit_primary (g.Primary.if_form h i j k l m) e =
        let c = S.expr i (past L e) in let t = S.stmts k (sit_then j c.rest) in let n = S.else_branches l t.rest in got L (good_if L c.part t.part n.part) (past L n.rest)
    sit_primary (g.Primary.unless_form h i j k l m) e =
        let c = S.expr i (past L e) in let t = S.stmts k (sit_then j c.rest) in let n = S.else_branches l t.rest in got L (good_if L c.part (good_or_empty L n.part) (good_with L t.part)) (past L n.rest)
    sit_primary (g.Primary.while_form h i j k l) e = let c = S.expr i (past L e) in let t = S.stmts k (sit_loop_start j c.rest) in got L (good_while L t.part c.part) (past L t.rest)
    sit_primary (g.Primary.until_form h i j k l) e = let c = S.expr i (past L e) in let t = S.stmts k (sit_loop_start j c.rest) in got L (good_while L t.part c.part) (past L t.rest)
    sit_primary (g.Primary.begin_form h i j) e = let a = sit_body i (past L e) in got L a.part (past L a.rest)
    sit_primary (g.Primary.case_form h i j k l m) e =
        let a = S.expr i (past L e) in let ws = sit_whens k (sit_newlines j a.rest) in let n = sit_else l ws.rest in got L (good_case L a.part ws.part n.part) (past L n.rest)
    sit_primary (g.Primary.case_of_tests h j k l m) e =
        let ws = sit_whens k (sit_newlines j (past L e)) in let n = sit_else l ws.rest in got L (good_tests L ws.part n.part) (past L n.rest)
    sit_primary (g.Primary.method_form h i j k l m) e =
        let ps = sit_parameters k (sit_method_name j (sit_on_self i (past L e))) in let a = sit_body l ps.rest in got L (good_method L (word_sits (codes "def") _ h e) ps.part a.part) (past L a.rest)
    sit_primary (g.Primary.class_form h i j k l m) e =
        let s = sit_superclass j (past L (past L e)) in let a = sit_body l (past L s.rest) in let o = word_sits (codes "class") _ h e in
        got L (good_class L o s.part (good_body L o (good_no_param L) a.part)) (past L a.rest)
    sit_primary (g.Primary.module_form h i j k l) e =
        let a = sit_body k (past L (past L (past L e))) in let o = word_sits (codes "module") _ h e in got L (good_module L o (good_body L o (good_no_param L) a.part)) (past L a.rest)
    sit_primary (g.Primary.retry_word h) e = got L (good_retry L (word_sits (codes "retry") _ h e)) (past L e)

    pub sit_postfixes : {d : DoBlockOwner} {o : Toks} {s z : Scope} {x t : Tree} {w r : Toks} → Postfixes source R d o x w s t r z → GoodTree L x → Lined L w → Got L (GoodTree L t) r
    sit_postfixes (g.Postfixes.called {k = k} {m = m} h i j f l p) A e =
        let c = sit_call_items l (sit_method_name i (past L e)) in sit_postfixes p (good_call L k m A c.part.0 c.part.1) c.rest
    sit_postfixes {o = o} {x = x} (g.Postfixes.constant {w = w} h i j) A e = sit_postfixes j (good_longer L o x (word source (next w)) A) (past L (past L e))
    sit_postfixes (g.Postfixes.index h i j k l p) A e =
        let a = sit_items j (past L e) in sit_postfixes p (good_send L (good_with L A) a.part.trees a.part.value a.part.block) (past L a.rest)
    sit_postfixes (g.Postfixes.end) A e = got L A e

    pub sit_postfix : {d : DoBlockOwner} {s z : Scope} {t : Tree} {w r : Toks} → Postfix source R d w s t r z → Lined L w → Got L (GoodTree L t) r
    sit_postfix (g.Postfix.postfix h i) e = let a = sit_primary h e in sit_postfixes i a.part a.rest
