-- Sequences nest in what is derived: lists, bodies and operands.
use Rattle.std.proofs.Common.{◌≡◌, refl, ℕ, suc, ◌≤◌, Bool, true, false, List, [], ◌∷◌, ◌++◌, if◌then◌else◌, ◌&&◌, codes, Option}
use Rattle.ruby_lexer.specs.Bytes.{Bytes, same}
use Rattle.ruby_lexer.specs.Pieces.{Parts, Toks, keyword, mark}
use Rattle.ruby_tree.specs.Tree.{SourcePosition, Goal, Tree, at, bare_raise, send, constant_path, rescue, ensure, rescue_sequence, ensure_sequence, class, body, Trees, no_more, Pairs, Pieces, Other, without, with, Whens, Rescues, Params, no_param}
use Rattle.ruby_tree.specs.Rules.{Scope, DoBlockOwner, next, place_at, position, position_with, word, is_mark, is_word}
use Rattle.ruby_tree.specs.Build.{Given, or_empty, call_form, bare_form, path_with, symbol_block, texts_at, symbols_at}
use Rattle.ruby_tree.specs.Grammar.{Rels, Trailing, Then, LoopStart, Newlines, MethodName, BlockParams, Bars, ExceptionName, MoreTargets, Targets, OnSelf, Several, Element, Elements, Pair, PairList, Passed, Items, InBrackets, CommandItems, Classes, Clauses, Else, Rescued, Body, DoBlock, Block, CallBlock, CommandBlock, CallItems, TextParts, ElseBranches, WhenList, MethodParams, ParameterList, Parameters, Superclass, Literal, Primary, Postfixes, Postfix}
use Rattle.ruby_tree.specs.Grammar as g
use Rattle.reference_parser.proofs.Tests.{mark_kind, word_kind}
use Rattle.ruby_meaning.specs.Sequences.{places, trees_places, other_places, clauses_places, params_places}
use Rattle.tree_laws.specs.Nesting.{Nested, TreesNested, OtherNested, BlockNested, ClausesNested, ParamsNested, Begins}
use Rattle.tree_laws.proofs.Ascending.{PartsAscending, parts_lower}
use Rattle.tree_laws.proofs.Spans.{Span, TreeSpan, TreesSpan, OtherSpan, BlockSpan, still, turned, wait, earlier, ◌⊕◌, ◌⊗◌, stay, begun, begun_before, passed, Fits, fits_lower, past, Spent, spent, spent_literal, got, GotTree, GotTrees, GotOther, GotBlock, GotBody, GotPairs, GotWhens, GotClauses, GotParams, GotTwo, got_two, GotGiven, got_given, GotText}

abbrev GotFor : ℕ → Given → ℕ → Toks → Type 0
GotFor top c l r = GotGiven top c.trees c.value c.block l r

pub record Spanning (R : Rels) : Type 0 where
  pub stmts : {d : DoBlockOwner} {w r : Toks} {s z : Scope} {t : Tree} {top l : ℕ} → R.stmts d w s t r z → Fits top l w → GotTree top t l r
  pub expr : {d : DoBlockOwner} {w r : Toks} {s z : Scope} {t : Tree} {top l : ℕ} → R.expr d w s t r z → Fits top l w → GotTree top t l r
  pub test : {d : DoBlockOwner} {w r : Toks} {s z : Scope} {t : Tree} {top l : ℕ} → R.test d w s t r z → Fits top l w → GotTree top t l r
  pub assigned_value : {d : DoBlockOwner} {w r : Toks} {s z : Scope} {t : Tree} {top l : ℕ} → R.assigned_value d w s t r z → Fits top l w → GotTree top t l r
  pub arg : {d : DoBlockOwner} {w r : Toks} {s z : Scope} {t : Tree} {top l : ℕ} → R.arg d w s t r z → Fits top l w → GotTree top t l r
  pub minus : {d : DoBlockOwner} {w r : Toks} {s z : Scope} {t : Tree} {top l : ℕ} → R.minus d w s t r z → Fits top l w → GotTree top t l r
  pub power : {d : DoBlockOwner} {w r : Toks} {s z : Scope} {t : Tree} {top l : ℕ} → R.power d w s t r z → Fits top l w → GotTree top t l r
  pub unary_operand : {d : DoBlockOwner} {w r : Toks} {s z : Scope} {t : Tree} {top l : ℕ} → R.unary_operand d w s t r z → Fits top l w → GotTree top t l r
  pub else_branches : {d : DoBlockOwner} {w r : Toks} {s z : Scope} {v : Other} {top l : ℕ} → R.else_branches d w s v r z → Fits top l w → GotOther top v l r

-- What the grammar makes of its parts.
pub or_empty_spans : {l m : ℕ} (v : Other) → OtherSpan v l m → TreeSpan (or_empty v) l m
or_empty_spans without h = h
or_empty_spans (with t) h = h

pub call_spans : (k : Bool) (a : Tree) (c : Given) (m : Bytes) (b : Other) (o : SourcePosition) {l n : ℕ} →
    Span (Nested a × (TreesNested c.trees × (OtherNested c.value × BlockNested b))) (places a ++ (trees_places c.trees ++ (other_places c.value ++ other_places b))) l n →
    TreeSpan (at o (call_form k a c m b)) l n
call_spans false a c m b o h = h
call_spans true a c m b o h = h

bare_by : (b : Bool) (o : SourcePosition) (x : Bytes) {l : ℕ} → TreeSpan (at o (if b then bare_raise else send without no_more [] without x true without)) l l
bare_by true o x = still
bare_by false o x = still ⊕ (still ⊕ (still ⊕ still))

bare_spans : (o : SourcePosition) (s : Scope) (x : Bytes) {l : ℕ} → TreeSpan (at o (bare_form s x)) l l
bare_spans o s x = bare_by (s.clause && same x (codes "raise")) o x

longer_spans : (w : Toks) (a : Tree) (x : Bytes) {l m : ℕ} → TreeSpan a l m → TreeSpan (path_with w a x) l m
longer_spans w (at o (constant_path v b xs)) x h = h
longer_spans w a x h = h

texts_spans : (o : SourcePosition) (fs : List Bytes) {l : ℕ} → TreesSpan (texts_at o fs) l l
texts_spans o [] = still
texts_spans o (f ∷ fs) = still ⊕ texts_spans o fs

symbols_spans : (o : SourcePosition) (fs : List Bytes) {l : ℕ} → TreesSpan (symbols_at o fs) l l
symbols_spans o [] = still
symbols_spans o (f ∷ fs) = still ⊕ symbols_spans o fs

-- statements with rescue clauses, which begin at q, and the part behind `else`
rescue_spans : (o : SourcePosition) (q : Toks) (t : Tree) (rs : Rescues) (v : Other) {l j m n : ℕ} → TreeSpan t l j → j ≤ place_at q → Span (ClausesNested rs) (clauses_places rs) (suc (place_at q)) m → OtherSpan v m n →
    TreeSpan (at o (rescue t v (at (position q) (rescue_sequence rs)))) l n
rescue_spans o q t rs v a low c n = turned (λ k. (k, (refl, passed low a))) (a ⊕ (begun low c ⊗ n))

-- statements and an ensure clause, which begins at q
ensure_spans : (o : SourcePosition) (q : Toks) (t u : Tree) {l j m : ℕ} → TreeSpan t l j → j ≤ place_at q → TreeSpan u (suc (place_at q)) m → TreeSpan (at o (ensure t (at (position q) (ensure_sequence u)))) l m
ensure_spans o q t u a low n = turned (λ k. (k, (refl, passed low a))) (a ⊕ begun low n)

-- a body that begins with the first token of w
abbrev BodySpan : Toks → Params → Tree → ℕ → ℕ → Type 0
BodySpan w ps t l m = Span (Nested (at (position w) (body ps t)) × Begins (at (position w) (body ps t))) (places (at (position w) (body ps t))) l m

body_spans : (w : Toks) (ps : Params) (t : Tree) {l j m : ℕ} → l ≤ place_at w → Span (ParamsNested ps) (params_places ps) (suc (place_at w)) j → TreeSpan t j m → BodySpan w ps t l m
body_spans w ps t low a b = turned (λ k. (k, refl)) (begun low (a ⊕ b))

-- a class that begins with the first token of w, and its superclass
class_spans : (w : Toks) (v : Other) (x : Bytes) (t : Tree) {l j m : ℕ} → l ≤ place_at w → OtherSpan v (suc (place_at w)) j → TreeSpan t j m → TreeSpan (at (position w) (class v x (at (position w) (body no_param t)))) l m
class_spans w v x t low a b = turned (λ k. (k.0, (k.1, refl))) (begun_before low a (still ⊕ b))

-- the block of a symbol, in which no sequence begins
symbol_nested : (w : Toks) (m : Bytes) → BlockNested (with (symbol_block w m))
symbol_nested w m = (((tt, ((tt, (tt, (tt, tt))), tt)), tt), refl)

module _ (source : Bytes) where
  pub word_spent : {top l : ℕ} (f : Bytes) (w : Toks) → is_word source f w ≡ true → Fits top l w → Spent top l w
  word_spent f w h e = spent w keyword (word_kind source f w h) e

  pub mark_spent : {top l : ℕ} (f : Bytes) (w : Toks) → is_mark source f w ≡ true → Fits top l w → Spent top l w
  mark_spent f w h e = spent w mark (mark_kind source f w h) e

  pub span_trailing : {w r : Toks} {top l : ℕ} → Trailing source w r → Fits top l w → Fits top l r
  span_trailing (g.Trailing.comma h) e = past e
  span_trailing (g.Trailing.no_comma) e = e

  pub span_then : {w r : Toks} {top l : ℕ} → Then source w r → Fits top l w → Fits top l r
  span_then (g.Then.line h i) e = past e
  span_then (g.Then.written h) e = past e
  span_then (g.Then.line_and_written h i) e = past (past e)

  pub span_loop_start : {w r : Toks} {top l : ℕ} → LoopStart source w r → Fits top l w → Fits top l r
  span_loop_start (g.LoopStart.line h) e = past e
  span_loop_start (g.LoopStart.written h) e = past e

  pub span_newlines : {w r : Toks} {top l : ℕ} → Newlines source w r → Fits top l w → Fits top l r
  span_newlines (g.Newlines.skipped h i) e = span_newlines i (past e)
  span_newlines (g.Newlines.passed h) e = e

  pub span_method_name : {defines : Bool} {m : Bytes} {w r : Toks} {top l : ℕ} → MethodName source defines w m r → Fits top l w → Fits top l r
  span_method_name (g.MethodName.name h i) e = past e
  span_method_name (g.MethodName.setter i h f t) e = past (past e)
  span_method_name (g.MethodName.constant h) e = past e
  span_method_name (g.MethodName.operator h) e = past e
  span_method_name (g.MethodName.index h i t f) e = past (past e)
  span_method_name (g.MethodName.index_setter h i t f u) e = past (past (past e))

  pub span_block_params : {s z : Scope} {ps : Params} {w r : Toks} {top l : ℕ} → BlockParams source w s ps r z → Fits top l w → GotParams top ps l r
  span_block_params (g.BlockParams.last h) e = got still (past e)
  span_block_params (g.BlockParams.another h c i) e = let b = span_block_params i (past (past e)) in got b.part b.rest
  span_block_params (g.BlockParams.rest h i) e = got still (past (past e))

  pub span_bars : {s z : Scope} {ps : Params} {w r : Toks} {top l : ℕ} → Bars source w s ps r z → Fits top l w → GotParams top ps l r
  span_bars (g.Bars.missing h) e = got still e
  span_bars (g.Bars.empty h i) e = got still (past (past e))
  span_bars (g.Bars.given h i c) e = let b = span_block_params i (past e) in got b.part (past b.rest)

  pub span_exception_name : {s z : Scope} {x : Option Bytes} {w r : Toks} {top l : ℕ} → ExceptionName source w s x r z → Fits top l w → Fits top l r
  span_exception_name (g.ExceptionName.missing h) e = e
  span_exception_name (g.ExceptionName.given h i) e = past (past e)

  pub span_more_targets : {s z : Scope} {gs : List Goal} {w r : Toks} {top l : ℕ} → MoreTargets source w s gs r z → Fits top l w → Fits top l r
  span_more_targets (g.MoreTargets.last h) e = past e
  span_more_targets (g.MoreTargets.another h c i) e = span_more_targets i (past (past e))

  pub span_targets : {s z : Scope} {gs : List Goal} {w r : Toks} {top l : ℕ} → Targets source w s gs r z → Fits top l w → Fits top l r
  span_targets (g.Targets.several h c i) e = span_more_targets i (past (past e))

  module _ (R : Rels) (S : Spanning R) where
    pub span_several : {d : DoBlockOwner} {s z : Scope} {ts : Trees} {w r : Toks} {top l : ℕ} → Several source R d w s ts r z → Fits top l w → GotTrees top ts l r
    span_several (g.Several.last h i) e = let a = S.arg h e in got (a.part ⊕ still) a.rest
    span_several (g.Several.another h i j) e = let a = S.arg h e in let b = span_several j (past a.rest) in got (a.part ⊕ b.part) b.rest

    pub span_element : {d : DoBlockOwner} {s z : Scope} {k : Bool} {t : Tree} {w r : Toks} {top l : ℕ} → Element source R d k w s t r z → Fits top l w → GotTree top t l r
    span_element (g.Element.plain h) e = S.arg h e
    span_element (g.Element.spread h i) e = S.arg i (past e)

    pub span_elements : {d : DoBlockOwner} {s z : Scope} {k : ℕ} {ts : Trees} {ks : List ℕ} {w r : Toks} {top l : ℕ} → Elements source R d k w s ts ks r z → Fits top l w → GotTrees top ts l r
    span_elements (g.Elements.last h) e = let a = span_element h e in got (a.part ⊕ still) a.rest
    span_elements (g.Elements.another h i j) e = let a = span_element h e in let b = span_elements j (past a.rest) in got (a.part ⊕ b.part) b.rest

    pub span_pair : {d : DoBlockOwner} {s z : Scope} {k x : Tree} {w r : Toks} {top l : ℕ} → Pair source R d w s k x r z → Fits top l w → GotTwo top (Nested k) (Nested x) (places k) (places x) l r
    span_pair (g.Pair.label h t i) e = let a = S.arg i (past e) in got_two still a.part a.rest
    span_pair (g.Pair.arrow h i j) e = let a = S.arg h e in let b = S.arg j (past a.rest) in got_two a.part b.part b.rest

    pub span_pair_list : {d : DoBlockOwner} {s z : Scope} {ps : Pairs} {w r : Toks} {top l : ℕ} → PairList source R d w s ps r z → Fits top l w → GotPairs top ps l r
    span_pair_list (g.PairList.last h) e = let a = span_pair h e in got (a.first ⊕ (a.second ⊕ still)) a.rest
    span_pair_list (g.PairList.another h i j) e = let a = span_pair h e in let b = span_pair_list j (past a.rest) in got (a.first ⊕ (a.second ⊕ b.part)) b.rest

    pub span_passed : {d : DoBlockOwner} {s z : Scope} {x b : Other} {w r : Toks} {top l : ℕ} → Passed source R d w s x b r z → Fits top l w → GotTwo top (OtherNested x) (BlockNested b) (other_places x) (other_places b) l r
    span_passed (g.Passed.value h i j) e = let a = S.arg i (past e) in got_two a.part still a.rest
    span_passed (g.Passed.named {w = w} {m = m} h i j) e =
        let n = mark_spent (codes "&") w h e in let a = S.arg i n.rest in got_two still (turned (λ k. symbol_nested w m) (begun n.low (wait a.part))) a.rest

    pub span_items : {d : DoBlockOwner} {s z : Scope} {k : ℕ} {c : Given} {w r : Toks} {top l : ℕ} → Items source R d k w s c r z → Fits top l w → GotFor top c l r
    span_items (g.Items.element h i) e = let a = span_element h e in got_given (a.part ⊕ still) still still a.rest
    span_items (g.Items.another h i j) e = let a = span_element h e in let b = span_items j (past a.rest) in got_given (a.part ⊕ b.trees) b.value b.block b.rest
    span_items (g.Items.pairs h) e = let a = span_pair_list h e in got_given (a.part ⊕ still) still still a.rest
    span_items (g.Items.pairs_and_passed h i j) e = let a = span_pair_list h e in let b = span_passed j (past a.rest) in got_given (a.part ⊕ still) b.first b.second b.rest
    span_items (g.Items.passed h) e = let a = span_passed h e in got_given still a.first a.second a.rest

    pub span_in_brackets : {s z : Scope} {c : Given} {w r : Toks} {top l : ℕ} → InBrackets source R w s c r z → Fits top l w → GotFor top c l r
    span_in_brackets (g.InBrackets.empty h i) e = got_given still still still (past (past e))
    span_in_brackets (g.InBrackets.full h i j k) e = let a = span_items i (past e) in got_given a.trees a.value a.block (past (span_trailing j a.rest))

    pub span_command_items : {d : DoBlockOwner} {s z : Scope} {c : Given} {w r : Toks} {top l : ℕ} → CommandItems source R d w s c r z → Fits top l w → GotFor top c l r
    span_command_items (g.CommandItems.items h i) e = span_items h e

    pub span_classes : {d : DoBlockOwner} {s z : Scope} {ts : Trees} {w r : Toks} {top l : ℕ} → Classes source R d w s ts r z → Fits top l w → GotTrees top ts l r
    span_classes (g.Classes.missing h) e = got still e
    span_classes (g.Classes.given h) e = span_several h e

    clauses_word : {d : DoBlockOwner} {s z : Scope} {rs : Rescues} {w r : Toks} → Clauses source R d w s rs r z → is_word source (codes "rescue") w ≡ true
    clauses_word (g.Clauses.last h c x i j k) = h
    clauses_word (g.Clauses.another h c x i j k) = h

    -- behind the word that begins the clauses
    span_clauses : {d : DoBlockOwner} {s z : Scope} {rs : Rescues} {w r : Toks} {top l : ℕ} → Clauses source R d w s rs r z → Fits top l (next w) → GotClauses top rs l r
    span_clauses (g.Clauses.last h c x i j k) e =
        let a = span_classes c e in let t = S.stmts j (span_then i (span_exception_name x a.rest)) in got (a.part ⊕ (t.part ⊕ still)) t.rest
    span_clauses (g.Clauses.another h c x i j k) e =
        let a = span_classes c e in let t = S.stmts j (span_then i (span_exception_name x a.rest)) in let n = span_clauses k (past t.rest) in got (a.part ⊕ (t.part ⊕ n.part)) n.rest

    pub span_else : {d : DoBlockOwner} {s z : Scope} {v : Other} {w r : Toks} {top l : ℕ} → Else source R d w s v r z → Fits top l w → GotOther top v l r
    span_else (g.Else.missing h) e = got still e
    span_else (g.Else.given h i) e = let a = S.stmts i (past e) in got a.part a.rest

    pub span_rescued : {o : SourcePosition} {d : DoBlockOwner} {s z : Scope} {t : Tree} {w r : Toks} {top l : ℕ} → Rescued source R d o w s t r z → Fits top l w → GotTree top t l r
    span_rescued (g.Rescued.plain h i) e = S.stmts h e
    span_rescued {o = o} (g.Rescued.clauses {q = q} {t = u} {rs = rs} {e = v} h i j) e =
        let a = S.stmts h e in
        let b = word_spent (codes "rescue") q (clauses_word i) a.rest in
        let c = span_clauses i b.rest in
        let n = span_else j c.rest in
        got (rescue_spans o q u rs v a.part b.low c.part n.part) n.rest

    pub span_body : {o : SourcePosition} {d : DoBlockOwner} {s z : Scope} {t : Tree} {w r : Toks} {top l : ℕ} → Body source R d o w s t r z → Fits top l w → GotTree top t l r
    span_body (g.Body.plain h i) e = span_rescued h e
    span_body {o = o} (g.Body.ensured {q = q} {t = u} {e = v} h i j) e =
        let a = span_rescued h e in
        let b = word_spent (codes "ensure") q i a.rest in
        let n = S.stmts j b.rest in
        got (ensure_spans o q u v a.part b.low n.part) n.rest

    pub span_do_block : {s z : Scope} {t : Tree} {w r : Toks} {top l : ℕ} → DoBlock source R w s t r z → Fits top l w → GotBody top t l r
    span_do_block (g.DoBlock.block {w = w} {ps = qs} {t = u} h b i c) e =
        let n = word_spent (codes "do") w h e in
        let ps = span_bars b n.rest in
        let a = span_body i ps.rest in
        got (body_spans w qs u n.low ps.part a.part) (past a.rest)

    pub span_block : {d : DoBlockOwner} {s z : Scope} {t : Tree} {w r : Toks} {top l : ℕ} → Block source R d w s t r z → Fits top l w → GotBody top t l r
    span_block (g.Block.braces {w = w} {ps = qs} {t = u} h b i c) e =
        let n = mark_spent (codes "{") w h e in
        let ps = span_bars b n.rest in
        let a = S.stmts i ps.rest in
        got (body_spans w qs u n.low ps.part a.part) (past a.rest)
    span_block (g.Block.with_do h i) e = span_do_block i e

    pub span_call_block : {c : Given} {d : DoBlockOwner} {s z : Scope} {b : Other} {w r : Toks} {top k l : ℕ} → CallBlock source R d c w s b r z → BlockSpan c.block k l → Fits top l w → GotBlock top b k r
    span_call_block (g.CallBlock.missing h) v e = got v e
    span_call_block (g.CallBlock.given h i) v e = let a = span_block i e in got (earlier v.on a.part) a.rest

    pub span_command_block : {c : Given} {d : DoBlockOwner} {s z : Scope} {b : Other} {w r : Toks} {top k l : ℕ} → CommandBlock source R d c w s b r z → BlockSpan c.block k l → Fits top l w → GotBlock top b k r
    span_command_block (g.CommandBlock.missing h) v e = got v e
    span_command_block (g.CommandBlock.given h i j) v e = let a = span_do_block j e in got (earlier v.on a.part) a.rest

    pub span_call_items : {d : DoBlockOwner} {s z : Scope} {c : Given} {b : Other} {w r : Toks} {top l : ℕ} → CallItems source R d w s c b r z → Fits top l w → GotGiven top c.trees c.value b l r
    span_call_items (g.CallItems.bare h i) e = let b = span_call_block i still e in got_given still still b.part b.rest
    span_call_items (g.CallItems.brackets h i j) e = let a = span_in_brackets i e in let b = span_call_block j a.block a.rest in got_given a.trees a.value b.part b.rest

    pub span_text : {ps : Parts} {s z : Scope} {qs : Pieces} {l top : ℕ} → TextParts source R ps s qs z → PartsAscending l top ps → GotText qs l top
    span_text {l = l} (g.TextParts.ends) e = record { end = l; part = still; less = e }
    span_text (g.TextParts.plain h) e = let a = span_text h e in record { end = a.end; part = a.part; less = a.less }
    span_text {l = l} {top = high} (g.TextParts.code {ts = ts} {ps = others} h i) e =
        let a = S.stmts {top = e.0} {l = l} h (record { holds = e.1.0 }) in
        let b = span_text i (parts_lower a.end e.0 high others a.rest.holds e.1.1) in
        record { end = b.end; part = a.part ⊕ b.part; less = b.less }

    pub span_elses : {d : DoBlockOwner} {s z : Scope} {v : Other} {w r : Toks} {top l : ℕ} → ElseBranches source R d w s v r z → Fits top l w → GotOther top v l r
    span_elses (g.ElseBranches.elsif h i j k n) e =
        let c = S.expr i (past e) in let t = S.stmts k (span_then j c.rest) in let v = S.else_branches n t.rest in got (c.part ⊕ (t.part ⊕ v.part)) v.rest
    span_elses (g.ElseBranches.other h i) e = span_else i e

    pub span_whens : {d : DoBlockOwner} {s z : Scope} {ws : Whens} {w r : Toks} {top l : ℕ} → WhenList source R d w s ws r z → Fits top l w → GotWhens top ws l r
    span_whens (g.WhenList.last h i j k n) e = let a = span_several i (past e) in let t = S.stmts k (span_then j a.rest) in got (a.part ⊕ (t.part ⊕ still)) t.rest
    span_whens (g.WhenList.another h i j k n) e =
        let a = span_several i (past e) in let t = S.stmts k (span_then j a.rest) in let v = span_whens n t.rest in got (a.part ⊕ (t.part ⊕ v.part)) v.rest

    pub span_method_params : {d : DoBlockOwner} {k : ℕ} {s z : Scope} {ps : Params} {w r : Toks} {top l : ℕ} → MethodParams source R d k w s ps r z → Fits top l w → GotParams top ps l r
    span_method_params (g.MethodParams.named h i) e = got still (past e)
    span_method_params (g.MethodParams.named_more h i j) e = let b = span_method_params j (past (past e)) in got b.part b.rest
    span_method_params (g.MethodParams.default n h i j) e = let a = S.arg j (past (past e)) in got (a.part ⊕ still) a.rest
    span_method_params (g.MethodParams.default_more n h i j c k) e = let a = S.arg j (past (past e)) in let b = span_method_params k (past a.rest) in got (a.part ⊕ b.part) b.rest
    span_method_params (g.MethodParams.left n h i) e = got still (past (past e))
    span_method_params (g.MethodParams.left_more n h i c j) e = let b = span_method_params j (past (past (past e))) in got b.part b.rest
    span_method_params (g.MethodParams.block h i) e = got still (past (past e))

    pub span_parameter_list : {d : DoBlockOwner} {s z : Scope} {ps : Params} {w r : Toks} {top l : ℕ} → ParameterList source R d w s ps r z → Fits top l w → GotParams top ps l r
    span_parameter_list (g.ParameterList.empty h i) e = got still (past (past e))
    span_parameter_list (g.ParameterList.brackets h i j) e = let b = span_method_params i (past e) in got b.part (past b.rest)
    span_parameter_list (g.ParameterList.no_line h) e = got still (past e)
    span_parameter_list (g.ParameterList.line h i) e = let b = span_method_params h e in got b.part (past b.rest)

    pub span_parameters : {d : DoBlockOwner} {s z : Scope} {ps : Params} {w r : Toks} {top l : ℕ} → Parameters source R d w s ps r z → Fits top l w → GotParams top ps l r
    span_parameters (g.Parameters.missing h) e = got still e
    span_parameters (g.Parameters.given h) e = span_parameter_list h e

    pub span_on_self : {k : Bool} {w r : Toks} {top l : ℕ} → OnSelf source R w k r → Fits top l w → Fits top l r
    span_on_self (g.OnSelf.on_self h i) e = past (past e)
    span_on_self (g.OnSelf.plain h) e = e

    pub span_superclass : {d : DoBlockOwner} {s z : Scope} {v : Other} {w r : Toks} {top l : ℕ} → Superclass source R d w s v r z → Fits top l w → GotOther top v l r
    span_superclass (g.Superclass.missing h) e = got still e
    span_superclass (g.Superclass.given h i) e = let a = S.arg i (past e) in got a.part a.rest

    pub span_literal : {s z : Scope} {t : Tree} {w r : Toks} {top l : ℕ} → Literal source R w s t r z → Fits top l w → GotTree top t l r
    span_literal (g.Literal.nil_word h) e = got still (past e)
    span_literal (g.Literal.true_word h) e = got still (past e)
    span_literal (g.Literal.false_word h) e = got still (past e)
    span_literal (g.Literal.file_word h) e = got still (past e)
    span_literal (g.Literal.folder_word h) e = got still (past e)
    span_literal (g.Literal.line_word h) e = got still (past e)
    span_literal (g.Literal.number h) e = got still (past e)
    span_literal (g.Literal.negative_number h i) e = got still (past (past e))
    span_literal (g.Literal.plain_text h i) e = got still (past e)
    span_literal (g.Literal.text_with_code {w = w} {ps = ps} h i j) e =
        let n = spent_literal w ps h e in let a = span_text j n.parts in got (earlier n.low a.part) (fits_lower a.less n.rest)
    span_literal (g.Literal.symbol_name h) e = got still (past e)
    span_literal (g.Literal.word_list {w = w} {fs = fs} h) e = got (texts_spans (position w) fs) (past e)
    span_literal (g.Literal.symbol_list {w = w} {fs = fs} h) e = got (symbols_spans (position w) fs) (past e)

    pub span_primary : {d : DoBlockOwner} {s z : Scope} {t : Tree} {w r : Toks} {top l : ℕ} → Primary source R d w s t r z → Fits top l w → GotTree top t l r
    span_primary (g.Primary.literal h) e = span_literal h e
    span_primary (g.Primary.empty_list h i) e = got still (past (past e))
    span_primary (g.Primary.list h i j k) e = let a = span_elements i (past e) in got a.part (past (span_trailing j a.rest))
    span_primary (g.Primary.empty_hash h i) e = got still (past (past e))
    span_primary (g.Primary.pairs h i j k) e = let a = span_pair_list i (past e) in got a.part (past (span_trailing j a.rest))
    span_primary (g.Primary.brackets h i j) e = let a = S.stmts i (past e) in got a.part (past a.rest)
    span_primary (g.Primary.self_word h) e = got still (past e)
    span_primary (g.Primary.local_name h i j k) e = got still (past e)
    span_primary (g.Primary.bare_name {w = w} {s = s} h i j k n) e = got (bare_spans (position w) s (word source w)) (past e)
    span_primary (g.Primary.name_with_block h i j k) e = let b = span_block k (past e) in got (still ⊕ (still ⊕ (still ⊕ b.part))) b.rest
    span_primary (g.Primary.called_name h i j k) e = let a = span_in_brackets j (past e) in let b = span_call_block k a.block a.rest in got (still ⊕ (a.trees ⊕ (a.value ⊕ b.part))) b.rest
    span_primary (g.Primary.instance_name h) e = got still (past e)
    span_primary (g.Primary.global_name h) e = got still (past e)
    span_primary (g.Primary.constant h i) e = got still (past e)
    span_primary (g.Primary.called_constant h i j k) e = let a = span_in_brackets j (past e) in let b = span_call_block k a.block a.rest in got (still ⊕ (a.trees ⊕ (a.value ⊕ b.part))) b.rest
    span_primary (g.Primary.top_constant h i) e = got still (past (past e))
    span_primary (g.Primary.bare_yield h i j) e = got still (past e)
    span_primary (g.Primary.called_yield h i j k) e = let a = span_in_brackets j (past e) in got (stay (stay a.trees a.value) a.block) a.rest
    span_primary (g.Primary.super_alone h i j k) e = let b = span_call_block k still (past e) in got b.part b.rest
    span_primary (g.Primary.called_super h i j k) e = let a = span_in_brackets j (past e) in let b = span_call_block k a.block a.rest in got (a.trees ⊕ (a.value ⊕ b.part)) b.rest
    span_primary (g.Primary.if_form h i j k n m) e =
        let c = S.expr i (past e) in let t = S.stmts k (span_then j c.rest) in let v = S.else_branches n t.rest in got (c.part ⊕ (t.part ⊕ v.part)) (past v.rest)
    span_primary (g.Primary.unless_form {e = other} h i j k n m) e =
        let c = S.expr i (past e) in let t = S.stmts k (span_then j c.rest) in let v = S.else_branches n t.rest in got (c.part ⊕ (t.part ⊗ or_empty_spans other v.part)) (past v.rest)
    span_primary (g.Primary.while_form h i j k n) e = let c = S.expr i (past e) in let t = S.stmts k (span_loop_start j c.rest) in got (c.part ⊗ t.part) (past t.rest)
    span_primary (g.Primary.until_form h i j k n) e = let c = S.expr i (past e) in let t = S.stmts k (span_loop_start j c.rest) in got (c.part ⊗ t.part) (past t.rest)
    span_primary (g.Primary.begin_form h i j) e = let a = span_body i (past e) in got a.part (past a.rest)
    span_primary (g.Primary.case_form h i j k n m) e =
        let a = S.expr i (past e) in let ws = span_whens k (span_newlines j a.rest) in let v = span_else n ws.rest in got (a.part ⊕ (ws.part ⊕ v.part)) (past v.rest)
    span_primary (g.Primary.case_of_tests h j k n m) e = let ws = span_whens k (span_newlines j (past e)) in let v = span_else n ws.rest in got (ws.part ⊕ v.part) (past v.rest)
    span_primary (g.Primary.method_form {w = w} {ps = qs} {t = u} h i j k n m) e =
        let b = word_spent (codes "def") w h e in
        let ps = span_parameters k (span_method_name j (span_on_self i b.rest)) in
        let a = span_body n ps.rest in
        got (body_spans w qs u b.low ps.part a.part) (past a.rest)
    span_primary (g.Primary.class_form {w = w} {c = v} {t = u} h i j k n m) e =
        let b = word_spent (codes "class") w h e in
        let s = span_superclass j (past b.rest) in
        let a = span_body n (past s.rest) in
        got (class_spans w v (word source (next w)) u b.low s.part a.part) (past a.rest)
    span_primary (g.Primary.module_form {w = w} {t = u} h i j k n) e =
        let b = word_spent (codes "module") w h e in
        let a = span_body k (past (past b.rest)) in
        got (body_spans w no_param u b.low still a.part) (past a.rest)
    span_primary (g.Primary.retry_word h) e = got still (past e)

    pub span_postfixes : {d : DoBlockOwner} {o : Toks} {s z : Scope} {x t : Tree} {w r : Toks} {top k l : ℕ} → Postfixes source R d o x w s t r z → TreeSpan x k l → Fits top l w → GotTree top t k r
    span_postfixes {o = o} {x = x} (g.Postfixes.called {k = k} {w = w} {m = m} {g = c} {b = b} h i j f n u) A e =
        let v = span_call_items n (span_method_name i (past e)) in span_postfixes u (call_spans k x c m b (position_with o (next w)) (A ⊕ (v.trees ⊕ (v.value ⊕ v.block)))) v.rest
    span_postfixes {o = o} {x = x} (g.Postfixes.constant {w = w} h i j) A e = span_postfixes j (longer_spans o x (word source (next w)) A) (past (past e))
    span_postfixes (g.Postfixes.index h i j k n u) A e = let a = span_items j (past e) in span_postfixes u (A ⊕ (a.trees ⊕ (a.value ⊕ a.block))) (past a.rest)
    span_postfixes (g.Postfixes.end) A e = got A e

    pub span_postfix : {d : DoBlockOwner} {s z : Scope} {t : Tree} {w r : Toks} {top l : ℕ} → Postfix source R d w s t r z → Fits top l w → GotTree top t l r
    span_postfix (g.Postfix.postfix h i) e = let a = span_primary h e in span_postfixes i a.part a.rest
