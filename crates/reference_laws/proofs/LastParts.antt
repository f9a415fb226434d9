-- Where the tokens end with a newline, what is taken of them ends before it: lists, bodies and operands.
use Rattle.std.proofs.Common.{ℕ, Bool, List, Option, codes, refl}
use Rattle.ruby_lexer.specs.Bytes.{Bytes}
use Rattle.ruby_lexer.specs.Pieces.{Toks}
use Rattle.ruby_tree.specs.Tree.{SourcePosition, Goal, Tree, Trees, Pairs, Other, Whens, Rescues, Params}
use Rattle.ruby_tree.specs.Rules.{Scope, DoBlockOwner, next, method_marks}
use Rattle.ruby_tree.specs.Build.{Given}
use Rattle.ruby_tree.specs.Grammar.{Rels, Trailing, Then, LoopStart, Newlines, Dot, MethodName, BlockParams, Bars, ExceptionName, MoreTargets, Targets, OnSelf, Several, Element, Elements, Pair, PairList, Passed, Items, InBrackets, CommandItems, Classes, Clauses, Else, Rescued, Body, DoBlock, Block, CallBlock, CommandBlock, CallItems, ElseBranches, WhenList, MethodParams, ParameterList, Parameters, Superclass, Literal, Primary, Postfixes, Postfix}
use Rattle.ruby_tree.specs.Grammar as g
use Rattle.reference_laws.proofs.LastTools.{Ends, Lines, ◌▸◌, ◌▹◌, past, past_mark, past_word, past_one_of, past_goal, past_line, past_negative, Lasts}

module _ (source : Bytes) where
  pub last_trailing : {w r : Toks} → Trailing source w r → Lines w → Lines r
  last_trailing (g.Trailing.comma h) e = e ▸ past_mark source (codes ",") _ h
  last_trailing (g.Trailing.no_comma) e = e

  pub last_then : {w r : Toks} → Then source w r → Ends w → Ends r
  last_then (g.Then.line h i) e = past_line source _ h e
  last_then (g.Then.written h) e = (past_word source (codes "then") _ h e).ends
  last_then (g.Then.line_and_written h i) e = (e ▹ past_line source _ h ▹ past_word source (codes "then") _ i).ends

  pub last_loop_start : {w r : Toks} → LoopStart source w r → Ends w → Ends r
  last_loop_start (g.LoopStart.line h) e = past_line source _ h e
  last_loop_start (g.LoopStart.written h) e = (past_word source (codes "do") _ h e).ends

  pub last_newlines : {w r : Toks} → Newlines source w r → Ends w → Ends r
  last_newlines (g.Newlines.skipped h i) e = e ▹ past_line source _ h ▹ last_newlines i
  last_newlines (g.Newlines.passed h) e = e

  pub last_dot : {k : Bool} {w : Toks} → Dot source k w → Ends w → Lines (next w)
  last_dot (g.Dot.plain h) e = past_mark source (codes ".") _ h e
  last_dot (g.Dot.safe h) e = past_mark source (codes "&.") _ h e

  pub last_method_name : {defines : Bool} {m : Bytes} {w r : Toks} → MethodName source defines w m r → Ends w → Lines r
  last_method_name (g.MethodName.name h i) e = past _ _ h refl e
  last_method_name (g.MethodName.setter i h f t) e = past _ _ h refl e ▸ past_mark source (codes "=") _ f
  last_method_name (g.MethodName.constant h) e = past _ _ h refl e
  last_method_name (g.MethodName.operator h) e = past_one_of source method_marks _ h e
  last_method_name (g.MethodName.index h i t f) e = e ▹ past_mark source (codes "[") _ h ▸ past_mark source (codes "]") _ i
  last_method_name (g.MethodName.index_setter h i t f u) e = e ▹ past_mark source (codes "[") _ h ▸ past_mark source (codes "]") _ i ▸ past_mark source (codes "=") _ f

  pub last_block_params : {s z : Scope} {ps : Params} {w r : Toks} → BlockParams source w s ps r z → Ends w → Lines r
  last_block_params (g.BlockParams.last h) e = past _ _ h refl e
  last_block_params (g.BlockParams.another h c i) e = e ▹ past _ _ h refl ▸ past_mark source (codes ",") _ c ▸ last_block_params i
  last_block_params (g.BlockParams.rest h i) e = e ▹ past_mark source (codes "*") _ h ▸ past _ _ i refl

  pub last_bars : {s z : Scope} {ps : Params} {w r : Toks} → Bars source w s ps r z → Ends w → Ends r
  last_bars (g.Bars.missing h) e = e
  last_bars (g.Bars.empty h i) e = (e ▹ past_mark source (codes "|") _ h ▸ past_mark source (codes "|") _ i).ends
  last_bars (g.Bars.given h i c) e = (e ▹ past_mark source (codes "|") _ h ▸ last_block_params i ▸ past_mark source (codes "|") _ c).ends

  pub last_exception_name : {s z : Scope} {x : Option Bytes} {w r : Toks} → ExceptionName source w s x r z → Ends w → Ends r
  last_exception_name (g.ExceptionName.missing h) e = e
  last_exception_name (g.ExceptionName.given h i) e = (e ▹ past_mark source (codes "=>") _ h ▸ past _ _ i refl).ends

  pub last_more_targets : {s z : Scope} {gs : List Goal} {w r : Toks} → MoreTargets source w s gs r z → Ends w → Lines r
  last_more_targets (g.MoreTargets.last h) e = past_goal source _ _ h e
  last_more_targets (g.MoreTargets.another h c i) e = e ▹ past_goal source _ _ h ▸ past_mark source (codes ",") _ c ▸ last_more_targets i

  pub last_targets : {s z : Scope} {gs : List Goal} {w r : Toks} → Targets source w s gs r z → Ends w → Lines r
  last_targets (g.Targets.several h c i) e = e ▹ past_goal source _ _ h ▸ past_mark source (codes ",") _ c ▸ last_more_targets i

  module _ (R : Rels) (L : Lasts R) where
    pub last_several : {d : DoBlockOwner} {s z : Scope} {ts : Trees} {w r : Toks} → Several source R d w s ts r z → Ends w → Lines r
    last_several (g.Several.last h i) e = L.arg h e
    last_several (g.Several.another h i j) e = e ▹ L.arg h ▸ past_mark source (codes ",") _ i ▸ last_several j

    pub last_element : {d : DoBlockOwner} {s z : Scope} {k : Bool} {t : Tree} {w r : Toks} → Element source R d k w s t r z → Ends w → Lines r
    last_element (g.Element.plain h) e = L.arg h e
    last_element (g.Element.spread h i) e = e ▹ past_mark source (codes "*") _ h ▸ L.arg i

    pub last_elements : {d : DoBlockOwner} {s z : Scope} {k : ℕ} {ts : Trees} {ks : List ℕ} {w r : Toks} → Elements source R d k w s ts ks r z → Ends w → Lines r
    last_elements (g.Elements.last h) e = last_element h e
    last_elements (g.Elements.another h i j) e = e ▹ last_element h ▸ past_mark source (codes ",") _ i ▸ last_elements j

    pub last_pair : {d : DoBlockOwner} {s z : Scope} {k x : Tree} {w r : Toks} → Pair source R d w s k x r z → Ends w → Lines r
    last_pair (g.Pair.label h t i) e = e ▹ past _ _ h refl ▸ L.arg i
    last_pair (g.Pair.arrow h i j) e = e ▹ L.arg h ▸ past_mark source (codes "=>") _ i ▸ L.arg j

    pub last_pair_list : {d : DoBlockOwner} {s z : Scope} {ps : Pairs} {w r : Toks} → PairList source R d w s ps r z → Ends w → Lines r
    last_pair_list (g.PairList.last h) e = last_pair h e
    last_pair_list (g.PairList.another h i j) e = e ▹ last_pair h ▸ past_mark source (codes ",") _ i ▸ last_pair_list j

    pub last_passed : {d : DoBlockOwner} {s z : Scope} {x b : Other} {w r : Toks} → Passed source R d w s x b r z → Ends w → Lines r
    last_passed (g.Passed.value h i j) e = e ▹ past_mark source (codes "&") _ h ▸ L.arg i
    last_passed (g.Passed.named h i j) e = e ▹ past_mark source (codes "&") _ h ▸ L.arg i

    pub last_items : {d : DoBlockOwner} {s z : Scope} {k : ℕ} {c : Given} {w r : Toks} → Items source R d k w s c r z → Ends w → Lines r
    last_items (g.Items.element h i) e = last_element h e
    last_items (g.Items.another h i j) e = e ▹ last_element h ▸ past_mark source (codes ",") _ i ▸ last_items j
    last_items (g.Items.pairs h) e = last_pair_list h e
    last_items (g.Items.pairs_and_passed h i j) e = e ▹ last_pair_list h ▸ past_mark source (codes ",") _ i ▸ last_passed j
    last_items (g.Items.passed h) e = last_passed h e

    pub last_in_brackets : {s z : Scope} {c : Given} {w r : Toks} → InBrackets source R w s c r z → Ends w → Lines r
    last_in_brackets (g.InBrackets.empty h i) e = e ▹ past_mark source (codes "(") _ h ▸ past_mark source (codes ")") _ i
    last_in_brackets (g.InBrackets.full h i j k) e = e ▹ past_mark source (codes "(") _ h ▸ last_items i ▹ last_trailing j ▸ past_mark source (codes ")") _ k

    pub last_command_items : {d : DoBlockOwner} {s z : Scope} {c : Given} {w r : Toks} → CommandItems source R d w s c r z → Ends w → Lines r
    last_command_items (g.CommandItems.items h i) e = last_items h e

    pub last_classes : {d : DoBlockOwner} {s z : Scope} {ts : Trees} {w r : Toks} → Classes source R d w s ts r z → Ends w → Ends r
    last_classes (g.Classes.missing h) e = e
    last_classes (g.Classes.given h) e = (last_several h e).ends

    pub last_on_self : {k : Bool} {w r : Toks} → OnSelf source R w k r → Ends w → Ends r
    last_on_self (g.OnSelf.on_self h i) e = (e ▹ past_word source (codes "self") _ h ▸ past_mark source (codes ".") _ i).ends
    last_on_self (g.OnSelf.plain h) e = e

    pub last_clauses : {d : DoBlockOwner} {s z : Scope} {rs : Rescues} {w r : Toks} → Clauses source R d w s rs r z → Ends w → Ends r
    last_clauses (g.Clauses.last h c x i j k) e = e ▹ past_word source (codes "rescue") _ h ▸ last_classes c ▹ last_exception_name x ▹ last_then i ▹ L.stmts j
    last_clauses (g.Clauses.another h c x i j k) e = e ▹ past_word source (codes "rescue") _ h ▸ last_classes c ▹ last_exception_name x ▹ last_then i ▹ L.stmts j ▹ last_clauses k

    pub last_else : {d : DoBlockOwner} {s z : Scope} {t : Other} {w r : Toks} → Else source R d w s t r z → Ends w → Ends r
    last_else (g.Else.missing h) e = e
    last_else (g.Else.given h i) e = e ▹ past_word source (codes "else") _ h ▸ L.stmts i

    pub last_rescued : {o : SourcePosition} {d : DoBlockOwner} {s z : Scope} {t : Tree} {w r : Toks} → Rescued source R d o w s t r z → Ends w → Ends r
    last_rescued (g.Rescued.plain h i) e = L.stmts h e
    last_rescued (g.Rescued.clauses h i j) e = e ▹ L.stmts h ▹ last_clauses i ▹ last_else j

    pub last_body : {o : SourcePosition} {d : DoBlockOwner} {s z : Scope} {t : Tree} {w r : Toks} → Body source R d o w s t r z → Ends w → Ends r
    last_body (g.Body.plain h i) e = last_rescued h e
    last_body (g.Body.ensured h i j) e = e ▹ last_rescued h ▹ past_word source (codes "ensure") _ i ▸ L.stmts j

    pub last_do_block : {s z : Scope} {t : Tree} {w r : Toks} → DoBlock source R w s t r z → Ends w → Lines r
    last_do_block (g.DoBlock.block h p i c) e = e ▹ past_word source (codes "do") _ h ▸ last_bars p ▹ last_body i ▹ past_word source (codes "end") _ c

    pub last_block : {d : DoBlockOwner} {s z : Scope} {t : Tree} {w r : Toks} → Block source R d w s t r z → Ends w → Lines r
    last_block (g.Block.braces h p i c) e = e ▹ past_mark source (codes "{") _ h ▸ last_bars p ▹ L.stmts i ▹ past_mark source (codes "}") _ c
    last_block (g.Block.with_do h i) e = last_do_block i e

    pub last_call_block : {c : Given} {d : DoBlockOwner} {s z : Scope} {b : Other} {w r : Toks} → CallBlock source R d c w s b r z → Lines w → Lines r
    last_call_block (g.CallBlock.missing h) e = e
    last_call_block (g.CallBlock.given h i) e = last_block i e.ends

    pub last_command_block : {c : Given} {d : DoBlockOwner} {s z : Scope} {b : Other} {w r : Toks} → CommandBlock source R d c w s b r z → Lines w → Lines r
    last_command_block (g.CommandBlock.missing h) e = e
    last_command_block (g.CommandBlock.given h i j) e = last_do_block j e.ends

    pub last_call_items : {d : DoBlockOwner} {s z : Scope} {c : Given} {b : Other} {w r : Toks} → CallItems source R d w s c b r z → Lines w → Lines r
    last_call_items (g.CallItems.bare h i) e = last_call_block i e
    last_call_items (g.CallItems.brackets h i j) e = e ▸ last_in_brackets i ▹ last_call_block j

    pub last_elses : {d : DoBlockOwner} {s z : Scope} {t : Other} {w r : Toks} → ElseBranches source R d w s t r z → Ends w → Ends r
    last_elses (g.ElseBranches.elsif h c i j k) e = e ▹ past_word source (codes "elsif") _ h ▸ L.expr c ▸ last_then i ▹ L.stmts j ▹ L.else_branches k
    last_elses (g.ElseBranches.other h i) e = last_else i e

    pub last_when_list : {d : DoBlockOwner} {s z : Scope} {us : Whens} {w r : Toks} → WhenList source R d w s us r z → Ends w → Ends r
    last_when_list (g.WhenList.last h c i j k) e = e ▹ past_word source (codes "when") _ h ▸ last_several c ▸ last_then i ▹ L.stmts j
    last_when_list (g.WhenList.another h c i j k) e = e ▹ past_word source (codes "when") _ h ▸ last_several c ▸ last_then i ▹ L.stmts j ▹ last_when_list k

    pub last_method_params : {d : DoBlockOwner} {l : ℕ} {s z : Scope} {ps : Params} {w r : Toks} → MethodParams source R d l w s ps r z → Ends w → Lines r
    last_method_params (g.MethodParams.named h i) e = e ▹ past _ _ h refl
    last_method_params (g.MethodParams.named_more h c i) e = e ▹ past _ _ h refl ▸ past_mark source (codes ",") _ c ▸ last_method_params i
    last_method_params (g.MethodParams.default i h c j) e = e ▹ past _ _ h refl ▸ past_mark source (codes "=") _ c ▸ L.arg j
    last_method_params (g.MethodParams.default_more i h c j f k) e = e ▹ past _ _ h refl ▸ past_mark source (codes "=") _ c ▸ L.arg j ▸ past_mark source (codes ",") _ f ▸ last_method_params k
    last_method_params (g.MethodParams.left i h j) e = e ▹ past_mark source (codes "*") _ h ▸ past _ _ j refl
    last_method_params (g.MethodParams.left_more i h j c k) e = e ▹ past_mark source (codes "*") _ h ▸ past _ _ j refl ▸ past_mark source (codes ",") _ c ▸ last_method_params k
    last_method_params (g.MethodParams.block h j) e = e ▹ past_mark source (codes "&") _ h ▸ past _ _ j refl

    pub last_parameter_list : {d : DoBlockOwner} {s z : Scope} {ps : Params} {w r : Toks} → ParameterList source R d w s ps r z → Ends w → Ends r
    last_parameter_list (g.ParameterList.empty h i) e = (e ▹ past_mark source (codes "(") _ h ▸ past_mark source (codes ")") _ i).ends
    last_parameter_list (g.ParameterList.brackets h i c) e = (e ▹ past_mark source (codes "(") _ h ▸ last_method_params i ▸ past_mark source (codes ")") _ c).ends
    last_parameter_list (g.ParameterList.no_line h) e = past_line source _ h e
    last_parameter_list (g.ParameterList.line h c) e = e ▹ last_method_params h ▸ past_line source _ c

    pub last_parameters : {d : DoBlockOwner} {s z : Scope} {ps : Params} {w r : Toks} → Parameters source R d w s ps r z → Ends w → Ends r
    last_parameters (g.Parameters.missing h) e = e
    last_parameters (g.Parameters.given h) e = last_parameter_list h e

    pub last_superclass : {d : DoBlockOwner} {s z : Scope} {c : Other} {w r : Toks} → Superclass source R d w s c r z → Ends w → Ends r
    last_superclass (g.Superclass.missing h) e = e
    last_superclass (g.Superclass.given h i) e = (e ▹ past_mark source (codes "<") _ h ▸ L.arg i).ends

    pub last_literal : {s z : Scope} {t : Tree} {w r : Toks} → Literal source R w s t r z → Ends w → Lines r
    last_literal (g.Literal.nil_word h) e = past_word source (codes "nil") _ h e
    last_literal (g.Literal.true_word h) e = past_word source (codes "true") _ h e
    last_literal (g.Literal.false_word h) e = past_word source (codes "false") _ h e
    last_literal (g.Literal.file_word h) e = past_word source (codes "__FILE__") _ h e
    last_literal (g.Literal.folder_word h) e = past_word source (codes "__dir__") _ h e
    last_literal (g.Literal.line_word h) e = past_word source (codes "__LINE__") _ h e
    last_literal (g.Literal.number h) e = past _ _ h refl e
    last_literal (g.Literal.negative_number h i) e = e ▹ past_negative source _ h ▸ past _ _ i refl
    last_literal (g.Literal.plain_text h i) e = past _ _ h refl e
    last_literal (g.Literal.text_with_code h i j) e = past _ _ h refl e
    last_literal (g.Literal.symbol_name h) e = past _ _ h refl e
    last_literal (g.Literal.word_list h) e = past _ _ h refl e
    last_literal (g.Literal.symbol_list h) e = past _ _ h refl e

    pub last_primary : {d : DoBlockOwner} {s z : Scope} {t : Tree} {w r : Toks} → Primary source R d w s t r z → Ends w → Lines r
    last_primary (g.Primary.literal h) e = last_literal h e
    last_primary (g.Primary.empty_list h i) e = e ▹ past_mark source (codes "[") _ h ▸ past_mark source (codes "]") _ i
    last_primary (g.Primary.list h i f c) e = e ▹ past_mark source (codes "[") _ h ▸ last_elements i ▹ last_trailing f ▸ past_mark source (codes "]") _ c
    last_primary (g.Primary.empty_hash h i) e = e ▹ past_mark source (codes "{") _ h ▸ past_mark source (codes "}") _ i
    last_primary (g.Primary.pairs h i f c) e = e ▹ past_mark source (codes "{") _ h ▸ last_pair_list i ▹ last_trailing f ▸ past_mark source (codes "}") _ c
    last_primary (g.Primary.brackets h i c) e = e ▹ past_mark source (codes "(") _ h ▸ L.stmts i ▹ past_mark source (codes ")") _ c
    last_primary (g.Primary.self_word h) e = past_word source (codes "self") _ h e
    last_primary (g.Primary.local_name h o p i) e = past _ _ h refl e
    last_primary (g.Primary.bare_name h o p i j) e = past _ _ h refl e
    last_primary (g.Primary.name_with_block h o i j) e = e ▹ past _ _ h refl ▸ last_block j
    last_primary (g.Primary.called_name h o i j) e = e ▹ past _ _ h refl ▸ last_in_brackets i ▹ last_call_block j
    last_primary (g.Primary.instance_name h) e = past _ _ h refl e
    last_primary (g.Primary.global_name h) e = past _ _ h refl e
    last_primary (g.Primary.constant h o) e = past _ _ h refl e
    last_primary (g.Primary.called_constant h o i j) e = e ▹ past _ _ h refl ▸ last_in_brackets i ▹ last_call_block j
    last_primary (g.Primary.top_constant h i) e = e ▹ past_mark source (codes "::") _ h ▸ past _ _ i refl
    last_primary (g.Primary.bare_yield h o i) e = past_word source (codes "yield") _ h e
    last_primary (g.Primary.called_yield h o i j) e = e ▹ past_word source (codes "yield") _ h ▸ last_in_brackets i
    last_primary (g.Primary.super_alone h o i j) e = e ▹ past_word source (codes "super") _ h ▹ last_call_block j
    last_primary (g.Primary.called_super h o i j) e = e ▹ past_word source (codes "super") _ h ▸ last_in_brackets i ▹ last_call_block j
    last_primary (g.Primary.if_form h c f i j o) e = e ▹ past_word source (codes "if") _ h ▸ L.expr c ▸ last_then f ▹ L.stmts i ▹ L.else_branches j ▹ past_word source (codes "end") _ o
    last_primary (g.Primary.unless_form h c f i j o) e = e ▹ past_word source (codes "unless") _ h ▸ L.expr c ▸ last_then f ▹ L.stmts i ▹ L.else_branches j ▹ past_word source (codes "end") _ o
    last_primary (g.Primary.while_form h c f i o) e = e ▹ past_word source (codes "while") _ h ▸ L.expr c ▸ last_loop_start f ▹ L.stmts i ▹ past_word source (codes "end") _ o
    last_primary (g.Primary.until_form h c f i o) e = e ▹ past_word source (codes "until") _ h ▸ L.expr c ▸ last_loop_start f ▹ L.stmts i ▹ past_word source (codes "end") _ o
    last_primary (g.Primary.begin_form h i o) e = e ▹ past_word source (codes "begin") _ h ▸ last_body i ▹ past_word source (codes "end") _ o
    last_primary (g.Primary.case_form h c f i j o) e = e ▹ past_word source (codes "case") _ h ▸ L.expr c ▸ last_newlines f ▹ last_when_list i ▹ last_else j ▹ past_word source (codes "end") _ o
    last_primary (g.Primary.case_of_tests h f i j o) e = e ▹ past_word source (codes "case") _ h ▸ last_newlines f ▹ last_when_list i ▹ last_else j ▹ past_word source (codes "end") _ o
    last_primary (g.Primary.method_form h i m p j o) e = e ▹ past_word source (codes "def") _ h ▸ last_on_self i ▹ last_method_name m ▸ last_parameters p ▹ last_body j ▹ past_word source (codes "end") _ o
    last_primary (g.Primary.class_form h c i f j o) e = e ▹ past_word source (codes "class") _ h ▸ past _ _ c refl ▸ last_superclass i ▹ past_line source _ f ▹ last_body j ▹ past_word source (codes "end") _ o
    last_primary (g.Primary.module_form h c f j o) e = e ▹ past_word source (codes "module") _ h ▸ past _ _ c refl ▸ past_line source _ f ▹ last_body j ▹ past_word source (codes "end") _ o
    last_primary (g.Primary.retry_word h) e = past_word source (codes "retry") _ h e

    pub last_postfixes : {d : DoBlockOwner} {o : Toks} {s z : Scope} {x t : Tree} {w r : Toks} → Postfixes source R d o x w s t r z → Lines w → Lines r
    last_postfixes (g.Postfixes.called h m i j k l) e = e ▸ last_dot h ▸ last_method_name m ▹ last_call_items k ▹ last_postfixes l
    last_postfixes (g.Postfixes.constant h i l) e = e ▸ past_mark source (codes "::") _ h ▸ past _ _ i refl ▹ last_postfixes l
    last_postfixes (g.Postfixes.index h i j c k l) e = e ▸ past_mark source (codes "[") _ h ▸ last_items j ▸ past_mark source (codes "]") _ c ▹ last_postfixes l
    last_postfixes (g.Postfixes.end) e = e

    pub last_postfix : {d : DoBlockOwner} {s z : Scope} {t : Tree} {w r : Toks} → Postfix source R d w s t r z → Ends w → Lines r
    last_postfix (g.Postfix.postfix h i) e = e ▹ last_primary h ▹ last_postfixes i
