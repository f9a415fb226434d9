-- Each local is held where it stands: lists, bodies and operands.
use Rattle.std.proofs.Common.{ℕ, Bool, true, false, List, [], ◌∷◌, if◌then◌else◌, ◌&&◌, codes, Option, refl}
use Rattle.std.specs.Prelude.{⊤}
use Rattle.ruby_lexer.specs.Bytes.{Bytes, same}
use Rattle.ruby_lexer.specs.Pieces.{Parts, Toks}
use Rattle.ruby_tree.specs.Tree.{SourcePosition, Goal, Tree, at, local, bare_raise, send, constant_path, Trees, no_more, Pairs, Pieces, Other, without, with, Whens, Rescues, Params, no_param, required}
use Rattle.ruby_tree.specs.Rules.{Scope, DoBlockOwner, next, position, position_with, word}
use Rattle.ruby_tree.specs.Build.{Given, alone, symbol_block, or_empty, call_form, bare_form, path_with, texts_at, symbols_at}
use Rattle.ruby_tree.specs.Grammar.{Rels, BlockParams, Bars, ExceptionName, MoreTargets, Targets, Several, Element, Elements, Pair, PairList, Passed, Items, InBrackets, CommandItems, Classes, Clauses, Else, Rescued, Body, DoBlock, Block, CallBlock, CommandBlock, CallItems, TextParts, ElseBranches, WhenList, MethodParams, ParameterList, Parameters, Superclass, Literal, Primary, Postfixes, Postfix}
use Rattle.ruby_tree.specs.Grammar as g
use Rattle.ruby_meaning.specs.Levels.{Sight, NameHeld, GoalsHeld}
use Rattle.tree_laws.proofs.Housing.{Housing, HousedTree, HousedTrees, HousedOther, HousedBlock, HousedPairs, HousedPieces, HousedWhens, HousedClauses, HousedParams, still, ◌⊕◌, ◌⊗◌, name_housed, goal_housed, local_housed, without_block, alone_given, symbol_gone, params_housed, block_housed, body_housed}

pub record Houses (R : Rels) : Type 0 where
  pub stmts : {d : DoBlockOwner} {w r : Toks} {s z : Scope} {t : Tree} → R.stmts d w s t r z → HousedTree s.locals t z.locals
  pub expr : {d : DoBlockOwner} {w r : Toks} {s z : Scope} {t : Tree} → R.expr d w s t r z → HousedTree s.locals t z.locals
  pub test : {d : DoBlockOwner} {w r : Toks} {s z : Scope} {t : Tree} → R.test d w s t r z → HousedTree s.locals t z.locals
  pub assigned_value : {d : DoBlockOwner} {w r : Toks} {s z : Scope} {t : Tree} → R.assigned_value d w s t r z → HousedTree s.locals t z.locals
  pub arg : {d : DoBlockOwner} {w r : Toks} {s z : Scope} {t : Tree} → R.arg d w s t r z → HousedTree s.locals t z.locals
  pub minus : {d : DoBlockOwner} {w r : Toks} {s z : Scope} {t : Tree} → R.minus d w s t r z → HousedTree s.locals t z.locals
  pub power : {d : DoBlockOwner} {w r : Toks} {s z : Scope} {t : Tree} → R.power d w s t r z → HousedTree s.locals t z.locals
  pub unary_operand : {d : DoBlockOwner} {w r : Toks} {s z : Scope} {t : Tree} → R.unary_operand d w s t r z → HousedTree s.locals t z.locals
  pub else_branches : {d : DoBlockOwner} {w r : Toks} {s z : Scope} {v : Other} → R.else_branches d w s v r z → HousedOther s.locals v z.locals

-- a part, and one behind it
pub record HousedTwo (F G : List Bytes → List Bytes → Type 0) (s z : List Bytes) : Type 0 where
  pub middle : List Bytes
  pub first : F s middle
  pub second : G middle z

-- what a call is given
pub record HousedGiven (s : List Bytes) (ts : Trees) (v b : Other) (z : List Bytes) : Type 0 where
  pub behind_trees : List Bytes
  pub behind_value : List Bytes
  pub trees : HousedTrees s ts behind_trees
  pub value : HousedOther behind_trees v behind_value
  pub block : HousedBlock behind_value b z

abbrev pub HousedCall : List Bytes → Given → List Bytes → Type 0
HousedCall s c z = HousedGiven s c.trees c.value c.block z

pub given : {s y x z : List Bytes} {ts : Trees} {v b : Other} → HousedTrees s ts y → HousedOther y v x → HousedBlock x b z → HousedGiven s ts v b z
given {y = y} {x = x} a d b = record { behind_trees = y; behind_value = x; trees = a; value = d; block = b }

-- a target, and those behind it
goal_then : {s y z : List Bytes} {K H J G : Sight → Type 0} → Housing s ⊤ K H y → Housing y ⊤ J G z → Housing s ⊤ (λ c. K c × J c) (λ c. H c × G c) z
goal_then a b = record { shape = tt; is = (a ⊕ b).is }

-- What the grammar makes of its parts.

pub or_empty_housed : {s z : List Bytes} (v : Other) → HousedOther s v z → HousedTree s (or_empty v) z
or_empty_housed without h = h
or_empty_housed (with t) h = h

pub call_housed : {s y z : List Bytes} (k : Bool) (a : Tree) (c : Given) (m : Bytes) (b : Other) (o : SourcePosition) → HousedTree s a y → HousedGiven y c.trees c.value b z → HousedTree s (at o (call_form k a c m b)) z
call_housed false a c m b o h i = h ⊕ (i.trees ⊕ (i.value ⊕ i.block))
call_housed true a c m b o h i = h ⊕ (i.trees ⊕ (i.value ⊕ i.block))

bare_by : {s : List Bytes} (b : Bool) (o : SourcePosition) (x : Bytes) → HousedTree s (at o (if b then bare_raise else send without no_more [] without x true without)) s
bare_by true o x = still
bare_by false o x = still ⊕ (still ⊕ (still ⊕ still))

bare_housed : (o : SourcePosition) (s : Scope) (x : Bytes) → HousedTree s.locals (at o (bare_form s x)) s.locals
bare_housed o s x = bare_by (s.clause && same x (codes "raise")) o x

pub longer_housed : {s z : List Bytes} (w : Toks) (a : Tree) (x : Bytes) → HousedTree s a z → HousedTree s (path_with w a x) z
longer_housed w (at o (constant_path v b xs)) x h = h
longer_housed w a x h = h

texts_housed : {s : List Bytes} (o : SourcePosition) (fs : List Bytes) → HousedTrees s (texts_at o fs) s
texts_housed o [] = still
texts_housed o (f ∷ fs) = still ⊕ texts_housed o fs

symbols_housed : {s : List Bytes} (o : SourcePosition) (fs : List Bytes) → HousedTrees s (symbols_at o fs) s
symbols_housed o [] = still
symbols_housed o (f ∷ fs) = still ⊕ symbols_housed o fs

-- the block of `&:m`
symbol_housed : {s : List Bytes} (w : Toks) (m : Bytes) → HousedBlock s (with (symbol_block w m)) s
symbol_housed {s} w m =
    block_housed (position w) (required (codes "x") no_param) (alone w (at (position_with w (next w)) (send (with (at (position w) (local (codes "x")))) no_more [] without m false without)))
    (name_housed (codes "x") ⊕ still) ((local_housed {s = codes "x" ∷ s} (codes "x") refl ⊕ (still ⊕ (still ⊕ still))) ⊕ still)

module _ (source : Bytes) where
  house_block_params : {s z : Scope} {ps : Params} {w r : Toks} → BlockParams source w s ps r z → HousedParams s.locals ps z.locals
  house_block_params (g.BlockParams.last {w = w} h) = name_housed (word source w) ⊕ still
  house_block_params (g.BlockParams.another {w = w} h c i) = name_housed (word source w) ⊕ house_block_params i
  house_block_params (g.BlockParams.rest {w = w} h i) = name_housed (word source (next w)) ⊕ still

  house_bars : {s z : Scope} {ps : Params} {w r : Toks} → Bars source w s ps r z → HousedParams s.locals ps z.locals
  house_bars (g.Bars.missing h) = still
  house_bars (g.Bars.empty h i) = still
  house_bars (g.Bars.given h i c) = house_block_params i

  house_exception_name : {s z : Scope} {x : Option Bytes} {w r : Toks} → ExceptionName source w s x r z → Housing s.locals ⊤ (λ c. NameHeld c x) (λ c. NameHeld c x) z.locals
  house_exception_name (g.ExceptionName.missing h) = still
  house_exception_name (g.ExceptionName.given {w = w} h i) = name_housed (word source (next w))

  house_more_targets : {s z : Scope} {gs : List Goal} {w r : Toks} → MoreTargets source w s gs r z → Housing s.locals ⊤ (λ c. GoalsHeld c gs) (λ c. GoalsHeld c gs) z.locals
  house_more_targets {s = s} (g.MoreTargets.last {g = x} h) = goal_then (goal_housed x s) still
  house_more_targets {s = s} (g.MoreTargets.another {g = x} h c i) = goal_then (goal_housed x s) (house_more_targets i)

  pub house_targets : {s z : Scope} {gs : List Goal} {w r : Toks} → Targets source w s gs r z → Housing s.locals ⊤ (λ c. GoalsHeld c gs) (λ c. GoalsHeld c gs) z.locals
  house_targets {s = s} (g.Targets.several {g = x} h c i) = goal_then (goal_housed x s) (house_more_targets i)

  module _ (R : Rels) (S : Houses R) where
    pub house_several : {d : DoBlockOwner} {s z : Scope} {ts : Trees} {w r : Toks} → Several source R d w s ts r z → HousedTrees s.locals ts z.locals
    house_several (g.Several.last h i) = S.arg h ⊕ still
    house_several (g.Several.another h i j) = S.arg h ⊕ house_several j

    house_element : {d : DoBlockOwner} {s z : Scope} {k : Bool} {t : Tree} {w r : Toks} → Element source R d k w s t r z → HousedTree s.locals t z.locals
    house_element (g.Element.plain h) = S.arg h
    house_element (g.Element.spread h i) = S.arg i

    house_elements : {d : DoBlockOwner} {s z : Scope} {k : ℕ} {ts : Trees} {ks : List ℕ} {w r : Toks} → Elements source R d k w s ts ks r z → HousedTrees s.locals ts z.locals
    house_elements (g.Elements.last h) = house_element h ⊕ still
    house_elements (g.Elements.another h i j) = house_element h ⊕ house_elements j

    house_pair : {d : DoBlockOwner} {s z : Scope} {k x : Tree} {w r : Toks} → Pair source R d w s k x r z → HousedTwo (λ l m. HousedTree l k m) (λ l m. HousedTree l x m) s.locals z.locals
    house_pair {s = s} (g.Pair.label h t i) = record { middle = s.locals; first = still; second = S.arg i }
    house_pair (g.Pair.arrow {y = y} h i j) = record { middle = y.locals; first = S.arg h; second = S.arg j }

    house_pair_list : {d : DoBlockOwner} {s z : Scope} {ps : Pairs} {w r : Toks} → PairList source R d w s ps r z → HousedPairs s.locals ps z.locals
    house_pair_list (g.PairList.last h) = let a = house_pair h in a.first ⊕ (a.second ⊕ still)
    house_pair_list (g.PairList.another h i j) = let a = house_pair h in a.first ⊕ (a.second ⊕ house_pair_list j)

    house_passed : {d : DoBlockOwner} {s z : Scope} {x b : Other} {w r : Toks} → Passed source R d w s x b r z → HousedTwo (λ l m. HousedOther l x m) (λ l m. HousedBlock l b m) s.locals z.locals
    house_passed {z = z} (g.Passed.value h i j) = record { middle = z.locals; first = S.arg i; second = still }
    house_passed {z = z} (g.Passed.named {w = w} {a = a} {m = m} h i j) = record { middle = z.locals; first = symbol_gone a m j (S.arg i); second = symbol_housed w m }

    house_items : {d : DoBlockOwner} {s z : Scope} {k : ℕ} {c : Given} {w r : Toks} → Items source R d k w s c r z → HousedCall s.locals c z.locals
    house_items (g.Items.element h i) = given (house_element h ⊕ still) still still
    house_items (g.Items.another h i j) = let b = house_items j in given (house_element h ⊕ b.trees) b.value b.block
    house_items (g.Items.pairs h) = given (house_pair_list h ⊕ still) still still
    house_items (g.Items.pairs_and_passed h i j) = let b = house_passed j in given (house_pair_list h ⊕ still) b.first b.second
    house_items (g.Items.passed h) = let a = house_passed h in given still a.first a.second

    house_in_brackets : {s z : Scope} {c : Given} {w r : Toks} → InBrackets source R w s c r z → HousedCall s.locals c z.locals
    house_in_brackets (g.InBrackets.empty h i) = given still still still
    house_in_brackets (g.InBrackets.full h i j k) = house_items i

    pub house_command_items : {d : DoBlockOwner} {s z : Scope} {c : Given} {w r : Toks} → CommandItems source R d w s c r z → HousedCall s.locals c z.locals
    house_command_items (g.CommandItems.items h i) = house_items h

    house_classes : {d : DoBlockOwner} {s z : Scope} {ts : Trees} {w r : Toks} → Classes source R d w s ts r z → HousedTrees s.locals ts z.locals
    house_classes (g.Classes.missing h) = still
    house_classes (g.Classes.given h) = house_several h

    house_clauses : {d : DoBlockOwner} {s z : Scope} {rs : Rescues} {w r : Toks} → Clauses source R d w s rs r z → HousedClauses s.locals rs z.locals
    house_clauses (g.Clauses.last h c x i j k) = house_classes c ⊕ (house_exception_name x ⊕ (S.stmts j ⊕ still))
    house_clauses (g.Clauses.another h c x i j k) = house_classes c ⊕ (house_exception_name x ⊕ (S.stmts j ⊕ house_clauses k))

    house_else : {d : DoBlockOwner} {s z : Scope} {v : Other} {w r : Toks} → Else source R d w s v r z → HousedOther s.locals v z.locals
    house_else (g.Else.missing h) = still
    house_else (g.Else.given h i) = S.stmts i

    house_rescued : {o : SourcePosition} {d : DoBlockOwner} {s z : Scope} {t : Tree} {w r : Toks} → Rescued source R d o w s t r z → HousedTree s.locals t z.locals
    house_rescued (g.Rescued.plain h i) = S.stmts h
    house_rescued (g.Rescued.clauses h i j) = S.stmts h ⊕ (house_clauses i ⊗ house_else j)

    house_body : {o : SourcePosition} {d : DoBlockOwner} {s z : Scope} {t : Tree} {w r : Toks} → Body source R d o w s t r z → HousedTree s.locals t z.locals
    house_body (g.Body.plain h i) = house_rescued h
    house_body (g.Body.ensured h i j) = house_rescued h ⊕ S.stmts j

    house_do_block : {s z : Scope} {t : Tree} {w r : Toks} → DoBlock source R w s t r z → HousedBlock s.locals (with t) z.locals
    house_do_block (g.DoBlock.block {w = w} {ps = ps} {t = t} h b i c) = block_housed (position w) ps t (house_bars b) (house_body i)

    house_block : {d : DoBlockOwner} {s z : Scope} {t : Tree} {w r : Toks} → Block source R d w s t r z → HousedBlock s.locals (with t) z.locals
    house_block (g.Block.braces {w = w} {ps = ps} {t = t} h b i c) = block_housed (position w) ps t (house_bars b) (S.stmts i)
    house_block (g.Block.with_do h i) = house_do_block i

    house_call_block : {c : Given} {d : DoBlockOwner} {s z : Scope} {b : Other} {w r : Toks} {l : List Bytes} → CallBlock source R d c w s b r z → HousedBlock l c.block s.locals → HousedBlock l b z.locals
    house_call_block (g.CallBlock.missing h) v = v
    house_call_block {c} (g.CallBlock.given h i) v = without_block c.value c.block h v (house_block i)

    pub house_command_block : {c : Given} {d : DoBlockOwner} {s z : Scope} {b : Other} {w r : Toks} {l : List Bytes} → CommandBlock source R d c w s b r z → HousedBlock l c.block s.locals → HousedBlock l b z.locals
    house_command_block (g.CommandBlock.missing h) v = v
    house_command_block {c} (g.CommandBlock.given h i j) v = without_block c.value c.block h v (house_do_block j)

    house_call_items : {d : DoBlockOwner} {s z : Scope} {c : Given} {b : Other} {w r : Toks} → CallItems source R d w s c b r z → HousedGiven s.locals c.trees c.value b z.locals
    house_call_items (g.CallItems.bare h i) = given still still (house_call_block i still)
    house_call_items (g.CallItems.brackets h i j) = let a = house_in_brackets i in given a.trees a.value (house_call_block j a.block)

    house_text : {ps : Parts} {s z : Scope} {qs : Pieces} → TextParts source R ps s qs z → HousedPieces s.locals qs z.locals
    house_text (g.TextParts.ends) = still
    house_text (g.TextParts.plain h) = house_text h
    house_text (g.TextParts.code h i) = S.stmts h ⊕ house_text i

    pub house_elses : {d : DoBlockOwner} {s z : Scope} {v : Other} {w r : Toks} → ElseBranches source R d w s v r z → HousedOther s.locals v z.locals
    house_elses (g.ElseBranches.elsif h i j k n) = S.expr i ⊕ (S.stmts k ⊕ S.else_branches n)
    house_elses (g.ElseBranches.other h i) = house_else i

    house_whens : {d : DoBlockOwner} {s z : Scope} {ws : Whens} {w r : Toks} → WhenList source R d w s ws r z → HousedWhens s.locals ws z.locals
    house_whens (g.WhenList.last h i j k n) = house_several i ⊕ (S.stmts k ⊕ still)
    house_whens (g.WhenList.another h i j k n) = house_several i ⊕ (S.stmts k ⊕ house_whens n)

    house_method_params : {d : DoBlockOwner} {k : ℕ} {s z : Scope} {ps : Params} {w r : Toks} → MethodParams source R d k w s ps r z → HousedParams s.locals ps z.locals
    house_method_params (g.MethodParams.named {w = w} h i) = name_housed (word source w) ⊕ still
    house_method_params (g.MethodParams.named_more {w = w} h i j) = name_housed (word source w) ⊕ house_method_params j
    house_method_params (g.MethodParams.default {w = w} n h i j) = name_housed (word source w) ⊕ (S.arg j ⊕ still)
    house_method_params (g.MethodParams.default_more {w = w} n h i j c k) = name_housed (word source w) ⊕ (S.arg j ⊕ house_method_params k)
    house_method_params (g.MethodParams.left {w = w} n h i) = name_housed (word source (next w)) ⊕ still
    house_method_params (g.MethodParams.left_more {w = w} n h i c j) = name_housed (word source (next w)) ⊕ house_method_params j
    house_method_params (g.MethodParams.block {w = w} h i) = name_housed (word source (next w)) ⊕ still

    house_parameter_list : {d : DoBlockOwner} {s z : Scope} {ps : Params} {w r : Toks} → ParameterList source R d w s ps r z → HousedParams s.locals ps z.locals
    house_parameter_list (g.ParameterList.empty h i) = still
    house_parameter_list (g.ParameterList.brackets h i j) = house_method_params i
    house_parameter_list (g.ParameterList.no_line h) = still
    house_parameter_list (g.ParameterList.line h i) = house_method_params h

    house_parameters : {d : DoBlockOwner} {s z : Scope} {ps : Params} {w r : Toks} → Parameters source R d w s ps r z → HousedParams s.locals ps z.locals
    house_parameters (g.Parameters.missing h) = still
    house_parameters (g.Parameters.given h) = house_parameter_list h

    house_superclass : {d : DoBlockOwner} {s z : Scope} {v : Other} {w r : Toks} → Superclass source R d w s v r z → HousedOther s.locals v z.locals
    house_superclass (g.Superclass.missing h) = still
    house_superclass (g.Superclass.given h i) = S.arg i

    house_literal : {s z : Scope} {t : Tree} {w r : Toks} → Literal source R w s t r z → HousedTree s.locals t z.locals
    house_literal (g.Literal.nil_word h) = still
    house_literal (g.Literal.true_word h) = still
    house_literal (g.Literal.false_word h) = still
    house_literal (g.Literal.file_word h) = still
    house_literal (g.Literal.folder_word h) = still
    house_literal (g.Literal.line_word h) = still
    house_literal (g.Literal.number h) = still
    house_literal (g.Literal.negative_number h i) = still
    house_literal (g.Literal.plain_text h i) = still
    house_literal (g.Literal.text_with_code h i j) = house_text j
    house_literal (g.Literal.symbol_name h) = still
    house_literal (g.Literal.word_list {w = w} {fs = fs} h) = texts_housed (position w) fs
    house_literal (g.Literal.symbol_list {w = w} {fs = fs} h) = symbols_housed (position w) fs

    house_primary : {d : DoBlockOwner} {s z : Scope} {t : Tree} {w r : Toks} → Primary source R d w s t r z → HousedTree s.locals t z.locals
    house_primary (g.Primary.literal h) = house_literal h
    house_primary (g.Primary.empty_list h i) = still
    house_primary (g.Primary.list h i j k) = house_elements i
    house_primary (g.Primary.empty_hash h i) = still
    house_primary (g.Primary.pairs h i j k) = house_pair_list i
    house_primary (g.Primary.brackets h i j) = S.stmts i
    house_primary (g.Primary.self_word h) = still
    house_primary (g.Primary.local_name {w = w} h i j k) = local_housed (word source w) k
    house_primary (g.Primary.bare_name {w = w} {s = s} h i j k n) = bare_housed (position w) s (word source w)
    house_primary (g.Primary.name_with_block h i j k) = still ⊕ (still ⊕ (still ⊕ house_block k))
    house_primary (g.Primary.called_name h i j k) = let a = house_in_brackets j in still ⊕ (a.trees ⊕ (a.value ⊕ house_call_block k a.block))
    house_primary (g.Primary.instance_name h) = still
    house_primary (g.Primary.global_name h) = still
    house_primary (g.Primary.constant h i) = still
    house_primary (g.Primary.called_constant h i j k) = let a = house_in_brackets j in still ⊕ (a.trees ⊕ (a.value ⊕ house_call_block k a.block))
    house_primary (g.Primary.top_constant h i) = still
    house_primary (g.Primary.bare_yield h i j) = still
    house_primary (g.Primary.called_yield {g = c} h i j k) = let a = house_in_brackets j in alone_given c.value c.block k a.trees a.value a.block
    house_primary (g.Primary.super_alone h i j k) = params_housed (house_call_block k still)
    house_primary (g.Primary.called_super h i j k) = let a = house_in_brackets j in a.trees ⊕ (a.value ⊕ house_call_block k a.block)
    house_primary (g.Primary.if_form h i j k n m) = S.expr i ⊕ (S.stmts k ⊕ S.else_branches n)
    house_primary (g.Primary.unless_form {e = other} h i j k n m) = S.expr i ⊕ (S.stmts k ⊗ or_empty_housed other (S.else_branches n))
    house_primary (g.Primary.while_form h i j k n) = S.expr i ⊗ S.stmts k
    house_primary (g.Primary.until_form h i j k n) = S.expr i ⊗ S.stmts k
    house_primary (g.Primary.begin_form h i j) = house_body i
    house_primary (g.Primary.case_form h i j k n m) = S.expr i ⊕ (house_whens k ⊕ house_else n)
    house_primary (g.Primary.case_of_tests h j k n m) = house_whens k ⊕ house_else n
    house_primary (g.Primary.method_form {w = w} {ps = ps} {t = t} h i j k n m) = body_housed (position w) ps t (house_parameters k) (house_body n)
    house_primary (g.Primary.class_form {w = w} {t = t} h i j k n m) = house_superclass j ⊕ body_housed (position w) no_param t still (house_body n)
    house_primary (g.Primary.module_form {w = w} {t = t} h i j k n) = body_housed (position w) no_param t still (house_body k)
    house_primary (g.Primary.retry_word h) = still

    house_postfixes : {d : DoBlockOwner} {o : Toks} {s z : Scope} {x t : Tree} {w r : Toks} {l : List Bytes} → Postfixes source R d o x w s t r z → HousedTree l x s.locals → HousedTree l t z.locals
    house_postfixes {o = o} {x = x} (g.Postfixes.called {k = k} {w = w} {m = m} {g = c} {b = b} h i j f n u) a = house_postfixes u (call_housed k x c m b (position_with o (next w)) a (house_call_items n))
    house_postfixes {o = o} {x = x} (g.Postfixes.constant {w = w} h i j) a = house_postfixes j (longer_housed o x (word source (next w)) a)
    house_postfixes (g.Postfixes.index h i j k n u) a = let b = house_items j in house_postfixes u (a ⊕ (b.trees ⊕ (b.value ⊕ b.block)))
    house_postfixes (g.Postfixes.end) a = a

    pub house_postfix : {d : DoBlockOwner} {s z : Scope} {t : Tree} {w r : Toks} → Postfix source R d w s t r z → HousedTree s.locals t z.locals
    house_postfix (g.Postfix.postfix h i) = house_postfixes i (house_primary h)
