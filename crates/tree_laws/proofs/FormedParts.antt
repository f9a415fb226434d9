-- The trees of a text are formed: lists, bodies and operands.
use Rattle.std.proofs.Common.{◌≡◌, ℕ, Bool, true, false, List, [], ◌∷◌, if◌then◌else◌, ◌&&◌, codes, Option, refl, arith}
use Rattle.std.specs.Prelude.{⊤}
use Rattle.std.proofs.lemmas.Bool.{leb-true}
use Rattle.ruby_lexer.specs.Bytes.{Bytes, same}
use Rattle.ruby_lexer.specs.Pieces.{Parts, Toks}
use Rattle.ruby_tree.specs.Tree.{SourcePosition, Goal, to_local, to_instance, to_global, to_constant, Tree, at, local, bare_raise, send, constant_path, body, Trees, no_more, Pairs, Pieces, Other, without, with, Whens, Rescues, Params, no_param, required}
use Rattle.ruby_tree.specs.Rules.{Scope, DoBlockOwner, declared, next, word, position, position_with}
use Rattle.ruby_tree.specs.Build.{Given, alone, symbol_block, or_empty, call_form, bare_form, path_with, texts_at, symbols_at}
use Rattle.ruby_tree.specs.Grammar.{Rels, BlockParams, Bars, ExceptionName, MoreTargets, Targets, Several, Element, Elements, Pair, PairList, Passed, Items, InBrackets, CommandItems, Classes, Clauses, Else, Rescued, Body, DoBlock, Block, CallBlock, CommandBlock, CallItems, TextParts, ElseBranches, WhenList, MethodParams, ParameterList, Parameters, Superclass, Literal, Primary, Postfixes, Postfix}
use Rattle.ruby_tree.specs.Grammar as g
use Rattle.ruby_tree.specs.Placement.{in_class, at_home, in_clause}
use Rattle.reference_laws.specs.Placed.{IsPlaced, home_of}
use Rattle.tree_laws.specs.Formed.{AreSpread, HasOneBlock, InOrder, IsBody}
use Rattle.tree_laws.proofs.Forming.{Forming, FormingTree, FormingTrees, FormingOther, FormingBlock, FormingPairs, FormingPieces, FormingWhens, FormingClauses, FormingParams, still, ◌⊕◌, ◌⊗◌, after, before, node, node_with, looped, SpreadFrom, spread_later, are_spread, none_spread, only_block, longer_path, block_formed, body_formed, ensure_formed, one_clause, rescue_formed, in_clauses}

pub record Forms (R : Rels) : Type 0 where
  pub stmts : {d : DoBlockOwner} {w r : Toks} {s z : Scope} {t : Tree} → R.stmts d w s t r z → FormingTree s.clause t z.clause
  pub expr : {d : DoBlockOwner} {w r : Toks} {s z : Scope} {t : Tree} → R.expr d w s t r z → FormingTree s.clause t z.clause
  pub test : {d : DoBlockOwner} {w r : Toks} {s z : Scope} {t : Tree} → R.test d w s t r z → FormingTree s.clause t z.clause
  pub assigned_value : {d : DoBlockOwner} {w r : Toks} {s z : Scope} {t : Tree} → R.assigned_value d w s t r z → FormingTree s.clause t z.clause
  pub arg : {d : DoBlockOwner} {w r : Toks} {s z : Scope} {t : Tree} → R.arg d w s t r z → FormingTree s.clause t z.clause
  pub minus : {d : DoBlockOwner} {w r : Toks} {s z : Scope} {t : Tree} → R.minus d w s t r z → FormingTree s.clause t z.clause
  pub power : {d : DoBlockOwner} {w r : Toks} {s z : Scope} {t : Tree} → R.power d w s t r z → FormingTree s.clause t z.clause
  pub unary_operand : {d : DoBlockOwner} {w r : Toks} {s z : Scope} {t : Tree} → R.unary_operand d w s t r z → FormingTree s.clause t z.clause
  pub else_branches : {d : DoBlockOwner} {w r : Toks} {s z : Scope} {v : Other} → R.else_branches d w s v r z → FormingOther s.clause v z.clause

-- a part, and one behind it
pub record FormingTwo (F G : Bool → Bool → Type 0) (s z : Bool) : Type 0 where
  pub middle : Bool
  pub first : F s middle
  pub second : G middle z

-- what a call is given
pub record FormingGiven (s : Bool) (ts : Trees) (v b : Other) (z : Bool) : Type 0 where
  pub behind_trees : Bool
  pub behind_value : Bool
  pub trees : FormingTrees s ts behind_trees
  pub value : FormingOther behind_trees v behind_value
  pub block : FormingBlock behind_value b z

abbrev pub FormingCall : Bool → Given → Bool → Type 0
FormingCall s c z = FormingGiven s c.trees c.value c.block z

pub given : {s y x z : Bool} {ts : Trees} {v b : Other} → FormingTrees s ts y → FormingOther y v x → FormingBlock x b z → FormingGiven s ts v b z
given {y = y} {x = x} a d b = record { behind_trees = y; behind_value = x; trees = a; value = d; block = b }

-- what else is known of a call with this block
abbrev pub CallFacts : Given → Other → Type 0
CallFacts c b = AreSpread c.trees c.spread × HasOneBlock c.value b

-- What the grammar makes of its parts.

pub or_empty_formed : {s z : Bool} (v : Other) → FormingOther s v z → FormingTree s (or_empty v) z
or_empty_formed without h = record { kept = h.kept; is = λ c e k. tt }
or_empty_formed (with t) h = h

pub call_formed : {s y z : Bool} (k : Bool) (a : Tree) (c : Given) (m : Bytes) (b : Other) (o : SourcePosition) → CallFacts c b → FormingTree s a y → FormingGiven y c.trees c.value b z → FormingTree s (at o (call_form k a c m b)) z
call_formed false a c m b o f h i = node_with f (h ⊕ (i.trees ⊕ (i.value ⊕ i.block)))
call_formed true a c m b o f h i = node_with f (h ⊕ (i.trees ⊕ (i.value ⊕ i.block)))

-- a call without a receiver
pub own_call_formed : {s z : Bool} (c : Given) (m : Bytes) (b : Other) (o : SourcePosition) → CallFacts c b → FormingGiven s c.trees c.value b z → FormingTree s (at o (send without c.trees c.spread c.value m false b)) z
own_call_formed c m b o f i = node_with f (still ⊕ (i.trees ⊕ (i.value ⊕ i.block)))

bare_call : {s : Bool} (o : SourcePosition) (x : Bytes) → FormingTree s (at o (send without no_more [] without x true without)) s
bare_call o x = node_with (none_spread no_more, tt) (still ⊕ (still ⊕ (still ⊕ still)))

bare_by : (s b : Bool) (o : SourcePosition) (x : Bytes) → FormingTree s (at o (if s && b then bare_raise else send without no_more [] without x true without)) s
bare_by true true o x = record { kept = refl; is = λ c e k. refl }
bare_by true false o x = bare_call o x
bare_by false b o x = bare_call o x

bare_formed : (o : SourcePosition) (s : Scope) (x : Bytes) → FormingTree s.clause (at o (bare_form s x)) s.clause
bare_formed o s x = bare_by s.clause (same x (codes "raise")) o x

pub longer_formed : {s z : Bool} (w : Toks) (a : Tree) (x : Bytes) → FormingTree s a z → FormingTree s (path_with w a x) z
longer_formed w (at o (constant_path v b xs)) x h = record { kept = h.kept; is = λ c e k. (longer_path xs x, (h.is c e k).1) }
longer_formed w a x h = node_with (longer_path [] x) h

texts_formed : {s : Bool} (o : SourcePosition) (fs : List Bytes) → FormingTrees s (texts_at o fs) s
texts_formed o [] = still
texts_formed o (f ∷ fs) = still ⊕ texts_formed o fs

symbols_formed : {s : Bool} (o : SourcePosition) (fs : List Bytes) → FormingTrees s (symbols_at o fs) s
symbols_formed o [] = still
symbols_formed o (f ∷ fs) = still ⊕ symbols_formed o fs

-- the block of `&:m`
symbol_formed : {s : Bool} (w : Toks) (m : Bytes) → FormingBlock s (with (symbol_block w m)) s
symbol_formed w m =
    block_formed (position w) (required (codes "x") no_param) (alone w (at (position_with w (next w)) (send (with (at (position w) (local (codes "x")))) no_more [] without m false without)))
    (refl, tt) still (node (node_with (none_spread no_more, tt) (still ⊕ (still ⊕ (still ⊕ still))) ⊕ still))

-- a class or a module
class_formed : {s z : Bool} (o : SourcePosition) (t : Tree) → FormingTree false t z → Forming s (λ c. IsPlaced (at_home in_class) (at o (body no_param t))) (λ b. IsBody (at o (body no_param t)) × (no_param ≡ no_param)) s
class_formed o t h = record { kept = refl; is = λ c e k. (body_formed o no_param t tt still h in_class k, refl) }

module _ (source : Bytes) where
  -- Parameters and names.

  block_params_in_order : {s z : Scope} {ps : Params} {w r : Toks} → BlockParams source w s ps r z → InOrder 0 ps
  block_params_in_order (g.BlockParams.last h) = (refl, tt)
  block_params_in_order (g.BlockParams.another h c i) = (refl, block_params_in_order i)
  block_params_in_order (g.BlockParams.rest h i) = (omega arith, tt)

  bars_in_order : {s z : Scope} {ps : Params} {w r : Toks} → Bars source w s ps r z → InOrder 0 ps
  bars_in_order (g.Bars.missing h) = tt
  bars_in_order (g.Bars.empty h i) = tt
  bars_in_order (g.Bars.given h i c) = block_params_in_order i

  form_block_params : {s z : Scope} {ps : Params} {w r : Toks} → BlockParams source w s ps r z → FormingParams s.clause ps z.clause
  form_block_params (g.BlockParams.last h) = still
  form_block_params (g.BlockParams.another h c i) = form_block_params i
  form_block_params (g.BlockParams.rest h i) = still

  form_bars : {s z : Scope} {ps : Params} {w r : Toks} → Bars source w s ps r z → FormingParams s.clause ps z.clause
  form_bars (g.Bars.missing h) = still
  form_bars (g.Bars.empty h i) = still
  form_bars (g.Bars.given h i c) = form_block_params i

  form_exception_name : {s z : Scope} {x : Option Bytes} {w r : Toks} → ExceptionName source w s x r z → Forming s.clause (λ c. ⊤) (λ b. ⊤) z.clause
  form_exception_name (g.ExceptionName.missing h) = still
  form_exception_name (g.ExceptionName.given h i) = still

  pub declared_keeps : (n : Goal) (s : Scope) → Forming s.clause (λ c. ⊤) (λ b. ⊤) (declared n s).clause
  declared_keeps (to_local x) s = still
  declared_keeps (to_instance x) s = still
  declared_keeps (to_global x) s = still
  declared_keeps (to_constant x) s = still

  form_more_targets : {s z : Scope} {gs : List Goal} {w r : Toks} → MoreTargets source w s gs r z → Forming s.clause (λ c. ⊤) (λ b. ⊤) z.clause
  form_more_targets {s = s} (g.MoreTargets.last {g = x} h) = declared_keeps x s
  form_more_targets {s = s} (g.MoreTargets.another {g = x} h c i) = after (declared_keeps x s) (form_more_targets i)

  pub form_targets : {s z : Scope} {gs : List Goal} {w r : Toks} → Targets source w s gs r z → Forming s.clause (λ c. ⊤) (λ b. ⊤) z.clause
  form_targets {s = s} (g.Targets.several {g = x} h c i) = after (declared_keeps x s) (form_more_targets i)

  module _ (R : Rels) (S : Forms R) where
    -- What is spread, and which block a call has.

    spread_elements : {d : DoBlockOwner} {s z : Scope} {k : ℕ} {ts : Trees} {ks : List ℕ} {w r : Toks} → Elements source R d k w s ts ks r z → SpreadFrom k ts ks
    spread_elements (g.Elements.last {k = k} {b = b} {a = a} h) = spread_later b k a no_more [] tt
    spread_elements (g.Elements.another {k = k} {b = b} {a = a} {ts = ts} {ks = ks} h i j) = spread_later b k a ts ks (spread_elements j)

    spread_items : {d : DoBlockOwner} {s z : Scope} {k : ℕ} {c : Given} {w r : Toks} → Items source R d k w s c r z → SpreadFrom k c.trees c.spread
    spread_items (g.Items.element {k = k} {b = b} {a = a} h i) = spread_later b k a no_more [] tt
    spread_items (g.Items.another {k = k} {b = b} {a = a} {g = c} h i j) = spread_later b k a c.trees c.spread (spread_items j)
    spread_items (g.Items.pairs h) = tt
    spread_items (g.Items.pairs_and_passed h i j) = tt
    spread_items (g.Items.passed h) = tt

    one_passed : {d : DoBlockOwner} {s z : Scope} {x b : Other} {w r : Toks} → Passed source R d w s x b r z → HasOneBlock x b
    one_passed (g.Passed.value h i j) = tt
    one_passed (g.Passed.named h i j) = tt

    one_in_items : {d : DoBlockOwner} {s z : Scope} {k : ℕ} {c : Given} {w r : Toks} → Items source R d k w s c r z → HasOneBlock c.value c.block
    one_in_items (g.Items.element h i) = tt
    one_in_items (g.Items.another h i j) = one_in_items j
    one_in_items (g.Items.pairs h) = tt
    one_in_items (g.Items.pairs_and_passed h i j) = one_passed j
    one_in_items (g.Items.passed h) = one_passed h

    facts_of_items : {d : DoBlockOwner} {s z : Scope} {c : Given} {w r : Toks} → Items source R d 0 w s c r z → CallFacts c c.block
    facts_of_items {c = c} h = (are_spread c.trees c.spread (spread_items h), one_in_items h)

    facts_of_brackets : {s z : Scope} {c : Given} {w r : Toks} → InBrackets source R w s c r z → CallFacts c c.block
    facts_of_brackets (g.InBrackets.empty h i) = (none_spread no_more, tt)
    facts_of_brackets (g.InBrackets.full h i j k) = facts_of_items i

    pub facts_of_command : {d : DoBlockOwner} {s z : Scope} {c : Given} {w r : Toks} → CommandItems source R d w s c r z → CallFacts c c.block
    facts_of_command (g.CommandItems.items h i) = facts_of_items h

    facts_with_block : {c : Given} {d : DoBlockOwner} {s z : Scope} {b : Other} {w r : Toks} → CallBlock source R d c w s b r z → CallFacts c c.block → CallFacts c b
    facts_with_block (g.CallBlock.missing h) f = f
    facts_with_block {c} {b = b} (g.CallBlock.given h i) f = (f.0, only_block c.value c.block b h)

    pub facts_with_do : {c : Given} {d : DoBlockOwner} {s z : Scope} {b : Other} {w r : Toks} → CommandBlock source R d c w s b r z → CallFacts c c.block → CallFacts c b
    facts_with_do (g.CommandBlock.missing h) f = f
    facts_with_do {c} {b = b} (g.CommandBlock.given h i j) f = (f.0, only_block c.value c.block b h)

    facts_of_call : {d : DoBlockOwner} {s z : Scope} {c : Given} {b : Other} {w r : Toks} → CallItems source R d w s c b r z → CallFacts c b
    facts_of_call (g.CallItems.bare h i) = (none_spread no_more, tt)
    facts_of_call (g.CallItems.brackets h i j) = facts_with_block j (facts_of_brackets i)

    -- Lists.

    pub form_several : {d : DoBlockOwner} {s z : Scope} {ts : Trees} {w r : Toks} → Several source R d w s ts r z → FormingTrees s.clause ts z.clause
    form_several (g.Several.last h i) = S.arg h ⊕ still
    form_several (g.Several.another h i j) = S.arg h ⊕ form_several j

    form_element : {d : DoBlockOwner} {s z : Scope} {k : Bool} {t : Tree} {w r : Toks} → Element source R d k w s t r z → FormingTree s.clause t z.clause
    form_element (g.Element.plain h) = S.arg h
    form_element (g.Element.spread h i) = S.arg i

    form_elements : {d : DoBlockOwner} {s z : Scope} {k : ℕ} {ts : Trees} {ks : List ℕ} {w r : Toks} → Elements source R d k w s ts ks r z → FormingTrees s.clause ts z.clause
    form_elements (g.Elements.last h) = form_element h ⊕ still
    form_elements (g.Elements.another h i j) = form_element h ⊕ form_elements j

    form_pair : {d : DoBlockOwner} {s z : Scope} {k x : Tree} {w r : Toks} → Pair source R d w s k x r z → FormingTwo (λ l m. FormingTree l k m) (λ l m. FormingTree l x m) s.clause z.clause
    form_pair {s = s} (g.Pair.label h t i) = record { middle = s.clause; first = still; second = S.arg i }
    form_pair (g.Pair.arrow {y = y} h i j) = record { middle = y.clause; first = S.arg h; second = S.arg j }

    form_pair_list : {d : DoBlockOwner} {s z : Scope} {ps : Pairs} {w r : Toks} → PairList source R d w s ps r z → FormingPairs s.clause ps z.clause
    form_pair_list (g.PairList.last h) = let a = form_pair h in a.first ⊕ (a.second ⊕ still)
    form_pair_list (g.PairList.another h i j) = let a = form_pair h in a.first ⊕ (a.second ⊕ form_pair_list j)

    form_passed : {d : DoBlockOwner} {s z : Scope} {x b : Other} {w r : Toks} → Passed source R d w s x b r z → FormingTwo (λ l m. FormingOther l x m) (λ l m. FormingBlock l b m) s.clause z.clause
    form_passed {z = z} (g.Passed.value h i j) = record { middle = z.clause; first = S.arg i; second = still }
    form_passed {z = z} (g.Passed.named {w = w} {m = m} h i j) = record { middle = z.clause; first = before still (S.arg i); second = symbol_formed w m }

    form_items : {d : DoBlockOwner} {s z : Scope} {k : ℕ} {c : Given} {w r : Toks} → Items source R d k w s c r z → FormingCall s.clause c z.clause
    form_items (g.Items.element h i) = given (form_element h ⊕ still) still still
    form_items (g.Items.another h i j) = let b = form_items j in given (form_element h ⊕ b.trees) b.value b.block
    form_items (g.Items.pairs h) = given (node (form_pair_list h) ⊕ still) still still
    form_items (g.Items.pairs_and_passed h i j) = let b = form_passed j in given (node (form_pair_list h) ⊕ still) b.first b.second
    form_items (g.Items.passed h) = let a = form_passed h in given still a.first a.second

    form_in_brackets : {s z : Scope} {c : Given} {w r : Toks} → InBrackets source R w s c r z → FormingCall s.clause c z.clause
    form_in_brackets (g.InBrackets.empty h i) = given still still still
    form_in_brackets (g.InBrackets.full h i j k) = form_items i

    pub form_command_items : {d : DoBlockOwner} {s z : Scope} {c : Given} {w r : Toks} → CommandItems source R d w s c r z → FormingCall s.clause c z.clause
    form_command_items (g.CommandItems.items h i) = form_items h

    form_classes : {d : DoBlockOwner} {s z : Scope} {ts : Trees} {w r : Toks} → Classes source R d w s ts r z → FormingTrees s.clause ts z.clause
    form_classes (g.Classes.missing h) = still
    form_classes (g.Classes.given h) = form_several h

    form_clauses : {d : DoBlockOwner} {s z : Scope} {rs : Rescues} {w r : Toks} → Clauses source R d w s rs r z → FormingClauses s.clause rs z.clause
    form_clauses (g.Clauses.last {cs = ts} {t = t} h c x i j k) =
        let m = one_clause ts t (form_classes c) (form_exception_name x) (S.stmts j) in
        record { kept = refl; is = λ a e p. let q = m.is (in_clause a) refl (p.0, p.1.0) in (q.0, (q.1, tt)) }
    form_clauses (g.Clauses.another {cs = ts} {t = t} h c x i j k) =
        let m = one_clause ts t (form_classes c) (form_exception_name x) (S.stmts j) in
        let n = form_clauses k in
        record { kept = n.kept; is = λ a e p. let q = m.is (in_clause a) refl (p.0, p.1.0) in (q.0, (q.1, n.is a e p.1.1)) }

    form_else : {d : DoBlockOwner} {s z : Scope} {v : Other} {w r : Toks} → Else source R d w s v r z → FormingOther s.clause v z.clause
    form_else (g.Else.missing h) = still
    form_else (g.Else.given h i) = S.stmts i

    form_rescued : {o : SourcePosition} {d : DoBlockOwner} {s z : Scope} {t : Tree} {w r : Toks} → Rescued source R d o w s t r z → FormingTree s.clause t z.clause
    form_rescued (g.Rescued.plain h i) = S.stmts h
    form_rescued (g.Rescued.clauses {q = q} {rs = rs} h i j) = node (S.stmts h ⊕ (rescue_formed (position q) rs (form_clauses i) ⊗ form_else j))

    form_body : {o : SourcePosition} {d : DoBlockOwner} {s z : Scope} {t : Tree} {w r : Toks} → Body source R d o w s t r z → FormingTree s.clause t z.clause
    form_body (g.Body.plain h i) = form_rescued h
    form_body (g.Body.ensured {q = q} {e = a} h i j) = node (form_rescued h ⊕ ensure_formed (position q) a (S.stmts j))

    form_do_block : {s z : Scope} {t : Tree} {w r : Toks} → DoBlock source R w s t r z → FormingBlock s.clause (with t) z.clause
    form_do_block (g.DoBlock.block {w = w} {ps = ps} {t = t} h b i c) = block_formed (position w) ps t (bars_in_order b) (form_bars b) (form_body i)

    form_block : {d : DoBlockOwner} {s z : Scope} {t : Tree} {w r : Toks} → Block source R d w s t r z → FormingBlock s.clause (with t) z.clause
    form_block (g.Block.braces {w = w} {ps = ps} {t = t} h b i c) = block_formed (position w) ps t (bars_in_order b) (form_bars b) (S.stmts i)
    form_block (g.Block.with_do h i) = form_do_block i

    form_call_block : {c : Given} {d : DoBlockOwner} {s z : Scope} {b : Other} {w r : Toks} {l : Bool} → CallBlock source R d c w s b r z → FormingBlock l c.block s.clause → FormingBlock l b z.clause
    form_call_block (g.CallBlock.missing h) v = v
    form_call_block (g.CallBlock.given h i) v = after v (form_block i)

    pub form_command_block : {c : Given} {d : DoBlockOwner} {s z : Scope} {b : Other} {w r : Toks} {l : Bool} → CommandBlock source R d c w s b r z → FormingBlock l c.block s.clause → FormingBlock l b z.clause
    form_command_block (g.CommandBlock.missing h) v = v
    form_command_block (g.CommandBlock.given h i j) v = after v (form_do_block j)

    form_call_items : {d : DoBlockOwner} {s z : Scope} {c : Given} {b : Other} {w r : Toks} → CallItems source R d w s c b r z → FormingGiven s.clause c.trees c.value b z.clause
    form_call_items (g.CallItems.bare h i) = given still still (form_call_block i still)
    form_call_items (g.CallItems.brackets h i j) = let a = form_in_brackets i in given a.trees a.value (form_call_block j a.block)

    form_text : {ps : Parts} {s z : Scope} {qs : Pieces} → TextParts source R ps s qs z → FormingPieces s.clause qs z.clause
    form_text (g.TextParts.ends) = still
    form_text (g.TextParts.plain h) = form_text h
    form_text (g.TextParts.code h i) = S.stmts h ⊕ form_text i

    pub form_elses : {d : DoBlockOwner} {s z : Scope} {v : Other} {w r : Toks} → ElseBranches source R d w s v r z → FormingOther s.clause v z.clause
    form_elses (g.ElseBranches.elsif h i j k n) = node (S.expr i ⊕ (S.stmts k ⊕ S.else_branches n))
    form_elses (g.ElseBranches.other h i) = form_else i

    form_whens : {d : DoBlockOwner} {s z : Scope} {ws : Whens} {w r : Toks} → WhenList source R d w s ws r z → FormingWhens s.clause ws z.clause
    form_whens (g.WhenList.last h i j k n) = form_several i ⊕ (S.stmts k ⊕ still)
    form_whens (g.WhenList.another h i j k n) = form_several i ⊕ (S.stmts k ⊕ form_whens n)

    -- Parameters of methods.

    params_in_order : {d : DoBlockOwner} {k : ℕ} {s z : Scope} {ps : Params} {w r : Toks} → MethodParams source R d k w s ps r z → InOrder k ps
    params_in_order (g.MethodParams.named h i) = (refl, tt)
    params_in_order (g.MethodParams.named_more h i j) = (refl, params_in_order j)
    params_in_order (g.MethodParams.default {l = l} n h i j) = (leb-true l 1 n, tt)
    params_in_order (g.MethodParams.default_more {l = l} n h i j c k) = (leb-true l 1 n, params_in_order k)
    params_in_order (g.MethodParams.left {l = l} n h i) = (leb-true l 2 n, tt)
    params_in_order (g.MethodParams.left_more {l = l} n h i c j) = (leb-true l 2 n, params_in_order j)
    params_in_order (g.MethodParams.block h i) = refl

    list_in_order : {d : DoBlockOwner} {s z : Scope} {ps : Params} {w r : Toks} → ParameterList source R d w s ps r z → InOrder 0 ps
    list_in_order (g.ParameterList.empty h i) = tt
    list_in_order (g.ParameterList.brackets h i j) = params_in_order i
    list_in_order (g.ParameterList.no_line h) = tt
    list_in_order (g.ParameterList.line h i) = params_in_order h

    parameters_in_order : {d : DoBlockOwner} {s z : Scope} {ps : Params} {w r : Toks} → Parameters source R d w s ps r z → InOrder 0 ps
    parameters_in_order (g.Parameters.missing h) = tt
    parameters_in_order (g.Parameters.given h) = list_in_order h

    form_method_params : {d : DoBlockOwner} {k : ℕ} {s z : Scope} {ps : Params} {w r : Toks} → MethodParams source R d k w s ps r z → FormingParams s.clause ps z.clause
    form_method_params (g.MethodParams.named h i) = still
    form_method_params (g.MethodParams.named_more h i j) = form_method_params j
    form_method_params (g.MethodParams.default n h i j) = S.arg j ⊕ still
    form_method_params (g.MethodParams.default_more n h i j c k) = S.arg j ⊕ form_method_params k
    form_method_params (g.MethodParams.left n h i) = still
    form_method_params (g.MethodParams.left_more n h i c j) = form_method_params j
    form_method_params (g.MethodParams.block h i) = still

    form_parameter_list : {d : DoBlockOwner} {s z : Scope} {ps : Params} {w r : Toks} → ParameterList source R d w s ps r z → FormingParams s.clause ps z.clause
    form_parameter_list (g.ParameterList.empty h i) = still
    form_parameter_list (g.ParameterList.brackets h i j) = form_method_params i
    form_parameter_list (g.ParameterList.no_line h) = still
    form_parameter_list (g.ParameterList.line h i) = form_method_params h

    form_parameters : {d : DoBlockOwner} {s z : Scope} {ps : Params} {w r : Toks} → Parameters source R d w s ps r z → FormingParams s.clause ps z.clause
    form_parameters (g.Parameters.missing h) = still
    form_parameters (g.Parameters.given h) = form_parameter_list h

    form_superclass : {d : DoBlockOwner} {s z : Scope} {v : Other} {w r : Toks} → Superclass source R d w s v r z → FormingOther s.clause v z.clause
    form_superclass (g.Superclass.missing h) = still
    form_superclass (g.Superclass.given h i) = S.arg i

    -- Operands.

    form_literal : {s z : Scope} {t : Tree} {w r : Toks} → Literal source R w s t r z → FormingTree s.clause t z.clause
    form_literal (g.Literal.nil_word h) = still
    form_literal (g.Literal.true_word h) = still
    form_literal (g.Literal.false_word h) = still
    form_literal (g.Literal.file_word h) = still
    form_literal (g.Literal.folder_word h) = still
    form_literal (g.Literal.line_word h) = still
    form_literal (g.Literal.number h) = still
    form_literal (g.Literal.negative_number h i) = still
    form_literal (g.Literal.plain_text h i) = still
    form_literal (g.Literal.text_with_code h i j) = node (form_text j)
    form_literal (g.Literal.symbol_name h) = still
    form_literal (g.Literal.word_list {w = w} {fs = fs} h) = node_with (none_spread (texts_at (position w) fs)) (texts_formed (position w) fs)
    form_literal (g.Literal.symbol_list {w = w} {fs = fs} h) = node_with (none_spread (symbols_at (position w) fs)) (symbols_formed (position w) fs)

    form_primary : {d : DoBlockOwner} {s z : Scope} {t : Tree} {w r : Toks} → Primary source R d w s t r z → FormingTree s.clause t z.clause
    form_primary (g.Primary.literal h) = form_literal h
    form_primary (g.Primary.empty_list h i) = node_with (none_spread no_more) still
    form_primary (g.Primary.list {ts = ts} {ks = ks} h i j k) = node_with (are_spread ts ks (spread_elements i)) (form_elements i)
    form_primary (g.Primary.empty_hash h i) = still
    form_primary (g.Primary.pairs h i j k) = node (form_pair_list i)
    form_primary (g.Primary.brackets h i j) = S.stmts i
    form_primary (g.Primary.self_word h) = still
    form_primary (g.Primary.local_name h i j k) = still
    form_primary (g.Primary.bare_name {w = w} {s = s} h i j k n) = bare_formed (position w) s (word source w)
    form_primary (g.Primary.name_with_block h i j k) = node_with (none_spread no_more, tt) (still ⊕ (still ⊕ (still ⊕ form_block k)))
    form_primary (g.Primary.called_name h i j k) = let a = form_in_brackets j in node_with (facts_with_block k (facts_of_brackets j)) (still ⊕ (a.trees ⊕ (a.value ⊕ form_call_block k a.block)))
    form_primary (g.Primary.instance_name h) = still
    form_primary (g.Primary.global_name h) = still
    form_primary (g.Primary.constant h i) = node_with (omega arith) still
    form_primary (g.Primary.called_constant h i j k) = let a = form_in_brackets j in node_with (facts_with_block k (facts_of_brackets j)) (still ⊕ (a.trees ⊕ (a.value ⊕ form_call_block k a.block)))
    form_primary (g.Primary.top_constant h i) = node_with (omega arith) still
    form_primary (g.Primary.bare_yield h i j) = node_with (none_spread no_more) still
    form_primary (g.Primary.called_yield {g = c} h i j k) = let a = form_in_brackets j in node_with (facts_of_brackets j).0 (before (before a.trees a.value) a.block)
    form_primary (g.Primary.super_alone h i j k) = node (form_call_block k still)
    form_primary (g.Primary.called_super h i j k) = let a = form_in_brackets j in node_with (facts_with_block k (facts_of_brackets j)) (a.trees ⊕ (a.value ⊕ form_call_block k a.block))
    form_primary (g.Primary.if_form h i j k n m) = node (S.expr i ⊕ (S.stmts k ⊕ S.else_branches n))
    form_primary (g.Primary.unless_form {e = other} h i j k n m) = node (S.expr i ⊕ (S.stmts k ⊗ or_empty_formed other (S.else_branches n)))
    form_primary (g.Primary.while_form {t = t} h i j k n) = node (S.expr i ⊗ looped t (S.stmts k))
    form_primary (g.Primary.until_form {t = t} h i j k n) = node (S.expr i ⊗ looped t (S.stmts k))
    form_primary (g.Primary.begin_form h i j) = form_body i
    form_primary (g.Primary.case_form h i j k n m) = node (S.expr i ⊕ (form_whens k ⊕ form_else n))
    form_primary (g.Primary.case_of_tests h j k n m) = node (form_whens k ⊕ form_else n)
    form_primary (g.Primary.method_form {w = w} {ps = ps} {t = t} h i j k n m) =
        let b = at (position w) (body ps t) in
        record { kept = refl; is = λ c e p. body_formed (position w) ps t (parameters_in_order k) (form_parameters k) (form_body n) (home_of b) p.1 }
    form_primary (g.Primary.class_form {w = w} {t = t} h i j k n m) = node (form_superclass j ⊕ class_formed (position w) t (form_body n))
    form_primary (g.Primary.module_form {w = w} {t = t} h i j k n) = node (class_formed (position w) t (form_body k))
    form_primary (g.Primary.retry_word h) = record { kept = refl; is = λ c e p. in_clauses c e p.0 }

    form_postfixes : {d : DoBlockOwner} {o : Toks} {s z : Scope} {x t : Tree} {w r : Toks} {l : Bool} → Postfixes source R d o x w s t r z → FormingTree l x s.clause → FormingTree l t z.clause
    form_postfixes {o = o} {x = x} (g.Postfixes.called {k = k} {w = w} {m = m} {g = c} {b = b} h i j f n u) a = form_postfixes u (call_formed k x c m b (position_with o (next w)) (facts_of_call n) a (form_call_items n))
    form_postfixes {o = o} {x = x} (g.Postfixes.constant {w = w} h i j) a = form_postfixes j (longer_formed o x (word source (next w)) a)
    form_postfixes (g.Postfixes.index h i j k n u) a = let b = form_items j in form_postfixes u (node_with (facts_of_items j) (a ⊕ (b.trees ⊕ (b.value ⊕ b.block))))
    form_postfixes (g.Postfixes.end) a = a

    pub form_postfix : {d : DoBlockOwner} {s z : Scope} {t : Tree} {w r : Toks} → Postfix source R d w s t r z → FormingTree s.clause t z.clause
    form_postfix (g.Postfix.postfix h i) = form_postfixes i (form_primary h)
