-- What is derived up to a newline stays derived with other tokens behind it: lists, what stands in brackets, and what the tokens alone decide.
use Rattle.std.proofs.Common.{ℕ, Bool, not, ◌&&◌, List, Option, codes, ap, ◌∙◌}
use Rattle.std.proofs.lemmas.Bool.{false≢true}
use Rattle.ruby_lexer.specs.Bytes.{Bytes}
use Rattle.ruby_lexer.specs.Pieces.{Kind, tok, Toks, none, more}
use Rattle.ruby_tree.specs.Tree.{Goal, Tree, Trees, Pairs, Other, Params}
use Rattle.ruby_tree.specs.Rules.{Scope, DoBlockOwner}
use Rattle.ruby_tree.specs.Build.{Given}
use Rattle.ruby_tree.specs.Grammar.{Rels, Trailing, Then, LoopStart, Newlines, Dot, MethodName, BlockParams, Bars, ExceptionName, MoreTargets, Targets, OnSelf, Several, Element, Elements, Pair, PairList, Passed, Items, InBrackets, CommandItems, Classes}
use Rattle.ruby_tree.specs.Grammar as g
use Rattle.reference_laws.proofs.SwapTools.{no_kind, Alike, at_line, before, none_alike, Swapped, swapped, opened, alike_line, alike_mark, alike_word, alike_begins_arg, Swaps}

module _ (xs ys : Toks) (source : Bytes) where
  pub swap_trailing : {w r q : Toks} → Trailing source w r → Alike xs ys r q → Swapped xs ys (λ (p : Toks). Trailing source p q) w
  swap_trailing (g.Trailing.comma {w = none} e) a = absurd (false≢true e)
  swap_trailing (g.Trailing.comma {w = more (tok _ _ _ _ _) ws} e) a = swapped xs ys (before a) (g.Trailing.comma e)
  swap_trailing g.Trailing.no_comma a = swapped xs ys a g.Trailing.no_comma

  pub swap_then : {w r q : Toks} → Then source w r → Alike xs ys r q → Swapped xs ys (λ (p : Toks). Then source p q) w
  swap_then (g.Then.line {w = none} e h) a = absurd (false≢true e)
  swap_then (g.Then.line {w = more (tok _ _ _ _ _) ws} e h) a = swapped xs ys (before a) (g.Then.line e (alike_word xs ys source (codes "then") a ∙ h))
  swap_then (g.Then.written {w = none} e) a = absurd (false≢true e)
  swap_then (g.Then.written {w = more (tok _ _ _ _ _) ws} e) a = swapped xs ys (before a) (g.Then.written e)
  swap_then (g.Then.line_and_written {w = none} e h) a = absurd (false≢true e)
  swap_then (g.Then.line_and_written {w = more (tok _ _ _ _ _) none} e h) a = absurd (false≢true h)
  swap_then (g.Then.line_and_written {w = more (tok _ _ _ _ _) (more (tok _ _ _ _ _) ws)} e h) a = swapped xs ys (before (before a)) (g.Then.line_and_written e h)

  pub swap_loop_start : {w r q : Toks} → LoopStart source w r → Alike xs ys r q → Swapped xs ys (λ (p : Toks). LoopStart source p q) w
  swap_loop_start (g.LoopStart.line {w = none} e) a = absurd (false≢true e)
  swap_loop_start (g.LoopStart.line {w = more (tok _ _ _ _ _) ws} e) a = swapped xs ys (before a) (g.LoopStart.line e)
  swap_loop_start (g.LoopStart.written {w = none} e) a = absurd (false≢true e)
  swap_loop_start (g.LoopStart.written {w = more (tok _ _ _ _ _) ws} e) a = swapped xs ys (before a) (g.LoopStart.written e)

  pub swap_newlines : {w r q : Toks} → Newlines source w r → Alike xs ys r q → Swapped xs ys (λ (p : Toks). Newlines source p q) w
  swap_newlines (g.Newlines.skipped {w = none} e h) a = absurd (false≢true e)
  swap_newlines (g.Newlines.skipped {w = more (tok _ _ _ _ _) ws} e h) a = let S = swap_newlines h a in swapped xs ys (before S.alike) (g.Newlines.skipped e S.holds)
  swap_newlines (g.Newlines.passed {w = w} e) a = swapped xs ys a (g.Newlines.passed (alike_line xs ys source a ∙ e))

  -- a dot, with anything behind it
  pub same_dot : {k : Bool} {c : Kind} {from to line : ℕ} {b : Bool} {v u : Toks} → Dot source k (more (tok c from to line b) v) → Dot source k (more (tok c from to line b) u)
  same_dot (g.Dot.plain e) = g.Dot.plain e
  same_dot (g.Dot.safe e) = g.Dot.safe e

  pub swap_method_name : {defines : Bool} {m : Bytes} {w r q : Toks} → MethodName source defines w m r → Alike xs ys r q → Swapped xs ys (λ (p : Toks). MethodName source defines p m q) w
  swap_method_name (g.MethodName.name {w = none} e h) a = absurd (no_kind e)
  swap_method_name (g.MethodName.name {w = more (tok _ _ _ _ _) ws} e h) at_line = swapped xs ys (before at_line) (g.MethodName.name e h)
  swap_method_name (g.MethodName.name {w = more (tok _ _ _ _ _) ws} e h) (before {t = tok _ _ _ _ _} a) = swapped xs ys (before (before a)) (g.MethodName.name e h)
  swap_method_name (g.MethodName.setter {w = none} i e h t) a = absurd (no_kind e)
  swap_method_name (g.MethodName.setter {w = more (tok _ _ _ _ _) none} i e h t) a = absurd (false≢true h)
  swap_method_name (g.MethodName.setter {w = more (tok _ _ _ _ _) (more (tok _ _ _ _ _) ws)} i e h t) a = swapped xs ys (before (before a)) (g.MethodName.setter i e h t)
  swap_method_name (g.MethodName.constant {w = none} e) a = absurd (no_kind e)
  swap_method_name (g.MethodName.constant {w = more (tok _ _ _ _ _) ws} e) a = swapped xs ys (before a) (g.MethodName.constant e)
  swap_method_name (g.MethodName.operator {w = none} e) a = absurd (false≢true e)
  swap_method_name (g.MethodName.operator {w = more (tok _ _ _ _ _) ws} e) a = swapped xs ys (before a) (g.MethodName.operator e)
  swap_method_name (g.MethodName.index {w = none} e h t f) a = absurd (false≢true e)
  swap_method_name (g.MethodName.index {w = more (tok _ _ _ _ _) none} e h t f) a = absurd (false≢true h)
  swap_method_name (g.MethodName.index {w = more (tok _ _ _ _ _) (more (tok _ _ _ _ _) ws)} e h t f) at_line = swapped xs ys (before (before at_line)) (g.MethodName.index e h t f)
  swap_method_name (g.MethodName.index {w = more (tok _ _ _ _ _) (more (tok _ _ _ _ _) ws)} e h t f) (before {t = tok _ _ _ _ _} a) = swapped xs ys (before (before (before a))) (g.MethodName.index e h t f)
  swap_method_name (g.MethodName.index_setter {w = none} e h t f u) a = absurd (false≢true e)
  swap_method_name (g.MethodName.index_setter {w = more (tok _ _ _ _ _) none} e h t f u) a = absurd (false≢true h)
  swap_method_name (g.MethodName.index_setter {w = more (tok _ _ _ _ _) (more (tok _ _ _ _ _) none)} e h t f u) a = absurd (false≢true f)
  swap_method_name (g.MethodName.index_setter {w = more (tok _ _ _ _ _) (more (tok _ _ _ _ _) (more (tok _ _ _ _ _) ws))} e h t f u) a = swapped xs ys (before (before (before a))) (g.MethodName.index_setter e h t f u)

  pub swap_block_params : {s z : Scope} {ps : Params} {w r q : Toks} → BlockParams source w s ps r z → Alike xs ys r q → Swapped xs ys (λ (p : Toks). BlockParams source p s ps q z) w
  swap_block_params (g.BlockParams.last {w = none} e) a = absurd (no_kind e)
  swap_block_params (g.BlockParams.last {w = more (tok _ _ _ _ _) ws} e) a = swapped xs ys (before a) (g.BlockParams.last e)
  swap_block_params (g.BlockParams.another {w = none} e c h) a = absurd (no_kind e)
  swap_block_params (g.BlockParams.another {w = more (tok _ _ _ _ _) none} e c h) a = absurd (false≢true c)
  swap_block_params (g.BlockParams.another {w = more (tok _ _ _ _ _) (more (tok _ _ _ _ _) ws)} e c h) a = let H = swap_block_params h a in swapped xs ys (before (before H.alike)) (g.BlockParams.another e c H.holds)
  swap_block_params (g.BlockParams.rest {w = none} e h) a = absurd (false≢true e)
  swap_block_params (g.BlockParams.rest {w = more (tok _ _ _ _ _) none} e h) a = absurd (no_kind h)
  swap_block_params (g.BlockParams.rest {w = more (tok _ _ _ _ _) (more (tok _ _ _ _ _) ws)} e h) a = swapped xs ys (before (before a)) (g.BlockParams.rest e h)

  pub swap_bars : {s z : Scope} {ps : Params} {w r q : Toks} → Bars source w s ps r z → Alike xs ys r q → Swapped xs ys (λ (p : Toks). Bars source p s ps q z) w
  swap_bars (g.Bars.missing e) a = swapped xs ys a (g.Bars.missing (alike_mark xs ys source (codes "|") a ∙ e))
  swap_bars (g.Bars.empty {w = none} e h) a = absurd (false≢true e)
  swap_bars (g.Bars.empty {w = more (tok _ _ _ _ _) none} e h) a = absurd (false≢true h)
  swap_bars (g.Bars.empty {w = more (tok _ _ _ _ _) (more (tok _ _ _ _ _) ws)} e h) a = swapped xs ys (before (before a)) (g.Bars.empty e h)
  swap_bars (g.Bars.given {w = none} e h c) a = absurd (false≢true e)
  swap_bars (g.Bars.given {w = more (tok _ _ _ _ _) ws} {r = none} e h c) a = absurd (false≢true c)
  swap_bars (g.Bars.given {w = more (tok _ _ _ _ _) ws} {r = more (tok _ _ _ _ _) rs} e h c) a = let H = swap_block_params h (before a) in swapped xs ys (before H.alike) (g.Bars.given e H.holds c)

  pub swap_exception_name : {s z : Scope} {x : Option Bytes} {w r q : Toks} → ExceptionName source w s x r z → Alike xs ys r q → Swapped xs ys (λ (p : Toks). ExceptionName source p s x q z) w
  swap_exception_name (g.ExceptionName.missing e) a = swapped xs ys a (g.ExceptionName.missing (alike_mark xs ys source (codes "=>") a ∙ e))
  swap_exception_name (g.ExceptionName.given {w = none} e h) a = absurd (false≢true e)
  swap_exception_name (g.ExceptionName.given {w = more (tok _ _ _ _ _) none} e h) a = absurd (no_kind h)
  swap_exception_name (g.ExceptionName.given {w = more (tok _ _ _ _ _) (more (tok _ _ _ _ _) ws)} e h) a = swapped xs ys (before (before a)) (g.ExceptionName.given e h)

  pub swap_more_targets : {s z : Scope} {gs : List Goal} {w r q : Toks} → MoreTargets source w s gs r z → Alike xs ys r q → Swapped xs ys (λ (p : Toks). MoreTargets source p s gs q z) w
  swap_more_targets (g.MoreTargets.last {w = none} e) a = absurd (no_kind e)
  swap_more_targets (g.MoreTargets.last {w = more (tok _ _ _ _ _) ws} e) a = swapped xs ys (before a) (g.MoreTargets.last e)
  swap_more_targets (g.MoreTargets.another {w = none} e c h) a = absurd (no_kind e)
  swap_more_targets (g.MoreTargets.another {w = more (tok _ _ _ _ _) none} e c h) a = absurd (false≢true c)
  swap_more_targets (g.MoreTargets.another {w = more (tok _ _ _ _ _) (more (tok _ _ _ _ _) ws)} e c h) a = let H = swap_more_targets h a in swapped xs ys (before (before H.alike)) (g.MoreTargets.another e c H.holds)

  pub swap_targets : {s z : Scope} {gs : List Goal} {w r q : Toks} → Targets source w s gs r z → Alike xs ys r q → Swapped xs ys (λ (p : Toks). Targets source p s gs q z) w
  swap_targets (g.Targets.several {w = none} e c h) a = absurd (no_kind e)
  swap_targets (g.Targets.several {w = more (tok _ _ _ _ _) none} e c h) a = absurd (false≢true c)
  swap_targets (g.Targets.several {w = more (tok _ _ _ _ _) (more (tok _ _ _ _ _) ws)} e c h) a = let H = swap_more_targets h a in swapped xs ys (before (before H.alike)) (g.Targets.several e c H.holds)

  module _ (R : Rels) (S : Swaps xs ys source R) where
    pub swap_several : {d : DoBlockOwner} {s z : Scope} {ts : Trees} {w r q : Toks} → Several source R d w s ts r z → Alike xs ys r q → Swapped xs ys (λ (p : Toks). Several source R d p s ts q z) w
    swap_several (g.Several.last h e) a = let H = S.arg h a in swapped xs ys H.alike (g.Several.last H.holds (alike_mark xs ys source (codes ",") a ∙ e))
    swap_several (g.Several.another {q = none} h e hs) a = absurd (false≢true e)
    swap_several (g.Several.another {q = more (tok _ _ _ _ _) qs} h e hs) a = let I = swap_several hs a in let H = S.arg h (before I.alike) in swapped xs ys H.alike (g.Several.another H.holds e I.holds)

    pub swap_element : {d : DoBlockOwner} {k : Bool} {s z : Scope} {t : Tree} {w r q : Toks} → Element source R d k w s t r z → Alike xs ys r q → Swapped xs ys (λ (p : Toks). Element source R d k p s t q z) w
    swap_element (g.Element.plain h) a = let H = S.arg h a in swapped xs ys H.alike (g.Element.plain H.holds)
    swap_element (g.Element.spread {w = none} e h) a = absurd (false≢true e)
    swap_element (g.Element.spread {w = more (tok _ _ _ _ _) ws} e h) a = let H = S.arg h a in swapped xs ys (before H.alike) (g.Element.spread e H.holds)

    pub swap_elements : {d : DoBlockOwner} {k : ℕ} {s z : Scope} {ts : Trees} {ks : List ℕ} {w r q : Toks} → Elements source R d k w s ts ks r z → Alike xs ys r q → Swapped xs ys (λ (p : Toks). Elements source R d k p s ts ks q z) w
    swap_elements (g.Elements.last h) a = let H = swap_element h a in swapped xs ys H.alike (g.Elements.last H.holds)
    swap_elements (g.Elements.another {q = none} h e hs) a = absurd (false≢true e)
    swap_elements (g.Elements.another {q = more (tok _ _ _ _ _) qs} h e hs) a = let I = swap_elements hs a in let H = swap_element h (before I.alike) in swapped xs ys H.alike (g.Elements.another H.holds e I.holds)

    pub swap_pair : {d : DoBlockOwner} {s z : Scope} {k x : Tree} {w r q : Toks} → Pair source R d w s k x r z → Alike xs ys r q → Swapped xs ys (λ (p : Toks). Pair source R d p s k x q z) w
    swap_pair (g.Pair.label {w = none} e t h) a = absurd (no_kind e)
    swap_pair (g.Pair.label {w = more (tok _ _ _ _ _) ws} e t h) a = let H = S.arg h a in swapped xs ys (before H.alike) (g.Pair.label e t H.holds)
    swap_pair (g.Pair.arrow {q = none} h e i) a = absurd (false≢true e)
    swap_pair (g.Pair.arrow {q = more (tok _ _ _ _ _) qs} h e i) a = let I = S.arg i a in let H = S.arg h (before I.alike) in swapped xs ys H.alike (g.Pair.arrow H.holds e I.holds)

    pub swap_pair_list : {d : DoBlockOwner} {s z : Scope} {ps : Pairs} {w r q : Toks} → PairList source R d w s ps r z → Alike xs ys r q → Swapped xs ys (λ (p : Toks). PairList source R d p s ps q z) w
    swap_pair_list (g.PairList.last h) a = let H = swap_pair h a in swapped xs ys H.alike (g.PairList.last H.holds)
    swap_pair_list (g.PairList.another {q = none} h e hs) a = absurd (false≢true e)
    swap_pair_list (g.PairList.another {q = more (tok _ _ _ _ _) qs} h e hs) a = let I = swap_pair_list hs a in let H = swap_pair h (before I.alike) in swapped xs ys H.alike (g.PairList.another H.holds e I.holds)

    pub swap_passed : {d : DoBlockOwner} {s z : Scope} {x b : Other} {w r q : Toks} → Passed source R d w s x b r z → Alike xs ys r q → Swapped xs ys (λ (p : Toks). Passed source R d p s x b q z) w
    swap_passed (g.Passed.value {w = none} e h i) a = absurd (false≢true e)
    swap_passed (g.Passed.value {w = more (tok _ _ _ _ _) ws} e h i) a = let H = S.arg h a in swapped xs ys (before H.alike) (g.Passed.value e H.holds i)
    swap_passed (g.Passed.named {w = none} e h i) a = absurd (false≢true e)
    swap_passed (g.Passed.named {w = more (tok _ _ _ _ _) none} e h i) a = absurd (none_alike xs ys (S.arg h a).alike)
    swap_passed (g.Passed.named {w = more (tok _ _ _ _ _) (more (tok _ _ _ _ _) ws)} e h i) a = let H = opened xs ys (S.arg h a) in swapped xs ys (before H.alike) (g.Passed.named e H.holds i)

    pub swap_items : {d : DoBlockOwner} {k : ℕ} {s z : Scope} {c : Given} {w r q : Toks} → Items source R d k w s c r z → Alike xs ys r q → Swapped xs ys (λ (p : Toks). Items source R d k p s c q z) w
    swap_items (g.Items.element {b = b} h n) a = let H = swap_element h a in swapped xs ys H.alike (g.Items.element H.holds (ap (λ c. not b && c) (alike_mark xs ys source (codes "=>") a) ∙ n))
    swap_items (g.Items.another {q = none} h e hs) a = absurd (false≢true e)
    swap_items (g.Items.another {q = more (tok _ _ _ _ _) qs} h e hs) a = let I = swap_items hs a in let H = swap_element h (before I.alike) in swapped xs ys H.alike (g.Items.another H.holds e I.holds)
    swap_items (g.Items.pairs {w = none} h) a = absurd (none_alike xs ys (swap_pair_list h a).alike)
    swap_items (g.Items.pairs {w = more (tok _ _ _ _ _) ws} h) a = let H = opened xs ys (swap_pair_list h a) in swapped xs ys H.alike (g.Items.pairs H.holds)
    swap_items (g.Items.pairs_and_passed {q = none} h e i) a = absurd (false≢true e)
    swap_items (g.Items.pairs_and_passed {w = none} {q = more (tok _ _ _ _ _) qs} h e i) a = absurd (none_alike xs ys (swap_pair_list h (before (swap_passed i a).alike)).alike)
    swap_items (g.Items.pairs_and_passed {w = more (tok _ _ _ _ _) ws} {q = more (tok _ _ _ _ _) qs} h e i) a = let I = swap_passed i a in let H = opened xs ys (swap_pair_list h (before I.alike)) in swapped xs ys H.alike (g.Items.pairs_and_passed H.holds e I.holds)
    swap_items (g.Items.passed h) a = let H = swap_passed h a in swapped xs ys H.alike (g.Items.passed H.holds)

    pub swap_in_brackets : {s z : Scope} {c : Given} {w r q : Toks} → InBrackets source R w s c r z → Alike xs ys r q → Swapped xs ys (λ (p : Toks). InBrackets source R p s c q z) w
    swap_in_brackets (g.InBrackets.empty {w = none} e h) a = absurd (false≢true e)
    swap_in_brackets (g.InBrackets.empty {w = more (tok _ _ _ _ _) none} e h) a = absurd (false≢true h)
    swap_in_brackets (g.InBrackets.empty {w = more (tok _ _ _ _ _) (more (tok _ _ _ _ _) ws)} e h) a = swapped xs ys (before (before a)) (g.InBrackets.empty e h)
    swap_in_brackets (g.InBrackets.full {w = none} e h c i) a = absurd (false≢true e)
    swap_in_brackets (g.InBrackets.full {w = more (tok _ _ _ _ _) ws} {r = none} e h c i) a = absurd (false≢true i)
    swap_in_brackets (g.InBrackets.full {w = more (tok _ _ _ _ _) ws} {r = more (tok _ _ _ _ _) rs} e h c i) a = let C = swap_trailing c (before a) in let H = swap_items h C.alike in swapped xs ys (before H.alike) (g.InBrackets.full e H.holds C.holds i)

    pub swap_command_items : {d : DoBlockOwner} {s z : Scope} {c : Given} {w r q : Toks} → CommandItems source R d w s c r z → Alike xs ys r q → Swapped xs ys (λ (p : Toks). CommandItems source R d p s c q z) w
    swap_command_items (g.CommandItems.items h e) a = let H = swap_items h a in swapped xs ys H.alike (g.CommandItems.items H.holds (alike_mark xs ys source (codes ",") a ∙ e))

    pub swap_classes : {d : DoBlockOwner} {s z : Scope} {ts : Trees} {w r q : Toks} → Classes source R d w s ts r z → Alike xs ys r q → Swapped xs ys (λ (p : Toks). Classes source R d p s ts q z) w
    swap_classes (g.Classes.missing e) a = swapped xs ys a (g.Classes.missing (alike_begins_arg xs ys source a ∙ e))
    swap_classes (g.Classes.given h) a = let H = swap_several h a in swapped xs ys H.alike (g.Classes.given H.holds)

    pub swap_on_self : {k : Bool} {w r q : Toks} → OnSelf source R w k r → Alike xs ys r q → Swapped xs ys (λ (p : Toks). OnSelf source R p k q) w
    swap_on_self (g.OnSelf.on_self {w = none} e h) a = absurd (false≢true e)
    swap_on_self (g.OnSelf.on_self {w = more (tok _ _ _ _ _) none} e h) a = absurd (false≢true h)
    swap_on_self (g.OnSelf.on_self {w = more (tok _ _ _ _ _) (more (tok _ _ _ _ _) ws)} e h) a = swapped xs ys (before (before a)) (g.OnSelf.on_self e h)
    swap_on_self (g.OnSelf.plain e) a = swapped xs ys a (g.OnSelf.plain (alike_word xs ys source (codes "self") a ∙ e))
