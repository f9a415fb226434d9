-- What is derived up to a newline stays derived with other tokens behind it: bodies, blocks, what a call is given, and parameters.
use Rattle.std.proofs.Common.{ℕ, Bool, not, ◌&&◌, codes, ap, ◌∙◌}
use Rattle.std.proofs.lemmas.Bool.{false≢true}
use Rattle.ruby_lexer.specs.Bytes.{Bytes}
use Rattle.ruby_lexer.specs.Pieces.{tok, Toks, none, more}
use Rattle.ruby_tree.specs.Tree.{SourcePosition, Tree, Other, Whens, Rescues, Params}
use Rattle.ruby_tree.specs.Rules.{Scope, DoBlockOwner}
use Rattle.ruby_tree.specs.Build.{Given, has_block}
use Rattle.ruby_tree.specs.Grammar.{Rels, Clauses, Else, Rescued, Body, DoBlock, Block, CallBlock, CommandBlock, CallItems, ElseBranches, WhenList, MethodParams, ParameterList, Parameters, Superclass}
use Rattle.ruby_tree.specs.Grammar as g
use Rattle.reference_laws.proofs.SwapTools.{no_kind, Alike, before, none_alike, Swapped, swapped, opened, alike_mark, alike_word, alike_opens, alike_opens_block, alike_opens_do, alike_begins_params, Swaps}
use Rattle.reference_laws.proofs.SwapItems.{swap_then, swap_bars, swap_exception_name, swap_several, swap_in_brackets, swap_classes}

module _ (xs ys : Toks) (source : Bytes) (R : Rels) (S : Swaps xs ys source R) where
  pub swap_clauses : {d : DoBlockOwner} {s z : Scope} {rs : Rescues} {w r q : Toks} → Clauses source R d w s rs r z → Alike xs ys r q → Swapped xs ys (λ (p : Toks). Clauses source R d p s rs q z) w
  swap_clauses (g.Clauses.last {w = none} e c x h i f) a = absurd (false≢true e)
  swap_clauses (g.Clauses.last {w = more (tok _ _ _ _ _) ws} e c x h i f) a =
      let I = S.stmts i a in
      let H = swap_then xs ys source h I.alike in
      let X = swap_exception_name xs ys source x H.alike in
      let C = swap_classes xs ys source R S c X.alike in
      swapped xs ys (before C.alike) (g.Clauses.last e C.holds X.holds H.holds I.holds (alike_word xs ys source (codes "rescue") a ∙ f))
  swap_clauses (g.Clauses.another {w = none} e c x h i f) a = absurd (false≢true e)
  swap_clauses (g.Clauses.another {w = more (tok _ _ _ _ _) ws} e c x h i f) a =
      let F = swap_clauses f a in
      let I = S.stmts i F.alike in
      let H = swap_then xs ys source h I.alike in
      let X = swap_exception_name xs ys source x H.alike in
      let C = swap_classes xs ys source R S c X.alike in
      swapped xs ys (before C.alike) (g.Clauses.another e C.holds X.holds H.holds I.holds F.holds)

  pub swap_else : {d : DoBlockOwner} {s z : Scope} {t : Other} {w r q : Toks} → Else source R d w s t r z → Alike xs ys r q → Swapped xs ys (λ (p : Toks). Else source R d p s t q z) w
  swap_else (g.Else.missing e) a = swapped xs ys a (g.Else.missing (alike_word xs ys source (codes "else") a ∙ e))
  swap_else (g.Else.given {w = none} e h) a = absurd (false≢true e)
  swap_else (g.Else.given {w = more (tok _ _ _ _ _) ws} e h) a = let H = S.stmts h a in swapped xs ys (before H.alike) (g.Else.given e H.holds)

  pub swap_rescued : {d : DoBlockOwner} {o : SourcePosition} {s z : Scope} {t : Tree} {w r q : Toks} → Rescued source R d o w s t r z → Alike xs ys r q → Swapped xs ys (λ (p : Toks). Rescued source R d o p s t q z) w
  swap_rescued (g.Rescued.plain h e) a = let H = S.stmts h a in swapped xs ys H.alike (g.Rescued.plain H.holds (alike_word xs ys source (codes "rescue") a ∙ e))
  swap_rescued (g.Rescued.clauses {q = none} h c e) a = absurd (none_alike xs ys (swap_clauses c (swap_else e a).alike).alike)
  swap_rescued (g.Rescued.clauses {q = more (tok _ _ _ _ _) qs} h c e) a =
      let E = swap_else e a in
      let C = opened xs ys (swap_clauses c E.alike) in
      let H = S.stmts h C.alike in
      swapped xs ys H.alike (g.Rescued.clauses H.holds C.holds E.holds)

  pub swap_body : {d : DoBlockOwner} {o : SourcePosition} {s z : Scope} {t : Tree} {w r q : Toks} → Body source R d o w s t r z → Alike xs ys r q → Swapped xs ys (λ (p : Toks). Body source R d o p s t q z) w
  swap_body (g.Body.plain h e) a = let H = swap_rescued h a in swapped xs ys H.alike (g.Body.plain H.holds (alike_word xs ys source (codes "ensure") a ∙ e))
  swap_body (g.Body.ensured {q = none} h e i) a = absurd (false≢true e)
  swap_body (g.Body.ensured {q = more (tok _ _ _ _ _) qs} h e i) a =
      let I = S.stmts i a in
      let H = swap_rescued h (before I.alike) in
      swapped xs ys H.alike (g.Body.ensured H.holds e I.holds)

  pub swap_do_block : {s z : Scope} {t : Tree} {w r q : Toks} → DoBlock source R w s t r z → Alike xs ys r q → Swapped xs ys (λ (p : Toks). DoBlock source R p s t q z) w
  swap_do_block (g.DoBlock.block {w = none} e p h c) a = absurd (false≢true e)
  swap_do_block (g.DoBlock.block {w = more (tok _ _ _ _ _) ws} {r = none} e p h c) a = absurd (false≢true c)
  swap_do_block (g.DoBlock.block {w = more (tok _ _ _ _ _) ws} {q = none} {r = more (tok _ _ _ _ _) rs} e p h c) a = absurd (none_alike xs ys (swap_body h (before a)).alike)
  swap_do_block (g.DoBlock.block {w = more (tok _ _ _ _ _) ws} {q = more (tok _ _ _ _ _) qs} {r = more (tok _ _ _ _ _) rs} e p h c) a =
      let H = opened xs ys (swap_body h (before a)) in
      let P = swap_bars xs ys source p H.alike in
      swapped xs ys (before P.alike) (g.DoBlock.block e P.holds H.holds c)

  pub swap_block : {d : DoBlockOwner} {s z : Scope} {t : Tree} {w r q : Toks} → Block source R d w s t r z → Alike xs ys r q → Swapped xs ys (λ (p : Toks). Block source R d p s t q z) w
  swap_block (g.Block.braces {w = none} e p h c) a = absurd (false≢true e)
  swap_block (g.Block.braces {w = more (tok _ _ _ _ _) ws} {r = none} e p h c) a = absurd (false≢true c)
  swap_block (g.Block.braces {w = more (tok _ _ _ _ _) ws} {r = more (tok _ _ _ _ _) rs} e p h c) a =
      let H = S.stmts h (before a) in
      let P = swap_bars xs ys source p H.alike in
      swapped xs ys (before P.alike) (g.Block.braces e P.holds H.holds c)
  swap_block (g.Block.with_do e h) a = let H = swap_do_block h a in swapped xs ys H.alike (g.Block.with_do e H.holds)

  pub swap_call_block : {d : DoBlockOwner} {c : Given} {s z : Scope} {b : Other} {w r q : Toks} → CallBlock source R d c w s b r z → Alike xs ys r q → Swapped xs ys (λ (p : Toks). CallBlock source R d c p s b q z) w
  swap_call_block {d = d} {c = c} (g.CallBlock.missing e) a = swapped xs ys a (g.CallBlock.missing (ap (λ (x : Bool). x && not (has_block c)) (alike_opens_block xs ys source d a) ∙ e))
  swap_call_block (g.CallBlock.given e h) a = let H = swap_block h a in swapped xs ys H.alike (g.CallBlock.given e H.holds)

  pub swap_command_block : {d : DoBlockOwner} {c : Given} {s z : Scope} {b : Other} {w r q : Toks} → CommandBlock source R d c w s b r z → Alike xs ys r q → Swapped xs ys (λ (p : Toks). CommandBlock source R d c p s b q z) w
  swap_command_block {d = d} {c = c} (g.CommandBlock.missing e) a = swapped xs ys a (g.CommandBlock.missing (ap (λ (x : Bool). x && not (has_block c)) (alike_opens_do xs ys source d a) ∙ e))
  swap_command_block (g.CommandBlock.given e i h) a = let H = swap_do_block h a in swapped xs ys H.alike (g.CommandBlock.given e i H.holds)

  pub swap_call_items : {d : DoBlockOwner} {s z : Scope} {c : Given} {b : Other} {w r q : Toks} → CallItems source R d w s c b r z → Alike xs ys r q → Swapped xs ys (λ (p : Toks). CallItems source R d p s c b q z) w
  swap_call_items (g.CallItems.bare e h) a = let H = swap_call_block h a in swapped xs ys H.alike (g.CallItems.bare (alike_opens xs ys source H.alike ∙ e) H.holds)
  swap_call_items (g.CallItems.brackets e h i) a =
      let I = swap_call_block i a in
      let H = swap_in_brackets xs ys source R S h I.alike in
      swapped xs ys H.alike (g.CallItems.brackets (alike_opens xs ys source H.alike ∙ e) H.holds I.holds)

  pub swap_elses : {d : DoBlockOwner} {s z : Scope} {t : Other} {w r q : Toks} → ElseBranches source R d w s t r z → Alike xs ys r q → Swapped xs ys (λ (p : Toks). ElseBranches source R d p s t q z) w
  swap_elses (g.ElseBranches.elsif {w = none} e c h i f) a = absurd (false≢true e)
  swap_elses (g.ElseBranches.elsif {w = more (tok _ _ _ _ _) ws} e c h i f) a =
      let F = S.else_branches f a in
      let I = S.stmts i F.alike in
      let H = swap_then xs ys source h I.alike in
      let C = S.expr c H.alike in
      swapped xs ys (before C.alike) (g.ElseBranches.elsif e C.holds H.holds I.holds F.holds)
  swap_elses (g.ElseBranches.other e h) a = let H = swap_else h a in swapped xs ys H.alike (g.ElseBranches.other (alike_word xs ys source (codes "elsif") H.alike ∙ e) H.holds)

  pub swap_when_list : {d : DoBlockOwner} {s z : Scope} {us : Whens} {w r q : Toks} → WhenList source R d w s us r z → Alike xs ys r q → Swapped xs ys (λ (p : Toks). WhenList source R d p s us q z) w
  swap_when_list (g.WhenList.last {w = none} e c h i f) a = absurd (false≢true e)
  swap_when_list (g.WhenList.last {w = more (tok _ _ _ _ _) ws} e c h i f) a =
      let I = S.stmts i a in
      let H = swap_then xs ys source h I.alike in
      let C = swap_several xs ys source R S c H.alike in
      swapped xs ys (before C.alike) (g.WhenList.last e C.holds H.holds I.holds (alike_word xs ys source (codes "when") a ∙ f))
  swap_when_list (g.WhenList.another {w = none} e c h i f) a = absurd (false≢true e)
  swap_when_list (g.WhenList.another {w = more (tok _ _ _ _ _) ws} e c h i f) a =
      let F = swap_when_list f a in
      let I = S.stmts i F.alike in
      let H = swap_then xs ys source h I.alike in
      let C = swap_several xs ys source R S c H.alike in
      swapped xs ys (before C.alike) (g.WhenList.another e C.holds H.holds I.holds F.holds)

  pub swap_method_params : {d : DoBlockOwner} {l : ℕ} {s z : Scope} {ps : Params} {w r q : Toks} → MethodParams source R d l w s ps r z → Alike xs ys r q → Swapped xs ys (λ (p : Toks). MethodParams source R d l p s ps q z) w
  swap_method_params (g.MethodParams.named {w = none} e i) a = absurd (no_kind e)
  swap_method_params (g.MethodParams.named {w = more (tok _ _ _ _ _) ws} e i) a = swapped xs ys (before a) (g.MethodParams.named e (alike_mark xs ys source (codes "=") a ∙ i))
  swap_method_params (g.MethodParams.named_more {w = none} e c h) a = absurd (no_kind e)
  swap_method_params (g.MethodParams.named_more {w = more (tok _ _ _ _ _) none} e c h) a = absurd (false≢true c)
  swap_method_params (g.MethodParams.named_more {w = more (tok _ _ _ _ _) (more (tok _ _ _ _ _) ws)} e c h) a = let H = swap_method_params h a in swapped xs ys (before (before H.alike)) (g.MethodParams.named_more e c H.holds)
  swap_method_params (g.MethodParams.default {w = none} i e c h) a = absurd (no_kind e)
  swap_method_params (g.MethodParams.default {w = more (tok _ _ _ _ _) none} i e c h) a = absurd (false≢true c)
  swap_method_params (g.MethodParams.default {w = more (tok _ _ _ _ _) (more (tok _ _ _ _ _) ws)} i e c h) a = let H = S.arg h a in swapped xs ys (before (before H.alike)) (g.MethodParams.default i e c H.holds)
  swap_method_params (g.MethodParams.default_more {w = none} i e c h f hs) a = absurd (no_kind e)
  swap_method_params (g.MethodParams.default_more {w = more (tok _ _ _ _ _) none} i e c h f hs) a = absurd (false≢true c)
  swap_method_params (g.MethodParams.default_more {w = more (tok _ _ _ _ _) (more (tok _ _ _ _ _) ws)} {q = none} i e c h f hs) a = absurd (false≢true f)
  swap_method_params (g.MethodParams.default_more {w = more (tok _ _ _ _ _) (more (tok _ _ _ _ _) ws)} {q = more (tok _ _ _ _ _) qs} i e c h f hs) a =
      let I = swap_method_params hs a in
      let H = S.arg h (before I.alike) in
      swapped xs ys (before (before H.alike)) (g.MethodParams.default_more i e c H.holds f I.holds)
  swap_method_params (g.MethodParams.left {w = none} i e h) a = absurd (false≢true e)
  swap_method_params (g.MethodParams.left {w = more (tok _ _ _ _ _) none} i e h) a = absurd (no_kind h)
  swap_method_params (g.MethodParams.left {w = more (tok _ _ _ _ _) (more (tok _ _ _ _ _) ws)} i e h) a = swapped xs ys (before (before a)) (g.MethodParams.left i e h)
  swap_method_params (g.MethodParams.left_more {w = none} i e h c hs) a = absurd (false≢true e)
  swap_method_params (g.MethodParams.left_more {w = more (tok _ _ _ _ _) none} i e h c hs) a = absurd (no_kind h)
  swap_method_params (g.MethodParams.left_more {w = more (tok _ _ _ _ _) (more (tok _ _ _ _ _) none)} i e h c hs) a = absurd (false≢true c)
  swap_method_params (g.MethodParams.left_more {w = more (tok _ _ _ _ _) (more (tok _ _ _ _ _) (more (tok _ _ _ _ _) ws))} i e h c hs) a = let H = swap_method_params hs a in swapped xs ys (before (before (before H.alike))) (g.MethodParams.left_more i e h c H.holds)
  swap_method_params (g.MethodParams.block {w = none} e h) a = absurd (false≢true e)
  swap_method_params (g.MethodParams.block {w = more (tok _ _ _ _ _) none} e h) a = absurd (no_kind h)
  swap_method_params (g.MethodParams.block {w = more (tok _ _ _ _ _) (more (tok _ _ _ _ _) ws)} e h) a = swapped xs ys (before (before a)) (g.MethodParams.block e h)

  pub swap_parameter_list : {d : DoBlockOwner} {s z : Scope} {ps : Params} {w r q : Toks} → ParameterList source R d w s ps r z → Alike xs ys r q → Swapped xs ys (λ (p : Toks). ParameterList source R d p s ps q z) w
  swap_parameter_list (g.ParameterList.empty {w = none} e h) a = absurd (false≢true e)
  swap_parameter_list (g.ParameterList.empty {w = more (tok _ _ _ _ _) none} e h) a = absurd (false≢true h)
  swap_parameter_list (g.ParameterList.empty {w = more (tok _ _ _ _ _) (more (tok _ _ _ _ _) ws)} e h) a = swapped xs ys (before (before a)) (g.ParameterList.empty e h)
  swap_parameter_list (g.ParameterList.brackets {w = none} e h c) a = absurd (false≢true e)
  swap_parameter_list (g.ParameterList.brackets {w = more (tok _ _ _ _ _) ws} {r = none} e h c) a = absurd (false≢true c)
  swap_parameter_list (g.ParameterList.brackets {w = more (tok _ _ _ _ _) ws} {r = more (tok _ _ _ _ _) rs} e h c) a = let H = swap_method_params h (before a) in swapped xs ys (before H.alike) (g.ParameterList.brackets e H.holds c)
  swap_parameter_list (g.ParameterList.no_line {w = none} e) a = absurd (false≢true e)
  swap_parameter_list (g.ParameterList.no_line {w = more (tok _ _ _ _ _) ws} e) a = swapped xs ys (before a) (g.ParameterList.no_line e)
  swap_parameter_list (g.ParameterList.line {r = none} h c) a = absurd (false≢true c)
  swap_parameter_list (g.ParameterList.line {r = more (tok _ _ _ _ _) rs} h c) a = let H = swap_method_params h (before a) in swapped xs ys H.alike (g.ParameterList.line H.holds c)

  pub swap_parameters : {d : DoBlockOwner} {s z : Scope} {ps : Params} {w r q : Toks} → Parameters source R d w s ps r z → Alike xs ys r q → Swapped xs ys (λ (p : Toks). Parameters source R d p s ps q z) w
  swap_parameters (g.Parameters.missing e) a = swapped xs ys a (g.Parameters.missing (alike_begins_params xs ys source a ∙ e))
  swap_parameters (g.Parameters.given h) a = let H = swap_parameter_list h a in swapped xs ys H.alike (g.Parameters.given H.holds)

  pub swap_superclass : {d : DoBlockOwner} {s z : Scope} {c : Other} {w r q : Toks} → Superclass source R d w s c r z → Alike xs ys r q → Swapped xs ys (λ (p : Toks). Superclass source R d p s c q z) w
  swap_superclass (g.Superclass.missing e) a = swapped xs ys a (g.Superclass.missing (alike_mark xs ys source (codes "<") a ∙ e))
  swap_superclass (g.Superclass.given {w = none} e h) a = absurd (false≢true e)
  swap_superclass (g.Superclass.given {w = more (tok _ _ _ _ _) ws} e h) a = let H = S.arg h a in swapped xs ys (before H.alike) (g.Superclass.given e H.holds)
