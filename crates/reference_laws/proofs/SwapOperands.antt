-- What is derived up to a newline stays derived with other tokens behind it: operands, and what stands behind them.
use Rattle.std.proofs.Common.{ℕ, Bool, false, ◌∙◌}
use Rattle.std.proofs.lemmas.Bool.{false≢true}
use Rattle.ruby_lexer.specs.Bytes.{Bytes}
use Rattle.ruby_lexer.specs.Pieces.{Kind, tok, Toks, none, more}
use Rattle.ruby_tree.specs.Tree.{Tree}
use Rattle.ruby_tree.specs.Rules.{Scope, DoBlockOwner, word}
use Rattle.ruby_tree.specs.Grammar.{Rels, Literal, Primary, Postfixes, Postfix}
use Rattle.ruby_tree.specs.Grammar as g
use Rattle.reference_laws.proofs.Moves.{Movers}
use Rattle.reference_laws.proofs.ShorterOperands.{moves_primary}
use Rattle.reference_laws.proofs.SwapTools.{takes_none, no_kind, Alike, at_line, before, none_alike, Swapped, swapped, opened, alike_opens, alike_opens_block, alike_assigns, alike_begins_arguments, alike_is_command, Swaps}
use Rattle.reference_laws.proofs.SwapItems.{swap_trailing, swap_then, swap_loop_start, swap_newlines, same_dot, swap_method_name, swap_on_self, swap_elements, swap_pair_list, swap_items, swap_in_brackets}
use Rattle.reference_laws.proofs.SwapBodies.{swap_else, swap_body, swap_block, swap_call_block, swap_call_items, swap_when_list, swap_parameters, swap_superclass}

module _ (xs ys : Toks) (source : Bytes) (R : Rels) (S : Swaps xs ys source R) where
  pub swap_literal : {s z : Scope} {t : Tree} {w r q : Toks} → Literal source R w s t r z → Alike xs ys r q → Swapped xs ys (λ (p : Toks). Literal source R p s t q z) w
  swap_literal (g.Literal.nil_word {w = none} e) a = absurd (false≢true e)
  swap_literal (g.Literal.nil_word {w = more (tok _ _ _ _ _) ws} e) a = swapped xs ys (before a) (g.Literal.nil_word e)
  swap_literal (g.Literal.true_word {w = none} e) a = absurd (false≢true e)
  swap_literal (g.Literal.true_word {w = more (tok _ _ _ _ _) ws} e) a = swapped xs ys (before a) (g.Literal.true_word e)
  swap_literal (g.Literal.false_word {w = none} e) a = absurd (false≢true e)
  swap_literal (g.Literal.false_word {w = more (tok _ _ _ _ _) ws} e) a = swapped xs ys (before a) (g.Literal.false_word e)
  swap_literal (g.Literal.file_word {w = none} e) a = absurd (false≢true e)
  swap_literal (g.Literal.file_word {w = more (tok _ _ _ _ _) ws} e) a = swapped xs ys (before a) (g.Literal.file_word e)
  swap_literal (g.Literal.folder_word {w = none} e) a = absurd (false≢true e)
  swap_literal (g.Literal.folder_word {w = more (tok _ _ _ _ _) ws} e) a = swapped xs ys (before a) (g.Literal.folder_word e)
  swap_literal (g.Literal.line_word {w = none} e) a = absurd (false≢true e)
  swap_literal (g.Literal.line_word {w = more (tok _ _ _ _ _) ws} e) a = swapped xs ys (before a) (g.Literal.line_word e)
  swap_literal (g.Literal.number {w = none} e) a = absurd (no_kind e)
  swap_literal (g.Literal.number {w = more (tok _ _ _ _ _) ws} e) a = swapped xs ys (before a) (g.Literal.number e)
  swap_literal (g.Literal.negative_number {w = none} e h) a = absurd (false≢true e)
  swap_literal (g.Literal.negative_number {w = more (tok _ _ _ _ _) none} e h) a = absurd (no_kind h)
  swap_literal (g.Literal.negative_number {w = more (tok _ _ _ _ _) (more (tok _ _ _ _ _) ws)} e h) at_line = swapped xs ys (before (before at_line)) (g.Literal.negative_number e h)
  swap_literal (g.Literal.negative_number {w = more (tok _ _ _ _ _) (more (tok _ _ _ _ _) ws)} e h) (before {t = tok _ _ _ _ _} a) = swapped xs ys (before (before (before a))) (g.Literal.negative_number e h)
  swap_literal (g.Literal.plain_text {w = none} e h) a = absurd (no_kind e)
  swap_literal (g.Literal.plain_text {w = more (tok _ _ _ _ _) ws} e h) a = swapped xs ys (before a) (g.Literal.plain_text e h)
  swap_literal (g.Literal.text_with_code {w = none} e h i) a = absurd (no_kind e)
  swap_literal (g.Literal.text_with_code {w = more (tok _ _ _ _ _) ws} e h i) a = swapped xs ys (before a) (g.Literal.text_with_code e h i)
  swap_literal (g.Literal.symbol_name {w = none} e) a = absurd (no_kind e)
  swap_literal (g.Literal.symbol_name {w = more (tok _ _ _ _ _) ws} e) a = swapped xs ys (before a) (g.Literal.symbol_name e)
  swap_literal (g.Literal.word_list {w = none} e) a = absurd (no_kind e)
  swap_literal (g.Literal.word_list {w = more (tok _ _ _ _ _) ws} e) a = swapped xs ys (before a) (g.Literal.word_list e)
  swap_literal (g.Literal.symbol_list {w = none} e) a = absurd (no_kind e)
  swap_literal (g.Literal.symbol_list {w = more (tok _ _ _ _ _) ws} e) a = swapped xs ys (before a) (g.Literal.symbol_list e)

  pub swap_primary : {d : DoBlockOwner} {s z : Scope} {t : Tree} {w r q : Toks} → Primary source R d w s t r z → Alike xs ys r q → Swapped xs ys (λ (p : Toks). Primary source R d p s t q z) w
  swap_primary (g.Primary.literal h) a = let H = swap_literal h a in swapped xs ys H.alike (g.Primary.literal H.holds)
  swap_primary (g.Primary.empty_list {w = none} e h) a = absurd (false≢true e)
  swap_primary (g.Primary.empty_list {w = more (tok _ _ _ _ _) none} e h) a = absurd (false≢true h)
  swap_primary (g.Primary.empty_list {w = more (tok _ _ _ _ _) (more (tok _ _ _ _ _) ws)} e h) a = swapped xs ys (before (before a)) (g.Primary.empty_list e h)
  swap_primary (g.Primary.list {w = none} e h f c) a = absurd (false≢true e)
  swap_primary (g.Primary.list {w = more (tok _ _ _ _ _) ws} {r = none} e h f c) a = absurd (false≢true c)
  swap_primary (g.Primary.list {w = more (tok _ _ _ _ _) ws} {r = more (tok _ _ _ _ _) rs} e h f c) a =
      let F = swap_trailing xs ys source f (before a) in
      let H = swap_elements xs ys source R S h F.alike in
      swapped xs ys (before H.alike) (g.Primary.list e H.holds F.holds c)
  swap_primary (g.Primary.empty_hash {w = none} e h) a = absurd (false≢true e)
  swap_primary (g.Primary.empty_hash {w = more (tok _ _ _ _ _) none} e h) a = absurd (false≢true h)
  swap_primary (g.Primary.empty_hash {w = more (tok _ _ _ _ _) (more (tok _ _ _ _ _) ws)} e h) a = swapped xs ys (before (before a)) (g.Primary.empty_hash e h)
  swap_primary (g.Primary.pairs {w = none} e h f c) a = absurd (false≢true e)
  swap_primary (g.Primary.pairs {w = more (tok _ _ _ _ _) ws} {r = none} e h f c) a = absurd (false≢true c)
  swap_primary (g.Primary.pairs {w = more (tok _ _ _ _ _) ws} {r = more (tok _ _ _ _ _) rs} e h f c) a =
      let F = swap_trailing xs ys source f (before a) in
      let H = swap_pair_list xs ys source R S h F.alike in
      swapped xs ys (before H.alike) (g.Primary.pairs e H.holds F.holds c)
  swap_primary (g.Primary.brackets {w = none} e h c) a = absurd (false≢true e)
  swap_primary (g.Primary.brackets {w = more (tok _ _ _ _ _) ws} {r = none} e h c) a = absurd (false≢true c)
  swap_primary (g.Primary.brackets {w = more (tok _ _ _ _ _) ws} {r = more (tok _ _ _ _ _) rs} e h c) a = let H = S.stmts h (before a) in swapped xs ys (before H.alike) (g.Primary.brackets e H.holds c)
  swap_primary (g.Primary.self_word {w = none} e) a = absurd (false≢true e)
  swap_primary (g.Primary.self_word {w = more (tok _ _ _ _ _) ws} e) a = swapped xs ys (before a) (g.Primary.self_word e)
  swap_primary (g.Primary.local_name {w = none} e o p i) a = absurd (no_kind e)
  swap_primary {d = d} (g.Primary.local_name {w = more (tok _ _ _ _ _) ws} e o p i) a = swapped xs ys (before a) (g.Primary.local_name e (alike_opens xs ys source a ∙ o) (alike_opens_block xs ys source d a ∙ p) i)
  swap_primary (g.Primary.bare_name {w = none} e o p i j) a = absurd (no_kind e)
  swap_primary {d = d} (g.Primary.bare_name {w = more (tok _ _ _ _ _) ws} e o p i j) a = swapped xs ys (before a) (g.Primary.bare_name e (alike_opens xs ys source a ∙ o) (alike_opens_block xs ys source d a ∙ p) i (alike_begins_arguments xs ys source a ∙ j))
  swap_primary (g.Primary.name_with_block {w = none} e o i h) a = absurd (no_kind e)
  swap_primary (g.Primary.name_with_block {w = more (tok k from to line b) ws} {s = u} e o i h) a =
      let H = swap_block xs ys source R S h a in
      swapped xs ys (before H.alike) (g.Primary.name_with_block e (alike_opens xs ys source H.alike ∙ o) (alike_is_command xs ys source u (word source (more (tok k from to line b) ws)) H.alike ∙ i) H.holds)
  swap_primary (g.Primary.called_name {w = none} e o h i) a = absurd (no_kind e)
  swap_primary (g.Primary.called_name {w = more (tok _ _ _ _ _) ws} e o h i) a =
      let I = swap_call_block xs ys source R S i a in
      let H = swap_in_brackets xs ys source R S h I.alike in
      swapped xs ys (before H.alike) (g.Primary.called_name e (alike_opens xs ys source H.alike ∙ o) H.holds I.holds)
  swap_primary (g.Primary.instance_name {w = none} e) a = absurd (no_kind e)
  swap_primary (g.Primary.instance_name {w = more (tok _ _ _ _ _) ws} e) a = swapped xs ys (before a) (g.Primary.instance_name e)
  swap_primary (g.Primary.global_name {w = none} e) a = absurd (no_kind e)
  swap_primary (g.Primary.global_name {w = more (tok _ _ _ _ _) ws} e) a = swapped xs ys (before a) (g.Primary.global_name e)
  swap_primary (g.Primary.constant {w = none} e o) a = absurd (no_kind e)
  swap_primary (g.Primary.constant {w = more (tok _ _ _ _ _) ws} e o) a = swapped xs ys (before a) (g.Primary.constant e (alike_opens xs ys source a ∙ o))
  swap_primary (g.Primary.called_constant {w = none} e o h i) a = absurd (no_kind e)
  swap_primary (g.Primary.called_constant {w = more (tok _ _ _ _ _) ws} e o h i) a =
      let I = swap_call_block xs ys source R S i a in
      let H = swap_in_brackets xs ys source R S h I.alike in
      swapped xs ys (before H.alike) (g.Primary.called_constant e (alike_opens xs ys source H.alike ∙ o) H.holds I.holds)
  swap_primary (g.Primary.top_constant {w = none} e h) a = absurd (false≢true e)
  swap_primary (g.Primary.top_constant {w = more (tok _ _ _ _ _) none} e h) a = absurd (no_kind h)
  swap_primary (g.Primary.top_constant {w = more (tok _ _ _ _ _) (more (tok _ _ _ _ _) ws)} e h) a = swapped xs ys (before (before a)) (g.Primary.top_constant e h)
  swap_primary (g.Primary.bare_yield {w = none} e o i) a = absurd (false≢true e)
  swap_primary (g.Primary.bare_yield {w = more (tok _ _ _ _ _) ws} e o i) a = swapped xs ys (before a) (g.Primary.bare_yield e (alike_opens xs ys source a ∙ o) (alike_begins_arguments xs ys source a ∙ i))
  swap_primary (g.Primary.called_yield {w = none} e o h i) a = absurd (false≢true e)
  swap_primary (g.Primary.called_yield {w = more (tok _ _ _ _ _) ws} e o h i) a = let H = swap_in_brackets xs ys source R S h a in swapped xs ys (before H.alike) (g.Primary.called_yield e (alike_opens xs ys source H.alike ∙ o) H.holds i)
  swap_primary (g.Primary.super_alone {w = none} e o i h) a = absurd (false≢true e)
  swap_primary (g.Primary.super_alone {w = more (tok _ _ _ _ _) ws} e o i h) a =
      let H = swap_call_block xs ys source R S h a in
      swapped xs ys (before H.alike) (g.Primary.super_alone e (alike_opens xs ys source H.alike ∙ o) (alike_begins_arguments xs ys source H.alike ∙ i) H.holds)
  swap_primary (g.Primary.called_super {w = none} e o h i) a = absurd (false≢true e)
  swap_primary (g.Primary.called_super {w = more (tok _ _ _ _ _) ws} e o h i) a =
      let I = swap_call_block xs ys source R S i a in
      let H = swap_in_brackets xs ys source R S h I.alike in
      swapped xs ys (before H.alike) (g.Primary.called_super e (alike_opens xs ys source H.alike ∙ o) H.holds I.holds)
  swap_primary (g.Primary.if_form {w = none} e c f h i o) a = absurd (false≢true e)
  swap_primary (g.Primary.if_form {w = more (tok _ _ _ _ _) ws} {r = none} e c f h i o) a = absurd (false≢true o)
  swap_primary (g.Primary.if_form {w = more (tok _ _ _ _ _) ws} {r = more (tok _ _ _ _ _) rs} e c f h i o) a =
      let I = S.else_branches i (before a) in
      let H = S.stmts h I.alike in
      let F = swap_then xs ys source f H.alike in
      let C = S.expr c F.alike in
      swapped xs ys (before C.alike) (g.Primary.if_form e C.holds F.holds H.holds I.holds o)
  swap_primary (g.Primary.unless_form {w = none} e c f h i o) a = absurd (false≢true e)
  swap_primary (g.Primary.unless_form {w = more (tok _ _ _ _ _) ws} {r = none} e c f h i o) a = absurd (false≢true o)
  swap_primary (g.Primary.unless_form {w = more (tok _ _ _ _ _) ws} {r = more (tok _ _ _ _ _) rs} e c f h i o) a =
      let I = S.else_branches i (before a) in
      let H = S.stmts h I.alike in
      let F = swap_then xs ys source f H.alike in
      let C = S.expr c F.alike in
      swapped xs ys (before C.alike) (g.Primary.unless_form e C.holds F.holds H.holds I.holds o)
  swap_primary (g.Primary.while_form {w = none} e c f h o) a = absurd (false≢true e)
  swap_primary (g.Primary.while_form {w = more (tok _ _ _ _ _) ws} {r = none} e c f h o) a = absurd (false≢true o)
  swap_primary (g.Primary.while_form {w = more (tok _ _ _ _ _) ws} {r = more (tok _ _ _ _ _) rs} e c f h o) a =
      let H = S.stmts h (before a) in
      let F = swap_loop_start xs ys source f H.alike in
      let C = S.expr c F.alike in
      swapped xs ys (before C.alike) (g.Primary.while_form e C.holds F.holds H.holds o)
  swap_primary (g.Primary.until_form {w = none} e c f h o) a = absurd (false≢true e)
  swap_primary (g.Primary.until_form {w = more (tok _ _ _ _ _) ws} {r = none} e c f h o) a = absurd (false≢true o)
  swap_primary (g.Primary.until_form {w = more (tok _ _ _ _ _) ws} {r = more (tok _ _ _ _ _) rs} e c f h o) a =
      let H = S.stmts h (before a) in
      let F = swap_loop_start xs ys source f H.alike in
      let C = S.expr c F.alike in
      swapped xs ys (before C.alike) (g.Primary.until_form e C.holds F.holds H.holds o)
  swap_primary (g.Primary.begin_form {w = none} e h o) a = absurd (false≢true e)
  swap_primary (g.Primary.begin_form {w = more (tok _ _ _ _ _) ws} {r = none} e h o) a = absurd (false≢true o)
  swap_primary (g.Primary.begin_form {w = more (tok _ _ _ _ _) ws} {r = more (tok _ _ _ _ _) rs} e h o) a = let H = swap_body xs ys source R S h (before a) in swapped xs ys (before H.alike) (g.Primary.begin_form e H.holds o)
  swap_primary (g.Primary.case_form {w = none} e c f h i o) a = absurd (false≢true e)
  swap_primary (g.Primary.case_form {w = more (tok _ _ _ _ _) ws} {r = none} e c f h i o) a = absurd (false≢true o)
  swap_primary (g.Primary.case_form {w = more (tok _ _ _ _ _) ws} {r = more (tok _ _ _ _ _) rs} e c f h i o) a =
      let I = swap_else xs ys source R S i (before a) in
      let H = swap_when_list xs ys source R S h I.alike in
      let F = swap_newlines xs ys source f H.alike in
      let C = S.expr c F.alike in
      swapped xs ys (before C.alike) (g.Primary.case_form e C.holds F.holds H.holds I.holds o)
  swap_primary (g.Primary.case_of_tests {w = none} e f h i o) a = absurd (false≢true e)
  swap_primary (g.Primary.case_of_tests {w = more (tok _ _ _ _ _) ws} {r = none} e f h i o) a = absurd (false≢true o)
  swap_primary (g.Primary.case_of_tests {w = more (tok _ _ _ _ _) ws} {r = more (tok _ _ _ _ _) rs} e f h i o) a =
      let I = swap_else xs ys source R S i (before a) in
      let H = swap_when_list xs ys source R S h I.alike in
      let F = swap_newlines xs ys source f H.alike in
      swapped xs ys (before F.alike) (g.Primary.case_of_tests e F.holds H.holds I.holds o)
  swap_primary (g.Primary.method_form {w = none} e i m p h o) a = absurd (false≢true e)
  swap_primary (g.Primary.method_form {w = more (tok _ _ _ _ _) ws} {r = none} e i m p h o) a = absurd (false≢true o)
  swap_primary (g.Primary.method_form {w = more (tok _ _ _ _ _) ws} {u = none} {r = more (tok _ _ _ _ _) rs} e i m p h o) a = absurd (none_alike xs ys (swap_body xs ys source R S h (before a)).alike)
  swap_primary (g.Primary.method_form {w = more (tok _ _ _ _ _) ws} {u = more (tok _ _ _ _ _) us} {r = more (tok _ _ _ _ _) rs} e i m p h o) a =
      let H = opened xs ys (swap_body xs ys source R S h (before a)) in
      let P = swap_parameters xs ys source R S p H.alike in
      let N = swap_method_name xs ys source m P.alike in
      let I = swap_on_self xs ys source R S i N.alike in
      swapped xs ys (before I.alike) (g.Primary.method_form e I.holds N.holds P.holds H.holds o)
  swap_primary (g.Primary.class_form {w = none} e c i f h o) a = absurd (false≢true e)
  swap_primary (g.Primary.class_form {w = more (tok _ _ _ _ _) none} e c i f h o) a = absurd (no_kind c)
  swap_primary (g.Primary.class_form {w = more (tok _ _ _ _ _) (more (tok _ _ _ _ _) ws)} {r = none} e c i f h o) a = absurd (false≢true o)
  swap_primary (g.Primary.class_form {w = more (tok _ _ _ _ _) (more (tok _ _ _ _ _) ws)} {q = none} {r = more (tok _ _ _ _ _) rs} e c i f h o) a = absurd (false≢true f)
  swap_primary (g.Primary.class_form {w = more (tok _ _ _ _ _) (more (tok _ _ _ _ _) ws)} {q = more (tok _ _ _ _ _) none} {r = more (tok _ _ _ _ _) rs} e c i f h o) a = absurd (none_alike xs ys (swap_body xs ys source R S h (before a)).alike)
  swap_primary (g.Primary.class_form {w = more (tok _ _ _ _ _) (more (tok _ _ _ _ _) ws)} {q = more (tok _ _ _ _ _) (more (tok _ _ _ _ _) qs)} {r = more (tok _ _ _ _ _) rs} e c i f h o) a =
      let H = opened xs ys (swap_body xs ys source R S h (before a)) in
      let I = swap_superclass xs ys source R S i (before H.alike) in
      swapped xs ys (before (before I.alike)) (g.Primary.class_form e c I.holds f H.holds o)
  swap_primary (g.Primary.module_form {w = none} e c f h o) a = absurd (false≢true e)
  swap_primary (g.Primary.module_form {w = more (tok _ _ _ _ _) none} e c f h o) a = absurd (no_kind c)
  swap_primary (g.Primary.module_form {w = more (tok _ _ _ _ _) (more (tok _ _ _ _ _) none)} e c f h o) a = absurd (false≢true f)
  swap_primary (g.Primary.module_form {w = more (tok _ _ _ _ _) (more (tok _ _ _ _ _) (more (tok _ _ _ _ _) ws))} {r = none} e c f h o) a = absurd (false≢true o)
  swap_primary (g.Primary.module_form {w = more (tok _ _ _ _ _) (more (tok _ _ _ _ _) (more (tok _ _ _ _ _) none))} {r = more (tok _ _ _ _ _) rs} e c f h o) a = absurd (none_alike xs ys (swap_body xs ys source R S h (before a)).alike)
  swap_primary (g.Primary.module_form {w = more (tok _ _ _ _ _) (more (tok _ _ _ _ _) (more (tok _ _ _ _ _) (more (tok _ _ _ _ _) ws)))} {r = more (tok _ _ _ _ _) rs} e c f h o) a =
      let H = opened xs ys (swap_body xs ys source R S h (before a)) in
      swapped xs ys (before (before (before H.alike))) (g.Primary.module_form e c f H.holds o)
  swap_primary (g.Primary.retry_word {w = none} e) a = absurd (false≢true e)
  swap_primary (g.Primary.retry_word {w = more (tok _ _ _ _ _) ws} e) a = swapped xs ys (before a) (g.Primary.retry_word e)

  no_dot : {k : Bool} → g.Dot source k none → ⊥
  no_dot (g.Dot.plain e) = absurd (false≢true e)
  no_dot (g.Dot.safe e) = absurd (false≢true e)

  -- of an operand that begins with a token, whatever stands behind that token
  pub swap_postfixes : {d : DoBlockOwner} {k : Kind} {from to line : ℕ} {b : Bool} {os : Toks} {x : Tree} {w r q : Toks} {s z : Scope} {t : Tree} → Postfixes source R d (more (tok k from to line b) os) x w s t r z → Alike xs ys r q → Swapped xs ys (λ (p : Toks). (us : Toks) → Postfixes source R d (more (tok k from to line b) us) x p s t q z) w
  swap_postfixes (g.Postfixes.called {w = none} e m i j h hs) a = absurd (no_dot e)
  swap_postfixes (g.Postfixes.called {w = more (tok _ _ _ _ _) none} e m i j h hs) a = absurd (none_alike xs ys (swap_method_name xs ys source m (swap_call_items xs ys source R S h (swap_postfixes hs a).alike).alike).alike)
  swap_postfixes (g.Postfixes.called {w = more (tok _ _ _ _ _) (more (tok _ _ _ _ _) ws)} e m i j h hs) a =
      let N = swap_postfixes hs a in
      let I = swap_call_items xs ys source R S h N.alike in
      let M = opened xs ys (swap_method_name xs ys source m I.alike) in
      swapped xs ys (before M.alike) (λ (us : Toks). g.Postfixes.called (same_dot xs ys source e) M.holds (alike_begins_arguments xs ys source I.alike ∙ i) (alike_assigns xs ys source I.alike ∙ j) I.holds (N.holds us))
  swap_postfixes (g.Postfixes.constant {w = none} e h hs) a = absurd (false≢true e)
  swap_postfixes (g.Postfixes.constant {w = more (tok _ _ _ _ _) none} e h hs) a = absurd (no_kind h)
  swap_postfixes (g.Postfixes.constant {w = more (tok _ _ _ _ _) (more (tok _ _ _ _ _) ws)} e h hs) a = let N = swap_postfixes hs a in swapped xs ys (before (before N.alike)) (λ (us : Toks). g.Postfixes.constant e h (N.holds us))
  swap_postfixes (g.Postfixes.index {w = none} e i h c j hs) a = absurd (false≢true e)
  swap_postfixes (g.Postfixes.index {w = more (tok _ _ _ _ _) ws} {p = none} e i h c j hs) a = absurd (false≢true c)
  swap_postfixes (g.Postfixes.index {w = more (tok _ _ _ _ _) ws} {p = more (tok _ _ _ _ _) ps} e i h c j hs) a =
      let N = swap_postfixes hs a in
      let H = swap_items xs ys source R S h (before N.alike) in
      swapped xs ys (before H.alike) (λ (us : Toks). g.Postfixes.index e i H.holds c (alike_assigns xs ys source N.alike ∙ j) (N.holds us))
  swap_postfixes g.Postfixes.end a = swapped xs ys a (λ (us : Toks). g.Postfixes.end)

  module _ (M : Movers false R) where
    pub swap_postfix : {d : DoBlockOwner} {s z : Scope} {t : Tree} {w r q : Toks} → Postfix source R d w s t r z → Alike xs ys r q → Swapped xs ys (λ (p : Toks). Postfix source R d p s t q z) w
    swap_postfix (g.Postfix.postfix {w = none} h hs) a = absurd (takes_none (moves_primary source false R M _ _ _ _ _ _ h))
    swap_postfix (g.Postfix.postfix {w = more (tok _ _ _ _ _) ws} h hs) a =
        let N = swap_postfixes hs a in
        let H = opened xs ys (swap_primary h N.alike) in
        swapped xs ys H.alike (g.Postfix.postfix H.holds (N.holds H.rest))
