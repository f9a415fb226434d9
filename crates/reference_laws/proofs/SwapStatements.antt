-- What is derived up to a newline stays derived with other tokens behind it: assignments, commands and statements.
use Rattle.std.proofs.Common.{ℕ, Bool, false, codes, ◌∙◌}
use Rattle.std.proofs.lemmas.Bool.{false≢true}
use Rattle.ruby_lexer.specs.Bytes.{Bytes}
use Rattle.ruby_lexer.specs.Pieces.{Kind, tok, Toks, none, more}
use Rattle.ruby_tree.specs.Tree.{Tree, Trees}
use Rattle.ruby_tree.specs.Rules.{Scope, DoBlockOwner, word, modifiers}
use Rattle.ruby_tree.specs.Grammar.{Rels, Values, Command, Value, Unset, Arg, CommandOrArg, Test, Tests, Expr, Head, Modifiers, Stmt, StmtList, Stmts}
use Rattle.ruby_tree.specs.Grammar as g
use Rattle.reference_laws.proofs.Moves.{Movers}
use Rattle.reference_laws.proofs.ShorterItems.{moves_targets}
use Rattle.reference_laws.proofs.ShorterOperands.{moves_postfix}
use Rattle.reference_laws.proofs.ShorterStatements.{moves_test, moves_head}
use Rattle.reference_laws.proofs.SwapTools.{takes_none, no_kind, Alike, before, none_alike, Swapped, swapped, opened, alike_line, alike_word, alike_words, alike_assigns, alike_begins_value, alike_begins_statement, alike_begins_targets, alike_begins_arguments, alike_is_command, alike_sets, Swaps}
use Rattle.reference_laws.proofs.SwapItems.{same_dot, swap_method_name, swap_targets, swap_several, swap_command_items}
use Rattle.reference_laws.proofs.SwapBodies.{swap_command_block}
use Rattle.reference_laws.proofs.SwapOperands.{swap_postfix}
use Rattle.reference_laws.proofs.SwapLevels.{swap_conditional}

module _ (xs ys : Toks) (source : Bytes) (R : Rels) (S : Swaps xs ys source R) (M : Movers false R) where
  pub swap_values : {d : DoBlockOwner} {s z : Scope} {ts : Trees} {w r q : Toks} → Values source R d w s ts r z → Alike xs ys r q → Swapped xs ys (λ (p : Toks). Values source R d p s ts q z) w
  swap_values (g.Values.missing e) a = swapped xs ys a (g.Values.missing (alike_begins_value xs ys source a ∙ e))
  swap_values (g.Values.given e h) a = let H = swap_several xs ys source R S h a in swapped xs ys H.alike (g.Values.given (alike_words xs ys source modifiers H.alike ∙ e) H.holds)

  no_dot : {k : Bool} → g.Dot source k none → ⊥
  no_dot (g.Dot.plain e) = absurd (false≢true e)
  no_dot (g.Dot.safe e) = absurd (false≢true e)

  pub swap_command : {d : DoBlockOwner} {s z : Scope} {t : Tree} {w r q : Toks} → Command source R d w s t r z → Alike xs ys r q → Swapped xs ys (λ (p : Toks). Command source R d p s t q z) w
  swap_command (g.Command.named {w = none} e i h c) a = absurd (no_kind e)
  swap_command (g.Command.named {w = more (tok k from to line b) ws} {s = u} e i h c) a =
      let C = swap_command_block xs ys source R S c a in
      let H = swap_command_items xs ys source R S h C.alike in
      swapped xs ys (before H.alike) (g.Command.named e (alike_is_command xs ys source u (word source (more (tok k from to line b) ws)) H.alike ∙ i) H.holds C.holds)
  swap_command (g.Command.called {w = none} i h e m j f c) a = absurd (takes_none (moves_postfix source false R M _ _ _ _ _ _ h))
  swap_command (g.Command.called {w = more (tok _ _ _ _ _) ws} {q = none} i h e m j f c) a = absurd (no_dot e)
  swap_command (g.Command.called {w = more (tok _ _ _ _ _) ws} {q = more (tok _ _ _ _ _) none} i h e m j f c) a =
      let C = swap_command_block xs ys source R S c a in
      let F = swap_command_items xs ys source R S f C.alike in
      absurd (none_alike xs ys (swap_method_name xs ys source m F.alike).alike)
  swap_command (g.Command.called {w = more (tok k from to line b) ws} {q = more (tok _ _ _ _ _) (more (tok _ _ _ _ _) qs)} i h e m j f c) a =
      let C = swap_command_block xs ys source R S c a in
      let F = swap_command_items xs ys source R S f C.alike in
      let N = opened xs ys (swap_method_name xs ys source m F.alike) in
      let H = opened xs ys (swap_postfix xs ys source R S M h (before N.alike)) in
      swapped xs ys H.alike (g.Command.called (alike_sets xs ys source H.alike ∙ i) H.holds (same_dot xs ys source e) N.holds (alike_begins_arguments xs ys source F.alike ∙ j) F.holds C.holds)
  swap_command (g.Command.yielded {w = none} e i h j) a = absurd (false≢true e)
  swap_command (g.Command.yielded {w = more (tok _ _ _ _ _) ws} e i h j) a = let H = swap_command_items xs ys source R S h a in swapped xs ys (before H.alike) (g.Command.yielded e (alike_begins_arguments xs ys source H.alike ∙ i) H.holds j)
  swap_command (g.Command.super_with {w = none} e i h c) a = absurd (false≢true e)
  swap_command (g.Command.super_with {w = more (tok _ _ _ _ _) ws} e i h c) a =
      let C = swap_command_block xs ys source R S c a in
      let H = swap_command_items xs ys source R S h C.alike in
      swapped xs ys (before H.alike) (g.Command.super_with e (alike_begins_arguments xs ys source H.alike ∙ i) H.holds C.holds)
  swap_command (g.Command.returned {w = none} e h) a = absurd (false≢true e)
  swap_command (g.Command.returned {w = more (tok _ _ _ _ _) ws} e h) a = let H = swap_values h a in swapped xs ys (before H.alike) (g.Command.returned e H.holds)
  swap_command (g.Command.broken {w = none} e h) a = absurd (false≢true e)
  swap_command (g.Command.broken {w = more (tok _ _ _ _ _) ws} e h) a = let H = swap_values h a in swapped xs ys (before H.alike) (g.Command.broken e H.holds)
  swap_command (g.Command.nexted {w = none} e h) a = absurd (false≢true e)
  swap_command (g.Command.nexted {w = more (tok _ _ _ _ _) ws} e h) a = let H = swap_values h a in swapped xs ys (before H.alike) (g.Command.nexted e H.holds)

  pub swap_value : {d : DoBlockOwner} {s z : Scope} {t : Tree} {w r q : Toks} → Value source R d w s t r z → Alike xs ys r q → Swapped xs ys (λ (p : Toks). Value source R d p s t q z) w
  swap_value (g.Value.plain h e) a = let H = S.assigned_value h a in swapped xs ys H.alike (g.Value.plain H.holds (alike_word xs ys source (codes "rescue") a ∙ e))
  swap_value (g.Value.saved {w = none} h e i) a = absurd (takes_none (M.assigned_value _ _ _ _ _ _ h))
  swap_value (g.Value.saved {w = more (tok _ _ _ _ _) ws} {q = none} h e i) a = absurd (false≢true e)
  swap_value (g.Value.saved {w = more (tok _ _ _ _ _) ws} {q = more (tok _ _ _ _ _) none} h e i) a = absurd (none_alike xs ys (S.arg i a).alike)
  swap_value (g.Value.saved {w = more (tok _ _ _ _ _) ws} {q = more (tok _ _ _ _ _) (more (tok _ _ _ _ _) qs)} h e i) a =
      let I = opened xs ys (S.arg i a) in
      let H = opened xs ys (S.assigned_value h (before I.alike)) in
      swapped xs ys H.alike (g.Value.saved H.holds e I.holds)

  pub swap_unset : {d : DoBlockOwner} {s z : Scope} {t : Tree} {w r q : Toks} → Unset source R d w s t r z → Alike xs ys r q → Swapped xs ys (λ (p : Toks). Unset source R d p s t q z) w
  swap_unset (g.Unset.attribute {w = none} h e i c x) a = absurd (takes_none (moves_postfix source false R M _ _ _ _ _ _ h))
  swap_unset (g.Unset.attribute {w = more (tok _ _ _ _ _) ws} {q = none} h e i c x) a = absurd (false≢true e)
  swap_unset (g.Unset.attribute {w = more (tok _ _ _ _ _) ws} {q = more (tok _ _ _ _ _) none} h e i c x) a = absurd (no_kind i)
  swap_unset (g.Unset.attribute {w = more (tok _ _ _ _ _) ws} {q = more (tok _ _ _ _ _) (more (tok _ _ _ _ _) none)} h e i c x) a = absurd (false≢true c)
  swap_unset (g.Unset.attribute {w = more (tok _ _ _ _ _) ws} {q = more (tok _ _ _ _ _) (more (tok _ _ _ _ _) (more (tok _ _ _ _ _) qs))} h e i c x) a =
      let X = swap_value x a in
      let H = opened xs ys (swap_postfix xs ys source R S M h (before (before (before X.alike)))) in
      swapped xs ys H.alike (g.Unset.attribute H.holds e i c X.holds)
  swap_unset (g.Unset.operated_attribute {w = none} h e i c x) a = absurd (takes_none (moves_postfix source false R M _ _ _ _ _ _ h))
  swap_unset (g.Unset.operated_attribute {w = more (tok _ _ _ _ _) ws} {q = none} h e i c x) a = absurd (false≢true e)
  swap_unset (g.Unset.operated_attribute {w = more (tok _ _ _ _ _) ws} {q = more (tok _ _ _ _ _) none} h e i c x) a = absurd (no_kind i)
  swap_unset (g.Unset.operated_attribute {w = more (tok _ _ _ _ _) ws} {q = more (tok _ _ _ _ _) (more (tok _ _ _ _ _) none)} h e i c x) a = absurd (false≢true c)
  swap_unset (g.Unset.operated_attribute {w = more (tok _ _ _ _ _) ws} {q = more (tok _ _ _ _ _) (more (tok _ _ _ _ _) (more (tok _ _ _ _ _) qs))} h e i c x) a =
      let X = swap_value x a in
      let H = opened xs ys (swap_postfix xs ys source R S M h (before (before (before X.alike)))) in
      swapped xs ys H.alike (g.Unset.operated_attribute H.holds e i c X.holds)
  swap_unset (g.Unset.either_attribute {w = none} h e i c x) a = absurd (takes_none (moves_postfix source false R M _ _ _ _ _ _ h))
  swap_unset (g.Unset.either_attribute {w = more (tok _ _ _ _ _) ws} {q = none} h e i c x) a = absurd (false≢true e)
  swap_unset (g.Unset.either_attribute {w = more (tok _ _ _ _ _) ws} {q = more (tok _ _ _ _ _) none} h e i c x) a = absurd (no_kind i)
  swap_unset (g.Unset.either_attribute {w = more (tok _ _ _ _ _) ws} {q = more (tok _ _ _ _ _) (more (tok _ _ _ _ _) none)} h e i c x) a = absurd (false≢true c)
  swap_unset (g.Unset.either_attribute {w = more (tok _ _ _ _ _) ws} {q = more (tok _ _ _ _ _) (more (tok _ _ _ _ _) (more (tok _ _ _ _ _) qs))} h e i c x) a =
      let X = swap_value x a in
      let H = opened xs ys (swap_postfix xs ys source R S M h (before (before (before X.alike)))) in
      swapped xs ys H.alike (g.Unset.either_attribute H.holds e i c X.holds)
  swap_unset (g.Unset.both_attribute {w = none} h e i c x) a = absurd (takes_none (moves_postfix source false R M _ _ _ _ _ _ h))
  swap_unset (g.Unset.both_attribute {w = more (tok _ _ _ _ _) ws} {q = none} h e i c x) a = absurd (false≢true e)
  swap_unset (g.Unset.both_attribute {w = more (tok _ _ _ _ _) ws} {q = more (tok _ _ _ _ _) none} h e i c x) a = absurd (no_kind i)
  swap_unset (g.Unset.both_attribute {w = more (tok _ _ _ _ _) ws} {q = more (tok _ _ _ _ _) (more (tok _ _ _ _ _) none)} h e i c x) a = absurd (false≢true c)
  swap_unset (g.Unset.both_attribute {w = more (tok _ _ _ _ _) ws} {q = more (tok _ _ _ _ _) (more (tok _ _ _ _ _) (more (tok _ _ _ _ _) qs))} h e i c x) a =
      let X = swap_value x a in
      let H = opened xs ys (swap_postfix xs ys source R S M h (before (before (before X.alike)))) in
      swapped xs ys H.alike (g.Unset.both_attribute H.holds e i c X.holds)
  swap_unset (g.Unset.element {w = none} h e i k f c x) a = absurd (takes_none (moves_postfix source false R M _ _ _ _ _ _ h))
  swap_unset (g.Unset.element {w = more (tok _ _ _ _ _) ws} {q = none} h e i k f c x) a = absurd (false≢true e)
  swap_unset (g.Unset.element {w = more (tok _ _ _ _ _) ws} {q = more (tok _ _ _ _ _) qs} {p = none} h e i k f c x) a = absurd (false≢true f)
  swap_unset (g.Unset.element {w = more (tok _ _ _ _ _) ws} {q = more (tok _ _ _ _ _) qs} {p = more (tok _ _ _ _ _) none} h e i k f c x) a = absurd (false≢true c)
  swap_unset (g.Unset.element {w = more (tok _ _ _ _ _) ws} {q = more (tok _ _ _ _ _) qs} {p = more (tok _ _ _ _ _) (more (tok _ _ _ _ _) ps)} h e i k f c x) a =
      let X = swap_value x a in
      let K = S.arg k (before (before X.alike)) in
      let H = opened xs ys (swap_postfix xs ys source R S M h (before K.alike)) in
      swapped xs ys H.alike (g.Unset.element H.holds e i K.holds f c X.holds)
  swap_unset (g.Unset.operated_element {w = none} h e i k f c x) a = absurd (takes_none (moves_postfix source false R M _ _ _ _ _ _ h))
  swap_unset (g.Unset.operated_element {w = more (tok _ _ _ _ _) ws} {q = none} h e i k f c x) a = absurd (false≢true e)
  swap_unset (g.Unset.operated_element {w = more (tok _ _ _ _ _) ws} {q = more (tok _ _ _ _ _) qs} {p = none} h e i k f c x) a = absurd (false≢true f)
  swap_unset (g.Unset.operated_element {w = more (tok _ _ _ _ _) ws} {q = more (tok _ _ _ _ _) qs} {p = more (tok _ _ _ _ _) none} h e i k f c x) a = absurd (false≢true c)
  swap_unset (g.Unset.operated_element {w = more (tok _ _ _ _ _) ws} {q = more (tok _ _ _ _ _) qs} {p = more (tok _ _ _ _ _) (more (tok _ _ _ _ _) ps)} h e i k f c x) a =
      let X = swap_value x a in
      let K = S.arg k (before (before X.alike)) in
      let H = opened xs ys (swap_postfix xs ys source R S M h (before K.alike)) in
      swapped xs ys H.alike (g.Unset.operated_element H.holds e i K.holds f c X.holds)
  swap_unset (g.Unset.either_element {w = none} h e i k f c x) a = absurd (takes_none (moves_postfix source false R M _ _ _ _ _ _ h))
  swap_unset (g.Unset.either_element {w = more (tok _ _ _ _ _) ws} {q = none} h e i k f c x) a = absurd (false≢true e)
  swap_unset (g.Unset.either_element {w = more (tok _ _ _ _ _) ws} {q = more (tok _ _ _ _ _) qs} {p = none} h e i k f c x) a = absurd (false≢true f)
  swap_unset (g.Unset.either_element {w = more (tok _ _ _ _ _) ws} {q = more (tok _ _ _ _ _) qs} {p = more (tok _ _ _ _ _) none} h e i k f c x) a = absurd (false≢true c)
  swap_unset (g.Unset.either_element {w = more (tok _ _ _ _ _) ws} {q = more (tok _ _ _ _ _) qs} {p = more (tok _ _ _ _ _) (more (tok _ _ _ _ _) ps)} h e i k f c x) a =
      let X = swap_value x a in
      let K = S.arg k (before (before X.alike)) in
      let H = opened xs ys (swap_postfix xs ys source R S M h (before K.alike)) in
      swapped xs ys H.alike (g.Unset.either_element H.holds e i K.holds f c X.holds)
  swap_unset (g.Unset.both_element {w = none} h e i k f c x) a = absurd (takes_none (moves_postfix source false R M _ _ _ _ _ _ h))
  swap_unset (g.Unset.both_element {w = more (tok _ _ _ _ _) ws} {q = none} h e i k f c x) a = absurd (false≢true e)
  swap_unset (g.Unset.both_element {w = more (tok _ _ _ _ _) ws} {q = more (tok _ _ _ _ _) qs} {p = none} h e i k f c x) a = absurd (false≢true f)
  swap_unset (g.Unset.both_element {w = more (tok _ _ _ _ _) ws} {q = more (tok _ _ _ _ _) qs} {p = more (tok _ _ _ _ _) none} h e i k f c x) a = absurd (false≢true c)
  swap_unset (g.Unset.both_element {w = more (tok _ _ _ _ _) ws} {q = more (tok _ _ _ _ _) qs} {p = more (tok _ _ _ _ _) (more (tok _ _ _ _ _) ps)} h e i k f c x) a =
      let X = swap_value x a in
      let K = S.arg k (before (before X.alike)) in
      let H = opened xs ys (swap_postfix xs ys source R S M h (before K.alike)) in
      swapped xs ys H.alike (g.Unset.both_element H.holds e i K.holds f c X.holds)
  swap_unset {d = d} (g.Unset.plain h e) a = let H = swap_conditional xs ys source R S M d _ _ _ _ _ h _ a in swapped xs ys H.alike (g.Unset.plain H.holds (alike_assigns xs ys source a ∙ e))

  pub swap_arg : {d : DoBlockOwner} {s z : Scope} {t : Tree} {w r q : Toks} → Arg source R d w s t r z → Alike xs ys r q → Swapped xs ys (λ (p : Toks). Arg source R d p s t q z) w
  swap_arg (g.Arg.variable {w = none} e c x) a = absurd (no_kind e)
  swap_arg (g.Arg.variable {w = more (tok _ _ _ _ _) none} e c x) a = absurd (false≢true c)
  swap_arg (g.Arg.variable {w = more (tok _ _ _ _ _) (more (tok _ _ _ _ _) ws)} e c x) a = let X = swap_value x a in swapped xs ys (before (before X.alike)) (g.Arg.variable e c X.holds)
  swap_arg (g.Arg.operated_variable {w = none} e c x) a = absurd (no_kind e)
  swap_arg (g.Arg.operated_variable {w = more (tok _ _ _ _ _) none} e c x) a = absurd (false≢true c)
  swap_arg (g.Arg.operated_variable {w = more (tok _ _ _ _ _) (more (tok _ _ _ _ _) ws)} e c x) a = let X = swap_value x a in swapped xs ys (before (before X.alike)) (g.Arg.operated_variable e c X.holds)
  swap_arg (g.Arg.either_variable {w = none} e c x) a = absurd (no_kind e)
  swap_arg (g.Arg.either_variable {w = more (tok _ _ _ _ _) none} e c x) a = absurd (false≢true c)
  swap_arg (g.Arg.either_variable {w = more (tok _ _ _ _ _) (more (tok _ _ _ _ _) ws)} e c x) a = let X = swap_value x a in swapped xs ys (before (before X.alike)) (g.Arg.either_variable e c X.holds)
  swap_arg (g.Arg.both_variable {w = none} e c x) a = absurd (no_kind e)
  swap_arg (g.Arg.both_variable {w = more (tok _ _ _ _ _) none} e c x) a = absurd (false≢true c)
  swap_arg (g.Arg.both_variable {w = more (tok _ _ _ _ _) (more (tok _ _ _ _ _) ws)} e c x) a = let X = swap_value x a in swapped xs ys (before (before X.alike)) (g.Arg.both_variable e c X.holds)
  swap_arg (g.Arg.constant {w = none} e c x) a = absurd (no_kind e)
  swap_arg (g.Arg.constant {w = more (tok _ _ _ _ _) none} e c x) a = absurd (false≢true c)
  swap_arg (g.Arg.constant {w = more (tok _ _ _ _ _) (more (tok _ _ _ _ _) ws)} e c x) a = let X = swap_value x a in swapped xs ys (before (before X.alike)) (g.Arg.constant e c X.holds)
  swap_arg (g.Arg.other e h) a = let H = swap_unset h a in swapped xs ys H.alike (g.Arg.other (alike_sets xs ys source H.alike ∙ e) H.holds)

  pub swap_whole : {d : DoBlockOwner} {s z : Scope} {t : Tree} {w r q : Toks} → CommandOrArg source R d w s t r z → Alike xs ys r q → Swapped xs ys (λ (p : Toks). CommandOrArg source R d p s t q z) w
  swap_whole (g.CommandOrArg.command h) a = let H = swap_command h a in swapped xs ys H.alike (g.CommandOrArg.command H.holds)
  swap_whole (g.CommandOrArg.arg h) a = let H = swap_arg h a in swapped xs ys H.alike (g.CommandOrArg.arg H.holds)

  pub swap_test : {d : DoBlockOwner} {s z : Scope} {t : Tree} {w r q : Toks} → Test source R d w s t r z → Alike xs ys r q → Swapped xs ys (λ (p : Toks). Test source R d p s t q z) w
  swap_test (g.Test.inverted {w = none} e h) a = absurd (false≢true e)
  swap_test (g.Test.inverted {w = more (tok _ _ _ _ _) ws} e h) a = let H = S.test h a in swapped xs ys (before H.alike) (g.Test.inverted e H.holds)
  swap_test (g.Test.plain h) a = let H = swap_whole h a in swapped xs ys H.alike (g.Test.plain H.holds)

  -- of a first part that begins with a token, whatever stands behind that token
  swap_tests : {d : DoBlockOwner} {k : Kind} {from to line : ℕ} {b : Bool} {os : Toks} {x : Tree} {w r q : Toks} {s z : Scope} {t : Tree} → Tests source R d (more (tok k from to line b) os) x w s t r z → Alike xs ys r q → Swapped xs ys (λ (p : Toks). (us : Toks) → Tests source R d (more (tok k from to line b) us) x p s t q z) w
  swap_tests (g.Tests.and_test {w = none} e h hs) a = absurd (false≢true e)
  swap_tests (g.Tests.and_test {w = more (tok _ _ _ _ _) ws} e h hs) a = let N = swap_tests hs a in let H = S.test h N.alike in swapped xs ys (before H.alike) (λ (us : Toks). g.Tests.and_test e H.holds (N.holds us))
  swap_tests (g.Tests.or_test {w = none} e h hs) a = absurd (false≢true e)
  swap_tests (g.Tests.or_test {w = more (tok _ _ _ _ _) ws} e h hs) a = let N = swap_tests hs a in let H = S.test h N.alike in swapped xs ys (before H.alike) (λ (us : Toks). g.Tests.or_test e H.holds (N.holds us))
  swap_tests (g.Tests.end e h) a = swapped xs ys a (λ (us : Toks). g.Tests.end (alike_word xs ys source (codes "and") a ∙ e) (alike_word xs ys source (codes "or") a ∙ h))

  pub swap_expr : {d : DoBlockOwner} {s z : Scope} {t : Tree} {w r q : Toks} → Expr source R d w s t r z → Alike xs ys r q → Swapped xs ys (λ (p : Toks). Expr source R d p s t q z) w
  swap_expr (g.Expr.tests {w = none} h hs) a = absurd (takes_none (moves_test source false R M _ _ _ _ _ _ h))
  swap_expr (g.Expr.tests {w = more (tok _ _ _ _ _) ws} h hs) a = let N = swap_tests hs a in let H = opened xs ys (swap_test h N.alike) in swapped xs ys H.alike (g.Expr.tests H.holds (N.holds H.rest))

  pub swap_head : {d : DoBlockOwner} {s z : Scope} {t : Tree} {w r q : Toks} → Head source R d w s t r z → Alike xs ys r q → Swapped xs ys (λ (p : Toks). Head source R d p s t q z) w
  swap_head (g.Head.several {w = none} h e hs) a = absurd (takes_none (moves_targets source false _ _ _ _ _ h))
  swap_head (g.Head.several {w = more (tok _ _ _ _ _) ws} {q = none} h e hs) a = absurd (false≢true e)
  swap_head (g.Head.several {w = more (tok _ _ _ _ _) ws} {q = more (tok _ _ _ _ _) qs} h e hs) a =
      let N = swap_several xs ys source R S hs a in
      let H = opened xs ys (swap_targets xs ys source h (before N.alike)) in
      swapped xs ys H.alike (g.Head.several H.holds e N.holds)
  swap_head (g.Head.plain e h) a = let H = swap_expr h a in swapped xs ys H.alike (g.Head.plain (alike_begins_targets xs ys source H.alike ∙ e) H.holds)

  swap_modifiers : {d : DoBlockOwner} {k : Kind} {from to line : ℕ} {b : Bool} {os : Toks} {c : Bool} {x : Tree} {w r q : Toks} {s z : Scope} {t : Tree} → Modifiers source R d (more (tok k from to line b) os) c x w s t r z → Alike xs ys r q → Swapped xs ys (λ (p : Toks). (us : Toks) → Modifiers source R d (more (tok k from to line b) us) c x p s t q z) w
  swap_modifiers (g.Modifiers.if_holds {w = none} e h hs) a = absurd (false≢true e)
  swap_modifiers (g.Modifiers.if_holds {w = more (tok _ _ _ _ _) ws} e h hs) a = let N = swap_modifiers hs a in let H = S.expr h N.alike in swapped xs ys (before H.alike) (λ (us : Toks). g.Modifiers.if_holds e H.holds (N.holds us))
  swap_modifiers (g.Modifiers.unless_holds {w = none} e h hs) a = absurd (false≢true e)
  swap_modifiers (g.Modifiers.unless_holds {w = more (tok _ _ _ _ _) ws} e h hs) a = let N = swap_modifiers hs a in let H = S.expr h N.alike in swapped xs ys (before H.alike) (λ (us : Toks). g.Modifiers.unless_holds e H.holds (N.holds us))
  swap_modifiers (g.Modifiers.while_holds {w = none} e h hs) a = absurd (false≢true e)
  swap_modifiers (g.Modifiers.while_holds {w = more (tok _ _ _ _ _) ws} e h hs) a = let N = swap_modifiers hs a in let H = S.expr h N.alike in swapped xs ys (before H.alike) (λ (us : Toks). g.Modifiers.while_holds e H.holds (N.holds us))
  swap_modifiers (g.Modifiers.until_holds {w = none} e h hs) a = absurd (false≢true e)
  swap_modifiers (g.Modifiers.until_holds {w = more (tok _ _ _ _ _) ws} e h hs) a = let N = swap_modifiers hs a in let H = S.expr h N.alike in swapped xs ys (before H.alike) (λ (us : Toks). g.Modifiers.until_holds e H.holds (N.holds us))
  swap_modifiers (g.Modifiers.saved {w = none} e h hs) a = absurd (false≢true e)
  swap_modifiers (g.Modifiers.saved {w = more (tok _ _ _ _ _) none} e h hs) a = absurd (none_alike xs ys (S.expr h (swap_modifiers hs a).alike).alike)
  swap_modifiers (g.Modifiers.saved {w = more (tok _ _ _ _ _) (more (tok _ _ _ _ _) ws)} e h hs) a = let N = swap_modifiers hs a in let H = opened xs ys (S.expr h N.alike) in swapped xs ys (before H.alike) (λ (us : Toks). g.Modifiers.saved e H.holds (N.holds us))
  swap_modifiers (g.Modifiers.end e) a = swapped xs ys a (λ (us : Toks). g.Modifiers.end (alike_words xs ys source modifiers a ∙ e))

  pub swap_stmt : {d : DoBlockOwner} {s z : Scope} {t : Tree} {w r q : Toks} → Stmt source R d w s t r z → Alike xs ys r q → Swapped xs ys (λ (p : Toks). Stmt source R d p s t q z) w
  swap_stmt (g.Stmt.head {w = none} h hs) a = absurd (takes_none (moves_head source false R M _ _ _ _ _ _ h))
  swap_stmt (g.Stmt.head {w = more (tok _ _ _ _ _) ws} h hs) a = let N = swap_modifiers hs a in let H = opened xs ys (swap_head h N.alike) in swapped xs ys H.alike (g.Stmt.head H.holds (N.holds H.rest))

  pub swap_stmt_list : {d : DoBlockOwner} {s z : Scope} {ts : Trees} {w r q : Toks} → StmtList source R d w s ts r z → Alike xs ys r q → Swapped xs ys (λ (p : Toks). StmtList source R d p s ts q z) w
  swap_stmt_list (g.StmtList.line {w = none} e h) a = absurd (false≢true e)
  swap_stmt_list (g.StmtList.line {w = more (tok _ _ _ _ _) ws} e h) a = let H = swap_stmt_list h a in swapped xs ys (before H.alike) (g.StmtList.line e H.holds)
  swap_stmt_list (g.StmtList.last h e) a = let H = swap_stmt h a in swapped xs ys H.alike (g.StmtList.last H.holds (alike_line xs ys source a ∙ e))
  swap_stmt_list (g.StmtList.another {q = none} h e hs) a = absurd (false≢true e)
  swap_stmt_list (g.StmtList.another {q = more (tok _ _ _ _ _) qs} h e hs) a =
      let N = swap_stmt_list hs a in
      let H = swap_stmt h (before N.alike) in
      swapped xs ys H.alike (g.StmtList.another H.holds e N.holds)
  swap_stmt_list (g.StmtList.empty e i) a = swapped xs ys a (g.StmtList.empty (alike_line xs ys source a ∙ e) (alike_begins_statement xs ys source a ∙ i))

  pub swap_stmts : {d : DoBlockOwner} {s z : Scope} {t : Tree} {w r q : Toks} → Stmts source R d w s t r z → Alike xs ys r q → Swapped xs ys (λ (p : Toks). Stmts source R d p s t q z) w
  swap_stmts (g.Stmts.none e i) a = swapped xs ys a (g.Stmts.none (alike_line xs ys source a ∙ e) (alike_begins_statement xs ys source a ∙ i))
  swap_stmts (g.Stmts.lines {w = none} e h) a = absurd (false≢true e)
  swap_stmts (g.Stmts.lines {w = more (tok _ _ _ _ _) ws} e h) a = let H = opened xs ys (swap_stmt_list h a) in swapped xs ys H.alike (g.Stmts.lines e H.holds)
  swap_stmts (g.Stmts.some {w = none} e h) a = absurd (none_alike xs ys (swap_stmt_list h a).alike)
  swap_stmts (g.Stmts.some {w = more (tok _ _ _ _ _) ws} e h) a = let H = opened xs ys (swap_stmt_list h a) in swapped xs ys H.alike (g.Stmts.some e H.holds)
