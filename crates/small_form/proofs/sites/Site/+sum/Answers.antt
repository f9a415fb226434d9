use Rattle.std.proofs.Common.{◌≡◌, Some, None, Option, false, true, refl, sym, ap, ◌∙◌}
use Rattle.ruby_tree.specs.declared.node.Kind.TheVariants as kind
use Rattle.ruby_tree.specs.declared.node.Call.TheVariants as call
use Rattle.ruby_tree.specs.declared.node.Node.TheViews.{out-Node}
use Rattle.ruby_tree.specs.Read.{text_of_name, tree_of}
use Rattle.ruby_tree.specs.Views.{read_all, read_other}
use Rattle.small_form.specs.declared.tree.Operand.{Operand}
use Rattle.small_form.specs.declared.tree.Operator.{Operator}
use Rattle.small_form.specs.SmallForm.{is_plain, only_operand, operator_of, sum_of, with_term}
use Rattle.small_form.proofs.Nodes.{sent_sum, sent_with_more}
use Rattle.small_form.proofs.sites.Site.+sum.Goals as goal

no_term : (f : Option Operator) (x : Option Operand) → with_term None f x ≡ None
no_term None None = refl
no_term None (Some x) = refl
no_term (Some f) None = refl
no_term (Some f) (Some x) = refl

pub returns-then-not-is_plain : goal.returns-then-not-is_plain
returns-then-not-is_plain t c =
    let s = c.args.self.now in
    let p = c.in-Send in
    let sent : (out-Node c.args.node.now).kind ≡ kind.Call (call.Send (Some c.in-Some.receiver) p.arguments p.spread p.value p.name p.alone p.block) = c.in-Call.is ∙ ap kind.Call (p.is ∙ ap (λ a. call.Send a p.arguments p.spread p.value p.name p.alone p.block) c.in-Some.is) in
    let more : is_plain p.spread.items (read_other s.symbols.now p.value) p.alone (read_other s.symbols.now p.block) ≡ false = ap (λ ks. is_plain ks (read_other s.symbols.now p.value) p.alone (read_other s.symbols.now p.block)) (sym c.deref.ensures.value) ∙ sym c.if-not-is_plain.ensures in
    sym (sent_with_more s.symbols.now s.line s.names.now c.args.node.now c.in-Some.receiver p.arguments p.spread p.value p.name p.alone p.block sent more)

pub returns-in-None : goal.returns-in-None
returns-in-None t c =
    let s = c.args.self.now in
    let p = c.in-Send in
    let sent : (out-Node c.args.node.now).kind ≡ kind.Call (call.Send (Some c.in-Some.receiver) p.arguments p.spread p.value p.name p.alone p.block) = c.in-Call.is ∙ ap kind.Call (p.is ∙ ap (λ a. call.Send a p.arguments p.spread p.value p.name p.alone p.block) c.in-Some.is) in
    let plain : is_plain p.spread.items (read_other s.symbols.now p.value) p.alone (read_other s.symbols.now p.block) ≡ true = ap (λ ks. is_plain ks (read_other s.symbols.now p.value) p.alone (read_other s.symbols.now p.block)) (sym c.deref.ensures.value) ∙ sym c.if-not-is_plain.ensures in
    let none : None ≡ sum_of s.line s.names.now (tree_of s.symbols.now c.in-Some.receiver.value) = sym c.in-None.is ∙ c.in_ok-sum-in-Send.ensures ∙ ap (λ x. sum_of s.line s.names.now (tree_of s.symbols.now x)) c.deref-in-Send.ensures in
    let operator = operator_of (text_of_name s.symbols.now p.name) in
    let operand = only_operand s.line s.names.now (read_all s.symbols.now p.arguments.items) in
    sym (sent_sum s.symbols.now s.line s.names.now c.args.node.now c.in-Some.receiver p.arguments p.spread p.value p.name p.alone p.block sent (sym c.if-not-has.ensures) plain ∙ ap (λ a. with_term a operator operand) (sym none) ∙ no_term operator operand)
