use Rattle.std.proofs.Common.{Some, None, ap, sym, ◌∙◌}
use Rattle.ruby_tree.specs.Tree.{at}
use Rattle.ruby_tree.specs.Views.{read_control}
use Rattle.small_form.specs.SmallForm.{small_of}
use Rattle.small_form.proofs.Nodes.{no_file, a_file}
use Rattle.small_form.proofs.control_file.Goals as goal

pub returns-then-not-begins_in_line_1 : goal.returns-then-not-begins_in_line_1
returns-then-not-begins_in_line_1 c o is =
    let texts = c.args.symbols.now in
    let p = c.in-Statements in
    sym (ap (λ k. small_of (at o (read_control texts k))) p.is ∙ no_file texts o c.args.line p.statements c.deref.result.now is c.deref.ensures.value (sym (c.if-not-begins_in_line_1.ensures texts)))

pub returns-in-Some : goal.returns-in-Some
returns-in-Some c o is =
    let texts = c.args.symbols.now in
    let p = c.in-Statements in
    sym (ap (λ k. small_of (at o (read_control texts k))) p.is
    ∙ a_file texts o c.args.line p.statements c.deref.result.now is c.deref.ensures.value (sym (c.if-not-begins_in_line_1.ensures texts)) c.deref-in-Statements.result.now c.deref-in-Statements.ensures.value (Some c.in-Some.lines) (sym c.in-Some.is ∙ c.in_ok-lines-in-Statements.ensures))

pub returns-in-None : goal.returns-in-None
returns-in-None c o is =
    let texts = c.args.symbols.now in
    let p = c.in-Statements in
    sym (ap (λ k. small_of (at o (read_control texts k))) p.is
    ∙ a_file texts o c.args.line p.statements c.deref.result.now is c.deref.ensures.value (sym (c.if-not-begins_in_line_1.ensures texts)) c.deref-in-Statements.result.now c.deref-in-Statements.ensures.value None (sym c.in-None.is ∙ c.in_ok-lines-in-Statements.ensures))
