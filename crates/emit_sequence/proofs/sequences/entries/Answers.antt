use Rattle.std.proofs.Common.{◌≡◌, ◌-◌, ◌++◌, map, ap, sym, ◌∙◌}
use Rattle.code_writer.specs.Writing.{grown}
use Rattle.compile_table.specs.Sequences.{has_optional}
use Rattle.code_emitter.specs.Emitting.{where_of, texts_of, written, children_of}
use Rattle.emit_sequence.proofs.Entries.{entries_some, entries_none}
use Rattle.emit_sequence.proofs.Opened.{node_shape, node_direct}
use Rattle.emit_sequence.proofs.sequences.entries.Goals as goal

-- the code of the node, by that of its kind
code_of_node : goal.returns-clause-code
code_of_node c = c.in_ok-starts.ensures.code ∙ ap (λ s. grown c.args.emitter.now.depth s (written c.args.out.now)) (sym (node_shape (where_of c.args.emitter.now) (texts_of c.args.emitter.now) c.args.tree.now))

pub returns-then-not-may_leave_out-clause-code : goal.returns-then-not-may_leave_out-clause-code
returns-then-not-may_leave_out-clause-code c =
    c.in_ok-starts.ensures.code ∙ ap (λ s. grown c.args.emitter.now.depth s (written c.args.out.now)) (sym (node_shape (where_of c.args.emitter.now) (texts_of c.args.emitter.now) c.args.tree.now))

pub returns-then-not-may_leave_out-clause-children : goal.returns-then-not-may_leave_out-clause-children
returns-then-not-may_leave_out-clause-children c =
    c.in_ok-starts.ensures.children ∙ ap (λ cs. children_of (texts_of c.args.emitter.now) c.args.out.now ++ cs) (sym (node_direct c.args.emitter.now.in_loop (texts_of c.args.emitter.now) c.args.tree.now))

pub returns-then-not-may_leave_out-clause-entries : goal.returns-then-not-may_leave_out-clause-entries
returns-then-not-may_leave_out-clause-entries c = λ fresh.
    c.new.ensures
    ∙ entries_none (where_of c.args.emitter.now) (texts_of c.args.emitter.now) c.args.tree.now
    (ap has_optional (sym (c.params_of.ensures (texts_of c.args.emitter.now))) ∙ sym (c.may_leave_out.ensures (texts_of c.args.emitter.now)) ∙ c.if-not-may_leave_out.true)

pub returns-clause-code : goal.returns-clause-code
returns-clause-code c = code_of_node c

pub returns-clause-children : goal.returns-clause-children
returns-clause-children c =
    c.in_ok-starts.ensures.children ∙ ap (λ cs. children_of (texts_of c.args.emitter.now) c.args.out.now ++ cs) (sym (node_direct c.args.emitter.now.in_loop (texts_of c.args.emitter.now) c.args.tree.now))

pub returns-clause-entries : goal.returns-clause-entries
returns-clause-entries c = λ fresh.
    entries_some (where_of c.args.emitter.now) c.args.emitter.now.depth (texts_of c.args.emitter.now) c.args.tree.now (written c.args.out.now) (written c.starts.new.out) c.len-total.result c.in_ok-starts.starts.items c.in_ok-found.found
    fresh
    (code_of_node c)
    c.len-total.ensures
    c.in_ok-starts.ensures.starts
    (ap has_optional (sym (c.params_of.ensures (texts_of c.args.emitter.now))) ∙ sym (c.may_leave_out.ensures (texts_of c.args.emitter.now)) ∙ c.if-not-may_leave_out.false)
    (c.in_ok-found.ensures ∙ ap (map (λ behind. c.len-total.result - behind)) c.deref.ensures.value)
