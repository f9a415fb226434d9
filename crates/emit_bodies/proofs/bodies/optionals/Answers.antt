use Rattle.std.proofs.Common.{◌≡◌, ◌++◌, length, reverse, drop, ap, subst, sym, ◌∙◌, arith}
use Rattle.ruby_tree.specs.Tree.{no_param}
use Rattle.ruby_tree.specs.Views.{read_param, read_params}
use Rattle.code_meaning.specs.Code.{done}
use Rattle.compile_table.specs.Shapes.{params_shape}
use Rattle.code_writer.specs.Writing.{Writing, grown}
use Rattle.code_writer.proofs.Growing.{grown_length}
use Rattle.code_emitter.specs.Children.{params_direct}
use Rattle.code_emitter.specs.Emitting.{where_of, texts_of, written, children_of, Writes, Finds}
use Rattle.code_emitter.proofs.Seams.{at_first}
use Rattle.emit_bodies.specs.Entries.{starts}
use Rattle.emit_bodies.proofs.CountingDown.{turn, found_behind}
use Rattle.emit_bodies.proofs.ParamSteps.{param_before, param_children}
use Rattle.emit_bodies.proofs.bodies.optionals.Goals as goal

pub loop-i-preserved : goal.loop-i-preserved
loop-i-preserved g c =
    let e = c.args.emitter.now in
    let l = where_of e in
    let texts = texts_of e in
    let old = c.args.out.now in
    let new = c.parameter.new.out in
    let p = c.index-params-i.result in
    let ps = read_params texts (drop c.loop-i.i c.args.params.now) in
    let is = sym (turn c.args.params.now c.loop-i.i p (omega arith) c.loop-i.auto.i c.index-params-i.is) in
    record {
      code = subst
          (λ ns. Writes e.depth (params_shape l (read_params texts ns) done) old new)
          is
          (c.in_ok-parameter.ensures.code
          ∙ ap (grown e.depth (params_shape l (read_param texts p no_param) done)) c.loop-i.invariant.code
          ∙ sym (param_before l e.depth texts p ps (written old)));
      children = subst
          (λ ns. Finds texts (params_direct e.in_loop (read_params texts ns)) old new)
          is
          (found_behind (children_of texts old) (children_of texts c.loop-i.out) (children_of texts new) (params_direct e.in_loop ps) (params_direct e.in_loop (read_param texts p no_param)) c.loop-i.invariant.children c.in_ok-parameter.ensures.children
          ∙ ap (λ cs. children_of texts old ++ cs) (param_children e.in_loop texts p ps));
      starts = subst
          (λ ns. c.parameter.new.places.items ≡ reverse (starts l (length (written old).steps) (read_params texts ns)))
          is
          (c.in_ok-parameter.ensures.places (length (written old).steps) ps c.loop-i.invariant.starts (ap (λ (w : Writing). length w.steps) c.loop-i.invariant.code ∙ grown_length e.depth (params_shape l ps done) (written old)));
    }

pub returns-clause-code : goal.returns-clause-code
returns-clause-code g c =
    at_first
    (λ i. Writes c.args.emitter.now.depth (params_shape (where_of c.args.emitter.now) (read_params (texts_of c.args.emitter.now) (drop i c.args.params.now)) done) c.args.out.now c.loop-i.out)
    c.loop-i.i
    c.loop-i-test.false
    c.loop-i.invariant.code

pub returns-clause-children : goal.returns-clause-children
returns-clause-children g c =
    at_first
    (λ i. Finds (texts_of c.args.emitter.now) (params_direct c.args.emitter.now.in_loop (read_params (texts_of c.args.emitter.now) (drop i c.args.params.now))) c.args.out.now c.loop-i.out)
    c.loop-i.i
    c.loop-i-test.false
    c.loop-i.invariant.children
