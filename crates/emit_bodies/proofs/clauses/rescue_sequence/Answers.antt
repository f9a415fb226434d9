use Rattle.std.proofs.Common.{◌≡◌, length, refl, ap, sym, ◌∙◌}
use Rattle.ruby_tree.specs.Views.{read_clauses}
use Rattle.iseq_types.specs.declared.instructions.Instr.TheVariants.{Throw}
use Rattle.code_meaning.specs.Code.{op, done, at_line}
use Rattle.compile_table.specs.Shapes.{clauses_shape, bodies_shape}
use Rattle.code_writer.specs.Writing.{grown, wrote, plain}
use Rattle.code_emitter.specs.Emitting.{where_of, texts_of, written}
use Rattle.emit_bodies.proofs.ClauseSteps.{clauses_seam, starts_length, throw_place}
use Rattle.emit_bodies.proofs.clauses.rescue_sequence.Goals as goal

pub tests-requires : goal.tests-requires
tests-requires g c κs =
    let e = c.args.emitter.now in (
      (refl, tt),
      (
        c.requires,
        ap length (c.deref.ensures.value ∙ c.in_ok-starts.ensures.starts) ∙ starts_length (where_of e) c.args.line (length (written c.args.out.now).steps) (texts_of e) c.args.clauses.now,
      ),
    )

pub returns-clause-code : goal.returns-clause-code
returns-clause-code g c =
    let e = c.args.emitter.now in
    let l = where_of e in
    let line = c.args.line in
    let old = written c.args.out.now in
    let cs = read_clauses (texts_of e) c.args.clauses.now in
    let behind : written record { code = c.write.new.self; children = c.bodies.new.out.children } ≡ grown e.depth (op line (Throw 0) (bodies_shape l cs line)) old = c.in_ok-write.ensures ∙ ap (wrote (plain (at_line line (Throw 0)))) c.in_ok-starts.ensures.code in
    c.in_ok-tests.ensures.code (length old.steps) (c.deref.ensures.value ∙ c.in_ok-starts.ensures.starts) (throw_place l line e.depth cs (Throw 0) old _ behind)
    ∙ ap (grown e.depth (clauses_shape l cs line 0 done)) behind
    ∙ sym (clauses_seam l line e.depth 0 cs (op line (Throw 0) (bodies_shape l cs line)) old)
