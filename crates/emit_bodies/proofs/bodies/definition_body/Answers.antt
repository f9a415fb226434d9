use Rattle.std.proofs.Common.{◌≡◌, subst, IfOk}
use Rattle.ruby_tree.specs.Read.{tree_of}
use Rattle.ruby_tree.specs.Views.{read_params}
use Rattle.code_emitter.specs.Emitting.{where_of, texts_of, written}
use Rattle.emit_bodies.specs.Entries.{starts}
use Rattle.emit_bodies.proofs.ParamSteps.{body_length}
use Rattle.emit_bodies.proofs.bodies.definition_body.Goals as goal

pub returns-clause-starts : goal.returns-clause-starts
returns-clause-starts g c =
    let e = c.args.emitter.now in
    subst
    (λ n. IfOk c.optionals.result (λ places. places.items ≡ starts (where_of e) n (read_params (texts_of e) c.args.params.now)))
    (body_length (where_of e) e.depth (tree_of (texts_of e) c.args.tree.now) (written c.args.out.now) (written c.file_body.new.out) c.in_ok-file_body.ensures.code)
    c.optionals.ensures.starts
