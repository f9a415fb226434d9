use Rattle.std.proofs.Common.{◌≡◌, [], ◌∷◌, ◌++◌, reverse, subst, sym, ◌∙◌}
use Rattle.ruby_tree.specs.Read.{tree_of, text_of_name}
use Rattle.ruby_tree.specs.Views.{read_param}
use Rattle.code_emitter.specs.Emitting.{where_of, texts_of, written}
use Rattle.emit_bodies.specs.Entries.{starts}
use Rattle.emit_bodies.proofs.ParamSteps.{optional_place}
use Rattle.emit_bodies.proofs.bodies.parameter.Goals as goal

pub returns-in_ok-push-in-Optional-clause-places : goal.returns-in_ok-push-in-Optional-clause-places
returns-in_ok-push-in-Optional-clause-places g c = λ n ps are stands.
    let emitter = c.args.emitter.now in
    c.in_ok-push-in-Optional.ensures.items
    ∙ subst
    (λ p. c.args.places.now.items ++ c.len.result ∷ [] ≡ reverse (starts (where_of emitter) n (read_param (texts_of emitter) p ps)))
    (sym c.in-Optional.is)
    (optional_place (where_of emitter) emitter.depth n (text_of_name (texts_of emitter) c.in-Optional.name) (tree_of (texts_of emitter) c.in-Optional.tree) ps c.args.places.now.items c.len.result (written c.args.out.now) (written c.default_value.new.out) are stands c.in_ok-default_value-in-Optional.ensures.code c.len.ensures)
