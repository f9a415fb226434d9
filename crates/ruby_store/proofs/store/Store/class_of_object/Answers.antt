use Rattle.std.proofs.Common.{◌≡◌, ◌∙◌, ap, arith}
use Rattle.std.proofs.lemmas.Grind.{common_steps}
use Rattle.ruby_meaning.specs.Store.{class_of_kind, kind_at}
use Rattle.ruby_store.specs.Model.{kind_of, objects_of}
use Rattle.ruby_store.proofs.Standing.{kind_some}
use Rattle.ruby_store.proofs.store.Store.class_of_object.Goals as goal

pub returns-in-Some : goal.returns-in-Some
returns-in-Some c read =
    c.class.ensures read
    ∙ ap class_of_kind (let e : kind_of read c.in-Some.object.now.content ≡ kind_at (objects_of read c.args.self.now) c.args.number = grind (arith, common_steps, kind_some) in e)
