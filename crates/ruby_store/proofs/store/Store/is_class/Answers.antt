use Rattle.std.proofs.Common.{◌≡◌, ◌∙◌, ap, arith}
use Rattle.std.proofs.lemmas.Grind.{common_steps}
use Rattle.ruby_meaning.specs.Store.{is_class_or_module, kind_at}
use Rattle.ruby_store.specs.Model.{kind_of, objects_of}
use Rattle.ruby_store.proofs.Standing.{kind_some}
use Rattle.ruby_store.proofs.store.Store.is_class.Goals as goal

pub returns-in-Some : goal.returns-in-Some
returns-in-Some c read =
    c.is_class.ensures read
    ∙ ap is_class_or_module (let e : kind_of read c.in-Some.object.now.content ≡ kind_at (objects_of read c.args.self.now) c.args.class.number = grind (arith, common_steps, kind_some) in e)
