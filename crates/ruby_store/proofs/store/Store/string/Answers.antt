use Rattle.std.proofs.Common.{◌≡◌, ◌∙◌, ap, arith}
use Rattle.std.proofs.lemmas.Grind.{common_steps}
use Rattle.ruby_meaning.specs.Store.{kind_at}
use Rattle.ruby_store.specs.Model.{kind_of, objects_of}
use Rattle.ruby_store.specs.Kinds.{bytes_in}
use Rattle.ruby_store.proofs.Standing.{kind_some}
use Rattle.ruby_store.proofs.store.Store.string.Goals as goal

pub returns-in-Some : goal.returns-in-Some
returns-in-Some c read =
    c.bytes.ensures read
    ∙ ap bytes_in (let e : kind_of read c.in-Some.object.now.content ≡ kind_at (objects_of read c.args.self.now) c.args.id.number = grind (arith, common_steps, kind_some) in e)
