use Rattle.std.proofs.Common.{◌≡◌, ◌<◌, ◌≤◌, ◌++◌, ◌∷◌, [], length, take, slice_index_or, slice_set, refl, arith}
use Rattle.std.proofs.lemmas.Grind.{common_steps}
use Rattle.ruby_store.specs.Kinds.{elements_by}
use Rattle.ruby_store.specs.Model.{value_of, values_of}
use Rattle.ruby_store.proofs.Changed.{changed, unchanged}
use Rattle.ruby_store.proofs.store.Store.array_set.Goals as goal

pub returns-in-Some : goal.returns-in-Some
returns-in-Some c =
    let lt : c.args.id.number < length c.args.self.now.objects.items = grind (arith, common_steps) in
    let here : c.in-Some.object.now ≡ slice_index_or c.args.self.now.objects.items c.args.id.number c.in-Some.object.now = grind (arith, common_steps) in
    changed c.args.id.number (λ read. elements_by (λ vs. slice_set vs c.args.place (value_of read c.args.value))) c.args.self.now _ c.in-Some.object.now (record c.in-Some.object.now { content = c.set.new.self }) lt here refl refl refl c.set.ensures

pub returns-in_default : goal.returns-in_default
returns-in_default c =
    let le : length c.args.self.now.objects.items ≤ c.args.id.number = grind (arith, common_steps) in
    unchanged c.args.id.number (λ read. elements_by (λ vs. slice_set vs c.args.place (value_of read c.args.value))) c.args.self.now _ le refl
