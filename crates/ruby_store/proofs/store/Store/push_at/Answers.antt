use Rattle.std.proofs.Common.{◌≡◌, ◌<◌, ◌≤◌, ◌++◌, ◌∷◌, [], length, slice_index_or, refl, arith}
use Rattle.std.proofs.lemmas.Grind.{common_steps}
use Rattle.ruby_store.specs.Kinds.{elements_by}
use Rattle.ruby_store.specs.Model.{value_of, values_of}
use Rattle.ruby_store.proofs.Changed.{changed, unchanged}
use Rattle.ruby_store.proofs.store.Store.push_at.Goals as goal

pub returns-in_ok-push-in-Some : goal.returns-in_ok-push-in-Some
returns-in_ok-push-in-Some c =
    let lt : c.args.id.number < length c.args.self.now.objects.items = grind (arith, common_steps) in
    let here : c.in-Some.object.now ≡ slice_index_or c.args.self.now.objects.items c.args.id.number c.in-Some.object.now = grind (arith, common_steps) in
    changed c.args.id.number (λ read. elements_by (λ vs. vs ++ value_of read c.args.value ∷ [])) c.args.self.now _ c.in-Some.object.now (record c.in-Some.object.now { content = c.push.new.self }) lt here refl refl refl c.in_ok-push-in-Some.ensures

pub returns-in-None : goal.returns-in-None
returns-in-None c =
    let le : length c.args.self.now.objects.items ≤ c.args.id.number = grind (arith, common_steps) in
    unchanged c.args.id.number (λ read. elements_by (λ vs. vs ++ value_of read c.args.value ∷ [])) c.args.self.now _ le refl
