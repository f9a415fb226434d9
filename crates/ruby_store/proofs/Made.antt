-- An object that is added is one that is made.
use Rattle.std.proofs.Common.{◌≡◌, ℕ, ◌+◌, ◌≤◌, [], ◌∷◌, map, sym, ap, ◌∙◌}
use Rattle.std.proofs.lemmas.List.{map-append, length-map}
use Rattle.ruby_meaning.specs.Store.{cell_limit}
use Rattle.store_values.specs.declared.ids.ObjectId.{ObjectId}
use Rattle.ruby_store.specs.declared.object_parts.Object.{Object}
use Rattle.ruby_store.specs.declared.store.Store.{Store}
use Rattle.ruby_store.specs.Changes.{IsAdded, IsMade}
use Rattle.ruby_store.specs.Model.{object_of}

pub made : (n m : ℕ) (o : Object) (before after : Store) (id : ObjectId) → m ≡ before.cells + n → before.cells + n ≤ cell_limit → IsAdded m o before after id → IsMade n (λ read. object_of read o) before after id.number
made n m o before after id e fits a = record {
  fits = fits;
  rest = a.rest ∙ ap (λ k. record before { objects = after.objects; cells = k }) e;
  number_is = λ read. a.number_is ∙ sym (length-map before.objects.items (object_of read));
  objects = λ read. ap (map (object_of read)) a.objects ∙ map-append (object_of read) before.objects.items (o ∷ []);
}
