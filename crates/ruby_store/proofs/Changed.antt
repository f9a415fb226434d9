-- An object with another content is one of another kind.
use Rattle.std.proofs.Common.{◌≡◌, ℕ, ◌+◌, ◌<◌, ◌≤◌, length, map, slice_index_or, slice_set, sym, ap, ◌∙◌, arith}
use Rattle.ruby_meaning.specs.Value.{Kind, Objects}
use Rattle.ruby_meaning.specs.Store.{kind_at, with_kind}
use Rattle.ruby_store.specs.declared.object_parts.Object.{Object}
use Rattle.ruby_store.specs.declared.store.Store.{Store}
use Rattle.ruby_store.specs.Changes.{IsChanged}
use Rattle.ruby_store.specs.Model.{Reading, kind_of, object_of, objects_of}
use Rattle.ruby_store.proofs.Standing.{kind_some, kind_changed, kind_kept}

pub changed : (n : ℕ) (change : Reading → Kind → Kind) (before after : Store) (o p : Object) → n < length before.objects.items → o ≡ slice_index_or before.objects.items n o → after.objects.items ≡ slice_set before.objects.items n p → after ≡ record before { objects = after.objects } → p ≡ record o { content = p.content } → ((read : Reading) → kind_of read p.content ≡ change read (kind_of read o.content)) → IsChanged n 0 change before after
changed n change before after o p lt h set rest like by = record {
  rest = rest ∙ ap (λ (k : ℕ). record before { objects = after.objects; cells = k }) (omega arith);
  objects = λ read.
      ap (map (object_of read)) set
      ∙ kind_changed read before.objects.items n o p (change read (kind_of read o.content)) lt h like (by read)
      ∙ ap (λ (k : Kind). with_kind (objects_of read before) n (change read k)) (kind_some read before.objects.items n o lt h);
}

pub unchanged : (n : ℕ) (change : Reading → Kind → Kind) (before after : Store) → length before.objects.items ≤ n → after ≡ before → IsChanged n 0 change before after
unchanged n change before after le e = record {
  rest = e ∙ ap (λ (s : Store). record before { objects = s.objects }) (sym e) ∙ ap (λ (k : ℕ). record before { objects = after.objects; cells = k }) (omega arith);
  objects = λ read. ap (objects_of read) e ∙ kind_kept read before.objects.items n (change read (kind_at (objects_of read before) n)) le;
}
