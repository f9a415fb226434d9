-- What stands at a place, among the definition's objects.
use Rattle.std.proofs.Common.{◌≡◌, ℕ, zero, suc, ◌<◌, ◌≤◌, List, [], ◌∷◌, map, length, slice_index_or, slice_set, refl, sym, ◌∙◌, ap, arith}
use Rattle.ruby_meaning.specs.Value as meant
use Rattle.ruby_meaning.specs.Value.{Kind, plain}
use Rattle.ruby_meaning.specs.Store.{kind_at, with_kind}
use Rattle.ruby_store.specs.declared.object_parts.Object.{Object}
use Rattle.ruby_store.specs.Model.{Reading, kind_of, object_of}

pub kind_some : (read : Reading) (os : List Object) (n : ℕ) (o : Object) → n < length os → o ≡ slice_index_or os n o → kind_of read o.content ≡ kind_at (map (object_of read) os) n
kind_some read [] n o lt h = absurd (omega (arith, lt))
kind_some read (x ∷ os) zero o lt h = ap (λ y. kind_of read y.content) h
kind_some read (x ∷ os) (suc n) o lt h = kind_some read os n o (omega (arith, lt)) h

pub kind_none : (read : Reading) (os : List Object) (n : ℕ) → length os ≤ n → plain 0 ≡ kind_at (map (object_of read) os) n
kind_none read [] n le = refl
kind_none read (x ∷ os) zero le = absurd (omega (arith, le))
kind_none read (x ∷ os) (suc n) le = kind_none read os n (omega (arith, le))

like : (read : Reading) (o p : Object) (k : Kind) → p ≡ record o { content = p.content } → kind_of read p.content ≡ k → object_of read p ≡ record (object_of read o) { kind = k }
like read o p k e f =
    let whole : object_of read p ≡ object_of read (record o { content = p.content }) = ap (object_of read) e in
    let other : object_of read (record o { content = p.content }) ≡ record (object_of read o) { kind = k } = ap (λ (j : Kind). record (object_of read o) { kind = j }) f in
    whole ∙ other

-- another content at a place is another kind there
pub kind_changed : (read : Reading) (os : List Object) (n : ℕ) (o p : Object) (k : Kind) → n < length os → o ≡ slice_index_or os n o → p ≡ record o { content = p.content } → kind_of read p.content ≡ k → map (object_of read) (slice_set os n p) ≡ with_kind (map (object_of read) os) n k
kind_changed read [] n o p k lt h e f = absurd (omega (arith, lt))
kind_changed read (x ∷ os) zero o p k lt h e f =
    let here : object_of read p ≡ record (object_of read x) { kind = k } = like read o p k e f ∙ ap (λ (y : Object). record (object_of read y) { kind = k }) h in
    ap (λ (y : meant.Object). y ∷ map (object_of read) os) here
kind_changed read (x ∷ os) (suc n) o p k lt h e f = ap (λ l. object_of read x ∷ l) (kind_changed read os n o p k (omega (arith, lt)) h e f)

-- where nothing stands nothing changes
pub kind_kept : (read : Reading) (os : List Object) (n : ℕ) (k : Kind) → length os ≤ n → map (object_of read) os ≡ with_kind (map (object_of read) os) n k
kind_kept read [] n k le = refl
kind_kept read (x ∷ os) zero k le = absurd (omega (arith, le))
kind_kept read (x ∷ os) (suc n) k le = ap (λ l. object_of read x ∷ l) (kind_kept read os n k (omega (arith, le)))
