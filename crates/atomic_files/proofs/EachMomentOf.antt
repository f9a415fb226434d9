-- Each moment of calls whose own items are known.
use Rattle.std.proofs.Common.{◌≡◌, ◌⊎◌, inl, inr, ℕ, zero, suc, ◌+◌, ◌-◌, List, [], ◌∷◌, ◌++◌, length, take, Option, Some, None, Result, Ok, Err, OnOk, OnErr, refl, sym, ◌∙◌, ap, subst, arith}
use Rattle.std.proofs.lemmas.List.{take_at}
use Rattle.std.proofs.Math.Seq.{take-append-add}
use Rattle.std.specs.List.{AllByRecursion}
use Rattle.bs_outside.specs.Cache.{CacheItem, Cache, or_else, last_of, now_of, IsOneOf, MayHold, IsMoment}
use Rattle.bs_outside.specs.History.{History, Since, IsLast}
use Rattle.bs_outside.specs.declared.names.Loaded.{Loaded}
use Rattle.bs_outside.specs.declared.faults.ShelfFault.{ShelfFault}
use Rattle.bs_outside.specs.declared.names.CacheName.{CacheName}
use Rattle.bs_outside.proofs.Since.{all-one_of, all-mixed}
use Rattle.atomic_files.specs.Moments.{IsWholeOrOld, EachMoment}
use Rattle.atomic_files.proofs.LookUps.{last_of-append, last_of-one, one_of-left, one_of-right, one_of-append}

all-take : (P : CacheItem → Type 0) (n : ℕ) (xs : List CacheItem) → AllByRecursion P xs → AllByRecursion P (take n xs)
all-take P zero xs all = tt
all-take P (suc n) [] all = tt
all-take P (suc n) (x ∷ xs) all = (all.0, all-take P n xs all.1)

-- a moment has what stood at the entry, and the first of what joined
moment_is : (entry joined exit moment : List CacheItem) → exit ≡ entry ++ joined → IsMoment entry exit moment → moment ≡ entry ++ take (length moment - length entry) joined
moment_is entry joined exit moment is at =
    let n = length moment - length entry in
    let long : length moment ≡ length entry + n = omega arith in
    let whole : moment ++ at.0.0 ≡ entry ++ joined = at.0.1 ∙ is in
    sym (take_at moment at.0.0 (length moment) refl) ∙ ap (take (length moment)) whole ∙ ap (λ (k : ℕ). take k (entry ++ joined)) long ∙ take-append-add entry joined n

-- what is found is what was found before, or one of what joined
stands : (start : Cache) (entry front items : List CacheItem) (name : CacheName) (found : Option (List ℕ)) → AllByRecursion (λ x. IsOneOf x items) front → last_of front name ≡ found
    → IsWholeOrOld (now_of start entry name) items name (now_of start (entry ++ front) name)
stands start entry front items name None all is =
    inl (ap (λ (o : Option (List ℕ)). or_else o (start name)) (last_of-append entry front name ∙ ap (λ (o : Option (List ℕ)). or_else o (last_of entry name)) is))
stands start entry front items name (Some bytes) all is =
    let one : IsOneOf (name, bytes) items = all-one_of (λ x. IsOneOf x items) front (name, bytes) all (last_of-one front name bytes is) in
    inr (bytes, one, ap (λ (o : Option (List ℕ)). or_else o (start name)) (last_of-append entry front name ∙ ap (λ (o : Option (List ℕ)). or_else o (last_of entry name)) is))

known : (start : Cache) (entry front items : List CacheItem) (name : CacheName) (held : Option (List ℕ)) → AllByRecursion (λ x. IsOneOf x items) front → MayHold start (entry ++ front) name held → MayHold start (entry ++ items) name held
known start entry front items name held all (inl was) = inl was
known start entry front items name held all (inr torn) =
    let item : CacheItem = (name, torn.0) in
    let one : IsOneOf item (entry ++ items) = elim (one_of-append item entry front torn.2) [
      | inl left ↦ one_of-left item entry items left
      | inr right ↦ one_of-right item entry items (all-one_of (λ x. IsOneOf x items) front item all right)
    ] in
    inr (torn.0, torn.1, one, torn.3)

-- where all that joined is others' or among these items
pub moments_of : (old new : History) (joined own : List CacheItem) → new.past ≡ old.past ++ joined → AllByRecursion (λ x. IsOneOf x (old.guests ++ own)) joined → EachMoment old new own
moments_of old new joined own is all =
    let start = last_of old.start in
    let items = old.guests ++ own in
    record {
      whole = λ moment at name.
          let front = take (length moment - length old.past) joined in
          subst (λ (m : List CacheItem). IsWholeOrOld (now_of start old.past name) items name (now_of start m name)) (sym (moment_is old.past joined new.past moment is at))
          (stands start old.past front items name (last_of front name) (all-take (λ x. IsOneOf x items) (length moment - length old.past) joined all) refl);
      crash = λ moment at cache may name.
          let front = take (length moment - length old.past) joined in
          known start old.past front items name (cache name) (all-take (λ x. IsOneOf x items) (length moment - length old.past) joined all)
          (subst (λ (m : List CacheItem). MayHold start m name (cache name)) (moment_is old.past joined new.past moment is at) (may name));
    }

from_tail : (first : CacheItem) (more xs : List CacheItem) → AllByRecursion (λ x. IsOneOf x more) xs → AllByRecursion (λ x. IsOneOf x (first ∷ more)) xs
from_tail first more [] all = tt
from_tail first more (x ∷ xs) all = (inr all.0, from_tail first more xs all.1)

-- the items of a list are among them
pub among_them : (xs : List CacheItem) → AllByRecursion (λ x. IsOneOf x xs) xs
among_them [] = tt
among_them (x ∷ xs) = (inl refl, from_tail x xs xs (among_them xs))

left_all : (xs items more : List CacheItem) → AllByRecursion (λ x. IsOneOf x items) xs → AllByRecursion (λ x. IsOneOf x (items ++ more)) xs
left_all [] items more all = tt
left_all (x ∷ xs) items more all = (one_of-left x items more all.0, left_all xs items more all.1)

right_all : (xs items more : List CacheItem) → AllByRecursion (λ x. IsOneOf x more) xs → AllByRecursion (λ x. IsOneOf x (items ++ more)) xs
right_all [] items more all = tt
right_all (x ∷ xs) items more all = (one_of-right x items more all.0, right_all xs items more all.1)

-- calls whose own items are among these
pub each_moment : (old new : History) (own put : List CacheItem) (loaded : List (CacheName × Loaded)) → AllByRecursion (λ x. IsOneOf x own) put → Since old new put loaded → EachMoment old new own
each_moment old new own put loaded among since =
    moments_of old new since.joined own since.past
    (all-mixed (λ x. IsOneOf x (old.guests ++ own)) (left_all old.guests old.guests own (among_them old.guests)) (right_all put old.guests own among) since.mixes)

-- whether the item joined or not
pub published : (old new : History) (name : CacheName) (bytes : List ℕ) (result : Result (Unit {0}) ShelfFault)
    → OnOk result (Since old new ((name, bytes) ∷ []) [] × IsLast (name, bytes) new.past)
    → OnErr result (Since old new [] [] ⊎ (Since old new ((name, bytes) ∷ []) [] × IsLast (name, bytes) new.past)) → EachMoment old new ((name, bytes) ∷ [])
published old new name bytes (Ok done) ok err = each_moment old new ((name, bytes) ∷ []) ((name, bytes) ∷ []) [] (inl refl, tt) ok.0
published old new name bytes (Err fault) ok (inl not) = each_moment old new ((name, bytes) ∷ []) [] [] tt not
published old new name bytes (Err fault) ok (inr joins) = each_moment old new ((name, bytes) ∷ []) ((name, bytes) ∷ []) [] (inl refl, tt) joins.0
