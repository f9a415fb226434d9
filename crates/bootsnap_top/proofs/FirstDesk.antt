-- What the first desk did, in the words of all desks.
use Rattle.std.proofs.Common.{◌≡◌, List, [], ◌∷◌, Option, Some, IfSome, subst, slice_set, slice_index_or}
use Rattle.std.specs.List.{All}
use Rattle.std.proofs.lemmas.List.Elements.{All-head}
use Rattle.bs_outside.specs.SourceTree.{SourceTree}
use Rattle.bootsnap_top.specs.Endings.{OfFirst}

-- what holds of the first desk, before and after, over the tree that it tells, holds of the first of both lists
pub of_first : {D : Type 0} (R : SourceTree → D → D → Type 0) (told : D → Option SourceTree) (desks : List D) (default new : D)
    → IfSome (told (slice_index_or desks 0 default)) (λ m. R m (slice_index_or desks 0 default) new)
    → (tree : SourceTree) → All (λ desk. told desk ≡ Some tree) desks → OfFirst (R tree) desks (slice_set desks 0 new)
of_first R told [] default new holds tree all = tt
of_first R told (desk ∷ desks) default new holds tree all =
    subst (λ o. IfSome o (λ m. R m desk new)) (All-head (λ d. told d ≡ Some tree) desk desks all) holds
