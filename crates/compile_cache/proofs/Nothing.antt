-- A fetch that calls no shelf, or finds no file.
use Rattle.std.proofs.Common.{◌≡◌, inl, Bool, ℕ, ◌≤◌, List, [], ◌∷◌, map, Option, Some, None, IfSome, refl, sym, ◌∙◌, subst}
use Rattle.bs_outside.specs.Cache.{last_of}
use Rattle.bs_outside.specs.History.{History}
use Rattle.bs_outside.specs.SourceTree.{SourceTree}
use Rattle.bs_outside.specs.Told.{AddsPrefix}
use Rattle.bs_outside.specs.declared.trees.Stat.{Stat}
use Rattle.bs_outside.proofs.Since.{since-nothing}
use Rattle.bs_outside.proofs.Owing.{none_came, added-nil}
use Rattle.cache_meaning.specs.Entry.{Version, stat_of, file_at}
use Rattle.cache_meaning.specs.Fits.{IsTrusted, EachMomentFits}
use Rattle.cache_meaning.specs.LeftOut.{none}
use Rattle.cache_meaning.specs.Visits.{HasBegun, LeavesWhole}
use Rattle.cache_meaning.proofs.LeftOut.{all_but-nothing}
use Rattle.cache_meaning.proofs.Trust.{whole_nothing, moments_fit}
use Rattle.compile_cache.specs.Fetching.{IsStatOf, HasFetched}

pub begun_in : (tells : Bool) (o : Option SourceTree) (path : List ℕ) (h : History) (before after : Option (List (List ℕ))) → after ≡ before
    → IfSome o (λ m. IsTrusted tells m h → HasBegun (file_at m path) h h before after)
begun_in tells None path h before after same = tt
begun_in tells (Some m) path h before after same =
    λ trusted. record { visits = []; some = inl refl; put = []; since = since-nothing h; part = none; reads = subst (λ (r : Option (List (List ℕ))). AddsPrefix before r []) (sym same) (none_came before []) }

pub whole_in : (tells : Bool) (o : Option SourceTree) (h : History) → IfSome o (λ m. IsTrusted tells m h → LeavesWhole m h h)
whole_in tells None h = tt
whole_in tells (Some m) h = λ trusted. whole_nothing m h

pub moments_in : (tells : Bool) (o : Option SourceTree) (old new : History) → IfSome o (λ m. IsTrusted tells m old → LeavesWhole m old new)
    → IfSome o (λ m. IsTrusted tells m old → EachMomentFits m (last_of old.start) old.past new.past)
moments_in tells None old new whole = tt
moments_in tells (Some m) old new whole = λ trusted. moments_fit tells m old new trusted (whole trusted)

pub whole_with_stat : (tells : Bool) (o told : Option SourceTree) (path : List ℕ) (found : Option Stat) (stat : Stat) (old new : History) → told ≡ o → found ≡ Some stat → IfSome o (λ m. IsStatOf m path found)
    → IfSome told (λ m. IsTrusted tells m old → IsStatOf m path (Some stat) → LeavesWhole m old new) → IfSome o (λ m. IsTrusted tells m old → LeavesWhole m old new)
whole_with_stat tells None told path found stat old new same is there whole = tt
whole_with_stat tells (Some m) told path found stat old new same is there whole =
    λ trusted.
    subst (λ (t : Option SourceTree). IfSome t (λ n. IsTrusted tells n old → IsStatOf n path (Some stat) → LeavesWhole n old new)) same whole trusted (subst (IsStatOf m path) is there)

no_file : (files : List Version) → [] ≡ map stat_of files → files ≡ []
no_file [] is = refl
no_file (v ∷ files) is = absurd cc

-- where the stat found no file, there is nothing to visit
pub fetched_nothing : (tells : Bool) (o : Option SourceTree) (path : List ℕ) (stat : Option Stat) (h : History) (before after : ℕ) (reads_before reads_after : Option (List (List ℕ)))
    → stat ≡ None → IfSome o (λ m. IsStatOf m path stat) → before ≤ after → reads_after ≡ reads_before
    → IfSome o (λ m. IsTrusted tells m h → HasFetched m path h h before after reads_before reads_after None)
fetched_nothing tells None path stat h before after reads_before reads_after is there later same = tt
fetched_nothing tells (Some m) path stat h before after reads_before reads_after is there later same =
    λ trusted.
    let nothing : file_at m path ≡ [] = no_file (file_at m path) (subst (IsStatOf m path) is there) in
    record {
      visits = [];
      visited = record { versions = sym nothing; put = []; since = since-nothing h; but = all_but-nothing before after later };
      events = refl;
      reads = same ∙ sym (added-nil reads_before);
    }
