-- Publishing a source after its event.
use Rattle.std.proofs.Common.{◌≡◌, ◌⊎◌, inl, inr, ℕ, List, [], Option, None, ap, sym, subst}
use Rattle.bs_outside.proofs.Since.{since-nothing}
use Rattle.bs_outside.specs.Cache.{CacheItem}
use Rattle.bs_outside.specs.History.{History}
use Rattle.bs_outside.specs.declared.names.CacheName.{CacheName}
use Rattle.bs_outside.specs.declared.trees.Stat.{Stat}
use Rattle.cache_key.specs.declared.events.Event.{Event}
use Rattle.cache_key.specs.declared.events.Event.TheVariants.{Hit}
use Rattle.cache_meaning.specs.LeftOut.{PutsAllBut, PutsPart}
use Rattle.cache_meaning.specs.Visits.{unless_hit}
use Rattle.cache_meaning.proofs.LeftOut.{part-nothing, put_nothing}
use Rattle.compile_cache.specs.Fetching.{payload_in, items_with_name}
use Rattle.compile_cache.specs.declared.fetched.FetchResult.{FetchResult}
use Rattle.compile_cache.specs.declared.fetched.FetchResult.TheVariants as got

-- nothing was put
pub put_none : (h : History) (full : List CacheItem) → PutsPart h h full
put_none h full = ([], since-nothing h, part-nothing full)

-- after a hit nothing is due
pub none_due : (h : History) (count : ℕ) (event : Event) (items : List CacheItem) → event ≡ Hit → PutsAllBut h h count count (unless_hit event items)
none_due h count event items is = subst (λ (e : Event). PutsAllBut h h count count (unless_hit e items)) (sym is) (put_nothing h count)

-- nothing is due of what has no payload
pub none_compiled : (h : History) (count : ℕ) (name : CacheName) (stat : Stat) (contents : List ℕ) (payload : Option (List ℕ)) → payload ≡ None → PutsAllBut h h count count (items_with_name name stat contents payload)
none_compiled h count name stat contents payload is = subst (λ (o : Option (List ℕ)). PutsAllBut h h count count (items_with_name name stat contents o)) (sym is) (put_nothing h count)

pub no_payload : (g : FetchResult) → ((line : ℕ) × (g ≡ got.Fault line)) ⊎ ((g ≡ got.NotYet) ⊎ (g ≡ got.Gone)) → payload_in g ≡ None
no_payload g (inl is) = ap payload_in is.1
no_payload g (inr (inl is)) = ap payload_in is
no_payload g (inr (inr is)) = ap payload_in is
