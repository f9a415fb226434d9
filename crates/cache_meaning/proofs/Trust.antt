-- What is trusted goes on.
use Rattle.std.proofs.Common.{Bool, List, [], ◌++◌, sym, subst}
use Rattle.std.specs.List.{AllByRecursion}
use Rattle.bs_outside.specs.Cache.{CacheItem, last_of}
use Rattle.bs_outside.specs.History.{History, Since}
use Rattle.bs_outside.specs.SourceTree.{SourceTree}
use Rattle.bs_outside.specs.declared.names.CacheName.{CacheName}
use Rattle.bs_outside.specs.declared.names.Loaded.{Loaded}
use Rattle.bs_outside.proofs.Since.{since-nothing, since-then}
use Rattle.cache_meaning.specs.Fits.{IsWhole, CacheFits, EachMomentFits, IsTrusted}
use Rattle.cache_meaning.specs.Visits.{LeavesWhole}
use Rattle.cache_meaning.proofs.Moments.{all-append, each_moment, since_fits}

-- what is known at the entry is known after calls whose own items are whole
pub trusted_then : (tells : Bool) (tree : SourceTree) (old new : History) (own : List CacheItem) (loads : List (CacheName × Loaded)) → IsTrusted tells tree old → AllByRecursion (IsWhole tree) own → Since old new own loads → IsTrusted tells tree new
trusted_then tells tree old new own loads trusted whole since = record {
  told = trusted.told;
  apart = trusted.apart;
  start = subst (λ (s : List CacheItem). CacheFits tree (last_of s)) (sym since.start) trusted.start;
  past = since_fits tree old new own loads trusted.apart trusted.guests whole trusted.past since;
  guests = subst (AllByRecursion (IsWhole tree)) (sym since.guests) trusted.guests;
}

pub whole_nothing : (tree : SourceTree) (h : History) → LeavesWhole tree h h
whole_nothing tree h = record { put = []; loads = []; since = since-nothing h; whole = tt }

pub whole_then : (tree : SourceTree) (old mid new : History) → LeavesWhole tree old mid → LeavesWhole tree mid new → LeavesWhole tree old new
whole_then tree old mid new first next = record {
  put = first.put ++ next.put;
  loads = first.loads ++ next.loads;
  since = since-then old mid new first.put next.put first.loads next.loads first.since next.since;
  whole = all-append (IsWhole tree) first.put next.put first.whole next.whole;
}

pub still_trusted : (tells : Bool) (tree : SourceTree) (old new : History) → IsTrusted tells tree old → LeavesWhole tree old new → IsTrusted tells tree new
still_trusted tells tree old new trusted left = trusted_then tells tree old new left.put left.loads trusted left.whole left.since

pub moments_fit : (tells : Bool) (tree : SourceTree) (old new : History) → IsTrusted tells tree old → LeavesWhole tree old new → EachMomentFits tree (last_of old.start) old.past new.past
moments_fit tells tree old new trusted left =
    each_moment tree (last_of old.start) old.past new.past trusted.start (still_trusted tells tree old new trusted left).past
