-- Lists with some left out.
use Rattle.std.proofs.Common.{◌⊎◌, inl, inr, ℕ, ◌+◌, ◌-◌, ◌^◌, ◌<◌, ◌≤◌, List, [], ◌∷◌, ◌++◌, length, Result, Ok, Err, OnErr, arith, length-append}
use Rattle.std.specs.List.{AllByRecursion}
use Rattle.bs_outside.proofs.Since.{since-nothing}
use Rattle.bs_outside.specs.Cache.{CacheItem}
use Rattle.bs_outside.specs.History.{History, Since, IsLast}
use Rattle.bs_outside.specs.Told.{Rose}
use Rattle.cache_meaning.specs.LeftOut.{IsPart, none, takes, leaves, IsAllBut, PutsAllBut, PutsPart}

pub part-append : {kept full others more : List CacheItem} → IsPart kept full → IsPart others more → IsPart (kept ++ others) (full ++ more)
part-append none then = then
part-append (takes item rest) then = takes item (part-append rest then)
part-append (leaves item rest) then = leaves item (part-append rest then)

-- all of them are left out
pub part-nothing : (full : List CacheItem) → IsPart [] full
part-nothing [] = none
part-nothing (item ∷ full) = leaves item (part-nothing full)

pub part-all : (full : List CacheItem) → IsPart full full
part-all [] = none
part-all (item ∷ full) = takes item (part-all full)

-- what holds of each item of a list holds of each that was kept
pub part-each : (P : CacheItem → Type 0) {kept full : List CacheItem} → IsPart kept full → AllByRecursion P full → AllByRecursion P kept
part-each P none all = tt
part-each P (takes item rest) all = (all.0, part-each P rest all.1)
part-each P (leaves item rest) all = part-each P rest all.1

pub all_but-nothing : (before after : ℕ) → before ≤ after → IsAllBut before after [] []
all_but-nothing before after later = record { part = none; few = λ below. omega arith }

-- what the counts allow of two parts, one after the other
pub all_but-then : (before mid after : ℕ) (full more kept others : List CacheItem) → mid ≤ after → IsAllBut before mid full kept → IsAllBut mid after more others → IsAllBut before after (full ++ more) (kept ++ others)
all_but-then before mid after full more kept others later first then = record {
  part = part-append first.part then.part;
  few = λ below.
      let was_below : mid < 2 ^ 64 - 1 = omega arith in
      let of_first : length full + before ≤ length kept + mid = first.few was_below in
      let of_then : length more + mid ≤ length others + after = then.few below in
      omega (arith, length-append full more, length-append kept others);
}

pub put_nothing : (h : History) (count : ℕ) → PutsAllBut h h count count []
put_nothing h count = ([], since-nothing h, all_but-nothing count count (omega arith))

pub put_done : (a b : History) (before after : ℕ) (item : CacheItem) → before ≤ after → Since a b (item ∷ []) [] → PutsAllBut a b before after (item ∷ [])
put_done a b before after item later since = (item ∷ [], since, record { part = takes item none; few = λ below. omega arith })

pub put_failed : (a b : History) (before after : ℕ) (item : CacheItem) → before ≤ after → Rose before after → Since a b [] [] ⊎ (Since a b (item ∷ []) [] × IsLast item b.past) → PutsAllBut a b before after (item ∷ [])
put_failed a b before after item later rose (inl not) = ([], not, record { part = leaves item none; few = λ below. omega (arith, rose) })
put_failed a b before after item later rose (inr joined) = put_done a b before after item later joined.0

pub put_part : (a b : History) (item : CacheItem) → Since a b [] [] ⊎ (Since a b (item ∷ []) [] × IsLast item b.past) → PutsPart a b (item ∷ [])
put_part a b item (inl not) = ([], not, leaves item none)
put_part a b item (inr joined) = (item ∷ [], joined.0, takes item none)
