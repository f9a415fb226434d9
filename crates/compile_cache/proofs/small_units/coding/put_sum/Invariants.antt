use Rattle.std.proofs.Common.{◌≡◌, ◌++◌, map, drop}
use Rattle.std.specs.List.{flat_map}
use Rattle.cache_meaning.specs.SmallUnit.{at_line, term_code, sum_code}
use Rattle.compile_cache.proofs.small_units.coding.put_sum.Given as goal

-- the code so far, and that of the terms that are left, is that of all
abbrev pub invariant-loop-term : goal.invariant-loop-term
invariant-loop-term l =
    l.code ++ map (at_line l.number) (flat_map (term_code l.locals) (drop l.term-index l.term-items)) ≡ l.fn.code ++ map (at_line l.number) (sum_code l.locals l.sum)
