use Rattle.std.proofs.Common.{◌≡◌, drop}
use Rattle.load_path_cache.specs.Index.{place_from}
use Rattle.load_path_cache.proofs.table.next_place.Given as goal

-- no root before this one has the feature
abbrev pub invariant-loop-root : goal.invariant-loop-root
invariant-loop-root l = place_from l.root (drop l.root l.roots) l.feature ≡ place_from l.from (drop l.from l.roots) l.feature
