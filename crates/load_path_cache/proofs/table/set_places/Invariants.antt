use Rattle.std.proofs.Common.{◌≡◌, ◌≤◌, ℕ, List, take}
use Rattle.std.specs.List.{list_any}
use Rattle.bs_outside.specs.Paths.{same_bytes}
use Rattle.indexmap.specs.IndexMap.{spare}
use Rattle.load_path_cache.specs.Index.{value_at}
use Rattle.load_path_cache.proofs.Tables.{set_if}
use Rattle.load_path_cache.proofs.table.set_places.Given as goal

-- the features so far have the place where they had one
abbrev pub invariant-loop-feature : goal.invariant-loop-feature
invariant-loop-feature l = record {
  given : (f : List ℕ) → value_at l.table.entries f ≡ set_if (list_any (same_bytes f) (take l.feature-index l.features)) l.fn.place (value_at l.fn.table.entries f);
  room : spare l.fn.table ≤ spare l.table;
}
