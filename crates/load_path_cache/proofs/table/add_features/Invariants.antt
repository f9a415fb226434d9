use Rattle.std.proofs.Common.{◌≡◌, ◌≤◌, ℕ, List, cond, Some, vec_len}
use Rattle.std.specs.List.{list_any}
use Rattle.bs_outside.specs.Paths.{same_bytes}
use Rattle.indexmap.specs.IndexMap.{spare}
use Rattle.load_path_cache.specs.Index.{value_at}
use Rattle.load_path_cache.proofs.table.add_features.Given as goal

-- with what is left given the place too, the table is as with all
abbrev pub invariant-loop-feature : goal.invariant-loop-feature
invariant-loop-feature l = record {
  room : vec_len l.features ≤ spare l.table;
  given : (f : List ℕ) → cond (list_any (same_bytes f) l.features.items) (Some l.fn.place) (value_at l.table.entries f) ≡ cond (list_any (same_bytes f) l.fn.features.items) (Some l.fn.place) (value_at l.fn.table.entries f);
}

abbrev pub decreases-loop-feature : goal.decreases-loop-feature
decreases-loop-feature l = vec_len l.features
