use Rattle.std.proofs.Common.{◌≡◌, not, is_some, filter, take}
use Rattle.load_path_cache.specs.Index.{value_at}
use Rattle.load_path_cache.proofs.table.unknown_features.Given as goal

-- those of the features so far that the table lacks
abbrev pub invariant-loop-feature : goal.invariant-loop-feature
invariant-loop-feature l = l.unknown.items ≡ filter (λ f. not (is_some (value_at l.table.entries f))) (take l.feature-index l.features)
