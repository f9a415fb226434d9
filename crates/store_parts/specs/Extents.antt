-- How the slots of environments lie one after another.
use Rattle.std.specs.Prelude.{◌≡◌, ℕ, zero, suc, ◌+◌, ◌-◌, ◌≤◌, cond, nat_lt, List, [], ◌∷◌, Option, Some, None, map, slice_range}
use Rattle.std.specs.Option.{option_map}
use Rattle.store_parts.specs.Lists.{Values}
use Rattle.store_parts.specs.Scopes.{Scope, Scopes}
use Rattle.store_parts.specs.declared.environments.Extent.{Extent}

abbrev pub scope_of : Values → Extent → Scope
scope_of slots x = record { parent = option_map (λ e. e.number) x.parent; slots = slice_range slots x.start x.end }

abbrev pub scopes_of : List Extent → Values → Scopes
scopes_of xs slots = map (scope_of slots) xs

-- each begins where the one before ends, the first here and the last up to there
abbrev pub Follow : ℕ → List Extent → ℕ → Type 0
Follow here [] there = there ≡ here
Follow here (x ∷ xs) there = (x.start ≡ here) × (here ≤ x.end) × Follow x.end xs there

-- where a slot of an extent lies
abbrev pub place_within : Extent → ℕ → Option ℕ
place_within x slot = cond (nat_lt slot (x.end - x.start)) (Some (x.start + slot)) None

abbrev pub place_in : List Extent → ℕ → ℕ → Option ℕ
place_in [] n slot = None
place_in (x ∷ xs) zero slot = place_within x slot
place_in (x ∷ xs) (suc n) slot = place_in xs n slot
