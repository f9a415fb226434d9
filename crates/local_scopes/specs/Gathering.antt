-- What a walk has gathered of a body.
use Rattle.std.specs.Prelude.{ℕ, ◌^◌, ◌<◌, ◌≤◌, List, [], ◌∷◌, Option, Some, None, take, nat_eq, ⊤}
use Rattle.std.specs.Map.{lookup}
use Rattle.ruby_tree.specs.Names.{Bytes}
use Rattle.ruby_meaning.specs.Locals.{Gathered, so_far, reached}

-- The names in the order in which they became known, and for the place of each block that was met how many of them were known there.
pub record Gathering : Type 0 where
  pub names : List Bytes
  pub marks : List (ℕ × ℕ)

abbrev pub at_mark : Option ℕ → List Bytes → Gathered
at_mark None names = so_far names
at_mark (Some count) names = reached (take count names)

-- what is gathered up to the block at a place
unfoldable pub gathered : Gathering → ℕ → Gathered
gathered g place = at_mark (lookup (nat_eq place) g.marks) g.names

-- each block stands at a place below 2^64, and no more names were known there than now
abbrev pub AreMarks : ℕ → List (ℕ × ℕ) → Type 0
AreMarks count [] = ⊤
AreMarks count (m ∷ ms) = ((m.0 < 2 ^ 64) × (m.1 ≤ count)) × AreMarks count ms
