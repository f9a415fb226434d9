-- The first root of a feature, and the table that has it.
use Rattle.std.specs.Prelude.{◌≡◌, ℕ, ◌+◌, ◌-◌, ◌^◌, min, ◌==◌, cond, nat_lt, Option, None, Some, List, [], ◌∷◌, drop}
use Rattle.std.specs.FinSet as set
use Rattle.std.specs.Map.{lookup}
use Rattle.bs_outside.specs.Paths.{same_bytes}
use Rattle.path_meaning.specs.declared.scans.RootScan.{RootScan}
use Rattle.load_path_cache.specs.declared.table.IndexedRoot.{IndexedRoot}
use Rattle.load_path_cache.specs.declared.table.Place.{Place}

-- a root with the files of its scan
abbrev pub root_of : List ℕ → RootScan → IndexedRoot
root_of path scan = record { path = path; files = set.from_list scan.files }

-- The first of these roots whose files hold the feature, where the first root has this place.
abbrev pub place_from : ℕ → List IndexedRoot → List ℕ → Option Place
place_from n [] feature = None
place_from n (root ∷ roots) feature = cond (set.contains root.files feature) (Some (record { root = n })) (place_from (n + 1) roots feature)

-- The first root in order whose files hold the feature.
abbrev pub place_of : List IndexedRoot → List ℕ → Option Place
place_of roots feature = place_from 0 roots feature

-- the place behind one more root at the front, as long as it is below the greatest number of 64 bits
abbrev pub raised : Place → Option Place
raised place = Some (record { root = min (place.root + 1) (2 ^ 64 - 1) })

-- the place that a feature has after the root at the place `gone` was taken out, which left these roots
abbrev pub moved_place : List IndexedRoot → ℕ → List ℕ → Place → Option Place
moved_place roots gone feature place =
    cond (nat_lt place.root gone) (Some place)
    (cond (place.root == gone) (place_from gone (drop gone roots) feature) (Some (record { root = place.root - 1 })))

-- what the entries of a table have at a feature
abbrev pub value_at : List (List ℕ × Place) → List ℕ → Option Place
value_at entries feature = lookup (same_bytes feature) entries

-- The table has each feature that some root's files hold, with its first root, and no other.
abbrev pub IsTableOf : List IndexedRoot → List (List ℕ × Place) → Type 0
IsTableOf roots entries = (feature : List ℕ) → value_at entries feature ≡ place_of roots feature
