use Rattle.std.specs.Prelude.{◌≡◌, ℕ, ◌<◌, ◌^◌, Bool, true, false, cond, ◌&&◌, ◌⊎◌, Option, None, Some, IfSome, IsSome, List, [], ◌∷◌, ◌++◌, length, take, drop}
use Rattle.std.specs.Ordering.{nat_cmp}
use Rattle.std.specs.Cmp.Lexicographic.{slice_cmp}
use Rattle.std.specs.FinMap as map
use Rattle.bs_outside.specs.Paths.{IsNormalPath, is_segment, same_bytes, parent_of}
use Rattle.bs_outside.specs.declared.trees.Item.{Item}
use Rattle.bs_outside.specs.declared.trees.Item.TheVariants as item
use Rattle.bs_outside.specs.declared.trees.Kind.{Kind}
use Rattle.bs_outside.specs.declared.trees.Kind.TheVariants as kind
use Rattle.bs_outside.specs.declared.trees.Listed.{Listed}
use Rattle.bs_outside.specs.declared.trees.Stat.{Stat}

-- A finite map from paths to files and folders.
abbrev pub SourceTree : Type 0
SourceTree = map.FinMap (slice_cmp nat_cmp) Item

abbrev pub time_of : Item → ℕ
time_of (item.File bytes mtime) = mtime
time_of (item.Dir mtime) = mtime

abbrev pub kind_of : Item → Kind
kind_of (item.File bytes mtime) = kind.File
kind_of (item.Dir mtime) = kind.Dir

abbrev pub is_folder : Option Item → Bool
is_folder None = false
is_folder (Some (item.File bytes mtime)) = false
is_folder (Some (item.Dir mtime)) = true

-- What makes such a map a source tree: its paths are normal, `/` stands in it, each other path lies in a folder of it, and times are below 2 ^ 63.
pub record IsSourceTree (tree : SourceTree) : Type 0 where
  pub paths : (path : List ℕ) → IsSome (map.get tree path) → IsNormalPath path
  pub root : IsSome (map.get tree (47 ∷ []))
  pub parents : (path : List ℕ) → IsSome (map.get tree path) → (path ≡ 47 ∷ []) ⊎ (is_folder (map.get tree (parent_of path)) ≡ true)
  pub times : (path : List ℕ) → IfSome (map.get tree path) (λ found. time_of found < 2 ^ 63)

abbrev pub stat_of_item : Item → Stat
stat_of_item (item.File bytes mtime) = record { kind = kind.File; size = length bytes; mtime = mtime }
stat_of_item (item.Dir mtime) = record { kind = kind.Dir; size = 0; mtime = mtime }

abbrev pub stat_of_found : Option Item → Option Stat
stat_of_found None = None
stat_of_found (Some found) = Some (stat_of_item found)

-- what a stat of the path answers
abbrev pub stat_at : SourceTree → List ℕ → Option Stat
stat_at tree path = stat_of_found (map.get tree path)

abbrev pub bytes_of_found : Option Item → Option (List ℕ)
bytes_of_found None = None
bytes_of_found (Some (item.File bytes mtime)) = Some bytes
bytes_of_found (Some (item.Dir mtime)) = None

-- the bytes of the file at the path
abbrev pub bytes_at : SourceTree → List ℕ → Option (List ℕ)
bytes_at tree path = bytes_of_found (map.get tree path)

-- what the paths of all that lies in a folder begin with: the folder's path and a slash, for `/` the slash alone
abbrev pub stem_of : List ℕ → List ℕ
stem_of folder = cond (same_bytes folder (47 ∷ [])) (47 ∷ []) (folder ++ 47 ∷ [])

-- the name of what lies right in the folder with this stem
abbrev pub name_below : List ℕ → List ℕ → Option (List ℕ)
name_below stem path = cond (same_bytes (take (length stem) path) stem && is_segment (drop (length stem) path)) (Some (drop (length stem) path)) None

abbrev pub put_name : Option (List ℕ) → Item → List Listed → List Listed
put_name None found rest = rest
put_name (Some name) found rest = record { name = name; kind = kind_of found } ∷ rest

-- the names right in the folder with this stem, in the order of their paths
abbrev pub names_below : List ℕ → List (List ℕ × Item) → List Listed
names_below stem [] = []
names_below stem (e ∷ es) = put_name (name_below stem e.0) e.1 (names_below stem es)

abbrev pub list_of_found : Option Item → List Listed → Option (List Listed)
list_of_found None names = None
list_of_found (Some (item.File bytes mtime)) names = None
list_of_found (Some (item.Dir mtime)) names = Some names

-- The names in the folder at the path, ascending by their bytes, since the map's paths ascend.
abbrev pub list_at : SourceTree → List ℕ → Option (List Listed)
list_at tree path = list_of_found (map.get tree path) (names_below (stem_of path) (map.entries tree))
