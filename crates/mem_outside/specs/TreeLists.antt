use Rattle.std.specs.Prelude.{ℕ, ◌^◌, Bool, true, not, ◌&&◌, ◌||◌, nat_lt, is_some, IfSome, ◌<◌, List, [], ◌∷◌}
use Rattle.std.specs.List.{list_all}
use Rattle.std.specs.FinMap as map
use Rattle.bs_outside.specs.Paths.{is_normal_path, same_bytes, parent_of}
use Rattle.bs_outside.specs.SourceTree.{SourceTree, time_of, is_folder}
use Rattle.bs_outside.specs.declared.trees.Item.{Item}

-- a path with what stands there, whose time is below 2 ^ 63
abbrev pub is_entry : List ℕ × Item → Bool
is_entry e = is_normal_path e.0 && nat_lt (time_of e.1) (2 ^ 63)

-- all its times are below 2 ^ 63
abbrev pub IsTimely : SourceTree → Type 0
IsTimely tree = (path : List ℕ) → IfSome (map.get tree path) (λ found. time_of found < 2 ^ 63)

-- the map of these entries
abbrev pub map_of : List (List ℕ × Item) → SourceTree
map_of items = map.from_entries items

-- each is an entry, and no path stands twice
abbrev pub are_entries : List (List ℕ × Item) → Bool
are_entries [] = true
are_entries (e ∷ es) = is_entry e && (not (map.contains_key (map_of es) e.0) && are_entries es)

-- `/`, or in a folder that stands in the tree
abbrev pub has_place : SourceTree → List ℕ → Bool
has_place tree path = same_bytes path (47 ∷ []) || is_folder (map.get tree (parent_of path))

-- `/` stands in it, and each path has a place
abbrev pub is_closed : SourceTree → Bool
is_closed tree = is_some (map.get tree (47 ∷ [])) && list_all (has_place tree) (map.keys tree)

-- The list of a source tree: its entries make a map that is closed under parent folders.
abbrev pub is_tree_list : List (List ℕ × Item) → Bool
is_tree_list items = are_entries items && is_closed (map_of items)
