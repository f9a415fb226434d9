-- The scan of a root of the load path, and the latest time of its folders.
use Rattle.std.specs.Prelude.{ℕ, ◌-◌, ◌==◌, Bool, false, cond, not, max, Option, None, Some, List, [], ◌∷◌, ◌++◌, length, take, drop, filter, map, codes}
use Rattle.std.specs.List.{list_all, flat_map}
use Rattle.std.specs.FinMap as finite
use Rattle.bs_outside.specs.Paths.{segments_of, same_bytes}
use Rattle.bs_outside.specs.SourceTree.{SourceTree, is_folder, stem_of}
use Rattle.bs_outside.specs.declared.trees.Item.{Item}
use Rattle.bs_outside.specs.declared.trees.Item.TheVariants as item

-- a segment that is not empty and does not begin with a dot
abbrev pub is_plain_segment : List ℕ → Bool
is_plain_segment [] = false
is_plain_segment (byte ∷ bytes) = not (byte == 46)

-- A relative path, or a feature, in which no segment is empty or begins with a dot. So it does not begin with a slash.
abbrev pub is_plain : List ℕ → Bool
is_plain text = list_all is_plain_segment (segments_of text)

abbrev pub ends_in_rb : List ℕ → Bool
ends_in_rb text = same_bytes (drop (length text - 3) text) (codes ".rb")

-- the relative path of what lies below the folder with this stem, if it is plain
abbrev pub shown_below : List ℕ → List ℕ → List (List ℕ)
shown_below stem path = cond (same_bytes (take (length stem) path) stem) (filter is_plain (drop (length stem) path ∷ [])) []

abbrev pub file_below : List ℕ → List ℕ × Item → List (List ℕ)
file_below stem (path, item.File bytes mtime) = filter ends_in_rb (shown_below stem path)
file_below stem (path, item.Dir mtime) = []

abbrev pub folder_below : List ℕ → List ℕ × Item → List (List ℕ)
folder_below stem (path, item.File bytes mtime) = []
folder_below stem (path, item.Dir mtime) = shown_below stem path

-- The files below a root that end in `.rb`, by their relative paths. They ascend by their bytes, since the tree's paths do.
abbrev pub files_of : SourceTree → List ℕ → List (List ℕ)
files_of tree root = cond (is_folder (finite.get tree root)) (flat_map (file_below (stem_of root)) (finite.entries tree)) []

-- The folders below a root, likewise.
abbrev pub folders_of : SourceTree → List ℕ → List (List ℕ)
folders_of tree root = cond (is_folder (finite.get tree root)) (flat_map (folder_below (stem_of root)) (finite.entries tree)) []

abbrev pub folder_time : Option Item → Option ℕ
folder_time None = None
folder_time (Some (item.File bytes mtime)) = None
folder_time (Some (item.Dir mtime)) = Some mtime

-- the later of two times, if both are there
abbrev pub later : Option ℕ → Option ℕ → Option ℕ
later None b = None
later (Some a) None = None
later (Some a) (Some b) = Some (max a b)

-- The greatest time of a root and of these folders below it, and nothing where one of them is no folder.
abbrev pub latest_of : SourceTree → List ℕ → List (List ℕ) → Option ℕ
latest_of tree root [] = folder_time (finite.get tree root)
latest_of tree root (folder ∷ folders) = later (folder_time (finite.get tree (stem_of root ++ folder))) (latest_of tree root folders)

-- a root and these folders below it, by their paths
abbrev pub folder_paths : List ℕ → List (List ℕ) → List (List ℕ)
folder_paths root folders = root ∷ map (λ folder. stem_of root ++ folder) folders
