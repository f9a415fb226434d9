-- The store file of the load path.
use Rattle.std.specs.Prelude.{◌≡◌, ℕ, ◌+◌, ◌^◌, ◌<◌, ◌≤◌, Bool, true, false, cond, ◌&&◌, nat_le, nat_lt, not, is_some, pos, Option, None, Some, IfSome, List, [], ◌∷◌, length, map, codes}
use Rattle.std.specs.List.{AllByRecursion}
use Rattle.std.specs.List.Sorted.{IsStrictlySortedBy}
use Rattle.std.specs.Ordering.{nat_cmp}
use Rattle.std.specs.Cmp.Lexicographic.{slice_cmp}
use Rattle.std.specs.FinMap as finite
use Rattle.bs_outside.specs.Paths.{IsNormalPath}
use Rattle.bs_outside.specs.SourceTree.{SourceTree, is_folder}
use Rattle.msgpack_codec.specs.declared.value.Value.{Value}
use Rattle.msgpack_codec.specs.declared.value.Value.TheVariants as value
use Rattle.msgpack_codec.specs.Message.{SpellsMessage}
use Rattle.path_meaning.specs.declared.scans.RootScan.{RootScan}
use Rattle.path_meaning.specs.Scan.{is_plain, ends_in_rb, files_of, folders_of, latest_of, folder_paths}

-- A finite map from roots to items. An item is a scan, with no time where its root is stable.
abbrev pub Store : Type 0
Store = finite.FinMap (slice_cmp nat_cmp) RootScan

-- plain paths that ascend by their bytes, each once
pub record IsListing (names : List (List ℕ)) : Type 0 where
  pub ascending : IsStrictlySortedBy (slice_cmp nat_cmp) names
  pub plain : AllByRecursion (λ name. is_plain name ≡ true) names

-- lists as a scan has them, and a time below 2 ^ 63 or none
pub record IsScan (scan : RootScan) : Type 0 where
  pub time : IfSome scan.latest (λ time. time < 2 ^ 63)
  pub files : IsListing scan.files
  pub ruby : AllByRecursion (λ file. ends_in_rb file ≡ true) scan.files
  pub dirs : IsListing scan.dirs

-- a root, which is a path, and its item
pub record IsStoreEntry (entry : List ℕ × RootScan) : Type 0 where
  pub root : IsNormalPath entry.0
  pub scan : IsScan entry.1

abbrev pub IsStore : Store → Type 0
IsStore store = AllByRecursion IsStoreEntry (finite.entries store)

abbrev pub texts_value : List (List ℕ) → Value
texts_value texts = value.List (map value.Str texts)

-- nil, or the time
abbrev pub time_value : Option ℕ → Value
time_value None = value.Nil
time_value (Some time) = value.Int (pos time)

-- the time, the files and the folders
abbrev pub item_value : RootScan → Value
item_value scan = value.List (time_value scan.latest ∷ texts_value scan.files ∷ texts_value scan.dirs ∷ [])

abbrev pub root_pair : List ℕ × RootScan → Value × Value
root_pair entry = (value.Str entry.0, item_value entry.1)

-- the version, 1, and then the roots with their items, ascending by their bytes
abbrev pub store_value : Store → Value
store_value store = value.Map ((value.Str (codes "version"), value.Int (pos 1)) ∷ (value.Str (codes "roots"), value.Map (map root_pair (finite.entries store))) ∷ [])

-- The bytes are the one spelling of the store file, a message of MessagePack.
pub record SpellsStore (store : Store) (bytes : List ℕ) : Type 0 where
  pub store_is : IsStore store
  pub spelled : SpellsMessage (store_value store) bytes

-- how many names a scan has
abbrev pub names_in : RootScan → ℕ
names_in scan = length scan.files + length scan.dirs

-- A scan with more names than this is not kept.
abbrev pub few_names : RootScan → Bool
few_names scan = nat_le (names_in scan) 1048576

-- the scan of a root that is a folder, with its latest time
abbrev pub root_scan_of : SourceTree → List ℕ → RootScan
root_scan_of tree root = record { latest = latest_of tree root (folders_of tree root); files = files_of tree root; dirs = folders_of tree root }

-- a scan as it is kept: of a stable root no time is kept
abbrev pub as_item : RootScan → Bool → RootScan
as_item scan stable = record { latest = cond stable None scan.latest; files = scan.files; dirs = scan.dirs }

-- What is kept of a root: nothing where it is no folder or has too many names.
abbrev pub kept_item : SourceTree → List ℕ → Bool → Option RootScan
kept_item tree root stable = let scan = root_scan_of tree root in cond (is_folder (finite.get tree root) && few_names scan) (Some (as_item scan stable)) None

-- an item is valid for a volatile root where the root and its folders are there, and their greatest time is the one that was kept
abbrev pub is_latest : Option ℕ → Option ℕ → Bool
is_latest None now = false
is_latest (Some kept) None = false
is_latest (Some kept) (Some now) = nat_le kept now && nat_le now kept

-- Whether what is kept of a root may stand for its scan.
abbrev pub is_valid_item : SourceTree → List ℕ → Bool → Option RootScan → Bool
is_valid_item tree root stable None = false
is_valid_item tree root stable (Some kept) = cond stable (not (is_some kept.latest)) (is_latest kept.latest (latest_of tree root kept.dirs))

-- A scan is kept where its root is a folder, it has few names, and fewer than 16,777,216 other roots have items.
abbrev pub may_keep : Store → List ℕ → RootScan → Bool
may_keep store root scan = is_some scan.latest && (few_names scan && nat_lt (finite.len (finite.remove store root)) 16777216)

-- a store after a scan of a root was put into it: the root has the scan's item, or none; the items of other roots stay
abbrev pub store_with : Store → List ℕ → RootScan → Bool → Store
store_with store root scan stable = cond (may_keep store root scan) (finite.insert store root (as_item scan stable)) (finite.remove store root)

-- what has to be looked at of an item
abbrev pub paths_of_item : List ℕ → Option RootScan → List (List ℕ)
paths_of_item root None = []
paths_of_item root (Some kept) = folder_paths root kept.dirs

-- what a scan has to be so that it can be kept
pub record CanBeKept (scan : RootScan) : Type 0 where
  pub scan_is : IsScan scan
  pub files_short : AllByRecursion (λ file. length file ≤ 1024) scan.files
  pub dirs_short : AllByRecursion (λ dir. length dir ≤ 1024) scan.dirs
