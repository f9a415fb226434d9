-- What a store in memory holds.
use Rattle.std.specs.Prelude.{ℕ, ◌^◌, ◌<◌, List, length}
use Rattle.std.specs.List.{AllByRecursion}
use Rattle.std.specs.List.Sorted.{IsStrictlySortedBy}
use Rattle.std.specs.Map.{keys_of}
use Rattle.std.specs.Ordering.{nat_cmp}
use Rattle.std.specs.Cmp.Lexicographic.{slice_cmp}
use Rattle.path_meaning.specs.declared.scans.RootScan.{RootScan}
use Rattle.path_meaning.specs.StoreFile.{IsStoreEntry}

-- lists and names whose lengths have a spelling
pub record IsShort (scan : RootScan) : Type 0 where
  pub files : length scan.files < 2 ^ 32
  pub dirs : length scan.dirs < 2 ^ 32
  pub file_names : AllByRecursion (λ name. length name < 2 ^ 32) scan.files
  pub dir_names : AllByRecursion (λ name. length name < 2 ^ 32) scan.dirs

-- the entries of a store file, in the order of their roots, which can be spelled
pub record HoldsStore (entries : List (List ℕ × RootScan)) : Type 0 where
  pub sorted : IsStrictlySortedBy (slice_cmp nat_cmp) (keys_of entries)
  pub items : AllByRecursion IsStoreEntry entries
  pub short : AllByRecursion (λ e. IsShort e.1) entries
  pub few : length entries < 2 ^ 32
