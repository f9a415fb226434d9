-- Store files that fit a tree.
use Rattle.std.specs.Prelude.{◌≡◌, ℕ, Option, None, Some, List}
use Rattle.std.specs.FinMap as finite
use Rattle.bs_outside.specs.SourceTree.{SourceTree}
use Rattle.path_meaning.specs.declared.scans.RootScan.{RootScan}
use Rattle.path_meaning.specs.Scan.{files_of, folders_of, latest_of}
use Rattle.path_meaning.specs.StoreFile.{Store, SpellsStore}

-- the item has the lists of the root's scan
pub record HasListsOf (tree : SourceTree) (root : List ℕ) (kept : RootScan) : Type 0 where
  pub files : kept.files ≡ files_of tree root
  pub dirs : kept.dirs ≡ folders_of tree root

-- an item without a time has the lists; one with a time has them where the time is still the latest of its folders
abbrev pub ItemFits : SourceTree → List ℕ → Option ℕ → RootScan → Type 0
ItemFits tree root None kept = HasListsOf tree root kept
ItemFits tree root (Some time) kept = latest_of tree root kept.dirs ≡ Some time → HasListsOf tree root kept

abbrev pub FoundFits : SourceTree → List ℕ → Option RootScan → Type 0
FoundFits tree root None = Unit {0}
FoundFits tree root (Some kept) = ItemFits tree root kept.latest kept

abbrev pub StoreFits : SourceTree → Store → Type 0
StoreFits tree store = (root : List ℕ) → FoundFits tree root (finite.get store root)

-- Bytes fit under the load path's name where they are no store file, or one that fits.
abbrev pub PathFits : SourceTree → List ℕ → Type 0
PathFits tree bytes = (store : Store) → SpellsStore store bytes → StoreFits tree store

-- The bytes are a whole item under the load path's name: the one spelling of a store file that fits.
pub record IsWholeStore (tree : SourceTree) (bytes : List ℕ) : Type 0 where
  pub store : Store
  pub spelled : SpellsStore store bytes
  pub fits : StoreFits tree store
