-- Sources, and the entries that are made of them.
use Rattle.std.specs.Prelude.{◌≡◌, ℕ, Option, None, Some, List, [], ◌∷◌, ◌++◌, length}
use Rattle.std.specs.FinMap as map
use Rattle.bs_outside.specs.Cache.{CacheItem}
use Rattle.bs_outside.specs.SourceTree.{SourceTree}
use Rattle.bs_outside.specs.declared.names.CacheKind.{CacheKind}
use Rattle.bs_outside.specs.declared.trees.Kind.TheVariants as kind
use Rattle.bs_outside.specs.declared.trees.Stat.{Stat}
use Rattle.bs_outside.specs.declared.trees.Item.{Item}
use Rattle.bs_outside.specs.declared.trees.Item.TheVariants as found
use Rattle.cache_key.specs.Fnv.{fnv1a_of}
use Rattle.cache_key.specs.Key.{KeyNumbers, FitsKey, key_version, key_bytes, cache_name_of}
use Rattle.cache_meaning.specs.Payload.{payload_of}

-- A source file as it stands at some time.
pub record Version : Type 0 where
  pub path : List ℕ
  pub mtime : ℕ
  pub contents : List ℕ

abbrev pub version_of_found : List ℕ → Option Item → List Version
version_of_found path None = []
version_of_found path (Some (found.File contents mtime)) = record { path = path; mtime = mtime; contents = contents } ∷ []
version_of_found path (Some (found.Dir mtime)) = []

-- the file at a path, if there is one
abbrev pub file_at : SourceTree → List ℕ → List Version
file_at tree path = version_of_found path (map.get tree path)

-- It is one of the tree's files.
abbrev pub IsFileOf : SourceTree → Version → Type 0
IsFileOf tree v = map.get tree v.path ≡ Some (found.File v.contents v.mtime)

-- what a stat of the file tells
abbrev pub stat_of : Version → Stat
stat_of v = record { kind = kind.File; size = length v.contents; mtime = v.mtime }

-- the numbers in the key of an entry, of a source with this stat and these contents, with this payload
abbrev pub numbers_with : Stat → List ℕ → List ℕ → KeyNumbers
numbers_with stat contents payload = record { size = stat.size; mtime = stat.mtime; data_size = length payload; digest = fnv1a_of contents }

abbrev pub entry_with : Stat → List ℕ → List ℕ → List ℕ
entry_with stat contents payload = key_bytes key_version (numbers_with stat contents payload) ++ payload

abbrev pub numbers_of : Version → List ℕ → KeyNumbers
numbers_of v payload = numbers_with (stat_of v) v.contents payload

-- An entry: the key, and then the payload.
abbrev pub entry_bytes_of : Version → List ℕ → List ℕ
entry_bytes_of v payload = entry_with (stat_of v) v.contents payload

-- The bytes are the entry of a source of this kind, which has one where it has a payload. A key's numbers have 64 bits.
pub record IsEntryOf (kind : CacheKind) (v : Version) (bytes : List ℕ) : Type 0 where
  pub payload : List ℕ
  pub of_source : payload_of kind v.path v.contents ≡ Some payload
  pub fits : FitsKey (numbers_of v payload)
  pub whole : bytes ≡ entry_bytes_of v payload

abbrev pub items_with : CacheKind → Version → Option (List ℕ) → List CacheItem
items_with kind v None = []
items_with kind v (Some payload) = (cache_name_of kind v.path, entry_bytes_of v payload) ∷ []

-- What is published of a source: its entry under its name, or nothing where it has no payload.
abbrev pub items_of : CacheKind → Version → List CacheItem
items_of kind v = items_with kind v (payload_of kind v.path v.contents)
