-- Bytes that fit a tree, whole items, and caches that fit.
use Rattle.std.specs.Prelude.{◌≡◌, ◌⊎◌, ℕ, Bool, true, IsTrue, Option, None, Some, List, length, take, drop}
use Rattle.std.specs.List.{AllByRecursion}
use Rattle.bs_outside.specs.Cache.{CacheItem, Cache, last_of, now_of, MayCrashTo, IsMoment}
use Rattle.bs_outside.specs.History.{History}
use Rattle.bs_outside.specs.SourceTree.{SourceTree}
use Rattle.bs_outside.specs.declared.names.CacheName.{CacheName}
use Rattle.cache_key.specs.Fnv.{fnv1a_of}
use Rattle.cache_key.specs.Key.{key_version, is_hashed, cache_name_of, is_entry, size_in, mtime_in, digest_in}
use Rattle.cache_meaning.specs.Payload.{payload_of}
use Rattle.cache_meaning.specs.Entry.{Version, IsFileOf, IsEntryOf}

-- Bytes match a source: they have the form of an entry of this version, their size is that of the source, and their time or their digest is.
pub record Matches (v : Version) (bytes : List ℕ) : Type 0 where
  pub form : is_entry key_version bytes ≡ true
  pub size : size_in bytes ≡ length v.contents
  pub same : (mtime_in bytes ≡ v.mtime) ⊎ (digest_in bytes ≡ fnv1a_of v.contents)

-- Bytes fit a name that is a hash: for each file of the tree that has this name, if the bytes match the file, then it has a payload, and what
-- follows the key is that payload. Bytes that were cut short, are alien, or match no file of the tree fit. Nothing is said of the name of the load path.
abbrev pub Fits : SourceTree → CacheName → List ℕ → Type 0
Fits tree name bytes = is_hashed name.kind ≡ true → (v : Version) → IsFileOf tree v → cache_name_of name.kind v.path ≡ name → Matches v bytes
    → payload_of name.kind v.path v.contents ≡ Some (drop 64 bytes)

-- An item is whole: its bytes are the entry of a file of the tree that has its name. No item under the name of the load path is whole by now.
pub record IsWhole (tree : SourceTree) (item : CacheItem) : Type 0 where
  pub version : Version
  pub file : IsFileOf tree version
  pub named : cache_name_of item.0.kind version.path ≡ item.0
  pub entry : IsEntryOf item.0.kind version item.1

abbrev pub AnswerFits : SourceTree → CacheName → Option (List ℕ) → Type 0
AnswerFits tree name None = Unit {0}
AnswerFits tree name (Some bytes) = Fits tree name bytes

-- A cache fits where each of its files does.
abbrev pub CacheFits : SourceTree → Cache → Type 0
CacheFits tree cache = (name : CacheName) → AnswerFits tree name (cache name)

-- whatever a crash leaves of an item fits
abbrev pub PrefixesFit : SourceTree → CacheItem → Type 0
PrefixesFit tree item = (n : ℕ) → Fits tree item.0 (take n item.1)

abbrev pub AllPrefixesFit : SourceTree → List CacheItem → Type 0
AllPrefixesFit tree past = AllByRecursion (PrefixesFit tree) past

-- The files of a tree are told apart: where two have one hashed name and one size, and one time or one digest, they are one.
abbrev pub AreToldApart : SourceTree → Type 0
AreToldApart tree = (v w : Version) → IsFileOf tree v → IsFileOf tree w → fnv1a_of v.path ≡ fnv1a_of w.path → length v.contents ≡ length w.contents
    → (v.mtime ≡ w.mtime) ⊎ (fnv1a_of v.contents ≡ fnv1a_of w.contents) → v.path ≡ w.path

-- The cache that stands fits, and so does each that a crash may leave.
pub record FitsAt (tree : SourceTree) (start : Cache) (past : List CacheItem) : Type 0 where
  pub now : CacheFits tree (now_of start past)
  pub crash : (cache : Cache) → MayCrashTo start past cache → CacheFits tree cache

-- at each moment between an entry and an exit
abbrev pub EachMomentFits : SourceTree → Cache → List CacheItem → List CacheItem → Type 0
EachMomentFits tree start entry exit = (moment : List CacheItem) → IsMoment entry exit moment → FitsAt tree start moment

-- What the clauses on content trust of a shelf: it tells; the tree's files are told apart; what stood under a name at the start fits, and so does
-- each prefix of each item since; and whatever others rename, before and after, is whole.
pub record IsTrusted (tells : Bool) (tree : SourceTree) (h : History) : Type 0 where
  pub told : IsTrue tells
  pub apart : AreToldApart tree
  pub start : CacheFits tree (last_of h.start)
  pub past : AllPrefixesFit tree h.past
  pub guests : AllByRecursion (IsWhole tree) h.guests
