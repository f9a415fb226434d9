use Rattle.std.specs.Prelude.{◌≡◌, ℕ, zero, suc, ◌+◌, ◌/◌, ◌%◌, ◌^◌, ◌<◌, ◌==◌, nat_lt, nat_le, Bool, true, false, ◌&&◌, if◌then◌else◌, List, [], ◌∷◌, ◌++◌, length, take, drop, replicate, codes}
use Rattle.byteorder.specs.Endian.{little_bytes, little_number}
use Rattle.bs_outside.specs.Paths.{same_bytes}
use Rattle.bs_outside.specs.declared.names.CacheKind.{CacheKind}
use Rattle.bs_outside.specs.declared.names.CacheKind.TheVariants.{Iseq, Yaml, Json, LoadPath}
use Rattle.bs_outside.specs.declared.names.CacheName.{CacheName}
use Rattle.cache_key.specs.Fnv.{fnv1a_of}

-- The kinds whose names are hashes of paths.
abbrev pub is_hashed : CacheKind → Bool
is_hashed LoadPath = false
is_hashed _ = true

-- The name of the cache file of a source: its kind, and the FNV-1a hash of its path.
abbrev pub cache_name_of : CacheKind → List ℕ → CacheName
cache_name_of kind path = record { kind = kind; hash = fnv1a_of path }

-- a digit as text: 0 to 9, and then a to f
abbrev pub hex_digit : ℕ → ℕ
hex_digit digit = if nat_lt digit 10 then 48 + digit else 87 + digit

-- the lowest n digits of a number to the base 16, the highest of them first
unfoldable pub hex_of : ℕ → ℕ → List ℕ
hex_of zero number = []
hex_of (suc n) number = hex_digit (number / 16 ^ n % 16) ∷ hex_of n number

abbrev pub folder_of : CacheKind → List ℕ
folder_of Iseq = codes "iseq/"
folder_of Yaml = codes "yaml/"
folder_of Json = codes "json/"
folder_of LoadPath = []

-- Where a cache file lies in the cache's folder: the folder of its kind, a folder of the hash's first two digits, and a file of the other fourteen.
-- The scans of the load path lie in a file of their own.
abbrev pub name_text_of : CacheName → List ℕ
name_text_of name = if is_hashed name.kind then folder_of name.kind ++ (take 2 (hex_of 16 name.hash) ++ 47 ∷ drop 2 (hex_of 16 name.hash)) else codes "load-path-cache"

-- The version that this project writes.
abbrev pub key_version : ℕ
key_version = 5

-- The numbers of a key: size and time of the source, how many bytes follow the key, and the FNV-1a digest of the source's contents.
pub record KeyNumbers : Type 0 where
  pub size : ℕ
  pub mtime : ℕ
  pub data_size : ℕ
  pub digest : ℕ

-- Each of them has 64 bits.
pub record FitsKey (numbers : KeyNumbers) : Type 0 where
  pub size : numbers.size < 2 ^ 64
  pub mtime : numbers.mtime < 2 ^ 64
  pub data_size : numbers.data_size < 2 ^ 64
  pub digest : numbers.digest < 2 ^ 64

-- The first sixteen bytes of a key: version, platform 1, compile option 0 and revision 33, of four bytes each.
abbrev pub key_head : ℕ → List ℕ
key_head version = little_bytes 4 version ++ (little_bytes 4 1 ++ (little_bytes 4 0 ++ little_bytes 4 33))

-- The last sixteen: that a digest is set, and zeros.
abbrev pub key_tail : List ℕ
key_tail = 1 ∷ replicate 15 0

-- A key: 64 bytes, each number with its lowest byte first.
unfoldable pub key_bytes : ℕ → KeyNumbers → List ℕ
key_bytes version numbers =
    key_head version ++ (little_bytes 8 numbers.size ++ (little_bytes 8 numbers.mtime ++ (little_bytes 8 numbers.data_size ++ (little_bytes 8 numbers.digest ++ key_tail))))

-- The number in the eight bytes from a place on.
unfoldable pub number_at : ℕ → List ℕ → ℕ
number_at place bytes = little_number 8 (drop place bytes)

abbrev pub size_in : List ℕ → ℕ
size_in bytes = number_at 16 bytes

abbrev pub mtime_in : List ℕ → ℕ
mtime_in bytes = number_at 24 bytes

abbrev pub data_size_in : List ℕ → ℕ
data_size_in bytes = number_at 32 bytes

abbrev pub digest_in : List ℕ → ℕ
digest_in bytes = number_at 40 bytes

-- What stands before and behind a key's numbers is what a key of this version has there.
unfoldable pub has_constants : ℕ → List ℕ → Bool
has_constants version bytes = same_bytes (take 16 bytes) (key_head version) && same_bytes (take 16 (drop 48 bytes)) key_tail

-- Bytes that have the form of an entry: as many as a key has and as its number says, with the constants of this version.
abbrev pub is_entry : ℕ → List ℕ → Bool
is_entry version bytes = nat_le 64 (length bytes) && (length bytes == 64 + data_size_in bytes && has_constants version bytes)

-- What is read of the bytes is what stands in a key of this version with these numbers.
pub record ReadsBack (version : ℕ) (numbers : KeyNumbers) (bytes : List ℕ) : Type 0 where
  pub constants : has_constants version bytes ≡ true
  pub size : size_in bytes ≡ numbers.size
  pub mtime : mtime_in bytes ≡ numbers.mtime
  pub data_size : data_size_in bytes ≡ numbers.data_size
  pub digest : digest_in bytes ≡ numbers.digest
