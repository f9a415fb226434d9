-- What is read of a key that was written.
use Rattle.std.proofs.Common.{◌≡◌, ℕ, ◌+◌, ◌<◌, ◌≤◌, ◌^◌, true, List, [], ◌∷◌, ◌++◌, length, take, refl, sym, ◌∙◌, ap, arith, length-append, length-take}
use Rattle.std.proofs.lemmas.Bool.{and_parts, and_from, leb-true, le-leb, eqb-true, eq-eqb}
use Rattle.std.proofs.lemmas.List.{take_all}
use Rattle.byteorder.specs.Endian.{little_bytes}
use Rattle.byteorder.specs.Numbers.{little_number-reads_back}
use Rattle.bs_outside.specs.Paths.{same_bytes}
use Rattle.cache_key.specs.Key.{KeyNumbers, FitsKey, ReadsBack, key_head, key_tail, key_bytes, number_at, size_in, mtime_in, data_size_in, digest_in, has_constants, is_entry}
use Rattle.cache_key.proofs.KeyLemmas.{number_at-take}

pub length-key_bytes : (version : ℕ) (numbers : KeyNumbers) → length (key_bytes version numbers) ≡ 64
unfolding key_bytes
length-key_bytes version numbers = refl

size_in-key : (version : ℕ) (numbers : KeyNumbers) (rest : List ℕ) → numbers.size < 2 ^ 64 → size_in (key_bytes version numbers ++ rest) ≡ numbers.size
unfolding key_bytes number_at
size_in-key version numbers rest fits =
    little_number-reads_back 8 numbers.size (little_bytes 8 numbers.mtime ++ (little_bytes 8 numbers.data_size ++ (little_bytes 8 numbers.digest ++ (key_tail ++ rest)))) fits

mtime_in-key : (version : ℕ) (numbers : KeyNumbers) (rest : List ℕ) → numbers.mtime < 2 ^ 64 → mtime_in (key_bytes version numbers ++ rest) ≡ numbers.mtime
unfolding key_bytes number_at
mtime_in-key version numbers rest fits = little_number-reads_back 8 numbers.mtime (little_bytes 8 numbers.data_size ++ (little_bytes 8 numbers.digest ++ (key_tail ++ rest))) fits

data_size_in-key : (version : ℕ) (numbers : KeyNumbers) (rest : List ℕ) → numbers.data_size < 2 ^ 64 → data_size_in (key_bytes version numbers ++ rest) ≡ numbers.data_size
unfolding key_bytes number_at
data_size_in-key version numbers rest fits = little_number-reads_back 8 numbers.data_size (little_bytes 8 numbers.digest ++ (key_tail ++ rest)) fits

digest_in-key : (version : ℕ) (numbers : KeyNumbers) (rest : List ℕ) → numbers.digest < 2 ^ 64 → digest_in (key_bytes version numbers ++ rest) ≡ numbers.digest
unfolding key_bytes number_at
digest_in-key version numbers rest fits = little_number-reads_back 8 numbers.digest (key_tail ++ rest) fits

same_bytes-same : (bytes : List ℕ) → same_bytes bytes bytes ≡ true
same_bytes-same [] = refl
same_bytes-same (byte ∷ bytes) = and_from _ _ (eq-eqb byte byte refl) (same_bytes-same bytes)

has_constants-key : (version : ℕ) (numbers : KeyNumbers) (rest : List ℕ) → has_constants version (key_bytes version numbers ++ rest) ≡ true
unfolding key_bytes has_constants
has_constants-key version numbers rest = and_from (same_bytes (key_head version) (key_head version)) true (same_bytes-same (key_head version)) refl

pub key_reads_back : (version : ℕ) (numbers : KeyNumbers) (rest : List ℕ) → FitsKey numbers → ReadsBack version numbers (key_bytes version numbers ++ rest)
key_reads_back version numbers rest fits = record {
  constants = has_constants-key version numbers rest;
  size = size_in-key version numbers rest fits.size;
  mtime = mtime_in-key version numbers rest fits.mtime;
  data_size = data_size_in-key version numbers rest fits.data_size;
  digest = digest_in-key version numbers rest fits.digest;
}

-- a key and as many bytes as it says have the form of an entry
pub is_entry-whole : (version : ℕ) (numbers : KeyNumbers) (payload : List ℕ) → FitsKey numbers → numbers.data_size ≡ length payload → is_entry version (key_bytes version numbers ++ payload) ≡ true
is_entry-whole version numbers payload fits counted =
    let entry = key_bytes version numbers ++ payload in
    let all : length entry ≡ 64 + length payload = length-append (key_bytes version numbers) payload ∙ ap (λ (k : ℕ). k + length payload) (length-key_bytes version numbers) in
    let said : 64 + data_size_in entry ≡ 64 + length payload = ap (λ (k : ℕ). 64 + k) (data_size_in-key version numbers payload fits.data_size ∙ counted) in
    and_from _ _ (le-leb 64 (length entry) (omega arith)) (and_from _ _ (eq-eqb (length entry) (64 + data_size_in entry) (all ∙ sym said)) (has_constants-key version numbers payload))

-- and no shorter part of them has
pub is_entry-prefix : (version : ℕ) (numbers : KeyNumbers) (payload : List ℕ) (n : ℕ) → FitsKey numbers → numbers.data_size ≡ length payload
    → is_entry version (take n (key_bytes version numbers ++ payload)) ≡ true → take n (key_bytes version numbers ++ payload) ≡ key_bytes version numbers ++ payload
is_entry-prefix version numbers payload n fits counted is =
    let entry = key_bytes version numbers ++ payload in
    let parts = and_parts _ _ is in
    let whole = and_parts _ _ parts.1 in
    let long : 64 ≤ length (take n entry) = leb-true 64 (length (take n entry)) parts.0 in
    let cut : length (take n entry) ≡ 64 + data_size_in (take n entry) = eqb-true _ _ whole.0 in
    let enough : 64 ≤ n = omega (arith, length-take n entry) in
    let said : data_size_in (take n entry) ≡ length payload = number_at-take 32 n entry (omega arith) ∙ data_size_in-key version numbers payload fits.data_size ∙ counted in
    let all : length entry ≡ 64 + length payload = length-append (key_bytes version numbers) payload ∙ ap (λ (k : ℕ). k + length payload) (length-key_bytes version numbers) in
    take_all n entry (omega (arith, length-take n entry))
