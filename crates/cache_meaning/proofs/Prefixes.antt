-- A prefix of a whole entry fits.
use Rattle.std.proofs.Common.{◌≡◌, inl, inr, ℕ, List, ◌++◌, length, take, drop, Some, true, refl, sym, ◌∙◌, ap, subst}
use Rattle.std.proofs.Math.Seq.{drop-append_seam}
use Rattle.std.specs.FinMap as map
use Rattle.bs_outside.specs.Cache.{CacheItem}
use Rattle.bs_outside.specs.SourceTree.{SourceTree}
use Rattle.bs_outside.specs.declared.names.CacheName.{CacheName}
use Rattle.bs_outside.specs.declared.trees.Item.TheVariants as found
use Rattle.cache_key.specs.Fnv.{fnv1a_of}
use Rattle.cache_key.specs.Key.{FitsKey, key_version, key_bytes, cache_name_of, is_entry}
use Rattle.cache_key.proofs.KeyRead.{length-key_bytes, key_reads_back, is_entry-prefix}
use Rattle.cache_meaning.specs.Payload.{payload_of}
use Rattle.cache_meaning.specs.Entry.{Version, IsFileOf, numbers_of, entry_bytes_of, IsEntryOf}
use Rattle.cache_meaning.specs.Fits.{Matches, Fits, IsWhole, AreToldApart, PrefixesFit}

-- what follows the key of an entry is its payload
pub behind_key : (v : Version) (payload : List ℕ) → drop 64 (entry_bytes_of v payload) ≡ payload
behind_key v payload =
    let key = key_bytes key_version (numbers_of v payload) in
    subst (λ (n : ℕ). drop n (key ++ payload) ≡ payload) (length-key_bytes key_version (numbers_of v payload)) (drop-append_seam key payload)

same_contents : (tree : SourceTree) (v w : Version) → IsFileOf tree v → IsFileOf tree w → v.path ≡ w.path → v.contents ≡ w.contents
same_contents tree v w is_v is_w same =
    let there : map.get tree v.path ≡ map.get tree w.path = ap (map.get tree) same in
    let items : Some (found.File v.contents v.mtime) ≡ Some (found.File w.contents w.mtime) = sym is_v ∙ there ∙ is_w in
    cc

-- what a match with the whole entry of another file says
apart_or_one : (tree : SourceTree) (v w : Version) (payload : List ℕ) → AreToldApart tree → IsFileOf tree v → IsFileOf tree w → fnv1a_of v.path ≡ fnv1a_of w.path
    → FitsKey (numbers_of v payload) → Matches w (entry_bytes_of v payload) → v.path ≡ w.path
apart_or_one tree v w payload apart is_v is_w named fits matches =
    let read = key_reads_back key_version (numbers_of v payload) payload fits in
    let size : length v.contents ≡ length w.contents = sym read.size ∙ matches.size in
    apart v w is_v is_w named size (elim matches.same [
      | inl time ↦ inl (sym read.mtime ∙ time)
      | inr digest ↦ inr (sym read.digest ∙ digest)
    ])

-- Each prefix of an entry fits its name.
pub entry_prefix_fits : (tree : SourceTree) (name : CacheName) (v : Version) (bytes : List ℕ) → AreToldApart tree → IsFileOf tree v → cache_name_of name.kind v.path ≡ name → IsEntryOf name.kind v bytes
    → (n : ℕ) → Fits tree name (take n bytes)
entry_prefix_fits tree name v bytes apart is_v named entry n hashed w is_w named_too matches =
    let payload = entry.payload in
    let whole = entry_bytes_of v payload in
    let cut : take n bytes ≡ take n whole = ap (take n) entry.whole in
    let form : is_entry key_version (take n whole) ≡ true = subst (λ (b : List ℕ). is_entry key_version b ≡ true) cut matches.form in
    let all : take n bytes ≡ whole = cut ∙ is_entry-prefix key_version (numbers_of v payload) payload n entry.fits refl form in
    let hashes : fnv1a_of v.path ≡ fnv1a_of w.path = ap (λ (c : CacheName). c.hash) (named ∙ sym named_too) in
    let same : v.path ≡ w.path = apart_or_one tree v w payload apart is_v is_w hashes entry.fits (subst (Matches w) all matches) in
    let contents : v.contents ≡ w.contents = same_contents tree v w is_v is_w same in
    let rest : drop 64 (take n bytes) ≡ payload = ap (drop 64) all ∙ behind_key v payload in
    (λ i. payload_of name.kind (sym same i) (sym contents i)) ∙ entry.of_source ∙ ap Some (sym rest)

pub whole_fits : (tree : SourceTree) (item : CacheItem) → AreToldApart tree → IsWhole tree item → PrefixesFit tree item
whole_fits tree item apart whole n = entry_prefix_fits tree item.0 whole.version item.1 apart whole.file whole.named whole.entry n
