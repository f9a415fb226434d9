use Rattle.std.proofs.Common.{◌≡◌, ℕ, zero, suc, ◌-◌, ◌<◌, ◌≤◌, Bool, true, false, cond, not, ◌&&◌, ◌||◌, ◌==◌, List, [], ◌∷◌, ◌++◌, length, take, get_or, refl, sym, ◌∙◌, ap, arith}
use Rattle.std.specs.List.{All, list_all, onto_first, suffix_len}
use Rattle.std.proofs.lemmas.List.{append-nil, length-take}
use Rattle.std.proofs.lemmas.List.Elements.{All-nil, All-cons, All-head, All-tail, All-take, All-push}
use Rattle.std.proofs.lemmas.List.Splits.{slice_split_none, slice_split_at}
use Rattle.std.proofs.lemmas.List.Sums.{suffix_len_is}
use Rattle.std.proofs.lemmas.Bool.Decides.{nat_tests}
use Rattle.bs_outside.specs.Paths.{is_slash, segments_of, is_named, is_empty_segment, is_dot, is_dot_dot, reached_by, reached, joined, path_of, has_named_segments, may_be_path, root_or, parent_of}

pub false_unless : (b : Bool) → (b ≡ true → ⊥) → false ≡ b
false_unless b = elim b as (λ b. (b ≡ true → ⊥) → false ≡ b) [ true ↦ λ no. absurd (no refl) | false ↦ λ no. refl ]

both_true : (a b : Bool) → a ≡ true → b ≡ true → (a && b) ≡ true
both_true true b e f = f
both_true false b e f = e

-- no slash stands in it
abbrev pub HasNoSlash : List ℕ → Type 0
HasNoSlash segment = All (λ byte. is_slash byte ≡ false) segment

-- it names something, and no slash stands in it
pub record IsPlain (segment : List ℕ) : Type 0 where
  pub named : is_named segment ≡ true
  pub whole : HasNoSlash segment

onto_whole : (byte : ℕ) (parts : List (List ℕ)) → is_slash byte ≡ false → All HasNoSlash parts → All HasNoSlash (onto_first byte parts)
onto_whole byte [] e h = All-cons HasNoSlash (byte ∷ []) [] (All-cons (λ b. is_slash b ≡ false) byte [] e (All-nil _)) h
onto_whole byte (part ∷ parts) e h =
    All-cons HasNoSlash (byte ∷ part) parts (All-cons (λ b. is_slash b ≡ false) byte part e (All-head HasNoSlash part parts h)) (All-tail HasNoSlash part parts h)

split_whole : (byte : ℕ) (parts : List (List ℕ)) (slash : Bool) → is_slash byte ≡ slash → All HasNoSlash parts → All HasNoSlash (cond slash ([] ∷ parts) (onto_first byte parts))
split_whole byte parts true e h = All-cons HasNoSlash [] parts (All-nil (λ b. is_slash b ≡ false)) h
split_whole byte parts false e h = onto_whole byte parts e h

-- no segment has a slash in it
pub segments_whole : (text : List ℕ) → All HasNoSlash (segments_of text)
segments_whole [] = All-cons HasNoSlash [] [] (All-nil (λ b. is_slash b ≡ false)) (All-nil _)
segments_whole (byte ∷ bytes) = split_whole byte (segments_of bytes) (is_slash byte) refl (segments_whole bytes)

step_plain : (empty dot dots : Bool) (at : List (List ℕ)) (segment : List ℕ) → All IsPlain at → ((not empty && (not dot && not dots)) ≡ true → IsPlain segment)
    → All IsPlain (cond (empty || dot) at (cond dots (take (length at - 1) at) (at ++ segment ∷ [])))
step_plain true dot dots at segment h p = h
step_plain false true dots at segment h p = h
step_plain false false true at segment h p = All-take IsPlain (length at - 1) at h
step_plain false false false at segment h p = All-push IsPlain at segment h (p refl)

reached_by_plain : (at : List (List ℕ)) (segment : List ℕ) → All IsPlain at → HasNoSlash segment → All IsPlain (reached_by at segment)
reached_by_plain at segment h w = step_plain (is_empty_segment segment) (is_dot segment) (is_dot_dot segment) at segment h (λ n. record { named = n; whole = w })

-- every segment that is reached names something
pub reached_plain : (at segments : List (List ℕ)) → All IsPlain at → All HasNoSlash segments → All IsPlain (reached at segments)
reached_plain at [] h w = h
reached_plain at (segment ∷ segments) h w =
    reached_plain (reached_by at segment) segments (reached_by_plain at segment h (All-head HasNoSlash segment segments w)) (All-tail HasNoSlash segment segments w)

-- going on by a text reaches such segments from such
pub plain_further : (was now : List (List ℕ)) (text : List ℕ) → now ≡ reached was (segments_of text) → All IsPlain was → All IsPlain now
plain_further was now text e h = rw e (reached_plain was (segments_of text) h (segments_whole text))

pub plain_at_first : (now : List (List ℕ)) → now ≡ [] → All IsPlain now
plain_at_first now e = rw e (All-nil IsPlain)

-- segments that were joined are those of the path
pub segments_joined : (segment : List ℕ) (segments : List (List ℕ)) → All IsPlain (segment ∷ segments) → segments_of (segment ++ joined segments) ≡ segment ∷ segments
segments_joined segment [] h = rw (append-nil segment) (slice_split_none is_slash segment (All-head IsPlain segment [] h).whole)
segments_joined segment (next ∷ rest) h =
    slice_split_at is_slash segment 47 (next ++ joined rest) (All-head IsPlain segment (next ∷ rest) h).whole refl ∙ ap (λ l. segment ∷ l) (segments_joined next rest (All-tail IsPlain segment (next ∷ rest) h))

all_named : (segments : List (List ℕ)) → All IsPlain segments → list_all is_named segments ≡ true
all_named [] h = refl
all_named (segment ∷ segments) h = both_true _ _ (All-head IsPlain segment segments h).named (all_named segments (All-tail IsPlain segment segments h))

-- the path of such segments is written as a path is
pub path_named : (segments : List (List ℕ)) → All IsPlain segments → has_named_segments (path_of segments) ≡ true
path_named [] h = refl
path_named ([] ∷ segments) h = let no : false ≡ true = (All-head IsPlain [] segments h).named in cc
path_named ((byte ∷ bytes) ∷ segments) h = rw (segments_joined (byte ∷ bytes) segments h) (all_named ((byte ∷ bytes) ∷ segments) h)

pub normal_path : (path : List ℕ) (segments : List (List ℕ)) → All IsPlain segments → path ≡ path_of segments → may_be_path path ≡ true → (may_be_path path && has_named_segments path) ≡ true
normal_path path segments h e m = both_true _ _ m (rw e (path_named segments h))

not_slash : (byte : ℕ) → (byte ≡ 47 → ⊥) → not (byte == 47) ≡ true
not_slash byte ne = grind (arith, nat_tests)

slash_no : (byte : ℕ) → byte ≡ 47 → not (byte == 47) ≡ false
slash_no byte e = grind (arith, nat_tests)

long_root : (xs : List ℕ) → 0 < length xs → root_or xs ≡ xs
long_root [] h = absurd (omega arith)
long_root (x ∷ xs) h = refl

-- from this place on no slash stands in it
abbrev pub NoSlashFrom : List ℕ → ℕ → Type 0
NoSlashFrom path end = (k : ℕ) → end ≤ k → k < length path → get_or path k 0 ≡ 47 → ⊥

-- the last slash stands right before end
pub parent_at : (path : List ℕ) (end : ℕ) → 1 < end → end ≤ length path → NoSlashFrom path end → get_or path (end - 1) 0 ≡ 47 → take (end - 1) path ≡ parent_of path
parent_at path end lo hi none here =
    let count : suffix_len (λ x. not (is_slash x)) path ≡ length path - end =
    suffix_len_is (λ x. not (is_slash x)) path end 0 hi (λ k from to. not_slash (get_or path k 0) (none k from to)) (λ _. slash_no (get_or path (end - 1) 0) here) in
    let same : length path - suffix_len (λ x. not (is_slash x)) path - 1 ≡ end - 1 = omega arith in
    let long : 0 < length (take (end - 1) path) = omega (arith, length-take (end - 1) path) in
    rw same (sym (long_root (take (end - 1) path) long))

passes_at : (byte : ℕ) (bytes : List ℕ) (end k : ℕ) → end ≤ 1 → (byte == 47) ≡ false → NoSlashFrom (byte ∷ bytes) end → k < length (byte ∷ bytes) → not (is_slash (get_or (byte ∷ bytes) k 0)) ≡ true
passes_at byte bytes end zero lo e none to = ap not e
passes_at byte bytes end (suc k) lo e none to = not_slash (get_or (byte ∷ bytes) (suc k) 0) (none (suc k) (omega arith) to)

first_cases : (byte : ℕ) (bytes : List ℕ) (end : ℕ) (slash : Bool) → (byte == 47) ≡ slash → end ≤ 1 → NoSlashFrom (byte ∷ bytes) end → length (byte ∷ bytes) - suffix_len (λ x. not (is_slash x)) (byte ∷ bytes) - 1 ≡ 0
first_cases byte bytes end true e lo none =
    let count = suffix_len_is (λ x. not (is_slash x)) (byte ∷ bytes) 1 0 (omega arith) (λ k from to. not_slash (get_or (byte ∷ bytes) k 0) (none k (omega arith) to)) (λ _. ap not e) in omega (arith, count)
first_cases byte bytes end false e lo none =
    let count = suffix_len_is (λ x. not (is_slash x)) (byte ∷ bytes) 0 0 (omega arith) (λ k _ to. passes_at byte bytes end k lo e none to) (λ no. absurd (omega arith)) in omega (arith, count)

suffix_most : (path : List ℕ) (end : ℕ) → end ≤ 1 → NoSlashFrom path end → length path - suffix_len (λ x. not (is_slash x)) path - 1 ≡ 0
suffix_most [] end lo none = omega arith
suffix_most (byte ∷ bytes) end lo none = first_cases byte bytes end (byte == 47) refl lo none

-- no slash stands behind the first place
pub parent_top : (path : List ℕ) (end : ℕ) → end ≤ 1 → NoSlashFrom path end → 47 ∷ [] ≡ parent_of path
parent_top path end lo none = rw (suffix_most path end lo none) refl
