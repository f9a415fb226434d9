use Rattle.std.proofs.Common.{◌≡◌, ℕ, ◌+◌, ◌-◌, ◌≤◌, ◌&&◌, List, [], ◌++◌, length, take, drop, ◌∙◌, ap, arith, length-drop}
use Rattle.std.proofs.lemmas.List.{append-nil, drop-take, drop-drop, drop_all, take_all, take-take}
use Rattle.byteorder.specs.Endian.{little_bytes, little_number}
use Rattle.byteorder.specs.Numbers.{little_from-take}
use Rattle.bs_outside.specs.Paths.{same_bytes}
use Rattle.cache_key.specs.Key.{key_head, key_tail, number_at, has_constants}
use borrow.Rule.Slice.PartMut.{put_mid}

-- a number reads no byte past its end
pub number_at-take : (place n : ℕ) (bytes : List ℕ) → place + 8 ≤ n → number_at place (take n bytes) ≡ number_at place bytes
unfolding number_at
number_at-take place n bytes within =
    let moved : n ≡ place + (n - place) = omega arith in
    let cut : drop place (take n bytes) ≡ take (n - place) (drop place bytes) = ap (λ (m : ℕ). drop place (take m bytes)) moved ∙ drop-take place (n - place) bytes in
    ap (little_number 8) cut ∙ little_from-take 0 8 (n - place) (drop place bytes) (omega arith)

-- nor do the constants
pub has_constants-take : (version : ℕ) (bytes : List ℕ) → has_constants version (take 64 bytes) ≡ has_constants version bytes
unfolding has_constants
has_constants-take version bytes =
    let front : take 16 (take 64 bytes) ≡ take 16 bytes = take-take 16 64 bytes (omega arith) in
    let back : take 16 (drop 48 (take 64 bytes)) ≡ take 16 (drop 48 bytes) = ap (take 16) (drop-take 48 16 bytes) ∙ take-take 16 16 (drop 48 bytes) (omega arith) in
    λ i. same_bytes (front i) (key_head version) && same_bytes (back i) key_tail

-- a number put into a key, behind what stands before it
pub put_at : (place number : ℕ) (key buf : List ℕ) → length key ≡ 64 → buf ≡ little_bytes 8 number ++ drop 8 (take (64 - place) (drop place key))
    → put_mid place (64 - place) key buf ≡ take place key ++ (little_bytes 8 number ++ drop (place + 8) key)
put_at place number key buf long is =
    let nothing : drop (64 - place) (drop place key) ≡ [] = drop_all (64 - place) (drop place key) (omega (arith, length-drop place key)) in
    let all : take (64 - place) (drop place key) ≡ drop place key = take_all (64 - place) (drop place key) (omega (arith, length-drop place key)) in
    let rest : buf ++ drop (64 - place) (drop place key) ≡ little_bytes 8 number ++ drop (place + 8) key =
    ap (λ (l : List ℕ). buf ++ l) nothing ∙ append-nil buf ∙ is ∙ ap (λ (l : List ℕ). little_bytes 8 number ++ l) (ap (drop 8) all ∙ drop-drop 8 place key) in
    ap (λ (l : List ℕ). take place key ++ l) rest
