-- Numbers of a few bytes, the highest first.
use Rattle.std.proofs.Common.{◌≡◌, ℕ, zero, suc, ◌+◌, ◌-◌, ◌*◌, ◌/◌, ◌%◌, ◌^◌, ◌<◌, ◌≤◌, List, [], ◌∷◌, ◌++◌, length, drop, take, refl, sym, ◌∙◌, ap, subst, ◌⊎◌, inl, inr, arith}
use Rattle.std.proofs.Math.Nat.{pow-suc, div-div-eq-div-mul, div-mul-le_self, div-one, mul-div_left, mul-le-mul_right, div-lt_iff_lt-mul, pow-le-pow_right, div-le_self}
use Rattle.std.proofs.Math.Seq.{take-length}
use Rattle.std.proofs.lemmas.Nat.{le-div}
use Rattle.std.proofs.lemmas.Bool.{cases_lt}
use Rattle.std.specs.Int.{bytes_high_first, byte_at}
use Rattle.std.proofs.Common.{Result, MatchResult, Bor}
use Rattle.msgpack_codec.specs.declared.stop.Stop.{Stop}
use Rattle.msgpack_codec.specs.Reading.{IsNumber, Found, Begins, Fails, Stopped}
use Rattle.msgpack_codec.proofs.Chains.{IsPrefixFree, IsChain, chain_free, chain_result}

pub pow_above : (k : ℕ) → 0 < 256 ^ k
pow_above zero = omega arith
pow_above (suc k) = let e : 256 ^ suc k ≡ 256 ^ k * 256 = pow-suc 256 k in let h : 0 < 256 ^ k = pow_above k in omega arith

pub div_mono : (a b d : ℕ) → 0 < d → a ≤ b → a / d ≤ b / d
div_mono a b d h le = let low : a / d * d ≤ a = div-mul-le_self a d in le-div (a / d) b d h (omega arith)

pub div_up : (n k : ℕ) → n / 256 ^ suc k ≡ n / 256 ^ k / 256
div_up n k = ap (λ d. n / d) (pow-suc 256 k) ∙ sym (div-div-eq-div-mul n (256 ^ k) 256)

pub byte_at_is : (k n : ℕ) → byte_at k n ≡ n / 256 ^ k % 256
byte_at_is zero n = ap (λ m. m % 256) (sym (div-one n))
byte_at_is (suc k) n = refl

-- the next byte of a number from low to high, of which front was read; size more follow
pub record IsDigit (size front low high byte : ℕ) (bytes : List ℕ) : Type 0 where
  pub is : bytes ≡ byte ∷ []
  pub small : byte < 256
  pub above : low / 256 ^ size ≤ 256 * front + byte
  pub below : 256 * front + byte ≤ high / 256 ^ size

pub digit_free : (size front low high : ℕ) → IsPrefixFree (IsDigit size front low high)
digit_free size front low high = record {
  same = λ x y s t a b h1 h2 e.
      let one : (x ∷ []) ++ a ≡ (y ∷ []) ++ b = ap (λ k. k ++ a) (sym h1.is) ∙ e ∙ ap (λ k. k ++ b) h2.is in
      let heads : x ≡ y = cc in
      (heads, h1.is ∙ ap (λ k. k ∷ []) heads ∙ sym h2.is);
}

module _ (size front low high : ℕ) where
  join_digit : (b n : ℕ) (s t : List ℕ) → IsDigit size front low high b s → IsNumber size (256 * front + b) low high n t → IsNumber (suc size) front low high n (s ++ t)
  join_digit b n s t h k =
      let is : n / 256 ^ size ≡ 256 * front + b = k.front_is in
      let small : b < 256 = h.small in
      let up : n / 256 ^ suc size ≡ n / 256 ^ size / 256 = div_up n size in
      let byte : byte_at size n ≡ n / 256 ^ size % 256 = byte_at_is size n in
      record {
        front_is = omega arith;
        at_least = k.at_least;
        at_most = k.at_most;
        bytes_are = let e : byte_at size n ≡ b = omega arith in ap (λ v. v ++ t) h.is ∙ ap (λ v. b ∷ v) k.bytes_are ∙ ap (λ v. v ∷ bytes_high_first size n) (sym e);
      }

  split_digit : (n : ℕ) (u : List ℕ) → IsNumber (suc size) front low high n u
      → (b : ℕ) × (m : ℕ) × (s : List ℕ) × (t : List ℕ) × IsDigit size front low high b s × IsNumber size (256 * front + b) low high m t × (u ≡ s ++ t) × (n ≡ m)
  split_digit n u h =
      let up : n / 256 ^ suc size ≡ n / 256 ^ size / 256 = div_up n size in
      let is : n / 256 ^ suc size ≡ front = h.front_is in
      let byte : byte_at size n ≡ n / 256 ^ size % 256 = byte_at_is size n in
      let low_le : low / 256 ^ size ≤ n / 256 ^ size = div_mono low n (256 ^ size) (pow_above size) h.at_least in
      let high_le : n / 256 ^ size ≤ high / 256 ^ size = div_mono n high (256 ^ size) (pow_above size) h.at_most in (
        byte_at size n,
        n,
        byte_at size n ∷ [],
        bytes_high_first size n,
        record { is = refl; small = omega arith; above = omega arith; below = omega arith },
        record { front_is = omega arith; at_least = h.at_least; at_most = h.at_most; bytes_are = refl },
        h.bytes_are,
        refl,
      )

-- a number with these first bytes
pub some_number : (size front low high : ℕ) → low ≤ high → low / 256 ^ size ≤ front → front ≤ high / 256 ^ size → (n : ℕ) × (bytes : List ℕ) × IsNumber size front low high n bytes
some_number size front low high le above below =
    let d_above : 0 < 256 ^ size = pow_above size in
    let rows : front * 256 ^ size ≤ high / 256 ^ size * 256 ^ size = mul-le-mul_right (256 ^ size) below in
    let under : high / 256 ^ size * 256 ^ size ≤ high = div-mul-le_self high (256 ^ size) in
    let tall : front * 256 ^ size ≤ high = omega arith in
    elim (cases_lt (low / 256 ^ size) front) [
      | inl h ↦ (
        front * 256 ^ size,
        bytes_high_first size (front * 256 ^ size),
        record {
          front_is = mul-div_left front d_above;
          at_least = let lower : low < front * 256 ^ size = (div-lt_iff_lt-mul d_above).0 h in omega arith;
          at_most = tall;
          bytes_are = refl;
        },
      )
      | inr h ↦ (low, bytes_high_first size low, record { front_is = omega arith; at_least = omega arith; at_most = le; bytes_are = refl })
    ]

pub digit_chain : (size front low high : ℕ) → low ≤ high
    → IsChain (IsDigit size front low high) (λ b. IsNumber size (256 * front + b) low high) (IsNumber (suc size) front low high) (λ b n. n)
digit_chain size front low high le = record {
  join = join_digit size front low high;
  split = split_digit size front low high;
  filled = λ b s h. some_number size (256 * front + b) low high le h.above h.below;
  free = digit_free size front low high;
}

pub number_free : (size front low high : ℕ) → low ≤ high → IsPrefixFree (IsNumber size front low high)
number_free zero front low high le = record {
  same = λ x y s t a b h1 h2 e. (sym (div-one x) ∙ h1.front_is ∙ sym h2.front_is ∙ div-one y, h1.bytes_are ∙ sym h2.bytes_are);
}
number_free (suc size) front low high le = chain_free (IsDigit size front low high) (λ b. IsNumber size (256 * front + b) low high) (IsNumber (suc size) front low high) (λ b n. n)
    (digit_chain size front low high le) (λ b s h. number_free size (256 * front + b) low high le)

pub unit_fits : (size : ℕ) → size ≤ 8 → (size ≡ 0 → ⊥) → 256 ^ (size - 1) < 2 ^ 64
unit_fits size h some = let le : size - 1 ≤ 7 = omega arith in let top : 256 ^ (size - 1) ≤ 256 ^ 7 = pow-le-pow_right (omega arith) le in omega arith

pub front_fits : (k front high : ℕ) → front ≤ high / 256 ^ suc k → high < 2 ^ 64 → front < 2 ^ 56
front_fits k front high h fits =
    let up : high / 256 ^ suc k ≡ high / 256 ^ k / 256 = div_up high k in
    let less : high / 256 ^ k ≤ high = div-le_self high (256 ^ k) in
    omega arith

-- a number is still to come
begins_number : (k front low high : ℕ) → low ≤ high → low / 256 ^ suc k ≤ front → front ≤ high / 256 ^ suc k → Begins (IsNumber (suc k) front low high) []
begins_number k front low high le above below =
    let n = some_number (suc k) front low high le above below in
    record { value = n.0; next = byte_at k n.0; more = bytes_high_first k n.0; spelled = subst (IsNumber (suc k) front low high n.0) n.2.bytes_are n.2 }

module _ (k front low high : ℕ) (le : low ≤ high) (above : low / 256 ^ suc k ≤ front) (below : front ≤ high / 256 ^ suc k) where
  pub short_number : (w : List ℕ) → length w ≡ 0 → Begins (IsNumber (suc k) front low high) w
  short_number [] h = begins_number k front low high le above below
  short_number (x ∷ w) h = absurd (omega arith)

  -- no number goes on with this byte
  pub bad_number : (first : ℕ) (rest w : List ℕ) → w ≡ first ∷ rest → ((256 * front + first < low / 256 ^ k) ⊎ (high / 256 ^ k < 256 * front + first)) → Fails (IsNumber (suc k) front low high) w (length w)
  bad_number first rest w is out = record {
    front = [];
    byte = first;
    rest = rest;
    parts = is;
    count = ap length is;
    begins = begins_number k front low high le above below;
    dead = λ n more h.
        let (b, m, s, t, digit, num, parts, same) = split_digit k front low high n (first ∷ more) h in
        let one : first ∷ more ≡ (b ∷ []) ++ t = parts ∙ ap (λ v. v ++ t) digit.is in
        let heads : first ≡ b = cc in
        let over : low / 256 ^ k ≤ 256 * front + b = digit.above in
        let under : 256 * front + b ≤ high / 256 ^ k = digit.below in
        elim out [ inl o ↦ omega arith | inr o ↦ omega arith ];
  }

  pub step_number : (first : ℕ) (rest w : List ℕ) → w ≡ first ∷ rest → first < 256 → low / 256 ^ k ≤ 256 * front + first → 256 * front + first ≤ high / 256 ^ k
      → (result : Result (ℕ × Bor (List ℕ)) Stop)
      → MatchResult result (λ r. Found (IsNumber k (256 * front + first) low high) r.0 rest r.1.now) (λ e. Stopped (IsNumber k (256 * front + first) low high) rest e)
      → MatchResult result (λ r. Found (IsNumber (suc k) front low high) r.0 w r.1.now) (λ e. Stopped (IsNumber (suc k) front low high) w e)
  step_number first rest w is small over under result h =
      chain_result (IsDigit k front low high) (λ b. IsNumber k (256 * front + b) low high) (IsNumber (suc k) front low high) (digit_chain k front low high le)
      first w rest (record { spelling = first ∷ []; spelled = record { is = refl; small = small; above = over; below = under }; parts = is }) result h

drop_digits : (j k n : ℕ) → drop j (bytes_high_first (j + k) n) ≡ bytes_high_first k n
drop_digits zero k n = let e : zero + k ≡ k = omega arith in ap (λ m. bytes_high_first m n) e
drop_digits (suc j) k n = let e : suc j + k ≡ suc (j + k) = omega arith in ap (λ m. drop (suc j) (bytes_high_first m n)) e ∙ drop_digits j k n

-- the last bytes of eight
pub last_digits : (size n : ℕ) → size ≤ 8 → drop (8 - size) (bytes_high_first 8 n) ≡ bytes_high_first size n
last_digits size n h =
    let e : 8 ≡ 8 - size + size = omega arith in
    ap (λ m. drop (8 - size) (bytes_high_first m n)) e ∙ drop_digits (8 - size) size n

length-high : (k n : ℕ) → length (bytes_high_first k n) ≡ k
length-high zero n = refl
length-high (suc k) n = ap suc (length-high k n)

-- as a slice has them
pub all_digits : (size n : ℕ) → size ≤ 8 → take (8 - (8 - size)) (drop (8 - size) (bytes_high_first 8 n)) ≡ bytes_high_first size n
all_digits size n h =
    let count : 8 - (8 - size) ≡ length (bytes_high_first size n) = omega (arith, length-high size n) in
    ap (take (8 - (8 - size))) (last_digits size n h) ∙ ap (λ k. take k (bytes_high_first size n)) count ∙ take-length (bytes_high_first size n)
