-- Hexadecimal digits, and the halves of surrogate pairs.
use Rattle.std.proofs.Common.{◌≡◌, ℕ, ◌<◌, ◌≤◌, ◌+◌, ◌-◌, ◌*◌, Bool, true, false, if◌then◌else◌, nat_le, List, [], ◌∷◌, ◌++◌, length, refl, sym, ◌∙◌, ap, subst, ◌⊎◌, inl, inr, append_assoc, arith}
use Rattle.std.proofs.lemmas.Bool.{false≢true}
use Rattle.std.proofs.lemmas.Bool.Decides.{nat_tests}
use Rattle.msgpack_codec.specs.declared.stop.Stop.{Stop}
use Rattle.data_text.specs.Json.{hex_value, DigitAt, UnitAt, is_low, is_high, CodeAt}
use Rattle.data_text.specs.Reading.{Found, Begins, Fails, Stopped, Anything, WordAt, HalfAt, least_first, most_first, least_second, most_second, TailAt}
use Rattle.data_text.proofs.Chains.{IsChain, IsView, found_both, stop_first, stop_second, found_view, stop_view, one_byte, bad_byte}

-- the first, and then what depends on it
pub record Then {X Y : Type 0} (L : X → List ℕ → List ℕ → Type 0) (M : X → Y → List ℕ → List ℕ → Type 0) (y : Y) (u t : List ℕ) : Type 0 where
  pub x : X
  pub m : List ℕ
  pub first : L x u m
  pub second : M x y m t

pub chain_then : {X Y : Type 0} (L : X → List ℕ → List ℕ → Type 0) (M : X → Y → List ℕ → List ℕ → Type 0) → ((x : X) (u m : List ℕ) → L x u m → (y : Y) × (c : List ℕ) × ((t : List ℕ) → M x y (c ++ t) t)) → IsChain L M (Then L M) (λ x y. y)
chain_then L M filled = record {
  join = λ x y u m t h k. record { x = x; m = m; first = h; second = k };
  split = λ y u t h. (h.x, y, h.m, h.first, h.second, refl);
  filled = filled;
}

hex_byte : ℕ → ℕ
hex_byte x = if nat_le x 9 then x + 48 else x + 87

small_hex : (x : ℕ) → x < 16 → hex_value (hex_byte x) ≡ x
unfolding hex_byte
small_hex x h = grind (arith, nat_tests)

pub digit_filled : (low high : ℕ) → low ≤ high → high < 16 → (x : ℕ) × (c : List ℕ) × ((t : List ℕ) → DigitAt low high x (c ++ t) t)
digit_filled low high some few =
    (low, hex_byte low ∷ [], λ t. record { byte = hex_byte low; value = sym (small_hex low (omega arith)); digit = omega arith; at_least = omega arith; at_most = some; parts = refl })

pub digit_begins : (low high : ℕ) → low ≤ high → high < 16 → Begins Anything (DigitAt low high) []
digit_begins low high some few = let (x, c, reads) = digit_filled low high some few in record { value = x; more = c; reads = λ t h. reads t }

digit_only : (low high b y : ℕ) (u t : List ℕ) → DigitAt low high y (b ∷ u) t → (y ≡ hex_value b) × (t ≡ u)
digit_only low high b y u t h = let parts = h.parts in let head : h.byte ≡ b = cc in let tail : t ≡ u = cc in (h.value ∙ ap hex_value head, tail)

pub digit_found : (low high b x : ℕ) → x ≡ hex_value b → high < 16 → low ≤ x → x ≤ high → (w r : List ℕ) → w ≡ b ∷ r → Found (DigitAt low high) x w r
digit_found low high b x is few above below w r e = one_byte (DigitAt low high) x b w r e
    (λ u. record { byte = b; value = is; digit = omega arith; at_least = above; at_most = below; parts = refl })
    (λ y u t h. let (p, q) = digit_only low high b y u t h in (p ∙ sym is, q))

pub digit_bad : (low high b x n : ℕ) → x ≡ hex_value b → low ≤ high → high < 16 → ((x < low) ⊎ ((low ≤ x) × (high < x))) → (w r : List ℕ) → w ≡ b ∷ r → n ≡ length w → Fails Anything (DigitAt low high) w n
digit_bad low high b x n is some few (inl out) w r e count = bad_byte Anything (DigitAt low high) b n w r e count (digit_begins low high some few)
    (λ y u t h. let (p, q) = digit_only low high b y u t h in let above = h.at_least in omega (arith, p, is, above, out))
digit_bad low high b x n is some few (inr (above, out)) w r e count = bad_byte Anything (DigitAt low high) b n w r e count (digit_begins low high some few)
    (λ y u t h. let (p, q) = digit_only low high b y u t h in let below = h.at_most in omega (arith, p, is, below, out))

-- what a unit's digits make
abbrev pub unit_of : ℕ → ℕ → ℕ → ℕ → ℕ
unit_of a b c d = a * 4096 + b * 256 + c * 16 + d

abbrev pub Fourth : ℕ → ℕ → ℕ → ℕ → List ℕ → List ℕ → Type 0
Fourth a b c n u t = (d : ℕ) × DigitAt 0 15 d u t × (n ≡ unit_of a b c d)

abbrev pub Third : ℕ → ℕ → ℕ → List ℕ → List ℕ → Type 0
Third a b = Then (DigitAt 0 15) (Fourth a b)

abbrev pub Second : Bool → ℕ → ℕ → List ℕ → List ℕ → Type 0
Second low a = Then (DigitAt (least_second low) (most_second low a)) (Third a)

abbrev pub First : Bool → ℕ → List ℕ → List ℕ → Type 0
First low = Then (DigitAt (least_first low) (most_first low)) (Second low)

fourth_view : (a b c : ℕ) → IsView (DigitAt 0 15) (Fourth a b c) (λ d. unit_of a b c d)
fourth_view a b c = record { to = λ d u t h. (d, h, refl); from = λ n u t h. h }

fourth_filled : (a b c : ℕ) → (n : ℕ) × (s : List ℕ) × ((t : List ℕ) → Fourth a b c n (s ++ t) t)
fourth_filled a b c = let (d, s, reads) = digit_filled 0 15 (omega arith) (omega arith) in (unit_of a b c d, s, λ t. (d, reads t, refl))

third_chain : (a b : ℕ) → IsChain (DigitAt 0 15) (Fourth a b) (Third a b) (λ x y. y)
third_chain a b = chain_then (DigitAt 0 15) (Fourth a b) (λ c u m h. fourth_filled a b c)

third_filled : (a b : ℕ) → (n : ℕ) × (s : List ℕ) × ((t : List ℕ) → Third a b n (s ++ t) t)
third_filled a b =
    let (c, s, reads) = digit_filled 0 15 (omega arith) (omega arith) in
    let (n, s2, reads2) = fourth_filled a b c in
    (n, s ++ s2, λ t. record { x = c; m = s2 ++ t; first = subst (λ k. DigitAt 0 15 c k (s2 ++ t)) (sym (append_assoc s s2 t)) (reads (s2 ++ t)); second = reads2 t })

second_chain : (low : Bool) (a : ℕ) → IsChain (DigitAt (least_second low) (most_second low a)) (Third a) (Second low a) (λ x y. y)
second_chain low a = chain_then (DigitAt (least_second low) (most_second low a)) (Third a) (λ b u m h. third_filled a b)

few_second : (a : ℕ) → most_second false a < 16
few_second a = grind (arith, nat_tests)

most_few : (low : Bool) (a : ℕ) → (least_second low ≤ most_second low a) × (most_second low a < 16)
most_few true a = (omega arith, omega arith)
most_few false a = (omega arith, few_second a)

second_filled : (low : Bool) (a : ℕ) → (n : ℕ) × (s : List ℕ) × ((t : List ℕ) → Second low a n (s ++ t) t)
second_filled low a =
    let (b, s, reads) = digit_filled (least_second low) (most_second low a) (most_few low a).0 (most_few low a).1 in
    let (n, s2, reads2) = third_filled a b in
    (n, s ++ s2, λ t. record { x = b; m = s2 ++ t; first = subst (λ k. DigitAt (least_second low) (most_second low a) b k (s2 ++ t)) (sym (append_assoc s s2 t)) (reads (s2 ++ t)); second = reads2 t })

first_chain : (low : Bool) → IsChain (DigitAt (least_first low) (most_first low)) (Second low) (First low) (λ x y. y)
first_chain low = chain_then (DigitAt (least_first low) (most_first low)) (Second low) (λ a u m h. second_filled low a)

is_low_of : (n : ℕ) → 0xdc00 ≤ n → n ≤ 0xdfff → is_low n ≡ true
is_low_of n h k = grind (arith, nat_tests)

not_low_below : (n : ℕ) → n < 0xdc00 → is_low n ≡ false
not_low_below n h = grind (arith, nat_tests)

not_low_above : (n : ℕ) → 0xdfff < n → is_low n ≡ false
not_low_above n h = grind (arith, nat_tests)

not_low_of : (n : ℕ) → ((n < 0xdc00) ⊎ (0xdfff < n)) → is_low n ≡ false
not_low_of n (inl h) = not_low_below n h
not_low_of n (inr h) = not_low_above n h

pub low_least : (n : ℕ) → is_low n ≡ true → 0xdc00 ≤ n
low_least n h = grind (arith, nat_tests)

pub low_most : (n : ℕ) → is_low n ≡ true → n ≤ 0xdfff
low_most n h = grind (arith, nat_tests)

second_small : (a b : ℕ) → b ≤ most_second false a → a ≡ 13 → b ≤ 11
second_small a b h e = grind (arith, nat_tests)

second_fits : (a b : ℕ) → b ≤ 15 → (a ≡ 13 → b ≤ 11) → b ≤ most_second false a
second_fits a b h k = grind (arith, nat_tests)

in_or_out : (a b c d : ℕ) → (a ≡ 13 → b ≤ 11) → b < 16 → c < 16 → d < 16 → (a < 13) ⊎ ((a ≡ 13) ⊎ (13 < a)) → (unit_of a b c d < 0xdc00) ⊎ (0xdfff < unit_of a b c d)
in_or_out a b c d h h2 h3 h4 (inl l) = inl (omega arith)
in_or_out a b c d h h2 h3 h4 (inr (inl e)) = let k = h e in inl (omega arith)
in_or_out a b c d h h2 h3 h4 (inr (inr l)) = inr (omega arith)

three_ways : (a n : ℕ) → (a < n) ⊎ ((a ≡ n) ⊎ (n < a))
three_ways a n = grind arith

half_not : (a b c d : ℕ) → (a ≡ 13 → b ≤ 11) → b < 16 → c < 16 → d < 16 → is_low (unit_of a b c d) ≡ false
half_not a b c d h h2 h3 h4 = not_low_of (unit_of a b c d) (in_or_out a b c d h h2 h3 h4 (three_ways a 13))

above_or : (b : ℕ) → (b ≤ 11) ⊎ (12 ≤ b)
above_or b = grind arith

not_high_second : (a b c d : ℕ) → is_low (unit_of a b c d) ≡ false → a ≡ 13 → b < 16 → c < 16 → d < 16 → b ≤ 11
not_high_second a b c d h e h2 h3 h4 = elim (above_or b) [
  | inl l ↦ l
  | inr l ↦ absurd (false≢true (sym h ∙ is_low_of (unit_of a b c d) (omega arith) (omega arith)))
]

half_of : (low : Bool) (a b c d : ℕ) → least_first low ≤ a → a ≤ most_first low → least_second low ≤ b → b ≤ most_second low a → b < 16 → c < 16 → d < 16 → is_low (unit_of a b c d) ≡ low
half_of true a b c d h1 h2 h3 h4 h5 h6 h7 = is_low_of (unit_of a b c d) (omega arith) (omega arith)
half_of false a b c d h1 h2 h3 h4 h5 h6 h7 = half_not a b c d (second_small a b h4) h5 h6 h7

digits_of : (low : Bool) (a b c d : ℕ) → is_low (unit_of a b c d) ≡ low → a < 16 → b < 16 → c < 16 → d < 16 → (least_first low ≤ a) × (a ≤ most_first low) × (least_second low ≤ b) × (b ≤ most_second low a)
digits_of true a b c d h h1 h2 h3 h4 =
    let low = low_least (unit_of a b c d) h in
    let high = low_most (unit_of a b c d) h in
    (omega (arith, low, high), omega (arith, low, high), omega (arith, low, high), omega arith)
digits_of false a b c d h h1 h2 h3 h4 = (omega arith, omega arith, omega arith, second_fits a b (omega arith) (λ e. not_high_second a b c d h e h2 h3 h4))

same4 : (a b c d a1 b1 c1 d1 : ℕ) → a ≡ a1 → b ≡ b1 → c ≡ c1 → d ≡ d1 → unit_of a b c d ≡ unit_of a1 b1 c1 d1
same4 a b c d a1 b1 c1 d1 p q r s = cc

half_to : (low : Bool) (n : ℕ) (u t : List ℕ) → First low n u t → HalfAt low n u t
half_to low n u t f =
    let a = f.first in
    let s = f.second in
    let b = s.first in
    let r = s.second in
    let c = r.first in
    let (dv, d, is) = r.second in
    let value : n ≡ unit_of (hex_value a.byte) (hex_value b.byte) (hex_value c.byte) (hex_value d.byte) = is ∙ same4 f.x s.x r.x dv _ _ _ _ a.value b.value c.value d.value in (
      record {
        a = a.byte;
        b = b.byte;
        c = c.byte;
        d = d.byte;
        digits = (subst (λ v. v < 16) a.value a.digit, subst (λ v. v < 16) b.value b.digit, subst (λ v. v < 16) c.value c.digit, subst (λ v. v < 16) d.value d.digit);
        value = value;
        parts = a.parts ∙ ap (λ v. a.byte ∷ v) (b.parts ∙ ap (λ v. b.byte ∷ v) (c.parts ∙ ap (λ v. c.byte ∷ v) d.parts));
      },
      ap is_low is ∙ half_of low f.x s.x r.x dv a.at_least a.at_most b.at_least b.at_most b.digit c.digit d.digit,
    )

half_from : (low : Bool) (n : ℕ) (u t : List ℕ) → HalfAt low n u t → First low n u t
half_from low n u t (h, k) =
    let (da, db, dc, dd) = h.digits in
    let (r1, r2, r3, r4) = digits_of low (hex_value h.a) (hex_value h.b) (hex_value h.c) (hex_value h.d) (sym (ap is_low h.value) ∙ k) da db dc dd in
    record {
      x = hex_value h.a;
      m = h.b ∷ (h.c ∷ (h.d ∷ t));
      first = record { byte = h.a; value = refl; digit = da; at_least = r1; at_most = r2; parts = h.parts };
      second = record {
        x = hex_value h.b;
        m = h.c ∷ (h.d ∷ t);
        first = record { byte = h.b; value = refl; digit = db; at_least = r3; at_most = r4; parts = refl };
        second = record {
          x = hex_value h.c;
          m = h.d ∷ t;
          first = record { byte = h.c; value = refl; digit = dc; at_least = omega arith; at_most = omega arith; parts = refl };
          second = (hex_value h.d, record { byte = h.d; value = refl; digit = dd; at_least = omega arith; at_most = omega arith; parts = refl }, h.value);
        };
      };
    }

half_view : (low : Bool) → IsView (First low) (HalfAt low) (λ n. n)
half_view low = record { to = half_to low; from = λ n u t h. (n, half_from low n u t h, refl) }

-- what stops each digit stops the unit
pub half_stop1 : (low : Bool) (w : List ℕ) (e : Stop) → Stopped (DigitAt (least_first low) (most_first low)) w e → Stopped (HalfAt low) w e
half_stop1 low w e h = stop_view (First low) (HalfAt low) (λ n. n) (half_view low) Anything w e (stop_first (DigitAt (least_first low) (most_first low)) (Second low) (First low) (λ x y. y) (first_chain low) w e h)

pub half_stop2 : (low : Bool) (a : ℕ) (w r : List ℕ) (e : Stop) → Found (DigitAt (least_first low) (most_first low)) a w r → Stopped (DigitAt (least_second low) (most_second low a)) r e → Stopped (HalfAt low) w e
half_stop2 low a w r e f h =
    stop_view (First low) (HalfAt low) (λ n. n) (half_view low) Anything w e (stop_second (DigitAt (least_first low) (most_first low)) (Second low) (First low) (λ x y. y) (first_chain low) a w r f e
    (stop_first (DigitAt (least_second low) (most_second low a)) (Third a) (Second low a) (λ x y. y) (second_chain low a) r e h))

third_stop : (low : Bool) (a b : ℕ) (w r s : List ℕ) (e : Stop) → Found (DigitAt (least_first low) (most_first low)) a w r → Found (DigitAt (least_second low) (most_second low a)) b r s → Stopped (Third a b) s e → Stopped (HalfAt low) w e
third_stop low a b w r s e f g h =
    stop_view (First low) (HalfAt low) (λ n. n) (half_view low) Anything w e (stop_second (DigitAt (least_first low) (most_first low)) (Second low) (First low) (λ x y. y) (first_chain low) a w r f e
    (stop_second (DigitAt (least_second low) (most_second low a)) (Third a) (Second low a) (λ x y. y) (second_chain low a) b r s g e h))

pub half_stop3 : (low : Bool) (a b : ℕ) (w r s : List ℕ) (e : Stop) → Found (DigitAt (least_first low) (most_first low)) a w r → Found (DigitAt (least_second low) (most_second low a)) b r s → Stopped (DigitAt 0 15) s e → Stopped (HalfAt low) w e
half_stop3 low a b w r s e f g h = third_stop low a b w r s e f g (stop_first (DigitAt 0 15) (Fourth a b) (Third a b) (λ x y. y) (third_chain a b) s e h)

pub half_stop4 : (low : Bool) (a b c : ℕ) (w r s v : List ℕ) (e : Stop) → Found (DigitAt (least_first low) (most_first low)) a w r → Found (DigitAt (least_second low) (most_second low a)) b r s → Found (DigitAt 0 15) c s v → Stopped (DigitAt 0 15) v e → Stopped (HalfAt low) w e
half_stop4 low a b c w r s v e f g k h =
    third_stop low a b w r s e f g (stop_second (DigitAt 0 15) (Fourth a b) (Third a b) (λ x y. y) (third_chain a b) c s v k e
    (stop_view (DigitAt 0 15) (Fourth a b c) (λ d. unit_of a b c d) (fourth_view a b c) Anything v e h))

pub half_found : (low : Bool) (a b c d : ℕ) (w r s v z : List ℕ) → Found (DigitAt (least_first low) (most_first low)) a w r → Found (DigitAt (least_second low) (most_second low a)) b r s → Found (DigitAt 0 15) c s v → Found (DigitAt 0 15) d v z
    → Found (HalfAt low) (unit_of a b c d) w z
half_found low a b c d w r s v z f g k l =
    found_view (First low) (HalfAt low) (λ n. n) (half_view low) (unit_of a b c d) w z
    (found_both (DigitAt (least_first low) (most_first low)) (Second low) (First low) (λ x y. y) (first_chain low) a (unit_of a b c d) w r z f
    (found_both (DigitAt (least_second low) (most_second low a)) (Third a) (Second low a) (λ x y. y) (second_chain low a) b (unit_of a b c d) r s z g
    (found_both (DigitAt 0 15) (Fourth a b) (Third a b) (λ x y. y) (third_chain a b) c (unit_of a b c d) s v z k
    (found_view (DigitAt 0 15) (Fourth a b c) (λ d. unit_of a b c d) (fourth_view a b c) d v z l))))

pub move2 : (Q : ℕ → ℕ → Type 0) (a b a1 b1 : ℕ) → a ≡ a1 → b ≡ b1 → Q a b → Q a1 b1
move2 Q a b a1 b1 p q h = subst (λ k. Q a1 k) q (subst (λ k. Q k b) p h)

-- the code of a pair
abbrev pub pair_code : ℕ → ℕ → ℕ
pair_code high low = 0x10000 + (high - 0xd800) * 0x400 + (low - 0xdc00)

first_low : (t : List ℕ) → HalfAt true 0xdc00 (68 ∷ (67 ∷ (48 ∷ (48 ∷ t)))) t
first_low t = (record { a = 68; b = 67; c = 48; d = 48; digits = (omega arith, omega arith, omega arith, omega arith); value = refl; parts = refl }, refl)

pub high_below : (n : ℕ) → is_high n ≡ true → n < 0xdc00
high_below n h = grind (arith, nat_tests)

pub high_above : (n : ℕ) → is_high n ≡ true → 0xd800 ≤ n
high_above n h = grind (arith, nat_tests)

-- every number between is one half or the other
is_high_of : (n : ℕ) → 0xd800 ≤ n → n ≤ 0xdbff → is_high n ≡ true
is_high_of n a b = grind (arith, nat_tests)

surrogate_test : (n : ℕ) → 0xd800 ≤ n → n ≤ 0xdfff → is_high n ≡ false → is_low n ≡ false → ⊥
surrogate_test n a b h l = elim (three_ways n 0xdc00) [
  | inl k ↦ false≢true (sym h ∙ is_high_of n a (omega arith))
  | inr k ↦ false≢true (sym l ∙ is_low_of n (omega arith) b)
]

tail_filled : (first : ℕ) (high : Bool) → is_high first ≡ high → (y : ℕ) × (c : List ℕ) × ((t : List ℕ) → TailAt first y (c ++ t) t)
tail_filled first false e = (first, [], λ t. TailAt.alone e refl refl)
tail_filled first true e = (pair_code first 0xdc00, 92 ∷ (117 ∷ (68 ∷ (67 ∷ (48 ∷ (48 ∷ []))))), λ t. TailAt.paired 0xdc00 (68 ∷ (67 ∷ (48 ∷ (48 ∷ t)))) e refl (first_low t) refl)

high_not_low : (n : ℕ) → is_high n ≡ true → is_low n ≡ false
high_not_low n h = not_low_below n (high_below n h)

tail_join : (first code : ℕ) (u m t : List ℕ) → HalfAt false first u m → TailAt first code m t → CodeAt code u t
tail_join first code u m t (unit, k) (TailAt.alone n is e) = CodeAt.single (subst (λ v. UnitAt v u t) (sym is) (subst (UnitAt first u) e unit)) (ap is_high is ∙ n) (ap is_low is ∙ k)
tail_join first code u m t (unit, k) (TailAt.paired low n h e half is) = CodeAt.pair first low m n unit h e half.0 half.1 is

tail_split : (code : ℕ) (u t : List ℕ) → CodeAt code u t → (first : ℕ) × (y : ℕ) × (m : List ℕ) × HalfAt false first u m × TailAt first y m t × (code ≡ y)
tail_split code u t (CodeAt.single unit n k) = (code, code, t, (unit, k), TailAt.alone n refl refl, refl)
tail_split code u t (CodeAt.pair high low m n unit h e half k is) = (high, code, m, (unit, high_not_low high h), TailAt.paired low n h e (half, k) is, refl)

code_chain : IsChain (HalfAt false) TailAt CodeAt (λ first code. code)
code_chain = record { join = tail_join; split = tail_split; filled = λ first u m h. tail_filled first (is_high first) refl }

abbrev pub PairAt : ℕ → Unit {0} → ℕ → List ℕ → List ℕ → Type 0
PairAt first x code u t = (low : ℕ) × HalfAt true low u t × (code ≡ pair_code first low)

pair_view : (first : ℕ) (x : Unit {0}) → IsView (HalfAt true) (PairAt first x) (λ low. pair_code first low)
pair_view first x = record { to = λ low u t h. (low, h, refl); from = λ code u t h. h }

abbrev slash_u : List ℕ
slash_u = 92 ∷ (117 ∷ [])

pair_chain : (first : ℕ) → IsChain (WordAt slash_u) (PairAt first) (Then (WordAt slash_u) (PairAt first)) (λ x y. y)
pair_chain first = chain_then (WordAt slash_u) (PairAt first) (λ x u m h. (pair_code first 0xdc00, 68 ∷ (67 ∷ (48 ∷ (48 ∷ []))), λ t. (0xdc00, first_low t, refl)))

tail_from : (first : ℕ) → is_high first ≡ true → (code : ℕ) (u t : List ℕ) → TailAt first code u t → (y : ℕ) × Then (WordAt slash_u) (PairAt first) y u t × (code ≡ y)
tail_from first h code u t (TailAt.alone n is e) = absurd (false≢true (sym n ∙ h))
tail_from first h code u t (TailAt.paired low n k e half is) = (code, record { x = tt; m = n; first = e; second = (low, half, is) }, refl)

tail_view : (first : ℕ) → is_high first ≡ true → IsView (Then (WordAt slash_u) (PairAt first)) (TailAt first) (λ y. y)
tail_view first h = record {
  to = λ code u t k. let (low, half, is) = k.second in TailAt.paired low k.m h k.first half is;
  from = tail_from first h;
}

pub code_stop1 : (w : List ℕ) (e : Stop) → Stopped (HalfAt false) w e → Stopped CodeAt w e
code_stop1 w e h = stop_first (HalfAt false) TailAt CodeAt (λ first code. code) code_chain w e h

alone_only : (first y : ℕ) (u t : List ℕ) → is_high first ≡ false → TailAt first y u t → (y ≡ first) × (t ≡ u)
alone_only first y u t n (TailAt.alone k is e) = (is, sym e)
alone_only first y u t n (TailAt.paired low m h e half is) = absurd (false≢true (sym n ∙ h))

pub code_single : (first : ℕ) (w r : List ℕ) → is_high first ≡ false → Found (HalfAt false) first w r → Found CodeAt first w r
code_single first w r n f = found_both (HalfAt false) TailAt CodeAt (λ first code. code) code_chain first first w r r f (record {
  front = [];
  parts = refl;
  reads = λ u. TailAt.alone n refl refl;
  only = λ y u t h. alone_only first y u t n h;
})

code_stop : (first : ℕ) (w r : List ℕ) (e : Stop) → is_high first ≡ true → Found (HalfAt false) first w r → Stopped (Then (WordAt slash_u) (PairAt first)) r e → Stopped CodeAt w e
code_stop first w r e h f s = stop_second (HalfAt false) TailAt CodeAt (λ first code. code) code_chain first w r f e (stop_view (Then (WordAt slash_u) (PairAt first)) (TailAt first) (λ y. y) (tail_view first h) Anything r e s)

pub code_stop2 : (first : ℕ) (w r : List ℕ) (e : Stop) → is_high first ≡ true → Found (HalfAt false) first w r → Stopped (WordAt slash_u) r e → Stopped CodeAt w e
code_stop2 first w r e h f s = code_stop first w r e h f (stop_first (WordAt slash_u) (PairAt first) (Then (WordAt slash_u) (PairAt first)) (λ x y. y) (pair_chain first) r e s)

pub code_stop3 : (first : ℕ) (w r q : List ℕ) (e : Stop) → is_high first ≡ true → Found (HalfAt false) first w r → Found (WordAt slash_u) tt r q → Stopped (HalfAt true) q e → Stopped CodeAt w e
code_stop3 first w r q e h f g s =
    code_stop first w r e h f (stop_second (WordAt slash_u) (PairAt first) (Then (WordAt slash_u) (PairAt first)) (λ x y. y) (pair_chain first) tt r q g e
    (stop_view (HalfAt true) (PairAt first tt) (λ low. pair_code first low) (pair_view first tt) Anything q e s))

pub code_found : (first low : ℕ) (w r q z : List ℕ) → is_high first ≡ true → Found (HalfAt false) first w r → Found (WordAt slash_u) tt r q → Found (HalfAt true) low q z → Found CodeAt (pair_code first low) w z
code_found first low w r q z h f g k =
    found_both (HalfAt false) TailAt CodeAt (λ first code. code) code_chain first (pair_code first low) w r z f
    (found_view (Then (WordAt slash_u) (PairAt first)) (TailAt first) (λ y. y) (tail_view first h) (pair_code first low) r z
    (found_both (WordAt slash_u) (PairAt first) (Then (WordAt slash_u) (PairAt first)) (λ x y. y) (pair_chain first) tt (pair_code first low) r q z g
    (found_view (HalfAt true) (PairAt first tt) (λ low. pair_code first low) (pair_view first tt) low q z k)))

unit_small : (n : ℕ) (u t : List ℕ) → UnitAt n u t → n < 0x10000
unit_small n u t h = let (a, b, c, d) = h.digits in omega (arith, h.value)

no_surrogate : (n : ℕ) → n < 0x10000 → is_high n ≡ false → is_low n ≡ false → (n < 0xd800) ⊎ ((0xe000 ≤ n) × (n ≤ 0x10_ffff))
no_surrogate n small h l = elim (three_ways n 0xd800) [
  | inl k ↦ inl k
  | inr k ↦ elim (three_ways n 0xdfff) [
    | inl m ↦ absurd (surrogate_test n (omega arith) (omega arith) h l)
    | inr (inl m) ↦ absurd (surrogate_test n (omega arith) (omega arith) h l)
    | inr (inr m) ↦ inr (omega arith, omega arith)
  ]
]

pub code_scalar : (code : ℕ) (u t : List ℕ) → CodeAt code u t → (code < 0xd800) ⊎ ((0xe000 ≤ code) × (code ≤ 0x10_ffff))
code_scalar code u t (CodeAt.single unit n k) = no_surrogate code (unit_small code u t unit) n k
code_scalar code u t (CodeAt.pair high low m n unit h e half k is) =
    let h1 = high_below high h in
    let h2 = high_above high h in
    let l1 = low_least low k in
    let l2 = low_most low k in
    inr (omega arith, omega arith)

-- the halves of a pair
pub half_of_found : (low : Bool) (n : ℕ) (w r : List ℕ) → Found (HalfAt low) n w r → is_low n ≡ low
half_of_found low n w r f = (f.reads []).1

pub half_small : (low : Bool) (n : ℕ) (w r : List ℕ) → Found (HalfAt low) n w r → n < 0x10000
half_small low n w r f = unit_small n (f.front ++ []) [] (f.reads []).0

pub digit_some : (low high y : ℕ) (t : List ℕ) → DigitAt low high y [] t → ⊥
digit_some low high y t h = omega (arith, ap length h.parts)
