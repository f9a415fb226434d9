-- The spelling of a number is its LEB128.
use Rattle.std.proofs.Common.{◌≡◌, ℕ, zero, suc, ◌+◌, ◌*◌, ◌/◌, ◌%◌, ◌^◌, ◌<◌, ◌≤◌, List, [], ◌∷◌, refl, sym, ap, subst, ◌∙◌, arith, inl, inr}
use Rattle.std.proofs.Math.Nat.{pow-succ'}
use Rattle.std.proofs.lemmas.Bool.{cases_lt, lt-ltb, le-ltb}
use Rattle.iseq_dump.specs.Dump.{IsLeb128, groups, number_bytes}

-- one byte more, in front
longer : (b high n : ℕ) (bytes : List ℕ) → 128 ≤ b → b < 256 → 0 < high → n + 128 ≡ b + 128 * high → IsLeb128 bytes high → IsLeb128 (b ∷ bytes) n
longer b high n [] le lt some e h = absurd h
longer b high n (c ∷ bytes) le lt some e h = (le, lt, high, some, e, h)

groups_leb : (more n : ℕ) → n < 128 ^ suc more → IsLeb128 (groups more n) n
unfolding groups
groups_leb zero n small = (omega arith, refl)
groups_leb (suc more) n small =
    elim (cases_lt n 128) [
      | inl lt ↦ rw (lt-ltb n 128 lt) (lt, refl)
      | inr le ↦
          let p : ℕ = 128 ^ suc more in
          let power : 128 ^ suc (suc more) ≡ 128 * p = pow-succ' 128 (suc more) in
          let below : n < 128 * p = subst (λ (k : ℕ). n < k) power small in
          let high : n / 128 < 128 ^ suc more = omega (arith, below) in
          rw (le-ltb n 128 le) (longer (128 + n % 128) (n / 128) n (groups more (n / 128)) (omega arith) (omega arith) (omega arith) (omega arith) (groups_leb more (n / 128) high))
    ]

one_form : (n : ℕ) (a b : List ℕ) → IsLeb128 a n → IsLeb128 b n → a ≡ b
one_form n [] b p q = absurd p
one_form n (x ∷ []) [] p q = absurd q
one_form n (x ∷ c ∷ cs) [] p q = absurd q
one_form n (x ∷ []) (y ∷ []) p q = ap (λ (z : ℕ). z ∷ []) (sym p.1 ∙ q.1)
one_form n (x ∷ []) (y ∷ d ∷ ds) p q = absurd (omega (arith, p.0, p.1, q.0, q.3, q.4))
one_form n (x ∷ c ∷ cs) (y ∷ []) p q = absurd (omega (arith, q.0, q.1, p.0, p.3, p.4))
one_form n (x ∷ c ∷ cs) (y ∷ d ∷ ds) p q =
    let same : x ≡ y = omega (arith, p.0, p.1, p.4, q.0, q.1, q.4) in
    let high : q.2 ≡ p.2 = omega (arith, p.0, p.1, p.4, q.0, q.1, q.4) in
    let rest = one_form p.2 (c ∷ cs) (d ∷ ds) p.5 (subst (λ (k : ℕ). IsLeb128 (d ∷ ds) k) high q.5) in
    ap (λ (z : ℕ). z ∷ c ∷ cs) same ∙ ap (λ (zs : List ℕ). y ∷ zs) rest

pub number_leb : (n : ℕ) → n < 2 ^ 64 → IsLeb128 (number_bytes n) n
unfolding number_bytes
number_leb n lt = groups_leb 9 n (omega arith)

pub only_leb : (n : ℕ) (bytes : List ℕ) → n < 2 ^ 64 → IsLeb128 bytes n → bytes ≡ number_bytes n
only_leb n bytes lt h = one_form n bytes (number_bytes n) h (number_leb n lt)
