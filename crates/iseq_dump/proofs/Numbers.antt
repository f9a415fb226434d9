-- Reading a number, group by group.
use Rattle.std.proofs.Common.{◌≡◌, ◌≢◌, ℕ, zero, suc, ◌+◌, ◌-◌, ◌*◌, ◌/◌, ◌%◌, ◌^◌, ◌<◌, ◌≤◌, true, false, List, [], ◌∷◌, ◌++◌, Option, Some, None, refl, sym, ap, subst, ◌∙◌, append_assoc, arith}
use Rattle.std.specs.Prelude.{nat_lt}
use Rattle.std.proofs.Math.Nat.{pow-succ'}
use Rattle.std.proofs.lemmas.Bool.{lt-ltb, le-ltb}
use Rattle.iseq_dump.specs.declared.fault.ReadError.{ReadError}
use Rattle.iseq_dump.specs.declared.fault.ReadError.TheVariants.{Memory, NotSpelled}
use Rattle.iseq_dump.specs.Dump.{groups, number_bytes}
use Rattle.iseq_dump.specs.Reading.{◌▷◌, Fails, byte_at, with_low, groups_at}

pub groups_none : (more : ℕ) (bytes : List ℕ) → byte_at bytes ≡ None → groups_at more bytes ≡ None
unfolding groups_at
groups_none zero bytes h = rw h refl
groups_none (suc more) bytes h = rw h refl

pub groups_last : (more : ℕ) (bytes : List ℕ) (b : ℕ) (rest : List ℕ) → byte_at bytes ≡ Some (b, rest) → b < 128 → groups_at more bytes ≡ Some (b, rest)
unfolding groups_at
groups_last zero bytes b rest h lt = rw (h, lt-ltb b 128 lt) refl
groups_last (suc more) bytes b rest h lt = rw (h, lt-ltb b 128 lt) refl

pub groups_end : (more : ℕ) (bytes : List ℕ) (b : ℕ) (rest : List ℕ) → byte_at bytes ≡ Some (b, rest) → 128 ≤ b → more ≡ 0 → groups_at more bytes ≡ None
unfolding groups_at
groups_end zero bytes b rest h le e = rw (h, le-ltb b 128 le) refl
groups_end (suc more) bytes b rest h le e = absurd (omega arith)

pub groups_more : (more less : ℕ) (bytes : List ℕ) (b : ℕ) (rest : List ℕ) → byte_at bytes ≡ Some (b, rest) → 128 ≤ b → more ≡ suc less → groups_at more bytes ≡ (groups_at less rest ▷ with_low b)
unfolding groups_at
groups_more more less bytes b rest h le e = rw (e, h, le-ltb b 128 le) refl

-- an error of a part is an error of the whole
pub fails_through : {X Y : Type 0} (e : ReadError) (part : Option X) (whole : Option Y) → (part ≡ None → whole ≡ None) → Fails e part → Fails e whole
fails_through Memory part whole f h = tt
fails_through NotSpelled part whole f h = f h

-- a step that gives nothing
pub none_bind : {A B : Type 0} (o : Option A) (f : A → Option B) → o ≡ None → (o ▷ f) ≡ None
none_bind None f e = refl
none_bind (Some x) f e = absurd cc

pub zero_above : (b high : ℕ) (rest : List ℕ) → high ≡ 0 → with_low b (high, rest) ≡ None
zero_above b high rest e = rw e refl

pub large_above : (b high : ℕ) (rest : List ℕ) → 2 ^ 57 ≤ high → with_low b (high, rest) ≡ None
large_above b high rest le =
    let some : nat_lt 0 high ≡ true = lt-ltb 0 high (omega arith) in
    let large : nat_lt high (2 ^ 57) ≡ false = le-ltb high (2 ^ 57) le in
    rw (some, large) refl

pub joins_above : (b high : ℕ) (rest : List ℕ) → high ≢ 0 → high < 2 ^ 57 → b < 256 → with_low b (high, rest) ≡ Some (high * 128 + (b - 128), rest)
joins_above b high rest ne lt byte =
    let some : nat_lt 0 high ≡ true = lt-ltb 0 high (omega arith) in
    let small : nat_lt high (2 ^ 57) ≡ true = lt-ltb high (2 ^ 57) lt in
    let fits : nat_lt b 256 ≡ true = lt-ltb b 256 byte in
    rw (some, small, fits) refl

-- ---- putting a number

-- what was put, with the groups of what is left behind it, is the whole
pub record Continues (put : List ℕ) (left : ℕ) (whole : List ℕ) : Type 0 where
  pub more : ℕ
  pub small : left < 128 ^ suc more
  pub so_far : put ++ groups more left ≡ whole

pub begins : (put : List ℕ) (n : ℕ) → n < 2 ^ 64 → Continues put n (put ++ number_bytes n)
unfolding number_bytes
begins put n lt = record { more = 9; small = omega arith; so_far = refl }

goes_on_from : (more : ℕ) (put : List ℕ) (left : ℕ) (whole : List ℕ) → left < 128 ^ suc more → put ++ groups more left ≡ whole → 128 ≤ left → Continues (put ++ (left % 128 + 128) ∷ []) (left / 128) whole
unfolding groups
goes_on_from zero put left whole small so_far le = absurd (omega arith)
goes_on_from (suc more) put left whole small so_far le =
    let p : ℕ = 128 ^ suc more in
    let power : 128 ^ suc (suc more) ≡ 128 * p = pow-succ' 128 (suc more) in
    let below : left < 128 * p = subst (λ (k : ℕ). left < k) power small in
    let e : groups (suc more) left ≡ (left % 128 + 128) ∷ groups more (left / 128) = rw (le-ltb left 128 le) (ap (λ (b : ℕ). b ∷ groups more (left / 128)) (omega arith)) in
    record {
      more = more;
      small = omega (arith, below);
      so_far = append_assoc put ((left % 128 + 128) ∷ []) (groups more (left / 128)) ∙ (ap (λ (bs : List ℕ). put ++ bs) (sym e) ∙ so_far);
    }

pub goes_on : (put : List ℕ) (left : ℕ) (whole : List ℕ) → Continues put left whole → 128 ≤ left → Continues (put ++ (left % 128 + 128) ∷ []) (left / 128) whole
goes_on put left whole h le = goes_on_from h.more put left whole h.small h.so_far le

last_group : (more left : ℕ) → left < 128 → groups more left ≡ left ∷ []
unfolding groups
last_group zero left lt = refl
last_group (suc more) left lt = rw (lt-ltb left 128 lt) refl

pub is_done : (put : List ℕ) (left : ℕ) (whole : List ℕ) → Continues put left whole → left < 128 → put ++ left ∷ [] ≡ whole
is_done put left whole h lt = ap (λ (bs : List ℕ). put ++ bs) (sym (last_group h.more left lt)) ∙ h.so_far
