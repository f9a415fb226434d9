-- Reading the header, byte by byte.
use Rattle.std.proofs.Common.{◌≡◌, ◌≢◌, ℕ, suc, ◌+◌, ◌<◌, ◌≤◌, Bool, true, false, cond, eqb, List, [], ◌∷◌, ◌++◌, length, take, drop, get_or, Option, Some, None, refl, sym, ap, ◌∙◌, append_assoc, add-one, drop-cons, arith}
use Rattle.std.specs.Prelude.{⊤, nat_lt}
use Rattle.std.specs.List.{list_all}
use Rattle.std.proofs.lemmas.Bool.{eq-eqb, eqb-true, lt-ltb, le-ltb}
use Rattle.std.proofs.lemmas.List.{take_at, drop_at, length-append, drop_all, take_all}
use Rattle.std.proofs.Math.Seq.{take-suc-set}
use Rattle.std.proofs.Math.ListN.{set}
use Rattle.iseq_dump.specs.declared.fault.ReadError.{ReadError}
use Rattle.iseq_dump.specs.declared.fault.ReadError.TheVariants.{Memory, NotSpelled}
use Rattle.byteorder.specs.Endian.{little_number}
use Rattle.iseq_dump.specs.Reading.{Fails, byte_at, exactly_at, fixed_at}

exactly_none : (wanted others bytes : List ℕ) (w : ℕ) → wanted ≡ w ∷ others → byte_at bytes ≡ None → exactly_at wanted bytes ≡ None
unfolding exactly_at
exactly_none wanted others bytes w e h = rw (e, h) refl

exactly_step : (wanted others bytes : List ℕ) (w b : ℕ) (rest : List ℕ) → wanted ≡ w ∷ others → byte_at bytes ≡ Some (b, rest) → exactly_at wanted bytes ≡ cond (eqb b w) (exactly_at others rest) None
unfolding exactly_at
exactly_step wanted others bytes w b rest e h = rw (e, h) refl

other : (a b : ℕ) → a ≢ b → eqb a b ≡ false
other a b ne =
    let decide : (t : Bool) → eqb a b ≡ t → t ≡ false = elim [ true ↦ λ e. absurd (ne (eqb-true a b e)) | false ↦ λ e. refl ] in
    decide (eqb a b) refl

-- what is wanted from place i on begins with the byte there
front_of : (wanted : List ℕ) (i : ℕ) → i < length wanted → drop i wanted ≡ get_or wanted i 0 ∷ drop (i + 1) wanted
front_of wanted i lt = rw (add-one, drop-cons wanted i 0) refl

pub expect_end : (e : ReadError) (wanted bytes : List ℕ) (i : ℕ) (whole : Option (⊤ × List ℕ)) → i < length wanted → Fails e (byte_at bytes) → exactly_at (drop i wanted) bytes ≡ whole → Fails e whole
expect_end Memory wanted bytes i whole lt h so_far = tt
expect_end NotSpelled wanted bytes i whole lt h so_far = sym so_far ∙ exactly_none (drop i wanted) (drop (i + 1) wanted) bytes (get_or wanted i 0) (front_of wanted i lt) h

pub expect_other : (wanted bytes : List ℕ) (i b : ℕ) (rest : List ℕ) (whole : Option (⊤ × List ℕ)) → i < length wanted → byte_at bytes ≡ Some (b, rest) → b ≢ get_or wanted i 0 → exactly_at (drop i wanted) bytes ≡ whole → whole ≡ None
expect_other wanted bytes i b rest whole lt h ne so_far =
    sym so_far ∙ (exactly_step (drop i wanted) (drop (i + 1) wanted) bytes (get_or wanted i 0) b rest (front_of wanted i lt) h ∙ ap (λ (t : Bool). cond t (exactly_at (drop (i + 1) wanted) rest) None) (other b (get_or wanted i 0) ne))

pub expect_same : (wanted bytes : List ℕ) (i b : ℕ) (rest : List ℕ) (whole : Option (⊤ × List ℕ)) → i < length wanted → byte_at bytes ≡ Some (b, rest) → b ≡ get_or wanted i 0 → exactly_at (drop i wanted) bytes ≡ whole → exactly_at (drop (i + 1) wanted) rest ≡ whole
expect_same wanted bytes i b rest whole lt h same so_far =
    sym (ap (λ (t : Bool). cond t (exactly_at (drop (i + 1) wanted) rest) None) (eq-eqb b (get_or wanted i 0) same)) ∙ (sym (exactly_step (drop i wanted) (drop (i + 1) wanted) bytes (get_or wanted i 0) b rest (front_of wanted i lt) h) ∙ so_far)

pub expect_done : (wanted bytes : List ℕ) (i : ℕ) (whole : Option (⊤ × List ℕ)) → length wanted ≤ i → exactly_at (drop i wanted) bytes ≡ whole → whole ≡ Some (tt, bytes)
unfolding exactly_at
expect_done wanted bytes i whole le so_far = sym so_far ∙ rw (drop_all i wanted le) refl

-- ---- 8 bytes

all_bytes : (bytes : List ℕ) → ((i : ℕ) → get_or bytes i 0 < 256) → list_all (λ b. nat_lt b 256) bytes ≡ true
all_bytes [] fits = refl
all_bytes (b ∷ bytes) fits = rw (lt-ltb b 256 (fits 0), all_bytes bytes (λ i. fits (suc i))) refl

pub fixed_given : (bytes old new : List ℕ) → length bytes ≡ 8 → ((i : ℕ) → get_or bytes i 0 < 256) → old ≡ bytes ++ new → fixed_at old ≡ Some (little_number 8 bytes, new)
unfolding fixed_at
fixed_given bytes old new len fits e =
    let long : nat_lt (length (bytes ++ new)) 8 ≡ false = le-ltb _ _ (omega (arith, length-append bytes new)) in
    rw (e, long, take_at bytes new 8 len, drop_at bytes new 8 len, all_bytes bytes fits) refl

pub fixed_short : (old : List ℕ) → length old < 8 → fixed_at old ≡ None
unfolding fixed_at
fixed_short old lt = rw (lt-ltb (length old) 8 lt) refl

pub eight_more : (bytes : List ℕ) (place b : ℕ) (old new whole : List ℕ) → place < length bytes → old ≡ b ∷ new → take place bytes ++ old ≡ whole → take (place + 1) (set bytes place b) ++ new ≡ whole
eight_more bytes place b old new whole lt e so_far =
    ap (λ (bs : List ℕ). bs ++ new) (rw (add-one, take-suc-set) refl) ∙ (append_assoc (take place bytes) (b ∷ []) new ∙ (ap (λ (bs : List ℕ). take place bytes ++ bs) (sym e) ∙ so_far))

pub eight_done : (bytes : List ℕ) (place : ℕ) (left whole : List ℕ) → length bytes ≤ place → take place bytes ++ left ≡ whole → whole ≡ bytes ++ left
eight_done bytes place left whole le so_far = sym so_far ∙ ap (λ (bs : List ℕ). bs ++ left) (take_all place bytes le)
