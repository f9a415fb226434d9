-- Digits and the numbers that they spell.
use Rattle.std.proofs.Common.{◌≡◌, ℕ, ℤ, pos, ◌<◌, ◌≤◌, ◌+◌, ◌-◌, ◌*◌, ◌^◌, Bool, true, false, ◌&&◌, List, [], ◌∷◌, ◌++◌, length, fold, refl, sym, ◌∙◌, ap, subst, ◌⊎◌, inl, inr, append_assoc, length-append, arith}
use Rattle.std.proofs.lemmas.Bool.{false≢true}
use Rattle.std.proofs.lemmas.Bool.Decides.{nat_tests}
use Rattle.std.specs.List.{list_all}
use Rattle.msgpack_codec.specs.declared.stop.Stop.{Stop}
use Rattle.data_text.specs.Json.{is_digit, BeginsNoDigit, number_of, AreDigits, MagnitudeAt, NumberAt, minus}
use Rattle.data_text.specs.Reading.{FoundValue, Begins, Fails, StoppedBy, Fits}
use Rattle.data_text.proofs.Chains.{IsBehind, stop_behind, IsViewAt, stop_at}

pub no_digit_first : (b : ℕ) (r u : List ℕ) → BeginsNoDigit r → r ≡ b ∷ u → is_digit b ≡ false
no_digit_first b r u n e = subst BeginsNoDigit e n

pub fits_no_digit : (r u : List ℕ) → BeginsNoDigit r → Fits r u → BeginsNoDigit u
fits_no_digit r u n (inl h) = h
fits_no_digit r u n (inr s) = subst BeginsNoDigit (sym s.u_is) (no_digit_first s.byte r s.r_rest n s.r_is)

both_first : (a b : Bool) → (a && b) ≡ true → a ≡ true
both_first true b h = refl
both_first false b h = absurd (false≢true h)

both_second : (a b : Bool) → (a && b) ≡ true → b ≡ true
both_second true b h = h
both_second false b h = absurd (false≢true h)

both : (a b : Bool) → a ≡ true → b ≡ true → (a && b) ≡ true
both true true h k = refl
both false b h k = absurd (false≢true h)
both true false h k = absurd (false≢true k)

-- digits and what stands behind them, where no digit does
same_digits : (ds es u t : List ℕ) → list_all is_digit ds ≡ true → list_all is_digit es ≡ true → BeginsNoDigit u → BeginsNoDigit t → ds ++ u ≡ es ++ t → (es ≡ ds) × (t ≡ u)
same_digits [] [] u t a b n m e = (refl, sym e)
same_digits [] (x ∷ es) u t a b n m e = absurd (false≢true (sym (no_digit_first x u (es ++ t) n e) ∙ both_first (is_digit x) (list_all is_digit es) b))
same_digits (d ∷ ds) [] u t a b n m e = absurd (false≢true (sym (no_digit_first d t (ds ++ u) m (sym e)) ∙ both_first (is_digit d) (list_all is_digit ds) a))
same_digits (d ∷ ds) (x ∷ es) u t a b n m e =
    let head : x ≡ d = cc in
    let tail : ds ++ u ≡ es ++ t = cc in
    let (p, q) = same_digits ds es u t (both_second (is_digit d) (list_all is_digit ds) a) (both_second (is_digit x) (list_all is_digit es) b) n m tail in
    (cc, q)

-- digits that are more
more_digits : (ds es u t : List ℕ) (b : ℕ) → list_all is_digit ds ≡ true → is_digit b ≡ true → list_all is_digit es ≡ true → BeginsNoDigit t → ds ++ b ∷ u ≡ es ++ t → (k : List ℕ) × (es ≡ ds ++ b ∷ k)
more_digits [] [] u t b a d c m e = absurd (false≢true (sym (no_digit_first b t u m (sym e)) ∙ d))
more_digits [] (x ∷ es) u t b a d c m e = let head : x ≡ b = cc in (es, cc)
more_digits (y ∷ ds) [] u t b a d c m e = absurd (false≢true (sym (no_digit_first y t (ds ++ b ∷ u) m (sym e)) ∙ both_first (is_digit y) (list_all is_digit ds) a))
more_digits (y ∷ ds) (x ∷ es) u t b a d c m e =
    let head : x ≡ y = cc in
    let tail : ds ++ b ∷ u ≡ es ++ t = cc in
    let (k, p) = more_digits ds es u t b (both_second (is_digit y) (list_all is_digit ds) a) d (both_second (is_digit x) (list_all is_digit es) c) m tail in
    (k, cc)

digits_grow : (digits : List ℕ) (n : ℕ) → n ≤ fold (λ number digit. number * 10 + (digit - 48)) n digits
digits_grow [] n = omega arith
digits_grow (digit ∷ digits) n = let more = digits_grow digits (n * 10 + (digit - 48)) in omega (arith, more)

fold_more : (ds es : List ℕ) (n : ℕ) → fold (λ number digit. number * 10 + (digit - 48)) n (ds ++ es) ≡ fold (λ number digit. number * 10 + (digit - 48)) (fold (λ number digit. number * 10 + (digit - 48)) n ds) es
fold_more [] es n = refl
fold_more (d ∷ ds) es n = fold_more ds es (n * 10 + (d - 48))

all_more : (ds : List ℕ) (b : ℕ) → list_all is_digit ds ≡ true → is_digit b ≡ true → list_all is_digit (ds ++ b ∷ []) ≡ true
all_more [] b a d = both (is_digit b) true d refl
all_more (x ∷ ds) b a d = both (is_digit x) (list_all is_digit (ds ++ b ∷ [])) (both_first (is_digit x) (list_all is_digit ds) a) (all_more ds b (both_second (is_digit x) (list_all is_digit ds) a) d)

-- the digits so far
pub record Digits (limit first size : ℕ) (w r : List ℕ) : Type 0 where
  pub more : List ℕ
  pub parts : w ≡ first ∷ (more ++ r)
  pub are_digits : list_all is_digit more ≡ true
  pub value : size ≡ number_of (first ∷ more)
  pub within : size ≤ limit

pub first_digit : (limit first size : ℕ) (w r : List ℕ) → w ≡ first ∷ r → size ≡ first - 48 → size ≤ limit → Digits limit first size w r
first_digit limit first size w r e is within = record { more = []; parts = e; are_digits = refl; value = omega (arith, is); within = within }

pub digit_more : (limit first size next new : ℕ) (w r after : List ℕ) → Digits limit first size w r → r ≡ next ∷ after → is_digit next ≡ true → new ≡ size * 10 + (next - 48) → new ≤ limit → Digits limit first new w after
digit_more limit first size next new w r after d e k is within = record {
  more = d.more ++ next ∷ [];
  parts = d.parts ∙ ap (λ v. first ∷ (d.more ++ v)) e ∙ ap (λ v. first ∷ v) (sym (append_assoc d.more (next ∷ []) after));
  are_digits = all_more d.more next d.are_digits k;
  value = is ∙ ap (λ v. v * 10 + (next - 48)) d.value ∙ sym (fold_more (first ∷ d.more) (next ∷ []) 0);
  within = within;
}

are : (first : ℕ) (more : List ℕ) → is_digit first ≡ true → 48 < first → list_all is_digit more ≡ true → AreDigits (first ∷ more)
are first more d some all = (d, all, λ e. absurd (omega arith))

whole_reads : (limit m : ℕ) (digits t : List ℕ) → AreDigits digits → m ≡ number_of digits → m ≤ limit → BeginsNoDigit t → MagnitudeAt limit m (digits ++ t) t
whole_reads limit m digits t a v within n = record { digits = digits; are_digits = a; value = v; within = within; parts = refl; ends = n }

digits_only : (limit first size : ℕ) (more u t : List ℕ) → is_digit first ≡ true → list_all is_digit more ≡ true → BeginsNoDigit u → (y : ℕ) → (ds : List ℕ) → AreDigits ds → y ≡ number_of ds → BeginsNoDigit t → first ∷ (more ++ u) ≡ ds ++ t → (y ≡ number_of (first ∷ more)) × (t ≡ u)
digits_only limit first size more u t d all n y [] a v m e = absurd a
digits_only limit first size more u t d all n y (x ∷ ds) a v m e =
    let head : x ≡ first = cc in
    let tail : more ++ u ≡ ds ++ t = cc in
    let (p, q) = same_digits more ds u t all a.1 n m tail in
    (v ∙ ap (λ k. number_of (k ∷ ds)) head ∙ ap (λ k. number_of (first ∷ k)) p, q)

pub digits_found : (limit first size : ℕ) (w r : List ℕ) → is_digit first ≡ true → 48 < first → Digits limit first size w r → BeginsNoDigit r → FoundValue (MagnitudeAt limit) size w r
digits_found limit first size w r d some ds n = record {
  front = first ∷ ds.more;
  parts = ds.parts;
  reads = λ u fits. whole_reads limit size (first ∷ ds.more) u (are first ds.more d some ds.are_digits) ds.value ds.within (fits_no_digit r u n fits);
  only = λ y u t fits h.
      let (p, q) = digits_only limit first size ds.more u t d ds.are_digits (fits_no_digit r u n fits) y h.digits h.are_digits h.value h.ends h.parts in
      (p ∙ sym ds.value, q);
}

digits_dead : (limit first next : ℕ) (more u t : List ℕ) → list_all is_digit more ≡ true → is_digit next ≡ true → limit < number_of (first ∷ more) * 10 + (next - 48) → (y : ℕ) (ds : List ℕ) → AreDigits ds → y ≡ number_of ds → y ≤ limit → BeginsNoDigit t
    → first ∷ (more ++ next ∷ u) ≡ ds ++ t → ⊥
digits_dead limit first next more u t all k large y [] a v within m e = a
digits_dead limit first next more u t all k large y (x ∷ ds) a v within m e =
    let head : x ≡ first = cc in
    let tail : more ++ next ∷ u ≡ ds ++ t = cc in
    let (es, p) = more_digits more ds u t next all k a.1 m tail in
    let whole : number_of (x ∷ ds) ≡ number_of (first ∷ (more ++ next ∷ es)) = ap (λ v. number_of (v ∷ ds)) head ∙ ap (λ v. number_of (first ∷ v)) p in
    let split : number_of (first ∷ (more ++ next ∷ es)) ≡ fold (λ number digit. number * 10 + (digit - 48)) (number_of (first ∷ more)) (next ∷ es) = fold_more (first ∷ more) (next ∷ es) 0 in
    let grow = digits_grow es (number_of (first ∷ more) * 10 + (next - 48)) in
    omega (arith, v, whole, split, grow, within, large)

pub digits_bad : (limit first size next n : ℕ) (w r after : List ℕ) → is_digit first ≡ true → 48 < first → Digits limit first size w r → r ≡ next ∷ after → n ≡ length r → is_digit next ≡ true → limit < size * 10 + (next - 48) → Fails BeginsNoDigit (MagnitudeAt limit) w n
digits_bad limit first size next n w r after d some ds e count k large = record {
  front = first ∷ ds.more;
  byte = next;
  rest = after;
  parts = ds.parts ∙ ap (λ v. first ∷ (ds.more ++ v)) e;
  count = count ∙ ap length e;
  begins = record { value = size; more = []; reads = λ t h. whole_reads limit size (first ∷ ds.more) t (are first ds.more d some ds.are_digits) ds.value ds.within h };
  dead = λ y u t h. digits_dead limit first next ds.more u t ds.are_digits k (subst (λ v. limit < v * 10 + (next - 48)) ds.value large) y h.digits h.are_digits h.value h.within h.ends h.parts;
}

zero_digits : AreDigits (48 ∷ [])
zero_digits = (refl, refl, λ e. refl)

zero_only : (limit y : ℕ) (ds u t : List ℕ) → AreDigits ds → y ≡ number_of ds → 48 ∷ u ≡ ds ++ t → (y ≡ 0) × (t ≡ u)
zero_only limit y [] u t a v e = absurd a
zero_only limit y (x ∷ ds) u t a v e =
    let head : x ≡ 48 = cc in
    let none : ds ≡ [] = a.2 head in
    let tail : u ≡ ds ++ t = cc in
    (v ∙ ap (λ k. number_of (x ∷ k)) none ∙ ap (λ k. number_of (k ∷ [])) head, sym (tail ∙ ap (λ k. k ++ t) none))

pub zero_found : (limit : ℕ) (w r : List ℕ) → w ≡ 48 ∷ r → BeginsNoDigit r → FoundValue (MagnitudeAt limit) 0 w r
zero_found limit w r e n = record {
  front = 48 ∷ [];
  parts = e;
  reads = λ u fits. whole_reads limit 0 (48 ∷ []) u zero_digits refl (omega arith) (fits_no_digit r u n fits);
  only = λ y u t fits h. zero_only limit y h.digits u t h.are_digits h.value h.parts;
}

pub zero_bad : (limit next n : ℕ) (w r after : List ℕ) → w ≡ 48 ∷ r → r ≡ next ∷ after → is_digit next ≡ true → n ≡ length r → Fails BeginsNoDigit (MagnitudeAt limit) w n
zero_bad limit next n w r after e e1 k count = record {
  front = 48 ∷ [];
  byte = next;
  rest = after;
  parts = e ∙ ap (λ v. 48 ∷ v) e1;
  count = count ∙ ap length e1;
  begins = record { value = 0; more = []; reads = λ t h. whole_reads limit 0 (48 ∷ []) t zero_digits refl (omega arith) h };
  dead = λ y u t h.
      let (p, q) = zero_only limit y h.digits (next ∷ u) t h.are_digits h.value h.parts in
      false≢true (sym (no_digit_first next t u h.ends q) ∙ k);
}

pub some_number : (limit : ℕ) → Begins BeginsNoDigit (MagnitudeAt limit) []
some_number limit = record { value = 0; more = 48 ∷ []; reads = λ t h. whole_reads limit 0 (48 ∷ []) t zero_digits refl (omega arith) h }

first_is_digit : (b : ℕ) (ds u t : List ℕ) → AreDigits ds → b ∷ u ≡ ds ++ t → is_digit b ≡ true
first_is_digit b [] u t a e = absurd a
first_is_digit b (x ∷ ds) u t a e = let head : x ≡ b = cc in subst (λ v. is_digit v ≡ true) head a.0

pub magnitude_first : (limit b y : ℕ) (u t : List ℕ) → MagnitudeAt limit y (b ∷ u) t → is_digit b ≡ true
magnitude_first limit b y u t h = first_is_digit b h.digits u t h.are_digits h.parts

pub number_first : (b : ℕ) (y : ℤ) (u t : List ℕ) → NumberAt y (b ∷ u) t → (b ≡ 45) ⊎ (is_digit b ≡ true)
number_first b y u t (NumberAt.natural m h is) = inr (magnitude_first (2 ^ 63 - 1) b m u t h)
number_first b y u t (NumberAt.negative m rest e h is) = inl (cc)

negative_only : (y : ℤ) (u t : List ℕ) → NumberAt y (45 ∷ u) t → (m : ℕ) × MagnitudeAt (2 ^ 63) m u t × (y ≡ minus m)
negative_only y u t (NumberAt.natural m h is) = absurd (false≢true (magnitude_first (2 ^ 63 - 1) 45 m u t h))
negative_only y u t (NumberAt.negative m rest e h is) = let tail : rest ≡ u = cc in (m, subst (λ k. MagnitudeAt (2 ^ 63) m k t) tail h, is)

natural_only : (b : ℕ) (y : ℤ) (u t : List ℕ) → (b ≡ 45 → ⊥) → NumberAt y (b ∷ u) t → (m : ℕ) × MagnitudeAt (2 ^ 63 - 1) m (b ∷ u) t × (y ≡ pos m)
natural_only b y u t ne (NumberAt.natural m h is) = (m, h, is)
natural_only b y u t ne (NumberAt.negative m rest e h is) = let head : b ≡ 45 = cc in absurd (ne head)

pub negative_found : (size : ℕ) (w rest r : List ℕ) → w ≡ 45 ∷ rest → FoundValue (MagnitudeAt (2 ^ 63)) size rest r → FoundValue NumberAt (minus size) w r
negative_found size w rest r e f = record {
  front = 45 ∷ f.front;
  parts = e ∙ ap (λ k. 45 ∷ k) f.parts;
  reads = λ u fits. NumberAt.negative size (f.front ++ u) refl (f.reads u fits) refl;
  only = λ y u t fits h. let (m, k, is) = negative_only y (f.front ++ u) t h in let (p, q) = f.only m u t fits k in (is ∙ ap minus p, q);
}

minus_behind : IsBehind (MagnitudeAt (2 ^ 63)) NumberAt (λ m. minus m) 45
minus_behind = record { to = λ m u t h. NumberAt.negative m u refl h refl; from = λ y u t h. negative_only y u t h }

pub negative_stop : (w rest : List ℕ) (e : Stop) → w ≡ 45 ∷ rest → StoppedBy BeginsNoDigit (MagnitudeAt (2 ^ 63)) rest e → StoppedBy BeginsNoDigit NumberAt w e
negative_stop w rest e is h = stop_behind (MagnitudeAt (2 ^ 63)) NumberAt (λ m. minus m) 45 minus_behind BeginsNoDigit w rest e is h

no_front : (ds u : List ℕ) → AreDigits ds → u ≡ ds ++ u → ⊥
no_front [] u a e = a
no_front (x ∷ ds) u a e = omega (arith, ap length e, length-append (x ∷ ds) u)

natural_first : (b c y : ℕ) (front after r u : List ℕ) → b ∷ after ≡ front ++ r → MagnitudeAt c y (front ++ u) u → (k : List ℕ) × (front ++ u ≡ b ∷ k)
natural_first b c y [] after r u e h = absurd (no_front h.digits u h.are_digits h.parts)
natural_first b c y (x ∷ front) after r u e h = let head : x ≡ b = cc in (front ++ u, ap (λ k. k ∷ (front ++ u)) head)

pub natural_found : (b size : ℕ) (w after r : List ℕ) → w ≡ b ∷ after → (b ≡ 45 → ⊥) → FoundValue (MagnitudeAt (2 ^ 63 - 1)) size w r → FoundValue NumberAt (pos size) w r
natural_found b size w after r e ne f = record {
  front = f.front;
  parts = f.parts;
  reads = λ u fits. NumberAt.natural size (f.reads u fits) refl;
  only = λ y u t fits h.
      let (k, is) = natural_first b (2 ^ 63 - 1) size f.front after r u (sym e ∙ f.parts) (f.reads u fits) in
      let (m, g, is1) = natural_only b y k t ne (subst (λ v. NumberAt y v t) is h) in
      let (p, q) = f.only m u t fits (subst (λ v. MagnitudeAt (2 ^ 63 - 1) m v t) (sym is) g) in
      (is1 ∙ ap pos p, q);
}

natural_view : (b : ℕ) → (b ≡ 45 → ⊥) → IsViewAt (MagnitudeAt (2 ^ 63 - 1)) NumberAt (λ m. pos m) b
natural_view b ne = record { to = λ m u t h. NumberAt.natural m h refl; from = λ y m t h. natural_only b y m t ne h }

pub natural_stop : (b : ℕ) (w after : List ℕ) (e : Stop) → w ≡ b ∷ after → (b ≡ 45 → ⊥) → StoppedBy BeginsNoDigit (MagnitudeAt (2 ^ 63 - 1)) w e → StoppedBy BeginsNoDigit NumberAt w e
natural_stop b w after e is ne h = stop_at (MagnitudeAt (2 ^ 63 - 1)) NumberAt (λ m. pos m) b (natural_view b ne) BeginsNoDigit w after e is h

pub begins_number : Begins BeginsNoDigit NumberAt []
begins_number = let g = some_number (2 ^ 63 - 1) in record { value = pos g.value; more = g.more; reads = λ t h. NumberAt.natural g.value (g.reads t h) refl }

pub ends_none : (r : List ℕ) → r ≡ [] → BeginsNoDigit r
ends_none r e = subst BeginsNoDigit (sym e) tt

pub ends_at : (b : ℕ) (r after : List ℕ) → r ≡ b ∷ after → is_digit b ≡ false → BeginsNoDigit r
ends_at b r after e k = subst BeginsNoDigit (sym e) k

pub digit_low : (b : ℕ) → is_digit b ≡ true → 48 ≤ b
digit_low b h = grind (arith, nat_tests)

pub digit_high : (b : ℕ) → is_digit b ≡ true → b ≤ 57
digit_high b h = grind (arith, nat_tests)

-- what a digit stands for is small
pub digit_small : (b : ℕ) → is_digit b ≡ true → (48 ≤ b) × (b ≤ 57)
digit_small b h = (digit_low b h, digit_high b h)

pub no_magnitude : (b : ℕ) → is_digit b ≡ false → (y : ℕ) (limit : ℕ) (u t : List ℕ) → MagnitudeAt limit y (b ∷ u) t → ⊥
no_magnitude b n y limit u t h = false≢true (sym n ∙ magnitude_first limit b y u t h)

no_front_of : (ds t : List ℕ) → AreDigits ds → [] ≡ ds ++ t → ⊥
no_front_of [] t a e = a
no_front_of (x ∷ ds) t a e = omega (arith, ap length e)

pub magnitude_some : (limit y : ℕ) (t : List ℕ) → MagnitudeAt limit y [] t → ⊥
magnitude_some limit y t h = no_front_of h.digits t h.are_digits h.parts

pub number_some : (y : ℤ) (t : List ℕ) → NumberAt y [] t → ⊥
number_some y t (NumberAt.natural m h is) = magnitude_some (2 ^ 63 - 1) m t h
number_some y t (NumberAt.negative m rest e h is) = omega (arith, ap length e)
