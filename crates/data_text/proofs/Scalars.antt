-- Values that are no list and no map.
use Rattle.std.proofs.Common.{◌≡◌, ℕ, ℤ, ◌<◌, ◌≤◌, Bool, true, false, ◌||◌, ◌==◌, List, [], ◌∷◌, ◌++◌, length, codes, refl, sym, ◌∙◌, ap, subst, ◌⊎◌, inl, inr, arith, Result, Ok, Err, MatchResult, Bor}
use Rattle.std.proofs.lemmas.Bool.{false≢true}
use Rattle.std.proofs.lemmas.Bool.Decides.{nat_tests}
use Rattle.msgpack_codec.specs.declared.value.Value.{Value}
use Rattle.msgpack_codec.specs.declared.value.Value.TheVariants as value
use Rattle.msgpack_codec.specs.declared.stop.Stop.{Stop}
use Rattle.msgpack_codec.specs.declared.stop.Stop.TheVariants as stop
use Rattle.data_text.specs.Json.{is_digit, BeginsNoDigit, NumberAt, StringAt, ScalarAt}
use Rattle.data_text.specs.Reading.{Found, FoundValue, Begins, Fails, Stopped, StoppedBy, Anything, WordAt, BeginsNoOther, begins_number}
use Rattle.data_text.proofs.Chains.{IsBehind, found_behind, stop_behind, IsViewAt, stop_at, bad_byte}
use Rattle.data_text.proofs.Digits.{number_first, number_some}

-- a scalar by its first byte
data First (v : Value) (b : ℕ) (m t : List ℕ) : Type 0 where
  null : b ≡ 110 → m ≡ codes "ull" ++ t → v ≡ value.Nil → First v b m t
  truth : b ≡ 116 → m ≡ codes "rue" ++ t → v ≡ value.Bool true → First v b m t
  falsity : b ≡ 102 → m ≡ codes "alse" ++ t → v ≡ value.Bool false → First v b m t
  number : (n : ℤ) → NumberAt n (b ∷ m) t → v ≡ value.Int n → ((b ≡ 45) ⊎ (is_digit b ≡ true)) → First v b m t
  string : (s : List ℕ) → b ≡ 34 → StringAt s m t → v ≡ value.Str s → First v b m t

first_is : (b c : ℕ) (m k : List ℕ) → b ∷ m ≡ c ∷ k → b ≡ c
first_is b c m k e = cc

rest_is : (b c : ℕ) (m k : List ℕ) → b ∷ m ≡ c ∷ k → m ≡ k
rest_is b c m k e = cc

scalar_first : (v : Value) (b : ℕ) (m t : List ℕ) → ScalarAt v (b ∷ m) t → First v b m t
scalar_first v b m t (ScalarAt.null e is) = First.null (first_is b 110 m (codes "ull" ++ t) e) (rest_is b 110 m (codes "ull" ++ t) e) is
scalar_first v b m t (ScalarAt.truth e is) = First.truth (first_is b 116 m (codes "rue" ++ t) e) (rest_is b 116 m (codes "rue" ++ t) e) is
scalar_first v b m t (ScalarAt.falsity e is) = First.falsity (first_is b 102 m (codes "alse" ++ t) e) (rest_is b 102 m (codes "alse" ++ t) e) is
scalar_first v b m t (ScalarAt.number n h is) = First.number n h is (number_first b n m t h)
scalar_first v b m t (ScalarAt.string s k e h is) = First.string s (first_is b 34 m k e) (subst (λ w. StringAt s w t) (sym (rest_is b 34 m k e)) h) is

-- a byte that begins a number
abbrev pub BeginsNumber : ℕ → Type 0
BeginsNumber b = (b ≡ 45) ⊎ (is_digit b ≡ true)

digit_at_least : (b : ℕ) → is_digit b ≡ true → 48 ≤ b
digit_at_least b h = grind (arith, nat_tests)

digit_at_most : (b : ℕ) → is_digit b ≡ true → b ≤ 57
digit_at_most b h = grind (arith, nat_tests)

number_low : (b : ℕ) → is_digit b ≡ true → (48 ≤ b) × (b ≤ 57)
number_low b h = (digit_at_least b h, digit_at_most b h)

not_number : (b : ℕ) → 57 < b → BeginsNumber b → ⊥
not_number b h (inl e) = omega arith
not_number b h (inr e) = let k = number_low b e in omega (arith, k.0, k.1)

not_number_quote : BeginsNumber 34 → ⊥
not_number_quote (inl e) = omega arith
not_number_quote (inr e) = false≢true e

-- null, true and false
module _ (b : ℕ) (word : List ℕ) (v : Value) (make : (m t : List ℕ) → m ≡ word ++ t → ScalarAt v (b ∷ m) t) (only : (y : Value) (m t : List ℕ) → First y b m t → (m ≡ word ++ t) × (y ≡ v)) where
  word_behind : IsBehind (WordAt word) ScalarAt (λ x. v) b
  word_behind = record {
    to = λ x u t h. make u t h;
    from = λ y u t h. let (k, is) = only y u t (scalar_first y b u t h) in (tt, k, is);
  }

  word_found : (w rest r : List ℕ) → w ≡ b ∷ rest → Found (WordAt word) tt rest r → Found ScalarAt v w r
  word_found w rest r e f = found_behind (WordAt word) ScalarAt (λ x. v) b word_behind tt w rest r e f

  word_stop : (w rest : List ℕ) (e : Stop) → w ≡ b ∷ rest → Stopped (WordAt word) rest e → Stopped ScalarAt w e
  word_stop w rest e is h = stop_behind (WordAt word) ScalarAt (λ x. v) b word_behind Anything w rest e is h

null_only : (y : Value) (m t : List ℕ) → First y 110 m t → (m ≡ codes "ull" ++ t) × (y ≡ value.Nil)
null_only y m t (First.null e k is) = (k, is)
null_only y m t (First.truth e k is) = absurd (omega arith)
null_only y m t (First.falsity e k is) = absurd (omega arith)
null_only y m t (First.number n h is b) = absurd (not_number 110 (omega arith) b)
null_only y m t (First.string s e h is) = absurd (omega arith)

truth_only : (y : Value) (m t : List ℕ) → First y 116 m t → (m ≡ codes "rue" ++ t) × (y ≡ value.Bool true)
truth_only y m t (First.null e k is) = absurd (omega arith)
truth_only y m t (First.truth e k is) = (k, is)
truth_only y m t (First.falsity e k is) = absurd (omega arith)
truth_only y m t (First.number n h is b) = absurd (not_number 116 (omega arith) b)
truth_only y m t (First.string s e h is) = absurd (omega arith)

falsity_only : (y : Value) (m t : List ℕ) → First y 102 m t → (m ≡ codes "alse" ++ t) × (y ≡ value.Bool false)
falsity_only y m t (First.null e k is) = absurd (omega arith)
falsity_only y m t (First.truth e k is) = absurd (omega arith)
falsity_only y m t (First.falsity e k is) = (k, is)
falsity_only y m t (First.number n h is b) = absurd (not_number 102 (omega arith) b)
falsity_only y m t (First.string s e h is) = absurd (omega arith)

null_make : (m t : List ℕ) → m ≡ codes "ull" ++ t → ScalarAt value.Nil (110 ∷ m) t
null_make m t e = ScalarAt.null (ap (λ k. 110 ∷ k) e) refl

truth_make : (m t : List ℕ) → m ≡ codes "rue" ++ t → ScalarAt (value.Bool true) (116 ∷ m) t
truth_make m t e = ScalarAt.truth (ap (λ k. 116 ∷ k) e) refl

falsity_make : (m t : List ℕ) → m ≡ codes "alse" ++ t → ScalarAt (value.Bool false) (102 ∷ m) t
falsity_make m t e = ScalarAt.falsity (ap (λ k. 102 ∷ k) e) refl

pub null_found : (w rest r : List ℕ) → w ≡ 110 ∷ rest → Found (WordAt (codes "ull")) tt rest r → Found ScalarAt value.Nil w r
null_found w rest r e f = word_found 110 (codes "ull") value.Nil null_make null_only w rest r e f

pub null_stop : (w rest : List ℕ) (e : Stop) → w ≡ 110 ∷ rest → Stopped (WordAt (codes "ull")) rest e → Stopped ScalarAt w e
null_stop w rest e is h = word_stop 110 (codes "ull") value.Nil null_make null_only w rest e is h

pub truth_found : (w rest r : List ℕ) → w ≡ 116 ∷ rest → Found (WordAt (codes "rue")) tt rest r → Found ScalarAt (value.Bool true) w r
truth_found w rest r e f = word_found 116 (codes "rue") (value.Bool true) truth_make truth_only w rest r e f

pub truth_stop : (w rest : List ℕ) (e : Stop) → w ≡ 116 ∷ rest → Stopped (WordAt (codes "rue")) rest e → Stopped ScalarAt w e
truth_stop w rest e is h = word_stop 116 (codes "rue") (value.Bool true) truth_make truth_only w rest e is h

pub falsity_found : (w rest r : List ℕ) → w ≡ 102 ∷ rest → Found (WordAt (codes "alse")) tt rest r → Found ScalarAt (value.Bool false) w r
falsity_found w rest r e f = word_found 102 (codes "alse") (value.Bool false) falsity_make falsity_only w rest r e f

pub falsity_stop : (w rest : List ℕ) (e : Stop) → w ≡ 102 ∷ rest → Stopped (WordAt (codes "alse")) rest e → Stopped ScalarAt w e
falsity_stop w rest e is h = word_stop 102 (codes "alse") (value.Bool false) falsity_make falsity_only w rest e is h

-- some scalar
pub scalar_begins : Begins Anything ScalarAt []
scalar_begins = record { value = value.Nil; more = codes "null"; reads = λ t h. ScalarAt.null refl refl }

pub scalar_some : (y : Value) (t : List ℕ) → ScalarAt y [] t → ⊥
scalar_some y t (ScalarAt.null e is) = omega (arith, ap length e)
scalar_some y t (ScalarAt.truth e is) = omega (arith, ap length e)
scalar_some y t (ScalarAt.falsity e is) = omega (arith, ap length e)
scalar_some y t (ScalarAt.number n h is) = number_some n t h
scalar_some y t (ScalarAt.string s m e h is) = omega (arith, ap length e)

other_dead : (b : ℕ) (y : Value) (m t : List ℕ) → (b ≡ 110 → ⊥) → (b ≡ 116 → ⊥) → (b ≡ 102 → ⊥) → (b ≡ 34 → ⊥) → (b ≡ 45 → ⊥) → is_digit b ≡ false → First y b m t → ⊥
other_dead b y m t n1 n2 n3 n4 n5 n6 (First.null e k is) = n1 e
other_dead b y m t n1 n2 n3 n4 n5 n6 (First.truth e k is) = n2 e
other_dead b y m t n1 n2 n3 n4 n5 n6 (First.falsity e k is) = n3 e
other_dead b y m t n1 n2 n3 n4 n5 n6 (First.number n h is (inl e)) = n5 e
other_dead b y m t n1 n2 n3 n4 n5 n6 (First.number n h is (inr e)) = false≢true (sym n6 ∙ e)
other_dead b y m t n1 n2 n3 n4 n5 n6 (First.string s e h is) = n4 e

no_other : (b : ℕ) (w r : List ℕ) → w ≡ b ∷ r → BeginsNoOther w → (b ≡ 34 → ⊥) × (b ≡ 45 → ⊥) × (is_digit b ≡ false)
no_other b w r e h = let k = subst BeginsNoOther e h in (k.0, k.1.0, k.1.1)

pub other_bad : (b n : ℕ) (w r : List ℕ) → w ≡ b ∷ r → n ≡ length w → BeginsNoOther w → (b ≡ 110 → ⊥) → (b ≡ 116 → ⊥) → (b ≡ 102 → ⊥) → Fails Anything ScalarAt w n
other_bad b n w r e count other n1 n2 n3 =
    let (n4, n5, n6) = no_other b w r e other in
    bad_byte Anything ScalarAt b n w r e count scalar_begins (λ y u t h. other_dead b y u t n1 n2 n3 n4 n5 n6 (scalar_first y b u t h))

pub other_of : (b : ℕ) (w r : List ℕ) → w ≡ b ∷ r → (b ≡ 34 → ⊥) → (b ≡ 45 → ⊥) → is_digit b ≡ false → BeginsNoOther w
other_of b w r e h k n = subst BeginsNoOther (sym e) (h, (k, n))

-- strings
string_only : (y : Value) (m t : List ℕ) → First y 34 m t → (s : List ℕ) × StringAt s m t × (y ≡ value.Str s)
string_only y m t (First.null e k is) = absurd (omega arith)
string_only y m t (First.truth e k is) = absurd (omega arith)
string_only y m t (First.falsity e k is) = absurd (omega arith)
string_only y m t (First.number n h is b) = absurd (not_number_quote b)
string_only y m t (First.string s e h is) = (s, h, is)

string_behind : IsBehind StringAt ScalarAt (λ s. value.Str s) 34
string_behind = record {
  to = λ s u t h. ScalarAt.string s u refl h refl;
  from = λ y u t h. string_only y u t (scalar_first y 34 u t h);
}

pub string_found : (s w rest r : List ℕ) → w ≡ 34 ∷ rest → Found StringAt s rest r → Found ScalarAt (value.Str s) w r
string_found s w rest r e f = found_behind StringAt ScalarAt (λ s. value.Str s) 34 string_behind s w rest r e f

pub string_stop : (w rest : List ℕ) (e : Stop) → w ≡ 34 ∷ rest → Stopped StringAt rest e → Stopped ScalarAt w e
string_stop w rest e is h = stop_behind StringAt ScalarAt (λ s. value.Str s) 34 string_behind Anything w rest e is h

-- numbers
quote_no_number : (b : ℕ) → b ≡ 34 → BeginsNumber b → ⊥
quote_no_number b e h = not_number_quote (subst BeginsNumber e h)

number_only : (b : ℕ) (y : Value) (m t : List ℕ) → BeginsNumber b → First y b m t → (n : ℤ) × NumberAt n (b ∷ m) t × (y ≡ value.Int n)
number_only b y m t num (First.null e k is) = absurd (not_number b (omega arith) num)
number_only b y m t num (First.truth e k is) = absurd (not_number b (omega arith) num)
number_only b y m t num (First.falsity e k is) = absurd (not_number b (omega arith) num)
number_only b y m t num (First.number n h is k) = (n, h, is)
number_only b y m t num (First.string s e h is) = absurd (quote_no_number b e num)

number_read : (n : ℤ) (z u : List ℕ) → NumberAt n z u → (y : Value) (t : List ℕ) → ScalarAt y z t → (k : ℤ) × NumberAt k z t × (y ≡ value.Int k)
number_read n [] u h y t s = absurd (scalar_some y t s)
number_read n (b ∷ m) u h y t s = number_only b y m t (number_first b n m u h) (scalar_first y b m t s)

pub number_found : (n : ℤ) (w r : List ℕ) → FoundValue NumberAt n w r → FoundValue ScalarAt (value.Int n) w r
number_found n w r f = record {
  front = f.front;
  parts = f.parts;
  reads = λ u fits. ScalarAt.number n (f.reads u fits) refl;
  only = λ y u t fits h. let (k, g, is) = number_read n (f.front ++ u) u (f.reads u fits) y t h in let (p, q) = f.only k u t fits g in (is ∙ ap (λ v. value.Int v) p, q);
}

number_view : (b : ℕ) → BeginsNumber b → IsViewAt NumberAt ScalarAt (λ n. value.Int n) b
number_view b num = record {
  to = λ n u t h. ScalarAt.number n h refl;
  from = λ y m t h. number_only b y m t num (scalar_first y b m t h);
}

pub number_stop : (b : ℕ) (w after : List ℕ) (e : Stop) → w ≡ b ∷ after → BeginsNumber b → StoppedBy BeginsNoDigit NumberAt w e → StoppedBy BeginsNoDigit ScalarAt w e
number_stop b w after e is num h = stop_at NumberAt ScalarAt (λ n. value.Int n) b (number_view b num) BeginsNoDigit w after e is h

-- what is read whatever stands behind it
pub found_value : {X : Type 0} (R : X → List ℕ → List ℕ → Type 0) (x : X) (w r : List ℕ) → Found R x w r → FoundValue R x w r
found_value R x w r f = record { front = f.front; parts = f.parts; reads = λ u fits. f.reads u; only = λ y u t fits h. f.only y u t h }

pub begins_value : {X : Type 0} (R : X → List ℕ → List ℕ → Type 0) (w : List ℕ) → Begins Anything R w → Begins BeginsNoDigit R w
begins_value R w b = record { value = b.value; more = b.more; reads = λ t h. b.reads t tt }

pub stop_value : {X : Type 0} (R : X → List ℕ → List ℕ → Type 0) (w : List ℕ) (e : Stop) → Stopped R w e → StoppedBy BeginsNoDigit R w e
stop_value R w stop.Short s = record { begins = begins_value R w s.begins; none = s.none }
stop_value R w (stop.Bad left) s = record { front = s.front; byte = s.byte; rest = s.rest; parts = s.parts; count = s.count; begins = begins_value R s.front s.begins; dead = s.dead }
stop_value R w stop.NoMemory s = tt

is_minus : (b : ℕ) → (b == 45) ≡ true → b ≡ 45
is_minus b h = grind (arith, nat_tests)

no_digit_by : (b : ℕ) (minus : Bool) → (b == 45) ≡ minus → begins_number b ≡ false → is_digit b ≡ false
no_digit_by b true e h = absurd (false≢true (sym h ∙ ap (λ (v : Bool). v || is_digit b) e))
no_digit_by b false e h = sym (ap (λ (v : Bool). v || is_digit b) e) ∙ h

pub number_test : (b : ℕ) (minus : Bool) → (b == 45) ≡ minus → begins_number b ≡ true → BeginsNumber b
number_test b true e h = inl (is_minus b e)
number_test b false e h = inr (sym (ap (λ (v : Bool). v || is_digit b) e) ∙ h)

pub no_minus : (b : ℕ) → begins_number b ≡ false → b ≡ 45 → ⊥
no_minus b h e = grind (arith, nat_tests)

pub no_digit : (b : ℕ) → begins_number b ≡ false → is_digit b ≡ false
no_digit b h = no_digit_by b (b == 45) refl h

pub value_result : {X : Type 0} (R : X → List ℕ → List ℕ → Type 0) (w : List ℕ) (result : Result (X × Bor (List ℕ)) Stop) → MatchResult result (λ f. Found R f.0 w f.1.now) (λ e. Stopped R w e) → MatchResult result (λ f. FoundValue R f.0 w f.1.now) (λ e. StoppedBy BeginsNoDigit R w e)
value_result R w (Ok f) h = found_value R f.0 w f.1.now h
value_result R w (Err e) h = stop_value R w e h
