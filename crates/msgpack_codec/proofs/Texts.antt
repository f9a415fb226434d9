-- Texts and symbols.
use Rattle.std.proofs.Common.{◌≡◌, ℕ, zero, suc, ◌-◌, ◌<◌, List, [], ◌∷◌, ◌++◌, length, get_or, refl, sym, ◌∙◌, ap, arith, length-append, Fits, w8}
use Rattle.msgpack_codec.specs.declared.stop.Stop.{Stop}
use Rattle.msgpack_codec.specs.declared.value.Value.{Value}
use Rattle.msgpack_codec.specs.declared.value.Value.TheVariants as value
use Rattle.msgpack_codec.specs.declared.heads.Head.TheVariants as head
use Rattle.msgpack_codec.specs.Message.{IsBytes}
use Rattle.msgpack_codec.specs.Reading.{Found, Begins, Fails, Stopped}
use Rattle.msgpack_codec.specs.Values.{ScalarAt, AreBytes}
use Rattle.msgpack_codec.proofs.Chains.{IsChain, stop_second}
use Rattle.msgpack_codec.proofs.Firsts.{stop_renamed}

-- a byte at each index, and each byte
pub bytes_from : (w : List ℕ) → ((i : ℕ) → Fits w8 (get_or w i 0)) → IsBytes w
bytes_from [] h = tt
bytes_from (x ∷ w) h = (let k : Fits w8 x = h 0 in omega arith, bytes_from w (λ i. h (suc i)))

pub bytes_append : (s t : List ℕ) → IsBytes s → IsBytes t → IsBytes (s ++ t)
bytes_append [] t h k = k
bytes_append (x ∷ s) t (h, hs) k = (h, bytes_append s t hs k)

pub bytes_front : (s t : List ℕ) → IsBytes (s ++ t) → IsBytes s
bytes_front [] t h = tt
bytes_front (x ∷ s) t (h, hs) = (h, bytes_front s t hs)

pub bytes_back : (s t : List ℕ) → IsBytes (s ++ t) → IsBytes t
bytes_back [] t h = h
bytes_back (x ∷ s) t (h, hs) = bytes_back s t hs

pub zeros : ℕ → List ℕ
zeros zero = []
zeros (suc n) = 0 ∷ zeros n

pub length-zeros : (n : ℕ) → length (zeros n) ≡ n
unfolding zeros
length-zeros zero = refl
length-zeros (suc n) = ap suc (length-zeros n)

pub zeros_small : (n : ℕ) → IsBytes (zeros n)
unfolding zeros
zeros_small zero = tt
zeros_small (suc n) = (omega arith, zeros_small n)

-- fewer bytes than are wanted
pub short_text : (n : ℕ) (w : List ℕ) → length w < n → IsBytes w → Begins (AreBytes n) w
short_text n w less small =
    let m = zeros (n - length w - 1) in
    record {
      value = w ++ 0 ∷ zeros (n - length w - 1);
      next = 0;
      more = zeros (n - length w - 1);
      spelled = record {
        count = omega (arith, length-append w (0 ∷ zeros (n - length w - 1)), length-zeros (n - length w - 1));
        small = bytes_append w (0 ∷ zeros (n - length w - 1)) small (omega arith, zeros_small (n - length w - 1));
        bytes_are = refl;
      };
    }

pub whole_text : (n : ℕ) (w front rest : List ℕ) → w ≡ front ++ rest → length front ≡ n → IsBytes front → Found (AreBytes n) front w rest
whole_text n w front rest parts count small = record { spelling = front; spelled = record { count = count; small = small; bytes_are = refl }; parts = parts }

pub str_stop : (n : ℕ) (w : List ℕ) (e : Stop) → Stopped (AreBytes n) w e → Stopped (ScalarAt (head.Str n)) w e
str_stop n w e h = stop_renamed (AreBytes n) (ScalarAt (head.Str n)) value.Str (λ t s at. (t, at, refl)) (λ v s (t, at, is). (t, at)) w e h

pub str_found : (n : ℕ) (t w rest : List ℕ) → Found (AreBytes n) t w rest → Found (ScalarAt (head.Str n)) (value.Str t) w rest
str_found n t w rest h = record { spelling = h.spelling; spelled = (t, h.spelled, refl); parts = h.parts }

-- the type of a symbol, and then its name
IsType : ℕ → List ℕ → Type 0
IsType b s = (s ≡ 0 ∷ []) × (b ≡ 0)

IsNameOf : ℕ → ℕ → Value → List ℕ → Type 0
IsNameOf n b v s = (t : List ℕ) × AreBytes n t s × (v ≡ value.Sym t)

type_chain : (n : ℕ) → IsChain IsType (IsNameOf n) (ScalarAt (head.Sym n)) (λ b v. v)
unfolding IsType IsNameOf
type_chain n = record {
  join = λ b v s t (h, none) (text, at, is). (text, t, at, is, ap (λ k. k ++ t) h);
  split = λ v u (text, rest, at, is, parts). (0, v, 0 ∷ [], rest, (refl, refl), (text, at, is), parts, refl);
  filled = λ b s h. (value.Sym (zeros n), zeros n, (zeros n, record { count = length-zeros n; small = zeros_small n; bytes_are = refl }, refl));
  free = record { same = λ x y s t a b (h, none) (k, none2) e. (none ∙ sym none2, h ∙ sym k) };
}

type_found : (w rest : List ℕ) → w ≡ 0 ∷ rest → Found IsType 0 w rest
unfolding IsType
type_found w rest is = record { spelling = 0 ∷ []; spelled = (refl, refl); parts = is }

pub sym_stop : (n : ℕ) (w rest : List ℕ) → w ≡ 0 ∷ rest → (e : Stop) → Stopped (AreBytes n) rest e → Stopped (ScalarAt (head.Sym n)) w e
unfolding IsNameOf
sym_stop n w rest is e h =
    stop_second IsType (IsNameOf n) (ScalarAt (head.Sym n)) (λ b v. v) (type_chain n) 0 w rest (type_found w rest is) e
    (stop_renamed (AreBytes n) (IsNameOf n 0) value.Sym (λ t s at. (t, at, refl)) (λ v s (t, at, is). (t, at)) rest e h)

pub sym_found : (n : ℕ) (t w rest r : List ℕ) → w ≡ 0 ∷ rest → Found (AreBytes n) t rest r → Found (ScalarAt (head.Sym n)) (value.Sym t) w r
sym_found n t w rest r is h = record {
  spelling = 0 ∷ h.spelling;
  spelled = (t, h.spelling, h.spelled, refl, refl);
  parts = is ∙ ap (λ k. 0 ∷ k) h.parts;
}

begins_sym : (n : ℕ) → Begins (ScalarAt (head.Sym n)) []
begins_sym n = record { value = value.Sym (zeros n); next = 0; more = zeros n; spelled = (zeros n, zeros n, record { count = length-zeros n; small = zeros_small n; bytes_are = refl }, refl, refl) }

pub short_sym : (n : ℕ) (w : List ℕ) → length w ≡ 0 → Begins (ScalarAt (head.Sym n)) w
short_sym n [] h = begins_sym n
short_sym n (x ∷ w) h = absurd (omega arith)

pub bad_sym : (n b : ℕ) (rest w : List ℕ) → w ≡ b ∷ rest → (b ≡ 0 → ⊥) → Fails (ScalarAt (head.Sym n)) w (length w)
bad_sym n b rest w is other = record {
  front = [];
  byte = b;
  rest = rest;
  parts = is;
  count = ap length is;
  begins = begins_sym n;
  dead = λ v more (text, r, at, same, parts). other (let e : b ≡ 0 = cc in e);
}
