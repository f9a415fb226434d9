-- Characters of strings, and strings.
use Rattle.std.proofs.Common.{◌≡◌, ℕ, ◌<◌, ◌≤◌, Bool, true, false, Some, None, List, [], ◌∷◌, ◌++◌, length, refl, sym, ◌∙◌, ap, subst, inl, append_assoc, append-nil, arith}
use Rattle.std.proofs.lemmas.Bool.{false≢true}
use Rattle.std.proofs.lemmas.Bool.Decides.{nat_tests}
use Rattle.std.specs.Char.{encode_utf8}
use Rattle.std.specs.List.{concat}
use Rattle.msgpack_codec.specs.declared.stop.Stop.{Stop}
use Rattle.data_text.specs.Json.{CharAt, CodeAt, RunAt, StringAt, KeyAt, is_plain, short_escape}
use Rattle.data_text.specs.Reading.{Found, Begins, Fails, Stopped, Anything, Marked, EscapeAt, TokenAt}
use Rattle.data_text.proofs.Chains.{IsChain, IsView, IsBehind, found_both, stop_first, stop_second, found_view, stop_view, found_behind, stop_behind, one_byte, bad_byte}
use Rattle.data_text.proofs.Runs.{Behind, none_yet, one_more, last_part, stop_run}
use Rattle.data_text.proofs.Halves.{Then, chain_then}

pub none_some : {A : Type 0} (x : A) (B : Type 0) → None ≡ Some x → B
none_some x B e = absurd (cc)

pub escape_begins : Begins Anything EscapeAt []
escape_begins = record { value = 34 ∷ []; more = 34 ∷ []; reads = λ t h. EscapeAt.short 34 34 refl refl refl }

escape_code : (y m t : List ℕ) → EscapeAt y (117 ∷ m) t → (c : ℕ) × CodeAt c m t × (y ≡ encode_utf8 c)
escape_code y m t (EscapeAt.short b c e is bytes) = let head : b ≡ 117 = cc in none_some c _ (ap short_escape (sym head) ∙ is)
escape_code y m t (EscapeAt.code c k e h bytes) = let tail : k ≡ m = cc in (c, subst (λ v. CodeAt c v t) tail h, bytes)

code_behind : IsBehind CodeAt EscapeAt (λ c. encode_utf8 c) 117
code_behind = record { to = λ c u t h. EscapeAt.code c u refl h refl; from = λ y u t h. escape_code y u t h }

pub code_escape : (c : ℕ) (w rest r : List ℕ) → w ≡ 117 ∷ rest → Found CodeAt c rest r → Found EscapeAt (encode_utf8 c) w r
code_escape c w rest r e f = found_behind CodeAt EscapeAt (λ c. encode_utf8 c) 117 code_behind c w rest r e f

pub code_stops : (w rest : List ℕ) (e : Stop) → w ≡ 117 ∷ rest → Stopped CodeAt rest e → Stopped EscapeAt w e
code_stops w rest e is h = stop_behind CodeAt EscapeAt (λ c. encode_utf8 c) 117 code_behind Anything w rest e is h

escape_short : (b : ℕ) (y m t : List ℕ) → (b ≡ 117 → ⊥) → EscapeAt y (b ∷ m) t → (c : ℕ) × (short_escape b ≡ Some c) × (y ≡ c ∷ []) × (t ≡ m)
escape_short b y m t ne (EscapeAt.short k c e is bytes) = let head : k ≡ b = cc in let tail : t ≡ m = cc in (c, ap short_escape (sym head) ∙ is, bytes, tail)
escape_short b y m t ne (EscapeAt.code c k e h bytes) = let head : b ≡ 117 = cc in absurd (ne head)

some_is : (a b : ℕ) → Some a ≡ Some b → b ≡ a
some_is a b e = cc

pub short_found : (b c : ℕ) (w r : List ℕ) → w ≡ b ∷ r → (b ≡ 117 → ⊥) → short_escape b ≡ Some c → Found EscapeAt (c ∷ []) w r
short_found b c w r e ne is = one_byte EscapeAt (c ∷ []) b w r e (λ u. EscapeAt.short b c refl is refl)
    (λ y u t h. let (d, k, bytes, tail) = escape_short b y u t ne h in (bytes ∙ ap (λ v. v ∷ []) (some_is c d (sym is ∙ k)), tail))

pub short_bad : (b n : ℕ) (w r : List ℕ) → w ≡ b ∷ r → n ≡ length w → (b ≡ 117 → ⊥) → short_escape b ≡ None → Fails Anything EscapeAt w n
short_bad b n w r e count ne is = bad_byte Anything EscapeAt b n w r e count escape_begins (λ y u t h. let (d, k, bytes, tail) = escape_short b y u t ne h in none_some d ⊥ (sym is ∙ k))

-- a pair of equal parts
abbrev pair_of : {X : Type 0} → X → Bool → X × Bool
pair_of x b = (x, b)

pub pair_is : {X : Type 0} (a a1 : X) (b b1 : Bool) → a ≡ a1 → b ≡ b1 → ◌≡◌ {A = X × Bool} (a, b) (a1, b1)
pair_is {X} a a1 b b1 p q =
    let first : ◌≡◌ {A = X × Bool} (a, b) (a1, b) = ap (λ (v : X). pair_of v b) p in
    let second : ◌≡◌ {A = X × Bool} (a1, b) (a1, b1) = ap (λ (v : Bool). pair_of a1 v) q in
    first ∙ second

pub char_begins : Begins Anything (Marked CharAt) []
char_begins = record { value = ([], true); more = 34 ∷ []; reads = λ t h. CharAt.quote refl refl refl }

data First (bytes : List ℕ) (last : Bool) (b : ℕ) (m t : List ℕ) : Type 0 where
  plain : is_plain b ≡ true → m ≡ t → bytes ≡ b ∷ [] → last ≡ false → First bytes last b m t
  escape : b ≡ 92 → EscapeAt bytes m t → last ≡ false → First bytes last b m t
  quote : b ≡ 34 → m ≡ t → bytes ≡ [] → last ≡ true → First bytes last b m t

char_first : (bytes : List ℕ) (last : Bool) (b : ℕ) (m t : List ℕ) → CharAt bytes last (b ∷ m) t → First bytes last b m t
char_first bytes last b m t (CharAt.plain c p e is l) = let head : c ≡ b = cc in let tail : m ≡ t = cc in First.plain (ap is_plain (sym head) ∙ p) tail (is ∙ ap (λ v. v ∷ []) head) l
char_first bytes last b m t (CharAt.short k c e s is l) = let head : b ≡ 92 = cc in let tail : m ≡ k ∷ t = cc in First.escape head (EscapeAt.short k c tail s is) l
char_first bytes last b m t (CharAt.code c k e h is l) = let head : b ≡ 92 = cc in let tail : m ≡ 117 ∷ k = cc in First.escape head (EscapeAt.code c k tail h is) l
char_first bytes last b m t (CharAt.quote e is l) = let head : b ≡ 34 = cc in let tail : m ≡ t = cc in First.quote head tail is l

plain_low : (b : ℕ) → is_plain b ≡ true → 32 ≤ b
plain_low b h = grind (arith, nat_tests)

plain_of : (b : ℕ) → 32 ≤ b → (b ≡ 34 → ⊥) → (b ≡ 92 → ⊥) → is_plain b ≡ true
plain_of b low n1 n2 = grind (arith, nat_tests)

quote_only : (y : List ℕ × Bool) (u t : List ℕ) → First y.0 y.1 34 u t → (y ≡ ([], true)) × (t ≡ u)
quote_only y u t (First.plain p m is l) = absurd (false≢true p)
quote_only y u t (First.escape e h l) = absurd (omega arith)
quote_only y u t (First.quote e m is l) = (pair_is y.0 [] y.1 true is l, sym m)

pub quote_found : (w r : List ℕ) → w ≡ 34 ∷ r → Found (Marked CharAt) ([], true) w r
quote_found w r e = one_byte (Marked CharAt) ([], true) 34 w r e (λ u. CharAt.quote refl refl refl) (λ y u t h. quote_only y u t (char_first y.0 y.1 34 u t h))

plain_only : (b : ℕ) (y : List ℕ × Bool) (u t : List ℕ) → (b ≡ 34 → ⊥) → (b ≡ 92 → ⊥) → First y.0 y.1 b u t → (y ≡ (b ∷ [], false)) × (t ≡ u)
plain_only b y u t n1 n2 (First.plain p m is l) = (pair_is y.0 (b ∷ []) y.1 false is l, sym m)
plain_only b y u t n1 n2 (First.escape e h l) = absurd (n2 e)
plain_only b y u t n1 n2 (First.quote e m is l) = absurd (n1 e)

pub plain_found : (b : ℕ) (w r : List ℕ) → w ≡ b ∷ r → 32 ≤ b → (b ≡ 34 → ⊥) → (b ≡ 92 → ⊥) → Found (Marked CharAt) (b ∷ [], false) w r
plain_found b w r e low n1 n2 = one_byte (Marked CharAt) (b ∷ [], false) b w r e (λ u. CharAt.plain b (plain_of b low n1 n2) refl refl refl) (λ y u t h. plain_only b y u t n1 n2 (char_first y.0 y.1 b u t h))

control_dead : (b : ℕ) (bytes : List ℕ) (last : Bool) (u t : List ℕ) → b < 32 → First bytes last b u t → ⊥
control_dead b bytes last u t small (First.plain p m is l) = let low = plain_low b p in omega arith
control_dead b bytes last u t small (First.escape e h l) = omega arith
control_dead b bytes last u t small (First.quote e m is l) = omega arith

pub control_bad : (b n : ℕ) (w r : List ℕ) → w ≡ b ∷ r → n ≡ length w → b < 32 → Fails Anything (Marked CharAt) w n
control_bad b n w r e count small = bad_byte Anything (Marked CharAt) b n w r e count char_begins (λ y u t h. control_dead b y.0 y.1 u t small (char_first y.0 y.1 b u t h))

escape_first : (y : List ℕ × Bool) (m t : List ℕ) → First y.0 y.1 92 m t → EscapeAt y.0 m t × (y.1 ≡ false)
escape_first y m t (First.plain p k is l) = absurd (false≢true p)
escape_first y m t (First.escape e h l) = (h, l)
escape_first y m t (First.quote e k is l) = absurd (omega arith)

escape_char : (bytes m t : List ℕ) → EscapeAt bytes m t → CharAt bytes false (92 ∷ m) t
escape_char bytes m t (EscapeAt.short b c e s is) = CharAt.short b c (ap (λ v. 92 ∷ v) e) s is refl
escape_char bytes m t (EscapeAt.code c k e h is) = CharAt.code c k (ap (λ v. 92 ∷ v) e) h is refl

escape_behind : IsBehind EscapeAt (Marked CharAt) (λ piece. (piece, false)) 92
escape_behind = record {
  to = λ piece u t h. escape_char piece u t h;
  from = λ y u t h. let (k, l) = escape_first y u t (char_first y.0 y.1 92 u t h) in (y.0, k, pair_is y.0 y.0 y.1 false refl l);
}

pub escape_found : (piece w rest r : List ℕ) → w ≡ 92 ∷ rest → Found EscapeAt piece rest r → Found (Marked CharAt) (piece, false) w r
escape_found piece w rest r e f = found_behind EscapeAt (Marked CharAt) (λ piece. (piece, false)) 92 escape_behind piece w rest r e f

pub escape_stops : (w rest : List ℕ) (e : Stop) → w ≡ 92 ∷ rest → Stopped EscapeAt rest e → Stopped (Marked CharAt) w e
escape_stops w rest e is h = stop_behind EscapeAt (Marked CharAt) (λ piece. (piece, false)) 92 escape_behind Anything w rest e is h

-- strings
string_view : IsView (RunAt CharAt) StringAt (λ parts. concat parts)
string_view = record { to = λ parts u t h. (parts, h, refl); from = λ s u t h. h }

string_closing : (x : List ℕ) × (c : List ℕ) × ((t : List ℕ) → CharAt x true (c ++ t) t)
string_closing = ([], 34 ∷ [], λ t. CharAt.quote refl refl refl)

-- the text so far
pub record Text (text w r : List ℕ) : Type 0 where
  pub parts : List (List ℕ)
  pub behind : Behind CharAt parts w r
  pub text_is : text ≡ concat parts

pub no_text : (text w : List ℕ) → text ≡ [] → Text text w w
no_text text w e = record { parts = []; behind = none_yet CharAt w; text_is = e }

concat_more : (parts : List (List ℕ)) (piece : List ℕ) → concat (parts ++ piece ∷ []) ≡ concat parts ++ piece
concat_more [] piece = append-nil piece
concat_more (p ∷ parts) piece = ap (λ v. p ++ v) (concat_more parts piece) ∙ sym (append_assoc p (concat parts) piece)

pub text_more : (text new piece w r q : List ℕ) → Text text w r → Found (Marked CharAt) (piece, false) r q → new ≡ text ++ piece → Text new w q
text_more text new piece w r q s f e = record {
  parts = s.parts ++ piece ∷ [];
  behind = one_more CharAt s.parts piece w r q s.behind f;
  text_is = e ∙ ap (λ v. v ++ piece) s.text_is ∙ sym (concat_more s.parts piece);
}

pub text_last : (text new piece w r q : List ℕ) → Text text w r → Found (Marked CharAt) (piece, true) r q → new ≡ text ++ piece → Found StringAt new w q
text_last text new piece w r q s f e =
    subst (λ v. Found StringAt v w q) (sym (e ∙ ap (λ v. v ++ piece) s.text_is ∙ sym (concat_more s.parts piece)))
    (found_view (RunAt CharAt) StringAt (λ parts. concat parts) string_view (s.parts ++ piece ∷ []) w q (last_part CharAt s.parts piece w r q s.behind f))

pub text_stop : (text w r : List ℕ) (e : Stop) → Text text w r → Stopped (Marked CharAt) r e → Stopped StringAt w e
text_stop text w r e s h = stop_view (RunAt CharAt) StringAt (λ parts. concat parts) string_view Anything w e (stop_run CharAt string_closing s.parts w r s.behind e h)

-- keys
abbrev KeyEnd : List ℕ → List ℕ → List ℕ → List ℕ → Type 0
KeyEnd k y u t = TokenAt 58 tt u t × (y ≡ k)

abbrev KeyText : Unit {0} → List ℕ → List ℕ → List ℕ → Type 0
KeyText x = Then StringAt KeyEnd

end_view : (k : List ℕ) → IsView (TokenAt 58) (KeyEnd k) (λ x. k)
end_view k = record { to = λ x u t h. (h, refl); from = λ y u t (h, is). (tt, h, is) }

text_chain : (x : Unit {0}) → IsChain StringAt KeyEnd (KeyText x) (λ k y. y)
text_chain x = chain_then StringAt KeyEnd (λ k u m h. (k, 58 ∷ [], λ t. (refl, refl)))

some_text : (k : List ℕ) × (c : List ℕ) × ((t : List ℕ) → KeyText tt k (c ++ t) t)
some_text = ([], 34 ∷ (58 ∷ []), λ t. record { x = []; m = 58 ∷ t; first = ([] ∷ [], inl (refl, CharAt.quote refl refl refl), refl); second = (refl, refl) })

key_join : (k u m t : List ℕ) → TokenAt 34 tt u m → KeyText tt k m t → KeyAt k u t
key_join k u m t h rest = record {
  quoted = m;
  behind = rest.m;
  quote = h;
  key = subst (λ v. StringAt v m rest.m) (sym rest.second.1) rest.first;
  colon = rest.second.0;
}

key_chain : IsChain (TokenAt 34) KeyText KeyAt (λ x k. k)
key_chain = record {
  join = λ x k u m t h rest. key_join k u m t h rest;
  split = λ k u t h. (tt, k, h.quoted, h.quote, record { x = k; m = h.behind; first = h.key; second = (h.colon, refl) }, refl);
  filled = λ x u m h. some_text;
}

pub key_stop1 : (w : List ℕ) (e : Stop) → Stopped (TokenAt 34) w e → Stopped KeyAt w e
key_stop1 w e h = stop_first (TokenAt 34) KeyText KeyAt (λ x k. k) key_chain w e h

pub key_stop2 : (w r : List ℕ) (e : Stop) → Found (TokenAt 34) tt w r → Stopped StringAt r e → Stopped KeyAt w e
key_stop2 w r e f h = stop_second (TokenAt 34) KeyText KeyAt (λ x k. k) key_chain tt w r f e (stop_first StringAt KeyEnd (KeyText tt) (λ k y. y) (text_chain tt) r e h)

pub key_stop3 : (k w r q : List ℕ) (e : Stop) → Found (TokenAt 34) tt w r → Found StringAt k r q → Stopped (TokenAt 58) q e → Stopped KeyAt w e
key_stop3 k w r q e f g h =
    stop_second (TokenAt 34) KeyText KeyAt (λ x k. k) key_chain tt w r f e
    (stop_second StringAt KeyEnd (KeyText tt) (λ k y. y) (text_chain tt) k r q g e (stop_view (TokenAt 58) (KeyEnd k) (λ x. k) (end_view k) Anything q e h))

pub key_found : (k w r q z : List ℕ) → Found (TokenAt 34) tt w r → Found StringAt k r q → Found (TokenAt 58) tt q z → Found KeyAt k w z
key_found k w r q z f g h =
    found_both (TokenAt 34) KeyText KeyAt (λ x k. k) key_chain tt k w r z f
    (found_both StringAt KeyEnd (KeyText tt) (λ k y. y) (text_chain tt) k k r q z g (found_view (TokenAt 58) (KeyEnd k) (λ x. k) (end_view k) tt q z h))

pub escape_some : (y t : List ℕ) → EscapeAt y [] t → ⊥
escape_some y t (EscapeAt.short b c e is bytes) = omega (arith, ap length e)
escape_some y t (EscapeAt.code c k e h bytes) = omega (arith, ap length e)

pub char_some : (y : List ℕ × Bool) (t : List ℕ) → Marked CharAt y [] t → ⊥
char_some y t (CharAt.plain c p e is l) = omega (arith, ap length e)
char_some y t (CharAt.short k c e s is l) = omega (arith, ap length e)
char_some y t (CharAt.code c k e h is l) = omega (arith, ap length e)
char_some y t (CharAt.quote e is l) = omega (arith, ap length e)

pub marked : (piece : List ℕ) (last mark : Bool) → last ≡ mark → (w r : List ℕ) → Found (Marked CharAt) (piece, last) w r → Found (Marked CharAt) (piece, mark) w r
marked piece last mark e w r f = subst (λ (v : Bool). Found (Marked CharAt) (piece, v) w r) e f
