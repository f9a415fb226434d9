-- Blanks in front of a part.
use Rattle.std.proofs.Common.{◌≡◌, ℕ, ◌<◌, List, [], ◌∷◌, ◌++◌, length, refl, sym, ◌∙◌, ap, subst, append_assoc, length-append, Bool, true, false, if◌then◌else◌, arith}
use Rattle.std.proofs.lemmas.Bool.Decides.{nat_tests}
use Rattle.msgpack_codec.specs.declared.stop.Stop.{Stop}
use Rattle.msgpack_codec.specs.declared.stop.Stop.TheVariants as stop
use Rattle.data_text.specs.Json.{is_blank, behind_blanks, DelimiterAt}
use Rattle.data_text.specs.Reading.{Found, Begins, Fails, Shorts, Stopped, Anything, TokenAt}

-- the blanks in front are those of both lists, or a byte that is none stands among these
pub data Front (w : List ℕ) : Type 0 where
  all_blank : ((u : List ℕ) → behind_blanks (w ++ u) ≡ behind_blanks u) → Front w
  stops : (c : ℕ) (k : List ℕ) → is_blank c ≡ false → ((u : List ℕ) → behind_blanks (w ++ u) ≡ c ∷ (k ++ u)) → Front w

front_step : (b : ℕ) (w : List ℕ) → Front w → (blank : Bool) → is_blank b ≡ blank → Front (b ∷ w)
front_step b w (all_blank all) true e = all_blank (λ u. ap (λ (v : Bool). if v then behind_blanks (w ++ u) else b ∷ (w ++ u)) e ∙ all u)
front_step b w (stops c k n is) true e = stops c k n (λ u. ap (λ (v : Bool). if v then behind_blanks (w ++ u) else b ∷ (w ++ u)) e ∙ is u)
front_step b w front false e = stops b w e (λ u. ap (λ (v : Bool). if v then behind_blanks (w ++ u) else b ∷ (w ++ u)) e)

pub front_of : (w : List ℕ) → Front w
front_of [] = all_blank (λ u. refl)
front_of (b ∷ w) = front_step b w (front_of w) (is_blank b) refl

pub blank_step : (b : ℕ) (bytes : List ℕ) → is_blank b ≡ true → behind_blanks (b ∷ bytes) ≡ behind_blanks bytes
blank_step b bytes e = ap (λ (v : Bool). if v then behind_blanks bytes else b ∷ bytes) e

pub no_blank : (b : ℕ) (bytes : List ℕ) → is_blank b ≡ false → behind_blanks (b ∷ bytes) ≡ b ∷ bytes
no_blank b bytes e = ap (λ (v : Bool). if v then behind_blanks bytes else b ∷ bytes) e

-- the bytes are blanks, and what stands behind them
pub record Skips (bytes rest : List ℕ) : Type 0 where
  pub blanks : List ℕ
  pub parts : bytes ≡ blanks ++ rest
  pub all : (u : List ℕ) → behind_blanks (blanks ++ u) ≡ behind_blanks u
  pub tight : behind_blanks rest ≡ rest

skips_step : (b : ℕ) (bytes : List ℕ) → Skips bytes (behind_blanks bytes) → (blank : Bool) → is_blank b ≡ blank → Skips (b ∷ bytes) (behind_blanks (b ∷ bytes))
skips_step b bytes s true e = subst (λ r. Skips (b ∷ bytes) r) (sym (blank_step b bytes e)) (record {
  blanks = b ∷ s.blanks;
  parts = ap (λ r. b ∷ r) s.parts;
  all = λ u. blank_step b (s.blanks ++ u) e ∙ s.all u;
  tight = s.tight;
})
skips_step b bytes s false e = subst (λ r. Skips (b ∷ bytes) r) (sym (no_blank b bytes e)) (record { blanks = []; parts = refl; all = λ u. refl; tight = no_blank b bytes e })

pub skips : (bytes : List ℕ) → Skips bytes (behind_blanks bytes)
skips [] = record { blanks = []; parts = refl; all = λ u. refl; tight = refl }
skips (b ∷ bytes) = skips_step b bytes (skips bytes) (is_blank b) refl

-- blanks in front make no difference
abbrev pub IsBlind : {X : Type 0} → (X → List ℕ → List ℕ → Type 0) → Type 0
IsBlind {X} R = (x : X) (u v t : List ℕ) → behind_blanks u ≡ behind_blanks v → R x u t → R x v t

module _ {X : Type 0} (R : X → List ℕ → List ℕ → Type 0) (blind : IsBlind R) where
  with_blanks : (a : List ℕ) → ((u : List ℕ) → behind_blanks (a ++ u) ≡ behind_blanks u) → (x : X) (v u t : List ℕ) → R x (v ++ u) t → R x ((a ++ v) ++ u) t
  with_blanks a all x v u t h = subst (λ k. R x k t) (sym (append_assoc a v u)) (blind x (v ++ u) (a ++ (v ++ u)) t (sym (all (v ++ u))) h)

  without_blanks : (a : List ℕ) → ((u : List ℕ) → behind_blanks (a ++ u) ≡ behind_blanks u) → (x : X) (v u t : List ℕ) → R x ((a ++ v) ++ u) t → R x (v ++ u) t
  without_blanks a all x v u t h = blind x (a ++ (v ++ u)) (v ++ u) t (all (v ++ u)) (subst (λ k. R x k t) (append_assoc a v u) h)

  pub found_skipped : (x : X) (w rest r : List ℕ) → Skips w rest → Found R x rest r → Found R x w r
  found_skipped x w rest r s f = record {
    front = s.blanks ++ f.front;
    parts = s.parts ∙ ap (λ k. s.blanks ++ k) f.parts ∙ sym (append_assoc s.blanks f.front r);
    reads = λ u. with_blanks s.blanks s.all x f.front u u (f.reads u);
    only = λ y u t h. f.only y u t (without_blanks s.blanks s.all y f.front u t h);
  }

  begins_skipped : (a v : List ℕ) → ((u : List ℕ) → behind_blanks (a ++ u) ≡ behind_blanks u) → Begins Anything R v → Begins Anything R (a ++ v)
  begins_skipped a v all b = record { value = b.value; more = b.more; reads = λ t h. with_blanks a all b.value v (b.more ++ t) t (b.reads t h) }

  pub stop_skipped : (w rest : List ℕ) → Skips w rest → (e : Stop) → Stopped R rest e → Stopped R w e
  stop_skipped w rest s stop.Short b = subst (Shorts Anything R) (sym s.parts) (record {
    begins = begins_skipped s.blanks rest s.all b.begins;
    none = λ y t h. b.none y t (blind y (s.blanks ++ rest) rest t (s.all rest) h);
  })
  stop_skipped w rest s (stop.Bad left) b = record {
    front = s.blanks ++ b.front;
    byte = b.byte;
    rest = b.rest;
    parts = s.parts ∙ ap (λ k. s.blanks ++ k) b.parts ∙ sym (append_assoc s.blanks b.front (b.byte ∷ b.rest));
    count = b.count;
    begins = begins_skipped s.blanks b.front s.all b.begins;
    dead = λ y u t h. b.dead y u t (without_blanks s.blanks s.all y b.front (b.byte ∷ u) t h);
  }
  stop_skipped w rest s stop.NoMemory b = tt

token_blind : (byte : ℕ) → IsBlind (TokenAt byte)
token_blind byte = λ x u v t e h. sym e ∙ h

delimiter_blind : (close : ℕ) → IsBlind (DelimiterAt close)
delimiter_blind close = λ x u v t e h. sym e ∙ h

cons_first : (b c : ℕ) (u t : List ℕ) → b ∷ u ≡ c ∷ t → b ≡ c
cons_first b c u t e = cc

cons_rest : (b c : ℕ) (u t : List ℕ) → b ∷ u ≡ c ∷ t → t ≡ u
cons_rest b c u t e = cc

-- the token's byte
pub token_found : (byte : ℕ) → is_blank byte ≡ false → (w after : List ℕ) → behind_blanks w ≡ byte ∷ after → Found (TokenAt byte) tt w after
token_found byte n w after e = found_skipped (TokenAt byte) (token_blind byte) tt w (byte ∷ after) after (subst (Skips w) e (skips w)) (record {
  front = byte ∷ [];
  parts = refl;
  reads = λ u. no_blank byte u n;
  only = λ y u t h. (refl, cons_rest byte byte u t (sym (no_blank byte u n) ∙ h));
})

nil_cons : (b : ℕ) (t : List ℕ) → [] ≡ b ∷ t → ⊥
nil_cons b t e = absurd (cc)

pub token_short : (byte : ℕ) → is_blank byte ≡ false → (w : List ℕ) → behind_blanks w ≡ [] → Shorts Anything (TokenAt byte) w
token_short byte n w e = stop_skipped (TokenAt byte) (token_blind byte) w [] (subst (Skips w) e (skips w)) stop.Short (record { begins = record { value = tt; more = byte ∷ []; reads = λ t h. no_blank byte t n }; none = λ y t h. nil_cons byte t h })

longer : (c : ℕ) (after : List ℕ) → Skips after (behind_blanks after) → behind_blanks after ≡ c ∷ after → ⊥
longer c after s k = omega (arith, ap length s.parts, ap length k, length-append s.blanks (behind_blanks after))

first_blank : (c : ℕ) (after : List ℕ) (blank : Bool) → is_blank c ≡ blank → behind_blanks (c ∷ after) ≡ c ∷ after → is_blank c ≡ false
first_blank c after false e h = e
first_blank c after true e h = absurd (longer c after (skips after) (sym (blank_step c after e) ∙ h))

-- what stands behind the blanks is none
pub tight_first : (c : ℕ) (after : List ℕ) → behind_blanks (c ∷ after) ≡ c ∷ after → is_blank c ≡ false
tight_first c after h = first_blank c after (is_blank c) refl h

pub token_bad : (byte : ℕ) → is_blank byte ≡ false → (c n : ℕ) (w after : List ℕ) → behind_blanks w ≡ c ∷ after → n ≡ length (c ∷ after) → (c ≡ byte → ⊥) → Fails Anything (TokenAt byte) w n
token_bad byte b c n w after e count ne =
    let s : Skips w (c ∷ after) = subst (Skips w) e (skips w) in
    let k : is_blank c ≡ false = tight_first c after s.tight in
    stop_skipped (TokenAt byte) (token_blind byte) w (c ∷ after) s (stop.Bad n) (record {
      front = [];
      byte = c;
      rest = after;
      parts = refl;
      count = count;
      begins = record { value = tt; more = byte ∷ []; reads = λ t h. no_blank byte t b };
      dead = λ y u t h. ne (cons_first c byte u t (sym (no_blank c u k) ∙ h));
    })

-- a comma, or the closing byte
delimiter_only : (close b : ℕ) (last : Bool) (y : Bool) (u t : List ℕ) → (close ≡ 44 → ⊥) → b ≡ (if last then close else 44) → b ∷ u ≡ (if y then close else 44) ∷ t → (y ≡ last) × (t ≡ u)
delimiter_only close b true true u t ne is e = (refl, cons_rest b close u t e)
delimiter_only close b false false u t ne is e = (refl, cons_rest b 44 u t e)
delimiter_only close b true false u t ne is e = absurd (ne (sym is ∙ cons_first b 44 u t e))
delimiter_only close b false true u t ne is e = absurd (ne (sym (cons_first b close u t e) ∙ is))

delimiter_dead : (close c : ℕ) (y : Bool) (u t : List ℕ) → (c ≡ close → ⊥) → (c ≡ 44 → ⊥) → c ∷ u ≡ (if y then close else 44) ∷ t → ⊥
delimiter_dead close c true u t n m e = n (cons_first c close u t e)
delimiter_dead close c false u t n m e = m (cons_first c 44 u t e)

pub delimiter_found : (close b : ℕ) (last : Bool) → is_blank b ≡ false → (close ≡ 44 → ⊥) → b ≡ (if last then close else 44) → (w after : List ℕ) → behind_blanks w ≡ b ∷ after → Found (DelimiterAt close) last w after
delimiter_found close b last n ne is w after e = found_skipped (DelimiterAt close) (delimiter_blind close) last w (b ∷ after) after (subst (Skips w) e (skips w)) (record {
  front = b ∷ [];
  parts = refl;
  reads = λ u. no_blank b u n ∙ ap (λ k. k ∷ u) is;
  only = λ y u t h. delimiter_only close b last y u t ne is (sym (no_blank b u n) ∙ h);
})

delimiter_begins : (close : ℕ) → is_blank close ≡ false → Begins Anything (DelimiterAt close) []
delimiter_begins close n = record { value = true; more = close ∷ []; reads = λ t h. no_blank close t n }

pub delimiter_short : (close : ℕ) → is_blank close ≡ false → (w : List ℕ) → behind_blanks w ≡ [] → Shorts Anything (DelimiterAt close) w
delimiter_short close n w e = stop_skipped (DelimiterAt close) (delimiter_blind close) w [] (subst (Skips w) e (skips w)) stop.Short (record { begins = delimiter_begins close n; none = λ y t h. nil_cons _ t h })

pub delimiter_bad : (close : ℕ) → is_blank close ≡ false → (c n : ℕ) (w after : List ℕ) → behind_blanks w ≡ c ∷ after → n ≡ length (c ∷ after) → (c ≡ close → ⊥) → (c ≡ 44 → ⊥) → Fails Anything (DelimiterAt close) w n
delimiter_bad close b c n w after e count ne1 ne2 =
    let s : Skips w (c ∷ after) = subst (Skips w) e (skips w) in
    let k : is_blank c ≡ false = tight_first c after s.tight in
    stop_skipped (DelimiterAt close) (delimiter_blind close) w (c ∷ after) s (stop.Bad n) (record {
      front = [];
      byte = c;
      rest = after;
      parts = refl;
      count = count;
      begins = delimiter_begins close b;
      dead = λ y u t h. delimiter_dead close c y u t ne1 ne2 (sym (no_blank c u k) ∙ h);
    })

pub not_blank : (b : ℕ) → 32 < b → is_blank b ≡ false
not_blank b h = grind (arith, nat_tests)

pub no_bytes : (xs : List ℕ) → length xs ≡ 0 → xs ≡ []
no_bytes [] h = refl
no_bytes (x ∷ xs) h = absurd (omega arith)
