-- A head as a chain of its first byte and what follows it.
use Rattle.std.proofs.Common.{◌≡◌, ℕ, ◌<◌, ◌≤◌, Bool, true, false, if◌then◌else◌, List, [], ◌∷◌, ◌++◌, length, refl, sym, ◌∙◌, ap, subst, arith}
use Rattle.std.proofs.Common.{Result, MatchResult, Bor}
use Rattle.msgpack_codec.specs.declared.stop.Stop.{Stop}
use Rattle.msgpack_codec.specs.declared.stop.Stop.TheVariants as stop
use Rattle.msgpack_codec.specs.declared.heads.Head.{Head}
use Rattle.msgpack_codec.specs.declared.heads.Head.TheVariants as head
use Rattle.msgpack_codec.specs.declared.heads.Kind.{Kind}
use Rattle.msgpack_codec.specs.declared.heads.Form.{Form}
use Rattle.msgpack_codec.specs.declared.heads.Form.TheVariants as form
use Rattle.msgpack_codec.specs.Reading.{Found, Begins, Fails, Stopped, IsNumber}
use Rattle.msgpack_codec.specs.Heads.{HeadAt, is_fixed, head_with, Follows, form_of, is_nest_head, is_nest_kind, is_nest_form, can_stand, IsSoundForm}
use Rattle.msgpack_codec.proofs.Chains.{IsPrefixFree, IsChain, chain_free, chain_result}
use Rattle.msgpack_codec.proofs.Numbers.{number_free, some_number}
use Rattle.msgpack_codec.proofs.Forms.{head_split, head_from, nest_is, sound_form}

-- a first byte of a head
pub record IsFirst (nests : Bool) (byte : ℕ) (bytes : List ℕ) : Type 0 where
  pub is : bytes ≡ byte ∷ []
  pub small : byte < 256
  pub allowed : is_nest_form (form_of byte) ≡ true → nests ≡ true
  pub some_head : Head
  pub some_bytes : List ℕ
  pub follows : Follows (form_of byte) some_head some_bytes

first_free : (nests : Bool) → IsPrefixFree (IsFirst nests)
first_free nests = record {
  same = λ x y s t a b h1 h2 e.
      let one : (x ∷ []) ++ a ≡ (y ∷ []) ++ b = ap (λ k. k ++ a) (sym h1.is) ∙ e ∙ ap (λ k. k ++ b) h2.is in
      let heads : x ≡ y = cc in
      (heads, h1.is ∙ ap (λ k. k ∷ []) heads ∙ sym h2.is);
}

pub follows_free : (f : Form) → IsPrefixFree (Follows f)
follows_free (form.Refused) = record { same = λ x y s t a b h1 h2 e. absurd h1 }
follows_free (form.Whole g) = record { same = λ x y s t a b (h1, n1) (h2, n2) e. (h1 ∙ sym h2, n1 ∙ sym n2) }
follows_free (form.Counted k size low high) = record {
  same = λ x y s t a b (m, h1, e1) (n, h2, e2) e.
      let above : low ≤ m = h1.at_least in
      let below : m ≤ high = h1.at_most in
      let one = (number_free size 0 low high (omega arith)).same m n s t a b h1 h2 e in
      (e1 ∙ ap (head_with k) one.0 ∙ sym e2, one.1);
}
follows_free (form.ShortSymbol) = record {
  same = λ x y s t a b (m, u1, f1, e1, s1) (n, u2, f2, e2, s2) e.
      let one : (m ∷ []) ++ a ≡ (n ∷ []) ++ b = ap (λ k. k ++ a) (sym s1) ∙ e ∙ ap (λ k. k ++ b) s2 in
      let same : m ≡ n = cc in
      (e1 ∙ ap head.Sym same ∙ sym e2, s1 ∙ ap (λ k. k ∷ []) same ∙ sym s2);
}

pub head_chain : (nests : Bool) → IsChain (IsFirst nests) (λ b. Follows (form_of b)) (HeadAt nests) (λ b h. h)
head_chain nests = record {
  join = λ b h s t first follows.
      let whole = head_from b h t first.small follows in
      record {
        fits = whole.fits;
        allowed = λ e. first.allowed (nest_is (form_of b) h t follows ∙ e);
        bytes_are = ap (λ k. k ++ t) first.is ∙ sym whole.is;
      };
  split = λ h u at.
      let parts = head_split h at.fits in (
        parts.byte,
        h,
        parts.byte ∷ [],
        parts.rest,
        record { is = refl; small = parts.small; allowed = λ e. at.allowed (sym (nest_is (form_of parts.byte) h parts.rest parts.follows) ∙ e); some_head = h; some_bytes = parts.rest; follows = parts.follows },
        parts.follows,
        at.bytes_are ∙ parts.is,
        refl,
      );
  filled = λ b s first. (first.some_head, first.some_bytes, first.follows);
  free = first_free nests;
}

pub head_free : (nests : Bool) → IsPrefixFree (HeadAt nests)
head_free nests = chain_free (IsFirst nests) (λ b. Follows (form_of b)) (HeadAt nests) (λ b h. h) (head_chain nests) (λ b s h. follows_free (form_of b))

-- the same bytes under other names
pub stop_renamed : {X Z : Type 0} (L : X → List ℕ → Type 0) (C : Z → List ℕ → Type 0) (g : X → Z) → ((x : X) (s : List ℕ) → L x s → C (g x) s) → ((z : Z) (s : List ℕ) → C z s → (x : X) × L x s)
    → (w : List ℕ) (e : Stop) → Stopped L w e → Stopped C w e
stop_renamed L C g to back w stop.Short b = record { value = g b.value; next = b.next; more = b.more; spelled = to b.value (w ++ b.next ∷ b.more) b.spelled }
stop_renamed L C g to back w (stop.Bad left) b = record {
  front = b.front;
  byte = b.byte;
  rest = b.rest;
  parts = b.parts;
  count = b.count;
  begins = record { value = g b.begins.value; next = b.begins.next; more = b.begins.more; spelled = to b.begins.value (b.front ++ b.begins.next ∷ b.begins.more) b.begins.spelled };
  dead = λ z more h. let x = back z (b.front ++ b.byte ∷ more) h in b.dead x.0 more x.1;
}
stop_renamed L C g to back w stop.NoMemory b = tt

-- there is a head
pub begins_head : (nests : Bool) → Begins (HeadAt nests) []
begins_head nests = record { value = head.Nil; next = 0xc0; more = []; spelled = record { fits = tt; allowed = λ e. absurd (absurd_bool e); bytes_are = refl } }
  where
    absurd_bool : false ≡ true → ⊥
    absurd_bool e = cc

-- no head goes on from this first byte
pub bad_first : (nests : Bool) (byte : ℕ) (rest : List ℕ) → ((h : Head) (s : List ℕ) → Follows (form_of byte) h s → (is_nest_form (form_of byte) ≡ true → nests ≡ true) → ⊥) → Fails (HeadAt nests) (byte ∷ rest) (length (byte ∷ rest))
bad_first nests byte rest never = record {
  front = [];
  byte = byte;
  rest = rest;
  parts = refl;
  count = refl;
  begins = begins_head nests;
  dead = λ h more at.
      let parts = head_split h at.fits in
      let is : byte ∷ more ≡ parts.byte ∷ parts.rest = at.bytes_are ∙ parts.is in
      let same : byte ≡ parts.byte = cc in
      let follows : Follows (form_of byte) h parts.rest = subst (λ v. Follows (form_of v) h parts.rest) (sym same) parts.follows in
      never h parts.rest follows (λ e. at.allowed (sym (nest_is (form_of byte) h parts.rest follows) ∙ e));
}

-- what may follow a first byte
pub some_follows : (f : Form) → IsSoundForm f → (f ≡ form.Refused → ⊥) → (h : Head) × (s : List ℕ) × Follows f h s
some_follows (form.Refused) sound not = absurd (not refl)
some_follows (form.Whole g) sound not = (g, [], (refl, refl))
some_follows (form.Counted k size low high) sound not =
    let n = some_number size 0 low high sound.some sound.above (omega arith) in
    (head_with k n.0, n.1, (n.0, n.2, refl))
some_follows (form.ShortSymbol) sound not = (head.Sym 0, 0 ∷ [], (0, omega arith, refl, refl, refl))

pub found_first : (nests : Bool) (b : ℕ) (rest w : List ℕ) → w ≡ b ∷ rest → b < 256 → (is_nest_form (form_of b) ≡ true → nests ≡ true) → (form_of b ≡ form.Refused → ⊥) → Found (IsFirst nests) b w rest
found_first nests b rest w is small allowed not =
    let one = some_follows (form_of b) (sound_form b) not in
    record {
      spelling = b ∷ [];
      spelled = record { is = refl; small = small; allowed = allowed; some_head = one.0; some_bytes = one.1; follows = one.2 };
      parts = is;
    }

pub short_head : (nests : Bool) (w : List ℕ) → length w ≡ 0 → Begins (HeadAt nests) w
short_head nests [] h = begins_head nests
short_head nests (x ∷ w) h = absurd (omega arith)

pub short_short : (w : List ℕ) → length w ≡ 0 → Begins (Follows form.ShortSymbol) w
short_short [] h = record { value = head.Sym 0; next = 0; more = []; spelled = (0, omega arith, refl, refl, refl) }
short_short (x ∷ w) h = absurd (omega arith)

pub bad_short : (b : ℕ) (rest w : List ℕ) → w ≡ b ∷ rest → is_fixed b ≡ true → Fails (Follows form.ShortSymbol) w (length w)
bad_short b rest w is fixed = record {
  front = [];
  byte = b;
  rest = rest;
  parts = is;
  count = ap length is;
  begins = short_short [] refl;
  dead = λ h more (n, small, free, same, bytes). let e : b ≡ n = cc in let t : true ≡ false = sym fixed ∙ ap is_fixed e ∙ free in cc;
}

pub bad_head : (nests : Bool) (b : ℕ) (rest w : List ℕ) → w ≡ b ∷ rest → ((h : Head) (s : List ℕ) → Follows (form_of b) h s → (is_nest_form (form_of b) ≡ true → nests ≡ true) → ⊥) → Fails (HeadAt nests) w (length w)
bad_head nests b rest w is never = subst (λ v. Fails (HeadAt nests) v (length v)) (sym is) (bad_first nests b rest never)

can_nest : (t nests : Bool) → (if t then nests else true) ≡ true → t ≡ true → nests ≡ true
can_nest true nests h e = h
can_nest false nests h e = absurd (let f : false ≡ true = e in cc)

pub can_allowed : (f : Form) (nests : Bool) → can_stand f nests ≡ true → is_nest_form f ≡ true → nests ≡ true
can_allowed (form.Refused) nests h e = absurd (let f : false ≡ true = e in cc)
can_allowed (form.Whole g) nests h e = can_nest (is_nest_head g) nests h e
can_allowed (form.Counted k size low high) nests h e = can_nest (is_nest_kind k) nests h e
can_allowed (form.ShortSymbol) nests h e = absurd (let f : false ≡ true = e in cc)

pub can_used : (f : Form) (nests : Bool) → can_stand f nests ≡ true → f ≡ form.Refused → ⊥
can_used f nests h e = let t : false ≡ true = sym (ap (λ v. can_stand v nests) e) ∙ h in cc

not_nest : (t nests : Bool) → (if t then nests else true) ≡ false → (t ≡ true → nests ≡ true) → ⊥
not_nest true nests h allowed = let t : true ≡ false = sym (allowed refl) ∙ h in cc
not_nest false nests h allowed = let t : true ≡ false = h in cc

cannot_stand : (f : Form) (nests : Bool) → can_stand f nests ≡ false → (h : Head) (s : List ℕ) → Follows f h s → (is_nest_form f ≡ true → nests ≡ true) → ⊥
cannot_stand (form.Refused) nests c h s follows allowed = follows
cannot_stand (form.Whole g) nests c h s follows allowed = not_nest (is_nest_head g) nests c allowed
cannot_stand (form.Counted k size low high) nests c h s follows allowed = not_nest (is_nest_kind k) nests c allowed
cannot_stand (form.ShortSymbol) nests c h s follows allowed = let t : true ≡ false = c in cc

pub refused_head : (nests : Bool) (b : ℕ) (rest w : List ℕ) → w ≡ b ∷ rest → can_stand (form_of b) nests ≡ false → Fails (HeadAt nests) w (length w)
refused_head nests b rest w is c = bad_head nests b rest w is (cannot_stand (form_of b) nests c)

-- a head whose number is read
pub counted_stop : (k : Kind) (size low high : ℕ) (w : List ℕ) (e : Stop) → Stopped (IsNumber size 0 low high) w e → Stopped (Follows (form.Counted k size low high)) w e
counted_stop k size low high w e h =
    stop_renamed (IsNumber size 0 low high) (Follows (form.Counted k size low high)) (head_with k) (λ n s num. (n, num, refl)) (λ z s (n, num, same). (n, num)) w e h

pub counted_found : (k : Kind) (size low high n : ℕ) (w r : List ℕ) → Found (IsNumber size 0 low high) n w r → Found (Follows (form.Counted k size low high)) (head_with k n) w r
counted_found k size low high n w r h = record { spelling = h.spelling; spelled = (n, h.spelled, refl); parts = h.parts }

pub head_result : (nests : Bool) (b : ℕ) (rest w : List ℕ) → w ≡ b ∷ rest → b < 256 → can_stand (form_of b) nests ≡ true → (result : Result (Head × Bor (List ℕ)) Stop)
    → MatchResult result (λ r. Found (Follows (form_of b)) r.0 rest r.1.now) (λ e. Stopped (Follows (form_of b)) rest e)
    → MatchResult result (λ r. Found (HeadAt nests) r.0 w r.1.now) (λ e. Stopped (HeadAt nests) w e)
head_result nests b rest w is small can result h =
    chain_result (IsFirst nests) (λ b. Follows (form_of b)) (HeadAt nests) (head_chain nests) b w rest
    (found_first nests b rest w is small (can_allowed (form_of b) nests can) (can_used (form_of b) nests can)) result h
