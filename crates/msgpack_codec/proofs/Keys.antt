-- Which bytes begin a key that is not used.
use Rattle.std.proofs.Common.{◌≡◌, ℕ, zero, suc, ◌+◌, ◌-◌, ◌^◌, ◌<◌, ◌≤◌, Bool, true, false, ℤ, List, [], ◌∷◌, ◌++◌, length, refl, sym, ◌∙◌, ap, subst, arith, append_assoc, append-nil, length-append, MatchBool, inl, inr, cond, nat_le, take}
use Rattle.std.proofs.Math.Seq.{take-append_seam, take-length}
use Rattle.std.proofs.lemmas.Bool.{cases_lt}
use Rattle.std.proofs.lemmas.List.{length-take-le}
use Rattle.std.proofs.lemmas.Bool.Decides.{nat_tests}
use Rattle.msgpack_codec.specs.declared.value.Value.{Value}
use Rattle.msgpack_codec.specs.declared.value.Value.TheVariants as value
use Rattle.msgpack_codec.specs.declared.heads.Head.{Head}
use Rattle.msgpack_codec.specs.declared.heads.Head.TheVariants as head
use Rattle.msgpack_codec.specs.declared.heads.Form.{Form}
use Rattle.msgpack_codec.specs.declared.heads.Form.TheVariants as form
use Rattle.msgpack_codec.specs.declared.live.Missing.{Missing}
use Rattle.msgpack_codec.specs.declared.live.Missing.TheVariants as missing
use Rattle.msgpack_codec.specs.Message.{IsBytes}
use Rattle.msgpack_codec.specs.Reading.{Found, Begins, Fails}
use Rattle.msgpack_codec.specs.Heads.{HeadAt, Follows, form_of, IsSoundForm}
use Rattle.msgpack_codec.specs.Values.{IsSpelledScalar, ScalarAt, KeyAt, is_in, IsLive, IsFree, IsFreeBody, IsMissing, missing_of, StopsKey}
use Rattle.msgpack_codec.proofs.Chains.{cancel, no_front, fronts}
use Rattle.msgpack_codec.proofs.Firsts.{head_free}
use Rattle.msgpack_codec.proofs.Forms.{head_split, sound_form}
use Rattle.msgpack_codec.proofs.Bodies.{scalar_chain, scalar_free, fresh}
use Rattle.msgpack_codec.proofs.Fresh.{live_room, digits_small, length-digits}
use Rattle.msgpack_codec.proofs.Texts.{bytes_append, bytes_back, zeros, length-zeros, zeros_small}

pub empty : (w : List ℕ) → length w ≡ 0 → w ≡ []
empty [] h = refl
empty (x ∷ w) h = absurd (omega arith)

-- heads are bytes, and at most nine
follows_small : (f : Form) (h : Head) (s : List ℕ) → Follows f h s → IsBytes s
follows_small (form.Refused) h s r = absurd r
follows_small (form.Whole g) h s (same, none) = subst IsBytes (sym none) tt
follows_small (form.Counted k size low high) h s (n, num, same) = subst IsBytes (sym num.bytes_are) (digits_small size n)
follows_small (form.ShortSymbol) h s (n, small, free, same, is) = subst IsBytes (sym is) (small, tt)

follows_few : (f : Form) (h : Head) (s : List ℕ) → IsSoundForm f → Follows f h s → length s ≤ 8
follows_few (form.Refused) h s sound r = absurd r
follows_few (form.Whole g) h s sound (same, none) = let e : length s ≡ 0 = ap length none in omega arith
follows_few (form.Counted k size low high) h s sound (n, num, same) =
    let e : length s ≡ size = ap length num.bytes_are ∙ length-digits size n in
    let le : size ≤ 8 = sound.size_fits in
    omega arith
follows_few (form.ShortSymbol) h s sound (n, small, free, same, is) = let e : length s ≡ 1 = ap length is in omega arith

head_small : (nests : Bool) (h : Head) (s : List ℕ) → HeadAt nests h s → IsBytes s
head_small nests h s at =
    let parts = head_split h at.fits in
    subst IsBytes (sym (at.bytes_are ∙ parts.is)) (parts.small, follows_small (form_of parts.byte) h parts.rest parts.follows)

head_few : (nests : Bool) (h : Head) (s : List ℕ) → HeadAt nests h s → length s ≤ 9
head_few nests h s at =
    let parts = head_split h at.fits in
    let e : length s ≡ suc (length parts.rest) = ap length (at.bytes_are ∙ parts.is) in
    let le : length parts.rest ≤ 8 = follows_few (form_of parts.byte) h parts.rest (sound_form parts.byte) parts.follows in
    omega arith

-- what begins a head is shorter than nine bytes
pub begins_few : (nests : Bool) (w : List ℕ) → Begins (HeadAt nests) w → length w < 9
begins_few nests w b =
    let le : length (w ++ b.next ∷ b.more) ≤ 9 = head_few nests b.value (w ++ b.next ∷ b.more) b.spelled in
    omega (arith, length-append w (b.next ∷ b.more))

body_small : (h : Head) (v : Value) (s : List ℕ) → ScalarAt h v s → IsBytes s
body_small (head.Nil) v s (e, none) = subst IsBytes (sym none) tt
body_small (head.Bool b) v s (e, none) = subst IsBytes (sym none) tt
body_small (head.Int n) v s (e, none) = subst IsBytes (sym none) tt
body_small (head.Str n) v s (text, at, e) = subst IsBytes (sym at.bytes_are) at.small
body_small (head.Sym n) v s (text, rest, at, e, parts) = subst IsBytes (sym parts) (omega arith, subst IsBytes (sym at.bytes_are) at.small)
body_small (head.List n) v s h = absurd h
body_small (head.Map n) v s h = absurd h

pub scalar_small : (v : Value) (s : List ℕ) → IsSpelledScalar v s → IsBytes s
scalar_small v s is =
    let (h, w, front, rest, at, body, parts, same) = scalar_chain.split v s is in
    subst IsBytes (sym parts) (bytes_append front rest (head_small false h front at) (body_small h w rest body))

pub key_scalar : (used : List (List ℕ)) (k : Value) (s : List ℕ) → KeyAt used k s → IsSpelledScalar k s
key_scalar used k s at = record { fits = at.fits; bytes_are = at.bytes_are }

-- bytes that are one more
pub longer_live : (used : List (List ℕ)) (w : List ℕ) (b : ℕ) → IsLive used (w ++ b ∷ []) → IsLive used w
longer_live used w b live = record { key = live.key; more = b ∷ live.more; at = subst (KeyAt used live.key) (append_assoc w (b ∷ []) live.more) live.at }

live_longer : (used : List (List ℕ)) (w : List ℕ) (k : Value) (more : List ℕ) → (more ≡ [] → ⊥) → KeyAt used k (w ++ more) → (b : ℕ) × (b < 256) × IsLive used (w ++ b ∷ [])
live_longer used w k [] some at = absurd (some refl)
live_longer used w k (b ∷ more) some at = (
  b,
  (bytes_back w (b ∷ more) (scalar_small k (w ++ b ∷ more) (key_scalar used k (w ++ b ∷ more) at))).0,
  record { key = k; more = more; at = subst (KeyAt used k) (sym (append_assoc w (b ∷ []) more)) at },
)

-- none of the bytes that may follow leads to a key
pub none_longer : (used : List (List ℕ)) (w : List ℕ) → ((k : Value) → KeyAt used k (w ++ []) → ⊥) → ((b : ℕ) → b < 256 → IsLive used (w ++ b ∷ []) → ⊥) → IsLive used w → ⊥
none_longer used w not_whole none live =
    let (b, small, longer) = live_longer used w live.key live.more (λ e. not_whole live.key (subst (λ m. KeyAt used live.key (w ++ m)) e live.at)) live.at in
    none b small longer

-- what begins a head is no scalar
pub head_unfinished : (w : List ℕ) → Begins (HeadAt false) w → (v : Value) → IsSpelledScalar v (w ++ []) → ⊥
head_unfinished w b v is =
    let (h, u, front, rest, at, body, parts, same) = scalar_chain.split v (w ++ []) is in
    no_front (HeadAt false) (head_free false) h front rest at (subst (Begins (HeadAt false)) (sym (append-nil w) ∙ parts) b)

-- where no head goes on, no key does
pub no_head : (used : List (List ℕ)) (w : List ℕ) (left : ℕ) → Fails (HeadAt false) w left → IsLive used w → ⊥
no_head used w left b live =
    let is = key_scalar used live.key (w ++ live.more) live.at in
    let (h, u, front, rest, at, body, parts, same) = scalar_chain.split live.key (w ++ live.more) is in
    let whole : b.front ++ b.byte ∷ (b.rest ++ live.more) ≡ front ++ rest = sym (append_assoc b.front (b.byte ∷ b.rest) live.more) ∙ ap (λ v. v ++ live.more) (sym b.parts) ∙ parts in
    elim (fronts b.front (b.byte ∷ (b.rest ++ live.more)) front rest whole) [
      | inl (e, p, q) ↦ no_front (HeadAt false) (head_free false) h front e at (subst (Begins (HeadAt false)) p b.begins)
      | inr ([], p, q) ↦ no_front (HeadAt false) (head_free false) h front [] at (subst (Begins (HeadAt false)) (sym (append-nil front ∙ p ∙ append-nil b.front)) b.begins)
      | inr (x ∷ e, p, q) ↦ b.dead h e (subst (HeadAt false h) (p ∙ ap (λ v. b.front ++ v ∷ e) (cc)) at)
    ]

-- where one byte alone may follow
pub one_byte : (used : List (List ℕ)) (w longer : List ℕ) (found : Bool) → longer ≡ w ++ 0 ∷ [] → (IsLive used w → IsLive used (w ++ 0 ∷ [])) → MatchBool found (IsLive used longer) (IsLive used longer → ⊥) → MatchBool found (IsLive used w) (IsLive used w → ⊥)
one_byte used w longer true is typed h = longer_live used w 0 (subst (IsLive used) is h)
one_byte used w longer false is typed h = λ live. h (subst (IsLive used) (sym is) (typed live))

-- any bytes of one number
module _ (used : List (List ℕ)) (w : List ℕ) where
  pub whole_live : IsFree w 0 → is_in used w ≡ false → IsLive used w
  whole_live free unused =
      let (v, is) = free.any [] refl tt in
      record { key = v; more = []; at = record { fits = is.fits; bytes_are = is.bytes_are; unused = ap (is_in used) (append-nil w) ∙ unused } }

  pub whole_dead : IsFree w 0 → is_in used w ≡ true → IsLive used w → ⊥
  whole_dead free has live =
      let none = empty live.more (free.only live.key live.more (key_scalar used live.key (w ++ live.more) live.at)).0 in
      let unused : is_in used w ≡ false = ap (is_in used) (sym (append-nil w) ∙ ap (λ m. w ++ m) (sym none)) ∙ live.at.unused in
      let bad : true ≡ false = sym has ∙ unused in
      cc

  pub room_live : (missing : ℕ) → length used < 2 ^ 32 → IsFree w missing → 3 < missing → IsLive used w
  room_live missing few free room =
      let m = zeros (missing - 4) in
      let (k, t, at) = live_room used few (w ++ zeros (missing - 4)) (λ t count small.
      let one = free.any (zeros (missing - 4) ++ t) (omega (arith, length-append (zeros (missing - 4)) t, length-zeros (missing - 4))) (bytes_append (zeros (missing - 4)) t (zeros_small (missing - 4)) small) in
      (one.0, subst (IsSpelledScalar one.0) (sym (append_assoc w (zeros (missing - 4)) t)) one.1)) in
      record { key = k; more = zeros (missing - 4) ++ t; at = subst (KeyAt used k) (append_assoc w (zeros (missing - 4)) t) at }

  pub free_longer : (missing b : ℕ) → IsFree w missing → (missing ≡ 0 → ⊥) → b < 256 → IsFree (w ++ b ∷ []) (missing - 1)
  free_longer missing b free some small = record {
    any = λ more count bytes.
        let one = free.any (b ∷ more) (omega arith) (small, bytes) in
        (one.0, subst (IsSpelledScalar one.0) (sym (append_assoc w (b ∷ []) more)) one.1);
    only = λ v more is.
        let one = free.only v (b ∷ more) (subst (IsSpelledScalar v) (append_assoc w (b ∷ []) more) is) in
        (omega (arith, one.0), one.1.1);
  }

  pub free_not_whole : (missing : ℕ) → IsFree w missing → (missing ≡ 0 → ⊥) → (k : Value) → KeyAt used k (w ++ []) → ⊥
  free_not_whole missing free some k at = some (sym ((free.only k [] (key_scalar used k (w ++ []) at)).0))

-- a head, and the first bytes of its body
pub free_whole : (h : Head) (s rest w : List ℕ) (missing : ℕ) → HeadAt false h s → w ≡ s ++ rest → IsFreeBody h rest missing → IsFree w missing
free_whole h s rest w missing at parts body = record {
  any = λ more count bytes.
      let one = body.any more count bytes in
      (one.0, subst (IsSpelledScalar one.0) (sym (ap (λ v. v ++ more) parts ∙ append_assoc s rest more)) (scalar_chain.join h one.0 s (rest ++ more) at one.1));
  only = λ v more is.
      let (h1, u, s1, t1, at1, body1, parts1, same) = scalar_chain.split v (w ++ more) is in
      let whole : s ++ (rest ++ more) ≡ s1 ++ t1 = sym (append_assoc s rest more) ∙ ap (λ v. v ++ more) (sym parts) ∙ parts1 in
      let one = (head_free false).same h h1 s s1 (rest ++ more) t1 at at1 whole in
      let e : t1 ≡ rest ++ more = cancel s t1 (rest ++ more) (ap (λ k. k ++ t1) one.1 ∙ sym whole) in
      body.only u more (subst (ScalarAt h u) e (subst (λ g. ScalarAt g u t1) (sym one.0) body1));
}

-- no body
pub never_live : (used : List (List ℕ)) (h : Head) (s rest w : List ℕ) → HeadAt false h s → w ≡ s ++ rest → ((v : Value) (more : List ℕ) → ScalarAt h v (rest ++ more) → ⊥) → IsLive used w → ⊥
never_live used h s rest w at parts never live =
    let (h1, u, s1, t1, at1, body1, parts1, same) = scalar_chain.split live.key (w ++ live.more) (key_scalar used live.key (w ++ live.more) live.at) in
    let whole : s ++ (rest ++ live.more) ≡ s1 ++ t1 = sym (append_assoc s rest live.more) ∙ ap (λ v. v ++ live.more) (sym parts) ∙ parts1 in
    let one = (head_free false).same h h1 s s1 (rest ++ live.more) t1 at at1 whole in
    let e : t1 ≡ rest ++ live.more = cancel s t1 (rest ++ live.more) (ap (λ k. k ++ t1) one.1 ∙ sym whole) in
    never u live.more (subst (ScalarAt h u) e (subst (λ g. ScalarAt g u t1) (sym one.0) body1))

-- a body that begins with one byte alone
pub type_live : (used : List (List ℕ)) (h : Head) (s w : List ℕ) → HeadAt false h s → w ≡ s ++ [] → ((v : Value) (body : List ℕ) → ScalarAt h v body → (more : List ℕ) × (body ≡ 0 ∷ more)) → IsLive used w → IsLive used (w ++ 0 ∷ [])
type_live used h s w at parts typed live =
    let (h1, u, s1, t1, at1, body1, parts1, same) = scalar_chain.split live.key (w ++ live.more) (key_scalar used live.key (w ++ live.more) live.at) in
    let whole : s ++ live.more ≡ s1 ++ t1 = ap (λ v. v ++ live.more) (sym (append-nil s) ∙ sym parts) ∙ parts1 in
    let one = (head_free false).same h h1 s s1 live.more t1 at at1 whole in
    let e : t1 ≡ live.more = cancel s t1 live.more (ap (λ k. k ++ t1) one.1 ∙ sym whole) in
    let (more, is) = typed u live.more (subst (ScalarAt h u) e (subst (λ g. ScalarAt g u t1) (sym one.0) body1)) in
    record { key = live.key; more = more; at = subst (KeyAt used live.key) (ap (λ v. w ++ v) is ∙ sym (append_assoc w (0 ∷ []) more)) live.at }

-- what is missing
le_of : (a b : ℕ) → nat_le a b ≡ true → a ≤ b
le_of a b h = grind (arith, nat_tests)

gt_of : (a b : ℕ) → nat_le a b ≡ false → b < a
gt_of a b h = grind (arith, nat_tests)

missing_choice : (P : Missing → Type 0) (want have : ℕ) → (have ≤ want → P (missing.Bytes (want - have))) → (want < have → P missing.Never) → P (missing_of want have)
missing_choice P want have f g = go (nat_le have want) refl
  where
    go : (b : Bool) → nat_le have want ≡ b → P (cond b (missing.Bytes (want - have)) missing.Never)
    go true e = f (le_of have want e)
    go false e = g (gt_of have want e)

longer_than : (rest more text : List ℕ) (n : ℕ) → rest ++ more ≡ text → length text ≡ n → n < length rest → ⊥
longer_than rest more text n e count over = omega (arith, ap length e, length-append rest more)

-- a body of no bytes
none_missing : (h : Head) (v : Value) → ScalarAt h v [] → ((w : Value) (s : List ℕ) → ScalarAt h w s → s ≡ []) → (rest : List ℕ) → IsMissing h rest (missing_of 0 (length rest))
none_missing h v here only rest =
    missing_choice (IsMissing h rest) 0 (length rest)
    (λ le.
    let none : rest ≡ [] = empty rest (omega arith) in
    record {
      any = λ more count bytes. (v, subst (ScalarAt h v) (sym (ap (λ r. r ++ more) none ∙ empty more (omega arith))) here);
      only = λ w more body.
          let e : more ≡ [] = ap (λ r. r ++ more) (sym none) ∙ only w (rest ++ more) body in
          (let c : length more ≡ 0 = ap length e in omega arith, subst IsBytes (sym e) tt);
    })
    (λ over w more body. longer_than rest more [] 0 (only w (rest ++ more) body) refl over)

pub nil_missing : (rest : List ℕ) → IsMissing head.Nil rest (missing_of 0 (length rest))
nil_missing rest = none_missing head.Nil value.Nil (refl, refl) (λ w s h. h.1) rest

pub bool_missing : (b : Bool) (rest : List ℕ) → IsMissing (head.Bool b) rest (missing_of 0 (length rest))
bool_missing b rest = none_missing (head.Bool b) (value.Bool b) (refl, refl) (λ w s h. h.1) rest

pub int_missing : (n : ℤ) (rest : List ℕ) → IsMissing (head.Int n) rest (missing_of 0 (length rest))
int_missing n rest = none_missing (head.Int n) (value.Int n) (refl, refl) (λ w s h. h.1) rest

pub str_missing : (n : ℕ) (rest : List ℕ) → IsBytes rest → IsMissing (head.Str n) rest (missing_of n (length rest))
str_missing n rest small =
    missing_choice (IsMissing (head.Str n) rest) n (length rest)
    (λ le. record {
      any = λ more count bytes. (value.Str (rest ++ more), (rest ++ more, record { count = omega (arith, length-append rest more); small = bytes_append rest more small bytes; bytes_are = refl }, refl));
      only = λ w more (text, at, is).
          let e : length (rest ++ more) ≡ n = ap length at.bytes_are ∙ at.count in
          (omega (arith, length-append rest more), bytes_back rest more (subst IsBytes (sym at.bytes_are) at.small));
    })
    (λ over w more (text, at, is). longer_than rest more text n at.bytes_are at.count over)

tail_is : (a b : ℕ) (s t : List ℕ) → a ∷ s ≡ b ∷ t → s ≡ t
tail_is a b s t e = cc

name_free : (n : ℕ) (name : List ℕ) → IsBytes name → length name ≤ n → IsFreeBody (head.Sym n) (0 ∷ name) (n - length name)
name_free n name small le = record {
  any = λ more count bytes. (value.Sym (name ++ more), (name ++ more, name ++ more, record { count = omega (arith, length-append name more); small = bytes_append name more small bytes; bytes_are = refl }, refl, refl));
  only = λ w more (text, r, at, is, parts).
      let whole : name ++ more ≡ text = tail_is 0 0 (name ++ more) r parts ∙ at.bytes_are in
      let e : length (name ++ more) ≡ n = ap length whole ∙ at.count in
      (omega (arith, length-append name more), bytes_back name more (subst IsBytes (sym whole) at.small));
}

pub type_missing : (n : ℕ) (rest : List ℕ) → length rest ≡ 0 → IsMissing (head.Sym n) rest (missing.Type n)
type_missing n rest none = (
  empty rest none,
  subst (IsFreeBody (head.Sym n) (0 ∷ [])) (let e : n - 0 ≡ n = omega arith in e) (name_free n [] tt (omega arith)),
  λ v body (text, r, at, is, parts). (r, parts),
)

pub other_type : (n b : ℕ) (name rest : List ℕ) → rest ≡ b ∷ name → (b ≡ 0 → ⊥) → IsMissing (head.Sym n) rest missing.Never
other_type n b name rest is other v more (text, r, at, same, parts) =
    let e : b ∷ (name ++ more) ≡ 0 ∷ r = ap (λ k. k ++ more) (sym is) ∙ parts in
    other (let f : b ≡ 0 = cc in f)

pub name_missing : (n : ℕ) (name rest : List ℕ) → rest ≡ 0 ∷ name → IsBytes name → IsMissing (head.Sym n) rest (missing_of n (length name))
name_missing n name rest is small =
    subst (λ r. IsMissing (head.Sym n) r (missing_of n (length name))) (sym is)
    (missing_choice (IsMissing (head.Sym n) (0 ∷ name)) n (length name)
    (λ le. name_free n name small le)
    (λ over v more (text, r, at, same, parts). longer_than name more text n (tail_is 0 0 (name ++ more) r parts ∙ at.bytes_are) at.count over))

-- what is used, seen in two ways
pub live_same : (a b : List (List ℕ)) → ((t : List ℕ) → is_in a t ≡ is_in b t) → (w : List ℕ) → IsLive a w → IsLive b w
live_same a b same w live = record {
  key = live.key;
  more = live.more;
  at = record { fits = live.at.fits; bytes_are = live.at.bytes_are; unused = sym (same (w ++ live.more)) ∙ live.at.unused };
}

-- no bytes begin each key
pub empty_live : (used : List (List ℕ)) → length used < 2 ^ 32 → IsLive used []
empty_live used few = let (k, s, at) = fresh used few in record { key = k; more = s; at = at }

-- a part of a list, and the next element
pub next_of : (n : ℕ) (l : List ℕ) → n < length l → (b : ℕ) × (r : List ℕ) × (l ≡ take n l ++ b ∷ r) × (take (n + 1) l ≡ take n l ++ b ∷ [])
next_of n [] h = absurd (omega arith)
next_of zero (x ∷ l) h = (x, l, refl, refl)
next_of (suc n) (x ∷ l) h =
    let (b, r, whole, more) = next_of n l (omega arith) in
    let e : suc n + 1 ≡ suc (n + 1) = omega arith in
    (b, r, ap (λ v. x ∷ v) whole, ap (λ k. take k (x ∷ l)) e ∙ ap (λ v. x ∷ v) more)

pub take_front : (front rest w : List ℕ) (left : ℕ) → w ≡ front ++ rest → left ≡ length rest → take (length w - left) w ≡ front
take_front front rest w left parts count =
    let n : length w - left ≡ length front = omega (arith, ap length parts, length-append front rest) in
    ap (λ k. take k w) n ∙ ap (take (length front)) parts ∙ take-append_seam front rest

-- what begins a key and is none begins one that goes on
proper_live : (used : List (List ℕ)) (w : List ℕ) → Begins IsSpelledScalar w → IsLive used w → Begins (KeyAt used) w
proper_live used w begins live = go live.key live.more live.at
  where
    go : (k : Value) (more : List ℕ) → KeyAt used k (w ++ more) → Begins (KeyAt used) w
    go k [] at = absurd (no_front IsSpelledScalar scalar_free k w [] (subst (IsSpelledScalar k) (append-nil w) (key_scalar used k (w ++ []) at)) (subst (Begins IsSpelledScalar) (sym (append-nil w)) begins))
    go k (b ∷ more) at = record { value = k; next = b; more = more; spelled = at }

shorter_begins : (w : List ℕ) (b : ℕ) (r : List ℕ) → Begins IsSpelledScalar (w ++ b ∷ r) → Begins IsSpelledScalar w
shorter_begins w b r begins = record {
  value = begins.value;
  next = b;
  more = r ++ begins.next ∷ begins.more;
  spelled = subst (IsSpelledScalar begins.value) (append_assoc w (b ∷ r) (begins.next ∷ begins.more)) begins.spelled;
}

module _ (used : List (List ℕ)) (w : List ℕ) (left live : ℕ) (stops : StopsKey used w left) (within : live ≤ length (take (length w - left) w)) (is_live : IsLive used (take live (take (length w - left) w))) where
  pub short_key : live ≡ length w → Begins (KeyAt used) w
  short_key whole =
      let front = take_front stops.front stops.rest w left stops.parts stops.count in
      let le : live ≤ length stops.front = subst (λ v. live ≤ length v) front within in
      let none : stops.rest ≡ [] = empty stops.rest (omega (arith, ap length stops.parts, length-append stops.front stops.rest)) in
      let same : w ≡ stops.front = stops.parts ∙ ap (λ v. stops.front ++ v) none ∙ append-nil stops.front in
      let all : take live (take (length w - left) w) ≡ w = ap (take live) (front ∙ sym same) ∙ ap (λ n. take n w) whole ∙ take-length w in
      proper_live used w (subst (Begins IsSpelledScalar) (sym same) stops.begins) (subst (IsLive used) all is_live)

  pub bad_key : (live ≡ length w → ⊥) → (live < length (take (length w - left) w) → IsLive used (take (live + 1) (take (length w - left) w)) → ⊥) → Fails (KeyAt used) w (length w - live)
  bad_key not_whole no_longer =
      let front = take_front stops.front stops.rest w left stops.parts stops.count in
      let le : live ≤ length stops.front = subst (λ v. live ≤ length v) front within in
      let is_live1 : IsLive used (take live stops.front) = subst (λ v. IsLive used (take live v)) front is_live in
      let no_longer1 : live < length stops.front → IsLive used (take (live + 1) stops.front) → ⊥ = subst (λ v. live < length v → IsLive used (take (live + 1) v) → ⊥) front no_longer in
      elim (cases_lt live (length stops.front)) [
        | inl less ↦ inside le is_live1 no_longer1 less
        | inr most ↦ at_end le is_live1 most stops.rest refl
      ]
    where
      inside : live ≤ length stops.front → IsLive used (take live stops.front) → (live < length stops.front → IsLive used (take (live + 1) stops.front) → ⊥) → live < length stops.front → Fails (KeyAt used) w (length w - live)
      inside le here no_more less =
          let (b, r, whole, more) = next_of live stops.front less in
          let count : length (take live stops.front) ≡ live = length-take-le live stops.front le in
          let parts : w ≡ take live stops.front ++ b ∷ (r ++ stops.rest) = stops.parts ∙ ap (λ v. v ++ stops.rest) whole ∙ append_assoc (take live stops.front) (b ∷ r) stops.rest in
          record {
            front = take live stops.front;
            byte = b;
            rest = r ++ stops.rest;
            parts = parts;
            count = omega (arith, ap length parts, length-append (take live stops.front) (b ∷ (r ++ stops.rest)));
            begins = proper_live used (take live stops.front) (shorter_begins (take live stops.front) b r (subst (Begins IsSpelledScalar) whole stops.begins)) here;
            dead = λ k m at. no_more less (subst (IsLive used) (sym more) (record { key = k; more = m; at = subst (KeyAt used k) (sym (append_assoc (take live stops.front) (b ∷ []) m)) at }));
          }

      at_end : live ≤ length stops.front → IsLive used (take live stops.front) → length stops.front ≤ live → (rest : List ℕ) → stops.rest ≡ rest → Fails (KeyAt used) w (length w - live)
      at_end le here most [] e = absurd (not_whole (omega (arith, ap length stops.parts, length-append stops.front stops.rest, ap length e)))
      at_end le here most (b ∷ r) e =
          let n : live ≡ length stops.front = omega arith in
          let all : take live stops.front ≡ stops.front = ap (λ k. take k stops.front) n ∙ take-length stops.front in
          record {
            front = stops.front;
            byte = b;
            rest = r;
            parts = stops.parts ∙ ap (λ v. stops.front ++ v) e;
            count = omega (arith, ap length stops.parts, length-append stops.front stops.rest, ap length e);
            begins = proper_live used stops.front stops.begins (subst (IsLive used) all here);
            dead = λ k m at. stops.dead b r e k m at;
          }

last_of : (x : ℕ) (s : List ℕ) → (p : List ℕ) × (b : ℕ) × (x ∷ s ≡ p ++ b ∷ [])
last_of x [] = ([], x, refl)
last_of x (y ∷ s) = let (p, b, e) = last_of y s in (x ∷ p, b, ap (λ v. x ∷ v) e)

scalar_some : (v : Value) (s : List ℕ) → IsSpelledScalar v s → (p : List ℕ) × (b : ℕ) × (s ≡ p ++ b ∷ [])
scalar_some v s is =
    let (h, u, front, rest, at, body, parts, same) = scalar_chain.split v s is in
    let head = head_split h at.fits in
    let whole : s ≡ head.byte ∷ (head.rest ++ rest) = parts ∙ ap (λ k. k ++ rest) (at.bytes_are ∙ head.is) in
    let (p, b, e) = last_of head.byte (head.rest ++ rest) in
    (p, b, whole ∙ e)

-- a key that is used stops at its last byte, if not before
pub used_key : (used : List (List ℕ)) (key : Value) (w rest : List ℕ) (found : Found IsSpelledScalar key w rest) → is_in used (take (length w - length rest) w) ≡ true → StopsKey used w (length rest + 1)
used_key used key w rest found has =
    let (p, b, e) = scalar_some key found.spelling found.spelled in
    let front = take_front found.spelling rest w (length rest) found.parts refl in
    let has1 : is_in used found.spelling ≡ true = ap (is_in used) (sym front) ∙ has in
    record {
      front = p;
      rest = b ∷ rest;
      parts = found.parts ∙ ap (λ v. v ++ rest) e ∙ append_assoc p (b ∷ []) rest;
      count = omega arith;
      begins = record { value = key; next = b; more = []; spelled = subst (IsSpelledScalar key) e found.spelled };
      dead = λ byte r is k more at.
          let byte_is : byte ≡ b = cc in
          let at1 : KeyAt used k (p ++ b ∷ more) = subst (λ v. KeyAt used k (p ++ v ∷ more)) byte_is at in
          let whole : found.spelling ++ more ≡ (p ++ b ∷ more) ++ [] = ap (λ v. v ++ more) e ∙ append_assoc p (b ∷ []) more ∙ sym (append-nil (p ++ b ∷ more)) in
          let same = (scalar_free.same key k found.spelling (p ++ b ∷ more) more [] found.spelled (key_scalar used k (p ++ b ∷ more) at1) whole).1 in
          let bad : true ≡ false = sym has1 ∙ ap (is_in used) same ∙ at1.unused in
          let no : ⊥ = cc in
          no;
    }

-- what stops a scalar stops a key, if not before
pub short_stops : (used : List (List ℕ)) (w : List ℕ) → Begins IsSpelledScalar w → StopsKey used w 0
short_stops used w begins = record {
  front = w;
  rest = [];
  parts = sym (append-nil w);
  count = refl;
  begins = begins;
  dead = λ byte r is k more at. let no : ⊥ = cc in no;
}

pub bad_stops : (used : List (List ℕ)) (w : List ℕ) (left : ℕ) → Fails IsSpelledScalar w left → StopsKey used w left
bad_stops used w left fails = record {
  front = fails.front;
  rest = fails.byte ∷ fails.rest;
  parts = fails.parts;
  count = fails.count;
  begins = fails.begins;
  dead = λ byte r is k more at.
      let same : byte ≡ fails.byte = cc in
      fails.dead k more (key_scalar used k (fails.front ++ fails.byte ∷ more) (subst (λ v. KeyAt used k (fails.front ++ v ∷ more)) same at));
}
