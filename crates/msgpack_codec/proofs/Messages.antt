-- Whole messages.
use Rattle.std.proofs.Common.{◌≡◌, ℕ, zero, suc, ◌+◌, ◌-◌, List, [], ◌∷◌, ◌++◌, length, take, refl, sym, ◌∙◌, ap, subst, arith, append_assoc, append-nil, length-append, Result, Ok, Err, MatchResult, IfOk}
use Rattle.std.proofs.Math.Seq.{take-append_seam}
use Rattle.msgpack_codec.specs.declared.stop.Unread.{Unread}
use Rattle.msgpack_codec.specs.declared.stop.Unread.TheVariants as unread
use Rattle.msgpack_codec.specs.declared.value.Value.{Value}
use Rattle.msgpack_codec.specs.Message.{SpellsMessage, BeginsSpelling, IsShort, IsMalformed, Decodes, IsSpellable}
use Rattle.msgpack_codec.specs.Reading.{Found, Begins, Fails}
use Rattle.msgpack_codec.specs.Values.{ValueAt}
use Rattle.msgpack_codec.proofs.Chains.{no_front}
use Rattle.msgpack_codec.proofs.Bodies.{value_free}
use Rattle.msgpack_codec.proofs.Keys.{empty, take_front}
use Rattle.msgpack_codec.proofs.Written.{spellable}

to_value : (v : Value) (s : List ℕ) → SpellsMessage v s → ValueAt 100 v s
to_value v s h = record { fits = h.message; bytes_are = h.bytes_are }

from_value : (v : Value) (s : List ℕ) → ValueAt 100 v s → SpellsMessage v s
from_value v s h = record { message = h.fits; bytes_are = h.bytes_are }

pub one_value : (v w : Value) (s t a b : List ℕ) → SpellsMessage v s → SpellsMessage w t → s ++ a ≡ t ++ b → (v ≡ w) × (s ≡ t)
one_value v w s t a b h k e = (value_free 100).same v w s t a b (to_value v s h) (to_value w t k) e

pub no_more : (v w : Value) (s more : List ℕ) → SpellsMessage v s → SpellsMessage w (s ++ more) → more ≡ []
no_more v w s more h k =
    let same : s ≡ s ++ more = (one_value v w s (s ++ more) more [] h k (sym (append-nil (s ++ more)))).1 in
    empty more (omega (arith, ap length same, length-append s more))

-- the places of two lists that follow one another
take_more : (front rest : List ℕ) (b : ℕ) → take (length front + 1) (front ++ b ∷ rest) ≡ front ++ b ∷ []
take_more front rest b =
    let n : length front + 1 ≡ length (front ++ b ∷ []) = omega (arith, length-append front (b ∷ [])) in
    ap (λ k. take k (front ++ b ∷ rest)) n ∙ ap (take (length (front ++ b ∷ []))) (sym (append_assoc front (b ∷ []) rest)) ∙ take-append_seam (front ++ b ∷ []) rest

malformed_at : (w front rest : List ℕ) (b left : ℕ) → w ≡ front ++ b ∷ rest → left ≡ length (b ∷ rest) → BeginsSpelling front → (BeginsSpelling (front ++ b ∷ []) → ⊥) → IsMalformed w (length w - left)
malformed_at w front rest b left parts count begins dead =
    let n : length w - left ≡ length front = omega (arith, ap length parts, length-append front (b ∷ rest)) in
    record {
      within = omega (arith, ap length parts, length-append front (b ∷ rest));
      begins = subst BeginsSpelling (sym (take_front front (b ∷ rest) w left parts count)) begins;
      no_longer = λ h. dead (subst BeginsSpelling (ap (λ k. take (k + 1) w) n ∙ ap (take (length front + 1)) parts ∙ take_more front rest b) h);
    }

pub whole_message : (v : Value) (w rest : List ℕ) → Found (ValueAt 100) v w rest → length rest ≡ 0 → SpellsMessage v w
whole_message v w rest found none =
    let e : w ≡ found.spelling = found.parts ∙ ap (λ r. found.spelling ++ r) (empty rest none) ∙ append-nil found.spelling in
    subst (SpellsMessage v) (sym e) (from_value v found.spelling found.spelled)

pub longer_message : (v : Value) (w rest : List ℕ) → Found (ValueAt 100) v w rest → (length rest ≡ 0 → ⊥) → IsMalformed w (length w - length rest)
longer_message v w [] found some = absurd (some refl)
longer_message v w (b ∷ rest) found some =
    let here = from_value v found.spelling found.spelled in
    malformed_at w found.spelling rest b (length (b ∷ rest)) found.parts refl (v, [], subst (SpellsMessage v) (sym (append-nil found.spelling)) here)
    (λ (u, more, h).
    let none : b ∷ more ≡ [] = no_more v u found.spelling (b ∷ more) here (subst (SpellsMessage u) (append_assoc found.spelling (b ∷ []) more) h) in
    let no : ⊥ = cc in
    no)

pub short_message : (w : List ℕ) → Begins (ValueAt 100) w → IsShort w
short_message w b = record {
  begins = (b.value, b.next ∷ b.more, from_value b.value (w ++ b.next ∷ b.more) b.spelled);
  unfinished = λ v h. no_front (ValueAt 100) (value_free 100) v w [] (to_value v w h) (subst (Begins (ValueAt 100)) (sym (append-nil w)) b);
}

pub bad_message : (w : List ℕ) (left : ℕ) → Fails (ValueAt 100) w left → IsMalformed w (length w - left)
bad_message w left b =
    malformed_at w b.front b.rest b.byte left b.parts b.count
    (b.begins.value, b.begins.next ∷ b.begins.more, from_value b.begins.value (b.front ++ b.begins.next ∷ b.begins.more) b.begins.spelled)
    (λ (u, more, h). b.dead u more (to_value u (b.front ++ b.byte ∷ more) (subst (SpellsMessage u) (append_assoc b.front (b.byte ∷ []) more) h)))

take_all : (n : ℕ) (w : List ℕ) → (r : List ℕ) × (w ≡ take n w ++ r)
take_all zero w = (w, refl)
take_all (suc n) [] = ([], refl)
take_all (suc n) (x ∷ w) = let (r, e) = take_all n w in (r, ap (λ v. x ∷ v) e)

-- what is a spelling is read
pub decodes_only : (w : List ℕ) (result : Result Value Unread) → Decodes w result → (v : Value) → SpellsMessage v w → MatchResult result (λ found. found ≡ v) (λ e. e ≡ unread.NoMemory)
decodes_only w (Ok found) h v k = (one_value found v w w [] [] h k refl).0
decodes_only w (Err unread.Short) h v k = absurd (h.unfinished v k)
decodes_only w (Err (unread.Malformed at)) h v k = let (r, e) = take_all (at + 1) w in absurd (h.no_longer (v, r, subst (SpellsMessage v) e k))
decodes_only w (Err unread.NoMemory) h v k = refl

-- what is read can be written again
pub decodes_again : (w : List ℕ) (result : Result Value Unread) → Decodes w result → IfOk result IsSpellable
decodes_again w (Ok v) h = spellable 100 v h.message
decodes_again w (Err e) h = tt
