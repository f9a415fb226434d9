-- What a text is scanned as is what the relations of the lexer say of it.
use Rattle.std.proofs.Common.{◌≡◌, ◌≢◌, ℕ, zero, suc, ◌≤◌, ◌<◌, Bool, true, false, [], ◌∷◌, length, take, nat_le, refl, sym, ap, ◌∙◌, arith, subst, if◌then◌else◌, Option, Some, None}
use Rattle.std.specs.Prelude.{MatchOption}
use Rattle.std.specs.Str.{IsUtf8, is_utf8, IsValidUpTo}
use Rattle.std.specs.Str.Lossy.{utf8_valid_len, valid_len_up_to}
use Rattle.std.proofs.lemmas.Bool.{true≢false}
use Rattle.std.proofs.lemmas.Bool.Decides.{nat_tests}
use Rattle.std.proofs.lemmas.Str.{IsUtf8-nil, IsUtf8-from_is_utf8, is_utf8-from_IsUtf8}
use Rattle.ruby_lexer.specs.Bytes.{Bytes}
use Rattle.ruby_lexer.specs.Pieces.{Toks}
use Rattle.ruby_lexer.specs.Forms.{newlines, line_of}
use Rattle.ruby_lexer.specs.Cut.{at_start}
use Rattle.ruby_lexer.specs.Scan.{coder, scan_all}
use Rattle.ruby_lexer.specs.Reading.{AllRead}
use Rattle.ruby_lexer.specs.Tokens.{before_end, IsText, AreTokens, FaultLine, long, no_utf8, IsFront}
use Rattle.ruby_lexer.proofs.Once.{same_front, tokens_of_front, one_line, read_token_prefix}
use Rattle.reference_parser.proofs.Tests.{by_test}
use Rattle.reference_laws.proofs.SoundTools.{value_if}
use Rattle.reference_parser.specs.Scanned.{Scanned, front, no_text, stop_at, front_of_text, scanned_of}

-- The longest front that is UTF-8.
valid_front : (w : Bytes) (n : ℕ) → IsUtf8 (take (valid_len_up_to w n) w)
valid_front w zero = IsUtf8-nil
valid_front w (suc n) = by_test (is_utf8 (take (suc n) w))
    (λ e. subst (λ (b : Bool). IsUtf8 (take (if b then suc n else valid_len_up_to w n) w)) (sym e) (IsUtf8-from_is_utf8 _ e))
    (λ e. subst (λ (b : Bool). IsUtf8 (take (if b then suc n else valid_len_up_to w n) w)) (sym e) (valid_front w n))

no_longer : (w : Bytes) (n m : ℕ) → valid_len_up_to w n < m → m ≤ n → IsUtf8 (take m w) → ⊥
no_longer w zero m less le u = omega arith
no_longer w (suc n) m less le u = by_test (is_utf8 (take (suc n) w))
    (λ e. let less' : suc n < m = subst (λ (b : Bool). (if b then suc n else valid_len_up_to w n) < m) e less in omega arith)
    (λ e.
    let less' : valid_len_up_to w n < m = subst (λ (b : Bool). (if b then suc n else valid_len_up_to w n) < m) e less in
    by_test (nat_le m n)
    (λ t. let le' : m ≤ n = grind (arith, nat_tests) in no_longer w n m less' le' u)
    (λ t. let same : m ≡ suc n = grind (arith, nat_tests) in
    absurd (true≢false (sym (is_utf8-from_IsUtf8 _ (subst (λ (k : ℕ). IsUtf8 (take k w)) same u)) ∙ e))))

whole_take : (w : Bytes) (m : ℕ) → length w ≤ m → take m w ≡ w
whole_take [] zero le = refl
whole_take [] (suc m) le = refl
whole_take (b ∷ w) zero le = absurd (omega arith)
whole_take (b ∷ w) (suc m) le = ap (λ (v : Bytes). b ∷ v) (whole_take w m (omega arith))

valid_up_to : (w : Bytes) → (IsUtf8 w → ⊥) → IsValidUpTo w (utf8_valid_len w)
unfolding utf8_valid_len
valid_up_to w bad =
    let front : IsUtf8 (take (valid_len_up_to w (length w)) w) = valid_front w (length w) in
    record {
      short = by_test (nat_le (length w) (valid_len_up_to w (length w)))
          (λ t. let le : length w ≤ valid_len_up_to w (length w) = grind (arith, nat_tests) in absurd (bad (subst IsUtf8 (whole_take w _ le) front)))
          (λ t. grind (arith, nat_tests));
      front = front;
      longest = λ m less u. by_test (nat_le m (length w))
          (λ t. let le : m ≤ length w = grind (arith, nat_tests) in no_longer w (length w) m less le u)
          (λ t. let le : length w ≤ m = grind (arith, nat_tests) in bad (subst IsUtf8 (whole_take w m le) u));
    }

-- what the scan says of the text
abbrev pub Scans : Bytes → Scanned → Type 0
Scans bytes (front ts stop) = IsFront bytes ts stop
Scans bytes (no_text line) = (IsText bytes → ⊥) × FaultLine bytes line

stop_is : (text r : Bytes) → MatchOption (stop_at text r) (r ≡ []) (λ line. (r ≢ []) × (line ≡ line_of text r))
stop_is text [] = refl
stop_is text (b ∷ r) = (λ e. cc, refl)

front_scans : (bytes : Bytes) → IsText bytes → Scans bytes (front_of_text (before_end bytes))
unfolding front_of_text
front_scans bytes t =
    let text = before_end bytes in
    let all = scan_all text (coder text 200) (suc (length text)) at_start text in
    let read : AllRead text all.0 (stop_at text all.1) = record { rest = all.1; is = refl; ends_at = stop_is text all.1 } in
    read_token_prefix bytes all.0 (stop_at text all.1) t read

long_line : (bytes : Bytes) → nat_le (length bytes) 4194304 ≡ false → Scans bytes (no_text 1)
long_line bytes e = let more : 4194304 < length bytes = grind (arith, nat_tests) in (λ t. omega (arith, t.short), long more)

bad_line : (bytes : Bytes) → nat_le (length bytes) 4194304 ≡ true → is_utf8 bytes ≡ false → Scans bytes (no_text (suc (newlines (take (utf8_valid_len bytes) bytes))))
bad_line bytes e u =
    let short : length bytes ≤ 4194304 = grind (arith, nat_tests) in
    let bad : IsUtf8 bytes → ⊥ = λ h. true≢false (sym (is_utf8-from_IsUtf8 bytes h) ∙ u) in
    (λ t. bad t.utf8, no_utf8 short bad (valid_up_to bytes bad))

pub scanned_is : (bytes : Bytes) → Scans bytes (scanned_of bytes)
unfolding scanned_of
scanned_is bytes = value_if (Scans bytes) (nat_le (length bytes) 4194304) _ (no_text 1)
    (λ e. value_if (Scans bytes) (is_utf8 bytes) _ _
    (λ u. let short : length bytes ≤ 4194304 = grind (arith, nat_tests) in front_scans bytes (record { short = short; utf8 = IsUtf8-from_is_utf8 bytes u }))
    (λ u. bad_line bytes e u))
    (λ e. long_line bytes e)

stop_only : (text r : Bytes) (stop : Option ℕ) → MatchOption stop (r ≡ []) (λ line. (r ≢ []) × (line ≡ line_of text r)) → stop ≡ stop_at text r
stop_only text [] None h = refl
stop_only text [] (Some line) h = absurd (h.0 refl)
stop_only text (b ∷ r) None h = cc
stop_only text (b ∷ r) (Some line) h = ap (λ (n : ℕ). Some n) h.1

same_stop : (bytes : Bytes) (ts us : Toks) (stop end : Option ℕ) → IsFront bytes ts stop → IsFront bytes us end → front ts stop ≡ front us end
same_stop bytes ts us stop end F G =
    let same = same_front bytes F.front G.front in
    let tokens : ts ≡ us = F.tokens_are ∙ same.0 ∙ sym G.tokens_are in
    let stops : stop ≡ end = stop_only (before_end bytes) F.front.rest stop F.ends_at ∙ ap (stop_at (before_end bytes)) same.1 ∙ sym (stop_only (before_end bytes) G.front.rest end G.ends_at) in
    ap (λ (t : Toks). front t stop) tokens ∙ ap (front us) stops

one_scan : (bytes : Bytes) (x y : Scanned) → Scans bytes x → Scans bytes y → x ≡ y
one_scan bytes (front ts stop) (front us end) h g = same_stop bytes ts us stop end h g
one_scan bytes (front ts stop) (no_text line) h g = absurd (g.0 h.is_text)
one_scan bytes (no_text line) (front us end) h g = absurd (h.0 g.is_text)
one_scan bytes (no_text line) (no_text other) h g = ap no_text (one_line bytes line other h.1 g.1)

pub scanned_only : (bytes : Bytes) (x : Scanned) → Scans bytes x → scanned_of bytes ≡ x
scanned_only bytes x h = one_scan bytes (scanned_of bytes) x (scanned_is bytes) h

pub scans : (bytes : Bytes) (x : Scanned) → scanned_of bytes ≡ x → Scans bytes x
scans bytes x e = subst (Scans bytes) e (scanned_is bytes)

-- all tokens of a text
pub whole_tokens : (bytes : Bytes) (ts : Toks) → IsFront bytes ts None → AreTokens bytes ts
whole_tokens bytes ts F = subst (AreTokens bytes) (sym F.tokens_are) (tokens_of_front bytes F.front F.is_text F.ends_at)

pub whole_front : (bytes : Bytes) (ts : Toks) → AreTokens bytes ts → IsFront bytes ts None
whole_front bytes ts a = record {
  is_text = a.is_text;
  front = record { tokens = ts; state = a.state; rest = []; cuts = a.cuts; nothing = λ k q f. f };
  tokens_are = refl;
  ends_at = refl;
}
