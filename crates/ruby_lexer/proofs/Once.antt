-- One reading of each text.
use Rattle.std.proofs.Common.{◌≡◌, ◌≢◌, ℕ, suc, ◌<◌, [], ◌∷◌, take, ◌⊎◌, inl, inr, refl, sym, ap, ◌∙◌, arith, subst, Option}
use Rattle.std.specs.Prelude.{MatchOption}
use Rattle.std.specs.Str.{IsValidUpTo}
use Rattle.ruby_lexer.specs.Bytes.{Bytes}
use Rattle.ruby_lexer.specs.Pieces.{Toks}
use Rattle.ruby_lexer.specs.Forms.{newlines, line_of}
use Rattle.ruby_lexer.specs.Cut.{Cuts, cutter, at_start}
use Rattle.ruby_lexer.specs.Tokens.{before_end, IsText, ReadTokenPrefix, AreTokens, FaultLine, long, no_utf8, stops, IsFront, HasNoTokens}
use Rattle.ruby_lexer.specs.Reading.{AllRead}
use Rattle.ruby_lexer.proofs.Whole.{front_is, front_only}

front_of : (bytes : Bytes) (ts : Toks) → AreTokens bytes ts → ReadTokenPrefix bytes
front_of bytes ts a = record { tokens = ts; state = a.state; rest = []; cuts = a.cuts; nothing = λ k q f. f }

front_of-rest : (bytes : Bytes) (ts : Toks) (a : AreTokens bytes ts) → (front_of bytes ts a).rest ≡ []
unfolding front_of
front_of-rest bytes ts a = refl

front_of-tokens : (bytes : Bytes) (ts : Toks) (a : AreTokens bytes ts) → (front_of bytes ts a).tokens ≡ ts
unfolding front_of
front_of-tokens bytes ts a = refl

-- two fronts of a text are one
pub same_front : (bytes : Bytes) (f g : ReadTokenPrefix bytes) → (f.tokens ≡ g.tokens) × (f.rest ≡ g.rest)
same_front bytes f g =
    let same = sym (front_only (before_end bytes) 200 f) ∙ front_only (before_end bytes) 200 g in
    (ap (λ (x : Toks × Bytes). x.0) same, ap (λ (x : Toks × Bytes). x.1) same)

pub one_list : (bytes : Bytes) (ts us : Toks) → AreTokens bytes ts → AreTokens bytes us → ts ≡ us
one_list bytes ts us a b =
    sym (front_of-tokens bytes ts a) ∙ (same_front bytes (front_of bytes ts a) (front_of bytes us b)).0 ∙ front_of-tokens bytes us b

not_both : (bytes : Bytes) (ts : Toks) (f : ReadTokenPrefix bytes) → AreTokens bytes ts → f.rest ≢ [] → ⊥
not_both bytes ts f a h = h ((same_front bytes f (front_of bytes ts a)).1 ∙ front_of-rest bytes ts a)

pub apart : (bytes : Bytes) (ts : Toks) (n : ℕ) → AreTokens bytes ts → FaultLine bytes n → ⊥
apart bytes ts n a (long h) = omega (arith, a.is_text.short)
apart bytes ts n a (no_utf8 s h v) = h a.is_text.utf8
apart bytes ts n a (stops t f h) = not_both bytes ts f a h

valid_once : (bytes : Bytes) (m n : ℕ) → IsValidUpTo bytes m → IsValidUpTo bytes n → m < n → ⊥
valid_once bytes m n a b h = a.longest n h b.front

valid_same : (bytes : Bytes) (m n : ℕ) → IsValidUpTo bytes m → IsValidUpTo bytes n → m ≡ n
valid_same bytes m n a b =
    let low : m < n → ⊥ = valid_once bytes m n a b in
    let high : n < m → ⊥ = valid_once bytes n m b a in
    omega arith

pub one_line : (bytes : Bytes) (m n : ℕ) → FaultLine bytes m → FaultLine bytes n → m ≡ n
one_line bytes m n (long h) (long g) = refl
one_line bytes m n (long h) (no_utf8 s u v) = absurd (omega arith)
one_line bytes m n (long h) (stops t f g) = absurd (omega (arith, t.short))
one_line bytes m n (no_utf8 s u v) (long h) = absurd (omega arith)
one_line bytes m n (no_utf8 s u v) (no_utf8 s' u' v') = ap (λ k. suc (newlines (take k bytes))) (valid_same bytes _ _ v v')
one_line bytes m n (no_utf8 s u v) (stops t f g) = absurd (u t.utf8)
one_line bytes m n (stops t f g) (long h) = absurd (omega (arith, t.short))
one_line bytes m n (stops t f g) (no_utf8 s u v) = absurd (u t.utf8)
one_line bytes m n (stops t f g) (stops t' f' g') = ap (line_of (before_end bytes)) (same_front bytes f f').1

pub tokens_of_front : (bytes : Bytes) (f : ReadTokenPrefix bytes) → IsText bytes → f.rest ≡ [] → AreTokens bytes f.tokens
tokens_of_front bytes f t e =
    record { is_text = t; state = f.state; cuts = subst (λ (r : Bytes). Cuts (before_end bytes) (cutter (before_end bytes) 200) at_start (before_end bytes) f.tokens f.state r) e f.cuts }

either_way : (bytes : Bytes) (f : ReadTokenPrefix bytes) (r : Bytes) → f.rest ≡ r → IsText bytes → ((ts : Toks) × AreTokens bytes ts) ⊎ ((n : ℕ) × FaultLine bytes n)
either_way bytes f [] e t = inl (f.tokens, tokens_of_front bytes f t e)
either_way bytes f (b ∷ r) e t = inr (line_of (before_end bytes) f.rest, stops t f (λ h. let g : [] ≡ b ∷ r = sym h ∙ e in cc))

pub either : (bytes : Bytes) → IsText bytes → ((ts : Toks) × AreTokens bytes ts) ⊎ ((n : ℕ) × FaultLine bytes n)
either bytes t = either_way bytes (front_is (before_end bytes) 200) _ refl t

-- where the front of a text stops before its end it has no tokens
pub stopped : (bytes : Bytes) (f : ReadTokenPrefix bytes) → IsText bytes → f.rest ≢ [] → HasNoTokens bytes (line_of (before_end bytes) f.rest)
stopped bytes f t h = record { none = λ ts a. not_both bytes ts f a h; fault = stops t f h }

pub faulty : (bytes : Bytes) (n : ℕ) → FaultLine bytes n → HasNoTokens bytes n
faulty bytes n f = record { none = λ ts a. apart bytes ts n a f; fault = f }

-- what the reader gave is the front
pub read_token_prefix : (bytes : Bytes) (ts : Toks) (fault : Option ℕ) → IsText bytes → AllRead (before_end bytes) ts fault → IsFront bytes ts fault
read_token_prefix bytes ts fault t a =
    let f = front_is (before_end bytes) 200 in
    let same = sym a.is ∙ front_only (before_end bytes) 200 f in
    let rest : a.rest ≡ f.rest = ap (λ (x : Toks × Bytes). x.1) same in
    record {
      is_text = t;
      front = f;
      tokens_are = ap (λ (x : Toks × Bytes). x.0) same;
      ends_at = subst (λ (r : Bytes). MatchOption fault (r ≡ []) (λ line. (r ≢ []) × (line ≡ line_of (before_end bytes) r))) rest a.ends_at;
    }
