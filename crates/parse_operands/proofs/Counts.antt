-- How many tokens are left.
use Rattle.std.proofs.Common.{◌≡◌, refl, sym, ap, ◌∙◌, ℕ, suc, ◌<◌, ◌≤◌, ◌-◌, List, [], ◌∷◌, length, Bool, true, ◌&&◌, arith}
use Rattle.ruby_lexer.specs.declared.token.Token.{Token}
use Rattle.ruby_lexer.specs.Bytes.{Bytes}
use Rattle.ruby_lexer.specs.Pieces.{Toks, none, more, seen_all}
use Rattle.ruby_tree.specs.Rules.{Scope, next, is_mark}
use Rattle.ruby_tree.specs.FaultLine.{count_of}
use Rattle.reference_parser.specs.Fronts.{is_dot}
use Rattle.parse_state.specs.declared.standing.Parser.{Parser}
use Rattle.parse_state.specs.Standing.{At, Later, toks_of}

pub count_seen : (ts : List Token) → count_of (seen_all ts) ≡ length ts
count_seen [] = refl
count_seen (t ∷ ts) = ap suc (count_seen ts)

-- the tokens that are left where a parser stands
pub count_at : {p : Parser} {w : Toks} {s : Scope} → At p w s → count_of w ≡ length p.rest.now
count_at {p} a = sym (ap count_of a.tokens) ∙ count_seen p.rest.now

pub count_later : {p q : Parser} {w r : Toks} {s z : Scope} → At p w s → At q r z → Later p q → count_of r ≤ count_of w
count_later {p} {q} {w} {r} a b l = let x : count_of w ≡ length p.rest.now = count_at a in let y : count_of r ≡ length q.rest.now = count_at b in let z : length q.rest.now ≤ length p.rest.now = l.rest in omega (arith, x, y, z)

pub count_next : (w : Toks) → count_of (next w) ≤ count_of w
count_next none = omega arith
count_next (more t ts) = omega arith

-- a mark stands where a token is
pub mark_counts : (source f : Bytes) (w : Toks) → is_mark source f w ≡ true → 1 ≤ count_of w
mark_counts source f none is = cc
mark_counts source f (more t ts) is = omega arith

pub under : (w : Toks) → count_of w < suc (count_of w)
under w = omega arith

pub under_next : (w : Toks) → count_of (next w) < suc (count_of w)
under_next none = omega arith
under_next (more t ts) = omega arith

pub under_later : {p q : Parser} (v : Toks) {r : Toks} {s z : Scope} → At p (next v) s → At q r z → Later p q → count_of r < suc (count_of v)
under_later v {r} a b l = let x : count_of r ≤ count_of (next v) = count_later a b l in let y : count_of (next v) < suc (count_of v) = under_next v in omega (arith, x, y)

pub fewer_left : {q v : Parser} {u r : Toks} {c z : Scope} {n : ℕ} → At q u c → At v r z → length v.rest.now < length q.rest.now → count_of u < suc n → count_of r < n
fewer_left {q} {v} {u} {r} a b fewer less = let x : count_of u ≡ length q.rest.now = count_at a in let y : count_of r ≡ length v.rest.now = count_at b in omega (arith, x, y, fewer, less)

pub not_below : (n : ℕ) → n < 0 → ⊥
not_below n h = omega (arith, h)

pub below_less : (j m : ℕ) → 1 ≤ m → j ≤ m - 1 → j < m
below_less j m a b = omega (arith, a, b)

pub shrinks : (j k n m : ℕ) → n ≡ m - 1 → k ≤ n → j ≤ k → j ≤ m - 1
shrinks j k n m a b c = omega (arith, a, b, c)

-- a token is left where a parser sees a mark
pub some_left : (p : Parser) → 1 ≤ count_of (toks_of p) → 1 ≤ length p.rest.now
some_left p h = let x : count_of (toks_of p) ≡ length p.rest.now = count_seen p.rest.now in omega (arith, x, h)

pub dot_counts : (source : Bytes) (w : Toks) → is_dot source w ≡ true → 1 ≤ count_of w
dot_counts source none is = cc
dot_counts source (more t ts) is = omega arith

pub bracket_counts : (source f : Bytes) (w : Toks) (b : Bool) → (is_mark source f w && b) ≡ true → 1 ≤ count_of w
bracket_counts source f none b is = cc
bracket_counts source f (more t ts) b is = omega arith
