-- How a loop goes on, turn by turn.
use Rattle.std.proofs.Common.{◌≡◌, refl, sym, ap, ◌∙◌, subst, ℕ, zero, suc, ◌<◌, ◌≤◌, ◌-◌, Bool, true, false, ◌&&◌, List, [], ◌∷◌, length, codes, if◌then◌else◌, Result, Ok, Err, IsErr, IsErrAnd, IfOk, arith}
use Rattle.ruby_lexer.specs.declared.token.Token.{Token}
use Rattle.ruby_lexer.specs.Bytes.{Bytes}
use Rattle.ruby_lexer.specs.Pieces.{Toks, none, more, seen_all}
use Rattle.ruby_tree.specs.Names.{Texts}
use Rattle.ruby_tree.specs.Rules.{Scope, next, is_mark}
use Rattle.ruby_tree.specs.FaultLine.{count_of}
use Rattle.reference_parser.specs.Answers.{Answer, taken, Parse, ◌>>=◌}
use Rattle.parse_state.specs.declared.failures.Failure.{Failure}
use Rattle.parse_state.specs.declared.failures.Failure.TheVariants as failure
use Rattle.parse_state.specs.declared.standing.Parser.{Parser}
use Rattle.parse_state.specs.Standing.{At, Later, toks_of, scope_of}
use Rattle.parse_state.specs.Gives.{Gives, gave, no_syntax, too_deep, no_memory, Expects, met}
use Rattle.parse_state.proofs.Steps.{here, later_same, later_then, from}
use Rattle.parse_parts.specs.Turns.{Turns, goes_on, ends, no_syntax as turn_no_syntax, too_deep as turn_too_deep, no_memory as turn_no_memory}

-- a mark is one token less
pub mark_less : (source f : Bytes) (ts : List Token) → is_mark source f (seen_all ts) ≡ true → length ts - 1 < length ts
mark_less source f [] is = absurd cc
mark_less source f (t ∷ ts) is = omega arith

pub first_true : (x y : Bool) → (x && y) ≡ true → x ≡ true
first_true true y is = refl
first_true false y is = is

pub bumped : {p : Parser} {w : Toks} {s : Scope} {n : ℕ} (source : Bytes) → At p w s → is_mark source (codes ",") w ≡ true → n ≡ length p.rest.now - 1 → n < length p.rest.now
bumped {p} {w} {s} {n} source a is one =
    let less : length p.rest.now - 1 < length p.rest.now = mark_less source (codes ",") p.rest.now (subst (λ (v : Toks). is_mark source (codes ",") v ≡ true) (sym a.tokens) is) in
    omega arith

pub comma_less : (p : Parser) {n : ℕ} (source : Bytes) (b : Bool) → (is_mark source (codes ",") (toks_of p) && b) ≡ true → n ≡ length p.rest.now - 1 → n < length p.rest.now
comma_less p source b is one = bumped source (here p) (first_true (is_mark source (codes ",") (toks_of p)) b is) one

pub met_later : {p q : Parser} {v : Toks} {s : Scope} {x : Unit {0}} {c : Bool} → Expects p q v s (Ok x) c → Later p q
met_later (met b l) = l

-- the tokens that are left, as they are counted
pub seen_count : (ts : List Token) → count_of (seen_all ts) ≡ length ts
seen_count [] = refl
seen_count (t ∷ ts) = ap suc (seen_count ts)

pub counted : {p : Parser} {w : Toks} {s : Scope} → At p w s → count_of w ≡ length p.rest.now
counted {p} a = ap count_of (sym a.tokens) ∙ seen_count p.rest.now

module _ {X A : Type 0} {H : Texts → X → A → Type 0} where
  pub turn_from : {p q v : Parser} {x : X} {k : A → Parse A} {result : Result Bool Failure} {a : Answer A} → Later p q → Turns H q v x k result a → Turns H p v x k result a
  turn_from {p} {q} {v} l (goes_on b m fewer h) = let rest : length q.rest.now ≤ length p.rest.now = l.rest in goes_on b (later_then l m) (omega arith) h
  turn_from l (ends b m h) = ends b (later_then l m) h
  turn_from l turn_no_syntax = turn_no_syntax
  turn_from l turn_too_deep = turn_too_deep
  turn_from l turn_no_memory = turn_no_memory

  pub turn_named : {p q : Parser} {x : X} {k : A → Parse A} {result : Result Bool Failure} {a b : Answer A} → a ≡ b → Turns H p q x k result b → Turns H p q x k result a
  turn_named {p} {q} {x} {k} {result} is g = subst (λ (c : Answer A). Turns H p q x k result c) (sym is) g

  -- by a test
  pub turn_yes : {p q : Parser} {x : X} {k : A → Parse A} {result : Result Bool Failure} {c : Bool} {a : Answer A} (b : Answer A) → c ≡ true → Turns H p q x k result a → Turns H p q x k result (if c then a else b)
  turn_yes {p} {q} {x} {k} {result} {c} {a} b is g = subst (λ (d : Bool). Turns H p q x k result (if d then a else b)) (sym is) g

  pub turn_no : {p q : Parser} {x : X} {k : A → Parse A} {result : Result Bool Failure} {c : Bool} {b : Answer A} (a : Answer A) → c ≡ false → Turns H p q x k result b → Turns H p q x k result (if c then a else b)
  turn_no {p} {q} {x} {k} {result} {c} {b} a is g = subst (λ (d : Bool). Turns H p q x k result (if d then a else b)) (sym is) g

  -- an error that is handed on
  pub turn_handed : {p q : Parser} {x : X} {k : A → Parse A} {a : Answer A} (result : Result Bool Failure) (e : Failure) → IsErrAnd result (λ d. d ≡ e) → Turns H p q x k (Err e) a → Turns H p q x k result a
  turn_handed (Ok y) e is g = elim is [ ]
  turn_handed {p} {q} {x} {k} {a} (Err d) e is g = subst (λ (y : Failure). Turns H p q x k (Err y) a) (sym is) g

  pub turn_wanting : {p q : Parser} {x : X} {k : A → Parse A} {a : Answer A} (result : Result Bool Failure) → IsErrAnd result (λ d. d ≡ failure.Memory) → Turns H p q x k result a
  turn_wanting (Ok y) is = elim is [ ]
  turn_wanting {p} {q} {x} {k} {a} (Err d) is = subst (λ (y : Failure). Turns H p q x k (Err y) a) (sym is) turn_no_memory

-- a part, and then the turn goes on behind it
module _ {X Y A B : Type 0} {H : Texts → X → A → Type 0} {K : Texts → Y → B → Type 0} where
  pub turn_then : {p q v : Parser} {y : Y} {x : X} {k : A → Parse A} {result : Result Bool Failure} {a : Answer B} {f : B → Parse A} → Gives K p q (Ok y) a → ((t : B) (r : Toks) (z : Scope) → At q r z → K q.symbols y t → Turns H q v x k result (f t r z)) → Turns H p v x k result (a >>= f)
  unfolding ◌>>=◌
  turn_then (gave {t = t} {r = r} {z = z} b l h) on = turn_from l (on t r z b h)

  pub turn_failed : {p q v : Parser} {x : X} {k : A → Parse A} {e : Failure} {a : Answer B} (f : B → Parse A) → Gives K p q (Err e) a → Turns H p v x k (Err e) (a >>= f)
  unfolding ◌>>=◌
  turn_failed f no_syntax = turn_no_syntax
  turn_failed f too_deep = turn_too_deep
  turn_failed f no_memory = turn_no_memory

  -- a step that takes what is known
  pub turn_step : {p q v : Parser} {y : Y} {x : X} {k : A → Parse A} {t : B} {w : Toks} {s : Scope} {result : Result Bool Failure} {a : Answer A} → Gives K p q (Ok y) (taken t w s) → (At q w s → K q.symbols y t → Turns H q v x k result a) → Turns H p v x k result a
  turn_step (gave b l h) on = turn_from l (on b h)

  pub turn_cut : {p q v : Parser} {x : X} {k : A → Parse A} {e : Failure} {t : B} {w : Toks} {s : Scope} {a : Answer A} → Gives K p q (Err e) (taken t w s) → Turns H p v x k (Err e) a
  turn_cut no_memory = turn_no_memory

-- The loop began where the parser was p, and it is q now, where x was gathered. What the whole loop answers is what the turns that are left
-- make of what x holds; a number that is more than the count of the tokens bounds them.
pub data Going {X A : Type 0} (H : Texts → X → A → Type 0) (rest : ℕ → A → Parse A) (p q : Parser) (x : X) : Answer A → Type 0 where
  going : {m : ℕ} {t : A} {r : Toks} {z : Scope} → At q r z → Later p q → count_of r < m → H q.symbols x t → Going H rest p q x (rest m t r z)

-- the same wherever it began, with x gathered, and y is gathered now
abbrev pub Goes : {X A : Type 0} → (Texts → X → A → Type 0) → (ℕ → A → Parse A) → Parser → X → Parser → X → Type 0
Goes {X} {A} H rest p x q y = (m : ℕ) (t : A) (w : Toks) (s : Scope) → At p w s → H p.symbols x t → count_of w < m → Going H rest p q y (rest m t w s)

-- what a turn leaves
module _ {X A : Type 0} {H : Texts → X → A → Type 0} {k : A → Parse A} where
  pub turn_was : {q v : Parser} {y : X} {a : Answer A} {b c : Bool} → b ≡ c → Turns H q v y k (Ok b) a → Turns H q v y k (Ok c) a
  turn_was {q} {v} {y} {a} is turn = subst (λ (d : Bool). Turns H q v y k (Ok d) a) is turn

  pub fewer : {q v : Parser} {y : X} {b : Answer A} → Turns H q v y k (Ok true) b → length v.rest.now < length q.rest.now
  fewer (goes_on a n less h) = less

  pub ended : {p q v : Parser} {y : X} {b : Answer A} → Later p q → Turns H q v y k (Ok false) b → Gives H p v (Ok y) b
  ended l (ends a n h) = gave a (later_then l n) h

  stopped_at : {p q v : Parser} {y : X} {b : Answer A} {e : Failure} → Turns H q v y k (Err e) b → Gives H p v (Err e) b
  stopped_at turn_no_syntax = no_syntax
  stopped_at turn_too_deep = too_deep
  stopped_at turn_no_memory = no_memory

  pub stopped : {p q v : Parser} {y : X} {b : Answer A} {e : Failure} (result : Result X Failure) → IsErrAnd result (λ d. d ≡ e) → Turns H q v y k (Err e) b → Gives H p v result b
  stopped (Ok z) is turn = elim is [ ]
  stopped {p} {q} {v} {y} {b} {e} (Err d) is turn = subst (λ (f : Failure). Gives H p v (Err f) b) (sym is) (stopped_at turn)

module _ {X A : Type 0} {H : Texts → X → A → Type 0} {rest : ℕ → A → Parse A} where
  pub begins : (p : Parser) (x : X) → Goes H rest p x p x
  begins p x m t w s a h less = going a (later_same p) less h

  turned_on : {m : ℕ} {p q v : Parser} {y : X} {b : Answer A} → length q.rest.now ≤ m → Later p q → Turns H q v y (rest m) (Ok true) b → Going H rest p v y b
  turned_on {m} {p} {q} {v} enough l (goes_on {r = r} a n less h) = let count : count_of r ≡ length v.rest.now = counted a in going a (later_then l n) (omega arith) h

  -- One more turn, by what it makes of what was gathered and of the further turns.
  module _ (body : A → (A → Parse A) → Parse A) (unrolls : (m : ℕ) (t : A) (w : Toks) (s : Scope) → rest (suc m) t w s ≡ body t (rest m) w s) {q v : Parser} {x y : X} where
    turned : {p : Parser} {a : Answer A} → ((w : Toks) (s : Scope) (t : A) (further : A → Parse A) → At q w s → H q.symbols x t → Turns H q v y further (Ok true) (body t further w s)) → Going H rest p q x a → Going H rest p v y a
    turned turn (going {m = zero} a l less h) = absurd (omega arith)
    turned {p} turn (going {m = suc m} {t = t} {r = r} {z = z} a l less h) =
        let count : count_of r ≡ length q.rest.now = counted a in
        subst (λ (c : Answer A). Going H rest p v y c) (sym (unrolls m t r z)) (turned_on (omega arith) l (turn r z t (rest m) a h))

    turned_end : {p : Parser} {a : Answer A} → ((w : Toks) (s : Scope) (t : A) (further : A → Parse A) → At q w s → H q.symbols x t → Turns H q v y further (Ok false) (body t further w s)) → Going H rest p q x a → Gives H p v (Ok y) a
    turned_end turn (going {m = zero} a l less h) = absurd (omega arith)
    turned_end {p} turn (going {m = suc m} {t = t} {r = r} {z = z} a l less h) =
        subst (λ (c : Answer A). Gives H p v (Ok y) c) (sym (unrolls m t r z)) (ended l (turn r z t (rest m) a h))

    turned_stop : {p : Parser} {a : Answer A} {e : Failure} (result : Result X Failure) → IsErrAnd result (λ d. d ≡ e) → ((w : Toks) (s : Scope) (t : A) (further : A → Parse A) → At q w s → H q.symbols x t → Turns H q v y further (Err e) (body t further w s)) → Going H rest p q x a → Gives H p v result a
    turned_stop result is turn (going {m = zero} a l less h) = absurd (omega arith)
    turned_stop {p} result is turn (going {m = suc m} {t = t} {r = r} {z = z} a l less h) =
        subst (λ (c : Answer A). Gives H p v result c) (sym (unrolls m t r z)) (stopped result is (turn r z t (rest m) a h))

    turned_fewer : {p : Parser} {a : Answer A} → ((w : Toks) (s : Scope) (t : A) (further : A → Parse A) → At q w s → H q.symbols x t → Turns H q v y further (Ok true) (body t further w s)) → Going H rest p q x a → length v.rest.now < length q.rest.now
    turned_fewer turn (going {m = m} {t = t} {r = r} {z = z} a l less h) = fewer (turn r z t (rest m) a h)

    -- the same of a loop, by its invariant
    module _ {p : Parser} {o : X} (goes : Goes H rest p o q x) where
      pub goes_more : {b : Bool} → b ≡ true → ((w : Toks) (s : Scope) (t : A) (further : A → Parse A) → At q w s → H q.symbols x t → Turns H q v y further (Ok b) (body t further w s)) → Goes H rest p o v y
      goes_more is turn m t w s a h less = turned (λ u z i k b g. turn_was is (turn u z i k b g)) (goes m t w s a h less)

      -- o holds t at least
      pub goes_fewer : (t : A) → H p.symbols o t → {b : Bool} → b ≡ true → ((w : Toks) (s : Scope) (t : A) (further : A → Parse A) → At q w s → H q.symbols x t → Turns H q v y further (Ok b) (body t further w s)) → length v.rest.now < length q.rest.now
      goes_fewer t h is turn = turned_fewer (λ u z i k b g. turn_was is (turn u z i k b g)) (goes (suc (count_of (toks_of p))) t (toks_of p) (scope_of p) (here p) h (omega arith))

      pub goes_end : (m : ℕ) (t : A) (w : Toks) (s : Scope) → At p w s → H p.symbols o t → count_of w < m → {b : Bool} → b ≡ false → ((w : Toks) (s : Scope) (t : A) (further : A → Parse A) → At q w s → H q.symbols x t → Turns H q v y further (Ok b) (body t further w s)) → Gives H p v (Ok y) (rest m t w s)
      goes_end m t w s a h less is turn = turned_end (λ u z i k b g. turn_was is (turn u z i k b g)) (goes m t w s a h less)

      pub goes_stop : (m : ℕ) (t : A) (w : Toks) (s : Scope) → At p w s → H p.symbols o t → count_of w < m → {e : Failure} (result : Result X Failure) → IsErrAnd result (λ d. d ≡ e) → ((w : Toks) (s : Scope) (t : A) (further : A → Parse A) → At q w s → H q.symbols x t → Turns H q v y further (Err e) (body t further w s)) → Gives H p v result (rest m t w s)
      goes_stop m t w s a h less result is turn = turned_stop result is turn (goes m t w s a h less)

-- a turn that is followed by a loop of its own
module _ {X Y A : Type 0} {H : Texts → X → A → Type 0} {K : Texts → Y → A → Type 0} where
  goes_behind : {p q v : Parser} {x : X} {result : Result Y Failure} {k : A → Parse A} {a : Answer A} → Turns H p q x k (Ok true) a → ((t : A) (r : Toks) (z : Scope) → At q r z → H q.symbols x t → length q.rest.now < length p.rest.now → Gives K q v result (k t r z)) → Gives K p v result a
  goes_behind (goes_on {t = t} {r = r} {z = z} b l less h) on = from l (on t r z b h less)

  pub goes_from : {p q v : Parser} {x : X} {result : Result Y Failure} {k : A → Parse A} {a : Answer A} {b : Bool} → b ≡ true → Turns H p q x k (Ok b) a → ((t : A) (r : Toks) (z : Scope) → At q r z → H q.symbols x t → length q.rest.now < length p.rest.now → Gives K q v result (k t r z)) → Gives K p v result a
  goes_from is turn on = goes_behind (turn_was is turn) on

-- what was taken
pub held : {X A : Type 0} {H : Texts → X → A → Type 0} {p q : Parser} {x : X} {a : Answer A} → Gives H p q (Ok x) a → (t : A) × H q.symbols x t
held (gave {t = t} b l h) = (t, h)

-- fewer tokens, where a turn says that another one follows
pub fewer_then : {p q : Parser} {n : ℕ} → Later p q → n < length q.rest.now → n < length p.rest.now
fewer_then {p} {q} {n} l less = let rest : length q.rest.now ≤ length p.rest.now = l.rest in omega arith

pub fewer_from : (n m o : ℕ) (result : Result Bool Failure) → m ≤ n → IfOk result (λ further. further ≡ true → o < m) → IfOk result (λ further. further ≡ true → o < n)
fewer_from n m o (Ok b) l less = λ is. let here : o < m = less is in omega arith
fewer_from n m o (Err e) l less = tt

pub fewer_none : (n m : ℕ) (result : Result Bool Failure) → IsErr result → IfOk result (λ further. further ≡ true → m < n)
fewer_none n m (Ok b) is = absurd cc
fewer_none n m (Err e) is = tt

pub none_true : {A : Type 0} → false ≡ true → A
none_true is = absurd cc

pub count_next : (w : Toks) → count_of (next w) < suc (count_of w)
count_next none = omega arith
count_next (more t ts) = omega arith

pub count_later : {p q : Parser} {w v : Toks} {s z : Scope} → At p w s → At q v z → Later p q → count_of v < suc (count_of w)
count_later {p} {q} {w} {v} a b l =
    let first : count_of w ≡ length p.rest.now = counted a in
    let second : count_of v ≡ length q.rest.now = counted b in
    let rest : length q.rest.now ≤ length p.rest.now = l.rest in
    omega arith

pub count_fewer : {p q : Parser} {w v : Toks} {s z : Scope} {m : ℕ} → At p w s → At q v z → length q.rest.now < length p.rest.now → count_of w < m → count_of v < m
count_fewer {p} {q} {w} {v} a b fewer less =
    let first : count_of w ≡ length p.rest.now = counted a in
    let second : count_of v ≡ length q.rest.now = counted b in
    omega arith
