-- How the walk goes on with the parser, turn by turn.
use Rattle.std.proofs.Common.{◌≡◌, refl, sym, ap, ◌∙◌, subst, ℕ, ◌<◌, ◌≤◌, Bool, true, false, Option, Some, None, List, length, ◌&&◌, if◌then◌else◌, Result, Ok, Err, IfOk, IsErr, IsErrAnd, arith}
use Rattle.ruby_lexer.specs.declared.token.Token.{Token}
use Rattle.ruby_lexer.specs.Bytes.{Bytes}
use Rattle.ruby_lexer.specs.Pieces.{Toks, none, more, seen_all}
use Rattle.ruby_tree.specs.Names.{Texts}
use Rattle.ruby_tree.specs.Tree.{Tree, Other}
use Rattle.ruby_tree.specs.Rules.{Scope, fresh, own, next}
use Rattle.ruby_tree.specs.FaultLine.{count_of}
use Rattle.reference_parser.specs.Answers.{Answer, taken, fault, deep, Parse, ◌>>=◌, Found, ◌>>>◌}
use Rattle.reference_parser.specs.Fronts.{is_newline, is_constant}
use Rattle.reference_parser.specs.ReadItems.{Readers}
use Rattle.reference_parser.specs.ReadBodies.{read_superclass}
use Rattle.reference_parser.specs.Stops.{class_header, stops_at}
use Rattle.reference_parser.proofs.ClassFirst.{Precedes, goes as goes_first, faults, deeps}
use Rattle.parse_state.specs.declared.failures.Failure.{Failure}
use Rattle.parse_state.specs.declared.failures.Failure.TheVariants as failure
use Rattle.parse_state.specs.declared.standing.Parser.{Parser}
use Rattle.parse_state.specs.Standing.{At, Later, toks_of}
use Rattle.parse_state.specs.Gives.{Gives, gave, no_syntax, too_deep, no_memory, Finds, finds, misses, no_memory as missed_memory, Expects, met, unmet}
use Rattle.parse_parts.proofs.Turning.{counted}
use Rattle.parse_program.specs.Turn.{first_line, turn_at, or_else, kept, IsAny, Moves, goes, stops, too_deep as too_deep_here, no_memory as no_memory_here}
use Rattle.parse_program.proofs.Walks.{walk, walk_begins, Further, further, Walks, on, up_to, cut_short, turn_walks}

-- The parser stands within a front of the walk, which answers a from there.
pub data Walking (source : Bytes) (Q : Readers) (end : ℕ) (q : Parser) : Option ℕ → Type 0 where
  walking : {n m : ℕ} {r : Toks} {z : Scope} → At q r z → count_of r < n → count_of r ≤ m → Walking source Q end q (walk source Q end n m r z)

-- the parser was p where the walk began
abbrev pub WalksFrom : Bytes → Readers → ℕ → Parser → Parser → Type 0
WalksFrom source Q end p q = (w : Toks) (s : Scope) → At p w s → Walking source Q end q (stops_at source Q end w s)

-- where no line is known
no_line : {E : Type 0} (line : Result (Option ℕ) E) (a : Option ℕ) → IsErr line → IfOk line (λ l. l ≡ a)
no_line (Ok l) a is = absurd cc
no_line (Err e) a is = tt

module _ {source : Bytes} {Q : Readers} {end : ℕ} where
  pub walking_begins : (p : Parser) → WalksFrom source Q end p p
  walking_begins p w s a = subst (λ (x : Option ℕ). Walking source Q end p x) (sym (walk_begins source Q end w s)) (walking a (omega arith) (omega arith))

  -- one turn more
  on_from : {v : Parser} {r : Toks} {z : Scope} {a : Option ℕ} → At v r z → Further source Q end a r z → Walking source Q end v a
  on_from {v} at (further less enough is) = subst (λ (x : Option ℕ). Walking source Q end v x) (sym is) (walking at less enough)

  goes_by : {count k : ℕ} {w : Toks} {v : Parser} {a : Option ℕ} {b : Answer (Unit {0})} → count ≡ k → Walks source Q end count w a b → Moves k v (Ok tt) b → Walking source Q end v a
  goes_by same (up_to is) m = elim m [ ]
  goes_by same (cut_short is) m = elim m [ ]
  goes_by {v = v} same (on {r = r} f) (goes at less) = let here : count_of r ≡ length v.rest.now = counted at in on_from at (f (omega arith))

  turned : {q v : Parser} {a : Option ℕ} → ((w : Toks) (s : Scope) → At q w s → Moves (length q.rest.now) v (Ok tt) (turn_at source Q w s)) → Walking source Q end q a → Walking source Q end v a
  turned turn (walking {n = n} {m = m} {r = r} {z = z} at turns fronts) = goes_by (counted at) (turn_walks source Q end n m r z turns fronts) (turn r z at)

  pub walks_more : {p q v : Parser} → WalksFrom source Q end p q → ((w : Toks) (s : Scope) → At q w s → Moves (length q.rest.now) v (Ok tt) (turn_at source Q w s)) → WalksFrom source Q end p v
  walks_more so_far turn w s a = turned turn (so_far w s a)

  -- where the walk ends
  ends_by : {E : Type 0} {count k : ℕ} {w x : Toks} {v : Parser} {a : Option ℕ} {b : Answer (Unit {0})} {e : Failure} (line : Result (Option ℕ) E) → x ≡ w → (e ≡ failure.Syntax → IfOk line (λ l. l ≡ Some (first_line end x))) → (e ≡ failure.TooDeep → IfOk line (λ l. l ≡ None)) → (e ≡ failure.Memory → IsErr line) → Walks source Q end count w a b → Moves k v (Err e) b → IfOk line (λ l. l ≡ a)
  ends_by line same f g h (on k) no_memory_here = no_line line _ (h refl)
  ends_by line same f g h (up_to is) no_memory_here = no_line line _ (h refl)
  ends_by line same f g h (cut_short is) no_memory_here = no_line line _ (h refl)
  ends_by line same f g h (up_to is) stops = subst (λ (y : Option ℕ). IfOk line (λ l. l ≡ y)) (ap (λ (t : Toks). Some (first_line end t)) same ∙ sym is) (f refl)
  ends_by line same f g h (cut_short is) too_deep_here = subst (λ (y : Option ℕ). IfOk line (λ l. l ≡ y)) (sym is) (g refl)

  ended : {E : Type 0} {q v : Parser} {a : Option ℕ} {e : Failure} (line : Result (Option ℕ) E) (place : List Token) → place ≡ q.rest.now → (e ≡ failure.Syntax → IfOk line (λ l. l ≡ Some (first_line end (seen_all place)))) → (e ≡ failure.TooDeep → IfOk line (λ l. l ≡ None)) → (e ≡ failure.Memory → IsErr line) → ((w : Toks) (s : Scope) → At q w s → Moves (length q.rest.now) v (Err e) (turn_at source Q w s)) → Walking source Q end q a → IfOk line (λ l. l ≡ a)
  ended line place same f g h turn (walking {n = n} {m = m} {r = r} {z = z} at turns fronts) = ends_by line (ap seen_all same ∙ at.tokens) f g h (turn_walks source Q end n m r z turns fronts) (turn r z at)

  pub walks_end : {E : Type 0} {p q v : Parser} {e : Failure} (line : Result (Option ℕ) E) (place : List Token) → place ≡ q.rest.now → (e ≡ failure.Syntax → IfOk line (λ l. l ≡ Some (first_line end (seen_all place)))) → (e ≡ failure.TooDeep → IfOk line (λ l. l ≡ None)) → (e ≡ failure.Memory → IsErr line) → WalksFrom source Q end p q → ((w : Toks) (s : Scope) → At q w s → Moves (length q.rest.now) v (Err e) (turn_at source Q w s)) → (w : Toks) (s : Scope) → At p w s → IfOk line (λ l. l ≡ stops_at source Q end w s)
  walks_end line place same f g h so_far turn w s a = ended line place same f g h turn (so_far w s a)

pub moves_fewer : {n : ℕ} {v : Parser} {a : Answer (Unit {0})} → Moves n v (Ok tt) a → length v.rest.now < n
moves_fewer (goes at less) = less

-- an outcome by another name
pub moves_as : {n m : ℕ} {v : Parser} {x y : Result (Unit {0}) Failure} {a : Answer (Unit {0})} → n ≡ m → x ≡ y → Moves n v x a → Moves m v y a
moves_as {n} {m} {v} {x} {y} {a} count is g = subst (λ (k : ℕ). Moves k v y a) count (subst (λ (r : Result (Unit {0}) Failure). Moves n v r a) is g)

-- a newline is one token less
next_less : (w : Toks) → is_newline w ≡ true → count_of (next w) < count_of w
next_less none is = absurd cc
next_less (more t ts) is = omega arith

pub newline_fewer : {p q : Parser} {w : Toks} {s z : Scope} → At p w s → At q (next w) z → is_newline w ≡ true → length q.rest.now < length p.rest.now
newline_fewer {p} {q} {w} a b is =
    let one : count_of (next w) < count_of w = next_less w is in
    let first : count_of w ≡ length p.rest.now = counted a in
    let second : count_of (next w) ≡ length q.rest.now = counted b in
    omega arith

module _ {n : ℕ} {q : Parser} {result : Result (Unit {0}) Failure} where
  -- by a test
  pub moves_yes : {c : Bool} {a : Answer (Unit {0})} (b : Answer (Unit {0})) → c ≡ true → Moves n q result a → Moves n q result (if c then a else b)
  moves_yes {c} {a} b is m = subst (λ (d : Bool). Moves n q result (if d then a else b)) (sym is) m

  pub moves_no : {c : Bool} {b : Answer (Unit {0})} (a : Answer (Unit {0})) → c ≡ false → Moves n q result b → Moves n q result (if c then a else b)
  moves_no {c} {b} a is m = subst (λ (d : Bool). Moves n q result (if d then a else b)) (sym is) m

  pub moves_both : {c : Bool} (d : Bool) (a b : Answer (Unit {0})) → c ≡ true → Moves n q result (if d then a else b) → Moves n q result (if c && d then a else b)
  moves_both {c} d a b is m = subst (λ (e : Bool). Moves n q result (if e && d then a else b)) (sym is) m

  pub moves_neither : {c : Bool} {b : Answer (Unit {0})} (d : Bool) (a : Answer (Unit {0})) → c ≡ false → Moves n q result b → Moves n q result (if c && d then a else b)
  moves_neither {c} {b} d a is m = subst (λ (e : Bool). Moves n q result (if e && d then a else b)) (sym is) m

  -- by a test of the second of two
  pub second_yes : {c : Bool} (x a b : Answer (Unit {0})) → c ≡ true → Moves n q result (or_else x a) → Moves n q result (or_else x (if c then a else b))
  second_yes {c} x a b is m = subst (λ (d : Bool). Moves n q result (or_else x (if d then a else b))) (sym is) m

  -- the same with the scope before it
  pub kept_yes : {c : Bool} (s : Scope) (a b : Answer (Unit {0})) → c ≡ true → Moves n q result (kept s a) → Moves n q result (kept s (if c then a else b))
  kept_yes {c} s a b is m = subst (λ (d : Bool). Moves n q result (kept s (if d then a else b))) (sym is) m

  pub kept_no : {c : Bool} (s : Scope) (a b : Answer (Unit {0})) → c ≡ false → Moves n q result (kept s b) → Moves n q result (kept s (if c then a else b))
  kept_no {c} s a b is m = subst (λ (d : Bool). Moves n q result (kept s (if d then a else b))) (sym is) m

pub kept_fault : {n : ℕ} {q : Parser} (s : Scope) → Moves n q (Err failure.Syntax) (kept s fault)
unfolding kept
kept_fault s = stops

-- the first of two, where it does not say that nothing is derived
pub moves_first : {n : ℕ} {q : Parser} {result : Result (Unit {0}) Failure} {a : Answer (Unit {0})} (b : Answer (Unit {0})) → (result ≡ Err failure.Syntax → ⊥) → Moves n q result a → Moves n q result (or_else a b)
unfolding or_else
moves_first b not (goes at less) = goes at less
moves_first b not stops = absurd (not refl)
moves_first b not too_deep_here = too_deep_here
moves_first {a = taken u r z} b not no_memory_here = no_memory_here
moves_first {a = fault} b not no_memory_here = no_memory_here
moves_first {a = deep} b not no_memory_here = no_memory_here

-- an error that is handed on
pub moves_handed : {n : ℕ} {q : Parser} {a : Answer (Unit {0})} (result : Result (Unit {0}) Failure) (e : Failure) → IsErrAnd result (λ d. d ≡ e) → Moves n q (Err e) a → Moves n q result a
moves_handed (Ok x) e is m = elim is [ ]
moves_handed {n} {q} {a} (Err d) e is m = subst (λ (x : Failure). Moves n q (Err x) a) (sym is) m

-- the second of two, where nothing is derived of the first
pub moves_second : {n : ℕ} {q v : Parser} {result : Result (Unit {0}) Failure} {a : Answer (Unit {0})} (b : Answer (Unit {0})) → Moves n q (Err failure.Syntax) a → Moves n v result b → Moves n v result (or_else a b)
unfolding or_else
moves_second b stops m = m

-- a part, and then what is behind it
module _ {X A : Type 0} {H : Texts → X → A → Type 0} {n : ℕ} {p q v : Parser} (f : A → Parse (Unit {0})) where
  pub moves_then : {x : X} {result : Result (Unit {0}) Failure} {a : Answer A} → Gives H p q (Ok x) a → ((t : A) (r : Toks) (z : Scope) → At q r z → Moves n v result (f t r z)) → Moves n v result (a >>= f)
  unfolding ◌>>=◌
  moves_then (gave {t = t} {r = r} {z = z} b l h) k = k t r z b

  pub moves_failed : {e : Failure} {a : Answer A} → Gives H p q (Err e) a → Moves n v (Err e) (a >>= f)
  unfolding ◌>>=◌
  moves_failed no_syntax = stops
  moves_failed too_deep = too_deep_here
  moves_failed no_memory = no_memory_here

  -- the same with the scope before it
  pub kept_then : (s : Scope) {x : X} {result : Result (Unit {0}) Failure} {a : Answer A} → Gives H p q (Ok x) a → ((t : A) (r : Toks) (z : Scope) → At q r z → Moves n v result (kept s (f t r z))) → Moves n v result (kept s (a >>= f))
  unfolding ◌>>=◌
  kept_then s (gave {t = t} {r = r} {z = z} b l h) k = k t r z b

  pub kept_failed : (s : Scope) {e : Failure} {a : Answer A} → Gives H p q (Err e) a → Moves n v (Err e) (kept s (a >>= f))
  unfolding ◌>>=◌ kept
  kept_failed s no_syntax = stops
  kept_failed s too_deep = too_deep_here
  kept_failed s no_memory = no_memory_here

-- a part, and nothing behind it
pub moves_over : {A : Type 0} {n : ℕ} {p q : Parser} {x : Result (Unit {0}) Failure} {a : Answer A} → length p.rest.now < n → Gives IsAny p q x a → Moves n q x (a >>= λ t r z. taken tt r z)
unfolding ◌>>=◌
moves_over {n} {p} {q} less (gave b l h) = let rest : length q.rest.now ≤ length p.rest.now = l.rest in goes b (omega arith)
moves_over less no_syntax = stops
moves_over less too_deep = too_deep_here
moves_over less no_memory = no_memory_here

-- what the tokens alone decide, and then what is behind it
module _ {X A : Type 0} {H : Texts → X → A → Type 0} {n : ℕ} {p q v : Parser} {s : Scope} (f : A → Toks → Answer (Unit {0})) where
  pub moves_found : {x : X} {result : Result (Unit {0}) Failure} {a : Found A} → Finds H p q s (Ok x) a → ((t : A) (r : Toks) → At q r s → Later p q → Moves n v result (f t r)) → Moves n v result (a >>> f)
  unfolding ◌>>>◌
  moves_found (finds {t = t} {r = r} b l h) k = k t r b l

  pub moves_missed : {e : Failure} {a : Found A} → Finds H p q s (Err e) a → Moves n v (Err e) (a >>> f)
  unfolding ◌>>>◌
  moves_missed misses = stops
  moves_missed missed_memory = no_memory_here

-- a newline, which has to stand at w
module _ {n : ℕ} {p q : Parser} {w : Toks} {s : Scope} (a : At p w s) where
  met_newline : {result : Result (Unit {0}) Failure} {c : Bool} → is_newline w ≡ c → length p.rest.now ≤ n → Expects p q (next w) s result c → Moves n q result (if c then taken tt (next w) s else fault)
  met_newline is enough (met b l) = let less : length q.rest.now < length p.rest.now = newline_fewer a b is in goes b (omega arith)
  met_newline is enough unmet = stops

  pub moves_newline : {result : Result (Unit {0}) Failure} → length p.rest.now ≤ n → Expects p q (next w) s result (is_newline w) → Moves n q result (if is_newline w then taken tt (next w) s else fault)
  moves_newline enough e = met_newline refl enough e

  unmet_newline : {v : Parser} {e : Failure} (x : Scope) {c : Bool} (z : Answer (Unit {0})) → Expects p q (next w) s (Err e) c → Moves n v (Err e) (kept x (if c then z else fault))
  unfolding kept
  unmet_newline x z unmet = stops

  pub kept_unmet : {v : Parser} {e : Failure} (x : Scope) (z : Answer (Unit {0})) → Expects p q (next w) s (Err e) (is_newline w) → Moves n v (Err e) (kept x (if is_newline w then z else fault))
  kept_unmet x z e = unmet_newline x z e

  met_closed : {v : Parser} (x y : Scope) {c : Bool} → is_newline w ≡ c → length p.rest.now ≤ n → Expects p q (next w) s (Ok tt) c → (At q (next w) s → Later p q → At v (next w) x) → Moves n v (Ok tt) (kept x (if c then taken tt (next w) y else fault))
  unfolding kept
  met_closed {v = v} x y is enough (met b l) close = let less : length v.rest.now < length p.rest.now = newline_fewer a (close b l) is in goes (close b l) (omega arith)

  pub kept_closed : {v : Parser} (x y : Scope) → length p.rest.now ≤ n → Expects p q (next w) s (Ok tt) (is_newline w) → (At q (next w) s → Later p q → At v (next w) x) → Moves n v (Ok tt) (kept x (if is_newline w then taken tt (next w) y else fault))
  kept_closed x y enough e close = met_closed x y refl enough e close

-- where a header of a class fails, by the statement there
pub class_fails : {h : Answer (Unit {0})} {a : Answer Tree} {n : ℕ} {q v : Parser} {e : Failure} (s : Scope) (b : Bool) (f : Tree → Parse (Unit {0})) → Precedes h a → Moves n q (Err e) (kept s h) → Moves n v (Err e) (or_else (if b then a >>= f else fault) h)
unfolding or_else kept ◌>>=◌
class_fails s b f goes_first no_memory_here = no_memory_here
class_fails s true f faults stops = stops
class_fails s false f faults stops = stops
class_fails s b f faults no_memory_here = no_memory_here
class_fails s true f deeps too_deep_here = too_deep_here
class_fails s false f deeps too_deep_here = too_deep_here
class_fails s b f deeps no_memory_here = no_memory_here

-- a header of a class ends in fresh locals
pub data IsFresh : Answer (Unit {0}) → Type 0 where
  is_fresh : {u : Unit {0}} {r : Toks} → IsFresh (taken u r fresh)
  no_fault : IsFresh fault
  no_deep : IsFresh deep

fresh_newline : (b : Bool) (q : Toks) → IsFresh (if b then taken tt q fresh else fault)
fresh_newline true q = is_fresh
fresh_newline false q = no_fault

fresh_superclass : (o : Answer Other) → IsFresh (o >>= λ c q y. if is_newline q then taken tt (next q) fresh else fault)
unfolding ◌>>=◌
fresh_superclass (taken c q y) = fresh_newline (is_newline q) (next q)
fresh_superclass fault = no_fault
fresh_superclass deep = no_deep

fresh_name : (b : Bool) (o : Answer Other) → IsFresh (if b then (o >>= λ c q y. if is_newline q then taken tt (next q) fresh else fault) else fault)
fresh_name true o = fresh_superclass o
fresh_name false o = no_fault

pub class_fresh : (source : Bytes) (Q : Readers) (w : Toks) (s : Scope) → IsFresh (class_header source Q w s)
unfolding class_header
class_fresh source Q w s = fresh_name (is_constant (next w)) (read_superclass source Q own (next (next w)) s)

-- into the body behind a header that was taken
pub class_enters : {h : Answer (Unit {0})} {n : ℕ} {q v : Parser} (s : Scope) → IsFresh h → Moves n q (Ok tt) (kept s h) → At v (toks_of q) fresh → v.rest.now ≡ q.rest.now → Moves n v (Ok tt) h
unfolding kept
class_enters s no_fault m b same = elim m [ ]
class_enters s no_deep m b same = elim m [ ]
class_enters {n = n} {q = q} {v = v} s is_fresh (goes a less) b same = let fewer : length v.rest.now < n = subst (λ (x : List Token). length x < n) (sym same) less in goes (record { tokens = b.tokens ∙ a.tokens; locals = b.locals; clause = b.clause }) fewer

-- back before a header that was taken
pub class_back : (h : Answer (Unit {0})) {n : ℕ} {p q : Parser} {w : Toks} {s : Scope} → At p w s → Moves n q (Ok tt) (kept s h) → At (record q { rest = p.rest }) w s
unfolding kept
class_back fault a m = elim m [ ]
class_back deep a m = elim m [ ]
class_back (taken u r z) a (goes b less) = record { tokens = a.tokens; locals = b.locals; clause = b.clause }

-- whatever was read
module _ {X A : Type 0} {H : Texts → X → A → Type 0} {p q : Parser} where
  pub any_part : {x : X} {a : Answer A} → Gives H p q (Ok x) a → Gives IsAny p q (Ok tt) a
  any_part (gave b l h) = gave b l tt

  pub any_failed : {e : Failure} {a : Answer A} → Gives H p q (Err e) a → Gives IsAny p q (Err e) a
  any_failed no_syntax = no_syntax
  any_failed too_deep = too_deep
  any_failed no_memory = no_memory

-- no more tokens are left later on
pub later_fewer : {p q : Parser} {n : ℕ} → Later p q → length p.rest.now < n → length q.rest.now < n
later_fewer {p} {q} l less = let rest : length q.rest.now ≤ length p.rest.now = l.rest in omega arith
