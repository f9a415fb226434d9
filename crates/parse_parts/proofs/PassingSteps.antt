-- How turns go on behind what the tokens alone decide, and how what follows an answer is drawn into it.
use Rattle.std.proofs.Common.{◌≡◌, refl, sym, ap, ◌∙◌, subst, ℕ, ◌<◌, ◌≤◌, ◌-◌, Bool, true, false, not, ◌&&◌, List, [], ◌∷◌, length, if◌then◌else◌, Result, Ok, Err, arith}
use Rattle.std.specs.Prelude.{nat_le, nat_eq}
use Rattle.std.proofs.lemmas.Bool.Decides.{nat_tests}
use Rattle.ruby_lexer.specs.declared.token.Token.{Token}
use Rattle.ruby_lexer.specs.Bytes.{Bytes}
use Rattle.ruby_lexer.specs.Pieces.{Toks, seen_all}
use Rattle.ruby_tree.specs.Names.{Texts, Extends}
use Rattle.ruby_tree.specs.Tree.{SourcePosition, Form, at}
use Rattle.tree_builder.specs.declared.Subtree.{Subtree}
use Rattle.tree_builder.specs.Subtrees.{Holds}
use Rattle.ruby_tree.specs.Rules.{Scope, is_word}
use Rattle.reference_parser.specs.Answers.{Answer, taken, fault, deep, Parse, ◌>>=◌, Found, found, missing, ◌>>>◌}
use Rattle.parse_state.specs.declared.failures.Failure.{Failure}
use Rattle.parse_state.specs.declared.failures.Failure.TheVariants as failure
use Rattle.parse_state.specs.declared.standing.Parser.{Parser}
use Rattle.parse_state.specs.Standing.{At, Later}
use Rattle.parse_state.specs.Gives.{Gives, gave, no_syntax, too_deep, Finds, finds, misses, no_memory, Expects, met}
use Rattle.parse_parts.specs.Turns.{Turns, no_syntax as turn_no_syntax, no_memory as turn_no_memory}
use Rattle.parse_parts.proofs.Turning.{turn_from}

module _ {X Y A B : Type 0} {H : Texts → X → A → Type 0} {K : Texts → Y → B → Type 0} where
  pub turn_found : {p q v : Parser} {y : Y} {x : X} {k : A → Parse A} {result : Result Bool Failure} {s : Scope} {a : Found B} {f : B → Toks → Answer A} → Finds K p q s (Ok y) a → ((t : B) (r : Toks) → At q r s → K q.symbols y t → Turns H q v x k result (f t r)) → Turns H p v x k result (a >>> f)
  unfolding ◌>>>◌
  turn_found (finds {t = t} {r = r} b l h) on = turn_from l (on t r b h)

  pub turn_missed : {p q v : Parser} {x : X} {k : A → Parse A} {e : Failure} {s : Scope} {a : Found B} (f : B → Toks → Answer A) → Finds K p q s (Err e) a → Turns H p v x k (Err e) (a >>> f)
  unfolding ◌>>>◌
  turn_missed f misses = turn_no_syntax
  turn_missed f no_memory = turn_no_memory

-- a part, and then what is read behind it, up to a parser that is no later one of it
module _ {X Y A B : Type 0} {H : Texts → X → A → Type 0} {K : Texts → Y → B → Type 0} where
  pub then_up : {p q o v : Parser} {x : X} {result : Result Y Failure} {a : Answer A} {f : A → Parse B} → Gives H p q (Ok x) a → ((t : A) (r : Toks) (z : Scope) → At q r z → H q.symbols x t → Gives K o v result (f t r z)) → Gives K o v result (a >>= f)
  unfolding ◌>>=◌
  then_up (gave {t = t} {r = r} {z = z} b l h) k = k t r z b h

module _ {X A : Type 0} {H : Texts → X → A → Type 0} where
  pub expected_up : {p q o v : Parser} {w : Toks} {s : Scope} {result : Result X Failure} {c : Bool} {a : Answer A} → Expects p q w s (Ok tt) c → (At q w s → Gives H o v result a) → Gives H o v result (if c then a else fault)
  expected_up (met b l) k = k b

-- the names that stay where a block is closed
pub closed_names : {p q o v : Parser} {count : ℕ} → ((u : Parser) → length u.locals ≡ count → Later u o → Later u v) → length p.locals ≡ count → Later p o → Later q o → Extends q.symbols v.symbols
closed_names {p} {q} close len l m = (close (record q { locals = p.locals }) len (record { names = m.names; locals = l.locals; rest = m.rest })).names

-- a part by the position where it stands
pub placed : {T : Texts} {s : Subtree} {f : Form} {o u : SourcePosition} → o ≡ u → Holds T s (at o f) → Holds T s (at u f)
placed {T} {s} {f} is h = subst (λ (x : SourcePosition). Holds T s (at x f)) is h

-- a block begins here, and none was given
pub opens_one : {x y : Bool} → x ≡ true → y ≡ false → (x && not y) ≡ true
opens_one {x} {y} a b = ap (λ (z : Bool). z && not y) a ∙ ap (λ (z : Bool). not z) b

pub opens_none : {x : Bool} (y : Bool) → x ≡ false → (x && not y) ≡ false
opens_none y a = ap (λ (z : Bool). z && not y) a

pub has_one : (x : Bool) {y : Bool} → y ≡ true → (x && not y) ≡ false
has_one true b = ap (λ (z : Bool). not z) b
has_one false b = refl

module _ {X A : Type 0} {H : Texts → X → A → Type 0} where
  pub finds_later : {p q : Parser} {s : Scope} {x : X} {a : Found A} → Finds H p q s (Ok x) a → Later p q
  finds_later (finds b l h) = l

-- a word is one token less
pub word_less : (source f : Bytes) (ts : List Token) → is_word source f (seen_all ts) ≡ true → length ts - 1 < length ts
word_less source f [] is = absurd cc
word_less source f (t ∷ ts) is = omega arith

pub bumped_word : {p : Parser} {w : Toks} {s : Scope} {n : ℕ} (source f : Bytes) → At p w s → is_word source f w ≡ true → n ≡ length p.rest.now - 1 → n < length p.rest.now
bumped_word {p} {w} {s} {n} source f a is one =
    let less : length p.rest.now - 1 < length p.rest.now = word_less source f p.rest.now (subst (λ (v : Toks). is_word source f v ≡ true) (sym a.tokens) is) in
    omega arith

-- what follows an answer goes into it
module _ {A B C : Type 0} where
  pub drawn : (x : Answer A) (f : A → Parse B) (g : B → Parse C) (h : A → Parse C) → ((a : A) (q : Toks) (y : Scope) → (f a q y >>= g) ≡ h a q y) → ((x >>= f) >>= g) ≡ (x >>= h)
  unfolding ◌>>=◌
  drawn (taken a q y) f g h same = same a q y
  drawn fault f g h same = refl
  drawn deep f g h same = refl

  pub drawn_found : (x : Found A) (f : A → Toks → Answer B) (g : B → Parse C) (h : A → Toks → Answer C) → ((a : A) (q : Toks) → (f a q >>= g) ≡ h a q) → ((x >>> f) >>= g) ≡ (x >>> h)
  unfolding ◌>>=◌ ◌>>>◌
  drawn_found (found a q) f g h same = same a q
  drawn_found missing f g h same = refl

module _ {A B : Type 0} where
  pub drawn_if : (c : Bool) (x y : Answer A) (f : A → Parse B) {u v : Answer B} → (x >>= f) ≡ u → (y >>= f) ≡ v → ((if c then x else y) >>= f) ≡ (if c then u else v)
  drawn_if true x y f a b = a
  drawn_if false x y f a b = b

  pub drawn_taken : (a : A) (q : Toks) (y : Scope) (f : A → Parse B) → (taken a q y >>= f) ≡ f a q y
  unfolding ◌>>=◌
  drawn_taken a q y f = refl

  pub drawn_fault : (f : A → Parse B) → (fault >>= f) ≡ fault
  unfolding ◌>>=◌
  drawn_fault f = refl

  -- one part in front of those that further turns take
  pub drawn_more : (x y : Answer A) (front : A → A) (join further : A → B) → x ≡ y → ((t : A) → join (front t) ≡ further t) → ((x >>= λ t r z. taken (front t) r z) >>= λ t r z. taken (join t) r z) ≡ (y >>= λ t r z. taken (further t) r z)
  unfolding ◌>>=◌
  drawn_more x y front join further is same =
      drawn x (λ t r z. taken (front t) r z) (λ t r z. taken (join t) r z) (λ t r z. taken (further t) r z) (λ t r z. ap (λ (u : B). taken u r z) (same t)) ∙ ap (λ (u : Answer A). u >>= λ t r z. taken (further t) r z) is

  pub drawn_last : (c : Bool) (x y : Answer A) (front : A → A) (join further : A → B) (one : A) (r : Toks) (z : Scope) → x ≡ y → ((t : A) → join (front t) ≡ further t) → ((if c then (x >>= λ t n l. taken (front t) n l) else taken one r z) >>= λ t n l. taken (join t) n l) ≡ (if c then (y >>= λ t n l. taken (further t) n l) else taken (join one) r z)
  drawn_last c x y front join further one r z is same =
      drawn_if c (x >>= λ t n l. taken (front t) n l) (taken one r z) (λ t n l. taken (join t) n l) (drawn_more x y front join further is same) (drawn_taken one r z (λ t n l. taken (join t) n l))

pub drawn_itself : {A : Type 0} (x : Answer A) → x ≡ (x >>= λ a q y. taken a q y)
unfolding ◌>>=◌
drawn_itself (taken a q y) = refl
drawn_itself fault = refl
drawn_itself deep = refl

-- an error of a part, up to any parser
pub failed_up : {X Y A B : Type 0} {H : Texts → X → A → Type 0} {K : Texts → Y → B → Type 0} {p q o v : Parser} {e : Failure} {a : Answer A} (f : A → Parse B) → Gives H p q (Err e) a → Gives K o v (Err e) (a >>= f)
unfolding ◌>>=◌
failed_up f no_syntax = no_syntax
failed_up f too_deep = too_deep
failed_up f no_memory = no_memory

pub turn_fault : {X A : Type 0} {H : Texts → X → A → Type 0} {p q : Parser} {x : X} {k : A → Parse A} → Turns H p q x k (Err failure.Syntax) fault
turn_fault = turn_no_syntax

-- the kind that is the least, as it is tested
pub least_yes : {n m : ℕ} (k : ℕ) → n ≡ m → n ≤ k → nat_le m k ≡ true
least_yes {n} {m} k is le = grind (arith, nat_tests)

pub least_no : {n m : ℕ} (k : ℕ) → n ≡ m → k < n → nat_le m k ≡ false
least_no {n} {m} k is gt = grind (arith, nat_tests)

pub none_yes : {n m : ℕ} → n ≡ m → n ≡ 0 → nat_eq m 0 ≡ true
none_yes {n} {m} is none = grind (arith, nat_tests)

pub none_no : {n m : ℕ} → n ≡ m → (n ≡ 0 → ⊥) → nat_eq m 0 ≡ false
none_no {n} {m} is some = grind (arith, nat_tests)
