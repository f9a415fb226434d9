-- How a loop goes on that makes a larger part of the one that it holds, turn by turn.
use Rattle.std.proofs.Common.{◌≡◌, refl, sym, subst, ℕ, zero, suc, ◌<◌, ◌≤◌, length, Ok, Err, arith}
use Rattle.ruby_lexer.specs.Pieces.{Toks}
use Rattle.ruby_tree.specs.Names.{Texts}
use Rattle.ruby_tree.specs.Rules.{Scope}
use Rattle.ruby_tree.specs.FaultLine.{count_of}
use Rattle.reference_parser.specs.Answers.{Answer, taken, fault, deep, Parse, ◌>>=◌}
use Rattle.parse_state.specs.declared.failures.Failure.{Failure}
use Rattle.parse_state.specs.declared.standing.Parser.{Parser}
use Rattle.parse_state.specs.Standing.{At, Later}
use Rattle.parse_state.specs.Gives.{Gives, gave}
use Rattle.parse_state.proofs.Steps.{later_same, later_then, from, named, failed}
use Rattle.parse_parts.proofs.Turning.{counted}

-- a part that is made into another one, and then what is read behind it
pub into : {A B C : Type 0} (x : Answer A) (f : A → B) (k : Scope → Scope) (g : B → Parse C) → ((x >>= λ a r z. taken (f a) r (k z)) >>= g) ≡ (x >>= λ a r z. g (f a) r (k z))
unfolding ◌>>=◌
into (taken a r z) f k g = refl
into fault f k g = refl
into deep f k g = refl

-- no more tokens are left than before, and so fewer than before that
pub fewer_than : {n : ℕ} {q v : Parser} → length q.rest.now ≡ n → Later q v → length v.rest.now ≤ n
fewer_than {n} {q} {v} is l = let rest : length v.rest.now ≤ length q.rest.now = l.rest in omega arith

-- The loop began where the parser was p, and it is q now, where it holds x. What the whole loop answers is what the turns that are left make
-- of what x is; a number that is more than the count of the tokens bounds them.
pub data Growing {X S A : Type 0} (H : Texts → X → S → Type 0) (rest : ℕ → S → Parse A) (p q : Parser) (x : X) : Answer A → Type 0 where
  growing : {m : ℕ} {t : S} {r : Toks} {z : Scope} → At q r z → Later p q → count_of r < m → H q.symbols x t → Growing H rest p q x (rest m t r z)

module _ {X S A : Type 0} {H : Texts → X → S → Type 0} {rest : ℕ → S → Parse A} where
  pub grows_from : {p : Parser} {x : X} {m : ℕ} (t : S) {w : Toks} {s : Scope} → At p w s → H p.symbols x t → count_of w < m → Growing H rest p p x (rest m t w s)
  grows_from {p} t a h less = growing a (later_same p) less h

  -- where no turn follows
  pub grows_end : {Y : Type 0} {K : Texts → Y → A → Type 0} {p q : Parser} {x : X} {y : Y} {answer : Answer A} (last : S → A) →
      ((m : ℕ) (t : S) (w : Toks) (s : Scope) → At q w s → rest (suc m) t w s ≡ taken (last t) w s) → ((t : S) → H q.symbols x t → K q.symbols y (last t)) →
      Growing H rest p q x answer → Gives K p q (Ok y) answer
  grows_end last ends holds (growing {m = zero} a l less h) = absurd (omega arith)
  grows_end last ends holds (growing {m = suc m} {t = t} {r = r} {z = z} a l less h) = named (ends m t r z a) (gave a l (holds t h))

  -- A turn, which reads a part and goes on from what it makes of it.
  module _ {Y B : Type 0} {K : Texts → Y → B → Type 0} (turn : S → Parse B) (onto : B → S) {q v : Parser}
      (turns : (m : ℕ) (t : S) (w : Toks) (s : Scope) → At q w s → rest (suc m) t w s ≡ (turn t w s >>= λ b r z. rest m (onto b) r z)) where
    grown : {p : Parser} {u : X} {y : Y} {m : ℕ} {a : Answer B} → Later p q → length v.rest.now < length q.rest.now → length q.rest.now ≤ m →
        ((b : B) → K v.symbols y b → H v.symbols u (onto b)) → Gives K q v (Ok y) a → Growing H rest p v u (a >>= λ b r z. rest m (onto b) r z)
    unfolding ◌>>=◌
    grown l less enough holds (gave {t = b} {r = r} n k i) = let count : count_of r ≡ length v.rest.now = counted n in growing n (later_then l k) (omega arith) (holds b i)

    pub grows_more : {p : Parser} {x u : X} {y : Y} {answer : Answer A} → length v.rest.now < length q.rest.now → ((b : B) → K v.symbols y b → H v.symbols u (onto b)) →
        ((t : S) (w : Toks) (s : Scope) → At q w s → H q.symbols x t → Gives K q v (Ok y) (turn t w s)) → Growing H rest p q x answer → Growing H rest p v u answer
    grows_more less holds gives (growing {m = zero} a l enough h) = absurd (omega arith)
    grows_more {p} {x} {u} less holds gives (growing {m = suc m} {t = t} {r = r} {z = z} a l enough h) =
        let count : count_of r ≡ length q.rest.now = counted a in
        subst (λ (c : Answer A). Growing H rest p v u c) (sym (turns m t r z a)) (grown l less (omega arith) holds (gives t r z a h))

    pub grows_stop : {Z : Type 0} {J : Texts → Z → A → Type 0} {p : Parser} {x : X} {e : Failure} {answer : Answer A} →
        ((t : S) (w : Toks) (s : Scope) → At q w s → H q.symbols x t → Gives K q v (Err e) (turn t w s)) → Growing H rest p q x answer → Gives J p v (Err e) answer
    grows_stop gives (growing {m = zero} a l enough h) = absurd (omega arith)
    grows_stop gives (growing {m = suc m} {t = t} {r = r} {z = z} a l enough h) = named (turns m t r z a) (from l (failed _ (gives t r z a h)))
