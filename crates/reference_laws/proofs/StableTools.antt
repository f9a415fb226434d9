-- What a reader answers does not hang on the depth, where the depth is enough. How that goes from one step of a reader to the next.
use Rattle.std.proofs.Common.{◌≡◌, Bool, true, false, ◌⊎◌, inl, inr, refl, sym, subst, if◌then◌else◌}
use Rattle.ruby_lexer.specs.Pieces.{Toks}
use Rattle.ruby_tree.specs.Rules.{Scope, DoBlockOwner}
use Rattle.reference_parser.specs.Answers.{Answer, taken, fault, deep, Parse, ◌>>=◌, Found, found, missing, ◌>>>◌}
use Rattle.reference_parser.specs.ReadItems.{Readers}

-- The first goes too deep, or it is the second.
abbrev pub Agree : {A : Type 0} → Answer A → Answer A → Type 0
Agree o u = (o ≡ deep) ⊎ (o ≡ u)

abbrev pub Stable : {A : Type 0} → Parse A → Parse A → Type 0
Stable Q P = (w : Toks) (s : Scope) → Agree (Q w s) (P w s)

-- No symbol answers otherwise in P than in Q, but where Q goes too deep.
pub record Stables (Q P : Readers) : Type 0 where
  pub stmts : (d : DoBlockOwner) → Stable (Q.stmts d) (P.stmts d)
  pub expr : (d : DoBlockOwner) → Stable (Q.expr d) (P.expr d)
  pub test : (d : DoBlockOwner) → Stable (Q.test d) (P.test d)
  pub assigned_value : (d : DoBlockOwner) → Stable (Q.assigned_value d) (P.assigned_value d)
  pub arg : (d : DoBlockOwner) → Stable (Q.arg d) (P.arg d)
  pub minus : (d : DoBlockOwner) → Stable (Q.minus d) (P.minus d)
  pub power : (d : DoBlockOwner) → Stable (Q.power d) (P.power d)
  pub unary_operand : (d : DoBlockOwner) → Stable (Q.unary_operand d) (P.unary_operand d)
  pub else_branches : (d : DoBlockOwner) → Stable (Q.else_branches d) (P.else_branches d)

-- what does not hang on the depth
pub same : {A : Type 0} {o : Answer A} → Agree o o
same = inr refl

behind_one : {A B : Type 0} (o : Answer A) (f g : A → Toks → Scope → Answer B) → ((t : A) (r : Toks) (z : Scope) → Agree (f t r z) (g t r z)) → Agree (o >>= f) (o >>= g)
unfolding ◌>>=◌
behind_one (taken t r z) f g next = next t r z
behind_one fault f g next = inr refl
behind_one deep f g next = inl refl

-- A part that is the same or too deep, and then what is.
pub stable_then : {A B : Type 0} {o u : Answer A} {f g : A → Toks → Scope → Answer B} → Agree o u → ((t : A) (r : Toks) (z : Scope) → Agree (f t r z) (g t r z)) → Agree (o >>= f) (u >>= g)
unfolding ◌>>=◌
stable_then (inl e) next = inl (rw e)
stable_then {u = u} {f = f} {g = g} (inr e) next = subst (λ (v : Answer _). Agree (v >>= f) (u >>= g)) (sym e) (behind_one u f g next)

-- What the tokens alone decide hangs on no depth.
pub stable_found : {A B : Type 0} (o : Found A) {f g : A → Toks → Answer B} → ((a : A) (r : Toks) → Agree (f a r) (g a r)) → Agree (o >>> f) (o >>> g)
unfolding ◌>>>◌
stable_found (found a r) next = next a r
stable_found missing next = inr refl

-- one of two, by a test of the tokens
pub stable_if : {A : Type 0} (b : Bool) {x y u v : Answer A} → Agree x u → Agree y v → Agree (if b then x else y) (if b then u else v)
stable_if true h k = h
stable_if false h k = k
