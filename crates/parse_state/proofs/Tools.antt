-- Steps of answers, each with what stays of the parser.
use Rattle.std.proofs.Common.{◌≡◌, refl, subst, ℕ, ℤ, ◌≤◌, le_refl, List, length, Bool, true, false, if◌then◌else◌, Ok, Err, Result, codes}
use Rattle.ruby_lexer.specs.Bytes.{Bytes}
use Rattle.ruby_lexer.specs.Pieces.{Toks}
use Rattle.ruby_tree.specs.Names.{Texts, Extends}
use Rattle.ruby_tree.specs.Tree.{SourcePosition, Form, Tree, Trees, Other, at, integer, array, send, super, yield, method}
use Rattle.ruby_tree.specs.Rules.{Scope, next, is_mark}
use Rattle.ruby_tree.specs.Build.{bare_form}
use Rattle.tree_builder.specs.declared.Subtree.{Subtree}
use Rattle.tree_builder.specs.Subtrees.{Holds}
use Rattle.reference_parser.specs.Answers.{Answer, taken, fault, deep, Parse, ◌>>=◌, Found, ◌>>>◌}
use Rattle.reference_parser.specs.ReadItems.{closed}
use Rattle.parse_state.specs.declared.failures.Failure.{Failure}
use Rattle.parse_state.specs.declared.standing.Parser.{Parser}
use Rattle.parse_state.specs.Standing.{At, Later}
use Rattle.parse_state.specs.Gives.{Gives, gave, no_syntax, too_deep, no_memory, Finds, finds, Expects, met, HoldsNothing}
use Rattle.parse_state.proofs.Steps.{from, step}

-- a node at a position by another name, and what is spread by another name
module _ {T : Texts} {x : Subtree} where
  pub at_spot : {o p : SourcePosition} {f : Form} → o ≡ p → Holds T x (at o f) → Holds T x (at p f)
  at_spot {f} is h = subst (λ (s : SourcePosition). Holds T x (at s f)) is h

  pub bare_named : {o : SourcePosition} (z : Scope) {f g : Bytes} → f ≡ g → Holds T x (at o (bare_form z f)) → Holds T x (at o (bare_form z g))
  bare_named {o} z is h = subst (λ (y : Bytes). Holds T x (at o (bare_form z y))) is h

  pub integer_as : {o : SourcePosition} {n m : ℤ} → n ≡ m → Holds T x (at o (integer n)) → Holds T x (at o (integer m))
  integer_as {o} is h = subst (λ (k : ℤ). Holds T x (at o (integer k))) is h

  -- a method of the object itself or not, as it was read
  pub method_on : {o : SourcePosition} {m : Bytes} {t : Tree} {b d : Bool} → b ≡ d → Holds T x (at o (method m t b)) → Holds T x (at o (method m t d))
  method_on {o} {m} {t} is h = subst (λ (c : Bool). Holds T x (at o (method m t c))) is h

  pub send_spread : {o : SourcePosition} {a : Other} {ts : Trees} {ks js : List ℕ} {v b : Other} {m : Bytes} {c : Bool} → ks ≡ js → Holds T x (at o (send a ts ks v m c b)) → Holds T x (at o (send a ts js v m c b))
  send_spread {o} {a} {ts} {v} {b} {m} {c} is h = subst (λ (ls : List ℕ). Holds T x (at o (send a ts ls v m c b))) is h

  pub super_spread : {o : SourcePosition} {ts : Trees} {ks js : List ℕ} {v b : Other} → ks ≡ js → Holds T x (at o (super ts ks v b)) → Holds T x (at o (super ts js v b))
  super_spread {o} {ts} {v} {b} is h = subst (λ (ls : List ℕ). Holds T x (at o (super ts ls v b))) is h

  pub yield_spread : {o : SourcePosition} {ts : Trees} {ks js : List ℕ} → ks ≡ js → Holds T x (at o (yield ts ks)) → Holds T x (at o (yield ts js))
  yield_spread {o} {ts} is h = subst (λ (ls : List ℕ). Holds T x (at o (yield ts ls))) is h

  pub array_spread : {o : SourcePosition} {ts : Trees} {ks js : List ℕ} → ks ≡ js → Holds T x (at o (array ts ks)) → Holds T x (at o (array ts js))
  array_spread {o} {ts} is h = subst (λ (ls : List ℕ). Holds T x (at o (array ts ls))) is h

-- what is read, told by another name
pub told_as : {X A B : Type 0} {H : Texts → X → A → Type 0} {p q : Parser} {result : Result X Failure} {x y : B} (f : B → Answer A) → x ≡ y → Gives H p q result (f x) → Gives H p q result (f y)
told_as {H} {p} {q} {result} f is g = subst (λ z. Gives H p q result (f z)) is g

module _ {X Y A B : Type 0} {H : Texts → X → A → Type 0} {K : Texts → Y → B → Type 0} where
  -- a part, and then what is read behind it
  pub so : {p q v : Parser} {x : X} {result : Result Y Failure} {a : Answer A} {f : A → Parse B} → Gives H p q (Ok x) a → ((t : A) (r : Toks) (z : Scope) → At q r z → Later p q → H q.symbols x t → Gives K q v result (f t r z)) → Gives K p v result (a >>= f)
  unfolding ◌>>=◌
  so (gave {t = t} {r = r} {z = z} b l h) k = from l (k t r z b l h)

  -- a step that takes what is known
  pub so_step : {p q v : Parser} {x : X} {t : A} {w : Toks} {s : Scope} {result : Result Y Failure} {a : Answer B} → Gives H p q (Ok x) (taken t w s) → (At q w s → Later p q → H q.symbols x t → Gives K q v result a) → Gives K p v result a
  so_step (gave b l h) k = from l (k b l h)

  -- what the tokens alone decide
  pub so_found : {p q v : Parser} {x : X} {result : Result Y Failure} {s : Scope} {a : Found A} {f : A → Toks → Answer B} → Finds H p q s (Ok x) a → ((t : A) (r : Toks) → At q r s → Later p q → H q.symbols x t → Gives K q v result (f t r)) → Gives K p v result (a >>> f)
  unfolding ◌>>>◌
  so_found (finds {t = t} {r = r} b l h) k = from l (k t r b l h)

  -- A part that is read where others are the locals: what stands behind it is told by where that stood.
  pub inside : {o p q v : Parser} {x : X} {result : Result Y Failure} {a : Answer A} {f : A → Parse B} → Gives H p q (Ok x) a → ((t : A) (r : Toks) (z : Scope) → At q r z → Later p q → H q.symbols x t → Gives K o v result (f t r z)) → Gives K o v result (a >>= f)
  unfolding ◌>>=◌
  inside (gave {t = t} {r = r} {z = z} b l h) k = k t r z b l h

  pub failed_inside : {o p q v : Parser} {e : Failure} {a : Answer A} (f : A → Parse B) → Gives H p q (Err e) a → Gives K o v (Err e) (a >>= f)
  unfolding ◌>>=◌
  failed_inside f no_syntax = no_syntax
  failed_inside f too_deep = too_deep
  failed_inside f no_memory = no_memory

  -- parts of a text, behind which no tokens stand
  pub then_back : {p q v : Parser} {x : X} {w : Toks} {result : Result Y Failure} (f : A → Scope → Answer B) (a : Answer A) → Gives H p q (Ok x) (a >>= λ t r z. taken t w z) → ((t : A) (z : Scope) → At q w z → H q.symbols x t → Gives K q v result (f t z)) → Gives K p v result (a >>= λ t r z. f t z)
  unfolding ◌>>=◌
  then_back f (taken t r z) g k = step g (k t z)
  then_back f fault g k = elim g [ ]
  then_back f deep g k = elim g [ ]

  pub failed_back : {p q v : Parser} {e : Failure} (w : Toks) (f : A → Toks → Scope → Answer B) (a : Answer A) → Gives H p q (Err e) (a >>= λ t r z. taken t w z) → Gives K p v (Err e) (a >>= f)
  unfolding ◌>>=◌
  failed_back w f (taken t r z) no_memory = no_memory
  failed_back w f fault no_syntax = no_syntax
  failed_back w f fault no_memory = no_memory
  failed_back w f deep too_deep = too_deep
  failed_back w f deep no_memory = no_memory

-- a token that has to stand there
pub so_met : {X A : Type 0} {H : Texts → X → A → Type 0} {p q v : Parser} {w : Toks} {s : Scope} {result : Result X Failure} {c : Bool} {a : Answer A} → Expects p q w s (Ok tt) c → (At q w s → Later p q → Gives H q v result a) → Gives H p v result (if c then a else fault)
so_met (met b l) k = from l (k b l)

-- What stays of a parser behind a body: e stood where the body begins, and q where it ends.
pub body_later : {p e q v : Parser} {locals : List Bytes} → e.symbols ≡ p.symbols → e.rest.now ≡ p.rest.now → locals ≡ p.locals → Later e q → ((o : Parser) → locals ≡ o.locals → Extends o.symbols q.symbols → length q.rest.now ≤ length o.rest.now → Later o v) → Later p v
body_later {p} {e} {q} same rest locals l k =
    k p locals (subst (λ (T : Texts). Extends T q.symbols) same l.names) (subst (λ ts. length q.rest.now ≤ length ts) rest l.rest)

-- the names of before are names behind it
pub body_names : (q : Parser) {v : Parser} {locals : List Bytes} → ((o : Parser) → locals ≡ o.locals → Extends o.symbols q.symbols → length q.rest.now ≤ length o.rest.now → Later o v) → Extends q.symbols v.symbols
body_names q {v} {locals} k = (k (record q { locals = locals }) refl (λ n f is. is) (le_refl (length q.rest.now))).names

-- a part before the bracket that closes a list
module _ {X A : Type 0} {H : Texts → X → A → Type 0} {p q : Parser} (s : Scope) where
  only : {x : X} {a : A} {u : Unit {0}} (r : Toks) → (Later p q → H q.symbols x a) → Gives HoldsNothing p q (Ok u) (taken tt r s) → Gives H p q (Ok x) (taken a r s)
  only r k (gave b l h) = gave b l (k l)

  by_tests : {x : X} {u : Unit {0}} (a : A) (b c d : Bool) (r v : Toks) → (Later p q → H q.symbols x a) → Gives HoldsNothing p q (Ok u) (if b then (if c then taken tt r s else fault) else if d then taken tt v s else fault) → Gives H p q (Ok x) (if b then (if c then taken a r s else fault) else if d then taken a v s else fault)
  by_tests a true true d r v k g = only r k g
  by_tests a true false d r v k g = elim g [ ]
  by_tests a false c true r v k g = only v k g
  by_tests a false c false r v k g = elim g [ ]

  failed_by : {e : Failure} (a : A) (b c d : Bool) (r v : Toks) → Gives HoldsNothing p q (Err e) (if b then (if c then taken tt r s else fault) else if d then taken tt v s else fault) → Gives H p q (Err e) (if b then (if c then taken a r s else fault) else if d then taken a v s else fault)
  failed_by a true true d r v no_memory = no_memory
  failed_by a true false d r v no_syntax = no_syntax
  failed_by a true false d r v no_memory = no_memory
  failed_by a false c true r v no_memory = no_memory
  failed_by a false c false r v no_syntax = no_syntax
  failed_by a false c false r v no_memory = no_memory

  pub closed_with : {x : X} {u : Unit {0}} (source f : Bytes) (a : A) (w : Toks) → (Later p q → H q.symbols x a) → Gives HoldsNothing p q (Ok u) (closed source f tt w s) → Gives H p q (Ok x) (closed source f a w s)
  unfolding closed
  closed_with source f a w k g = by_tests a (is_mark source (codes ",") w) (is_mark source f (next w)) (is_mark source f w) (next (next w)) (next w) k g

  pub unclosed : {e : Failure} (source f : Bytes) (a : A) (w : Toks) → Gives HoldsNothing p q (Err e) (closed source f tt w s) → Gives H p q (Err e) (closed source f a w s)
  unfolding closed
  unclosed source f a w g = failed_by a (is_mark source (codes ",") w) (is_mark source f (next w)) (is_mark source f w) (next (next w)) (next w) g
