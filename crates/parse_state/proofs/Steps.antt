-- How answers go on, step by step.
use Rattle.std.proofs.Common.{◌≡◌, refl, sym, ap, ◌∙◌, subst, ℕ, le_refl, le_trans, Bool, true, false, List, [], ◌++◌, length, append_assoc, if◌then◌else◌, Result, Ok, Err, IsErrAnd}
use Rattle.ruby_lexer.specs.Pieces.{Toks}
use Rattle.ruby_tree.specs.Names.{Texts}
use Rattle.ruby_tree.specs.Rules.{Scope}
use Rattle.reference_parser.specs.Answers.{Answer, taken, fault, Parse, ◌>>=◌, Found, found, missing, ◌>>>◌}
use Rattle.parse_state.specs.declared.failures.Failure.{Failure}
use Rattle.parse_state.specs.declared.failures.Failure.TheVariants as failure
use Rattle.parse_state.specs.declared.standing.Parser.{Parser}
use Rattle.parse_state.specs.Standing.{At, toks_of, scope_of, Keeps, Later}
use Rattle.parse_state.specs.Gives.{Gives, gave, no_syntax, too_deep, no_memory, Finds, finds, misses, Expects, met, unmet, HoldsNothing}

-- where a parser stands
pub here : (p : Parser) → At p (toks_of p) (scope_of p)
here p = record { tokens = refl; locals = refl; clause = refl }

-- later on, and later still
pub later_same : (p : Parser) → Later p p
later_same p = record { names = λ n f is. is; locals = record { newer = []; is = refl }; rest = le_refl (length p.rest.now) }

keeps_then : {xs ys zs : List (List ℕ)} → Keeps xs ys → Keeps ys zs → Keeps xs zs
keeps_then {xs} {ys} {zs} a b = record { newer = b.newer ++ a.newer; is = b.is ∙ ap (λ l. b.newer ++ l) a.is ∙ sym (append_assoc b.newer a.newer xs) }

pub later_then : {p q v : Parser} → Later p q → Later q v → Later p v
later_then a b = record { names = λ n f is. b.names n f (a.names n f is); locals = keeps_then a.locals b.locals; rest = le_trans b.rest a.rest }

module _ {X A : Type 0} {H : Texts → X → A → Type 0} where
  pub later_of : {p q : Parser} {x : X} {a : Answer A} → Gives H p q (Ok x) a → Later p q
  later_of (gave b l h) = l

  -- what was read from q on was read from p on
  pub from : {p q v : Parser} {result : Result X Failure} {a : Answer A} → Later p q → Gives H q v result a → Gives H p v result a
  from l (gave b m h) = gave b (later_then l m) h
  from l no_syntax = no_syntax
  from l too_deep = too_deep
  from l no_memory = no_memory

  -- an answer by another name
  pub named : {p q : Parser} {result : Result X Failure} {a b : Answer A} → a ≡ b → Gives H p q result b → Gives H p q result a
  named {p} {q} {result} is g = subst (λ (c : Answer A). Gives H p q result c) (sym is) g

  -- by a test
  pub yes : {p q : Parser} {result : Result X Failure} {c : Bool} {a : Answer A} (b : Answer A) → c ≡ true → Gives H p q result a → Gives H p q result (if c then a else b)
  yes {p} {q} {result} {c} {a} b is g = subst (λ (d : Bool). Gives H p q result (if d then a else b)) (sym is) g

  pub no : {p q : Parser} {result : Result X Failure} {c : Bool} {b : Answer A} (a : Answer A) → c ≡ false → Gives H p q result b → Gives H p q result (if c then a else b)
  no {p} {q} {result} {c} {b} a is g = subst (λ (d : Bool). Gives H p q result (if d then a else b)) (sym is) g

  -- a token that has to stand there
  pub expected : {p q v : Parser} {w : Toks} {s : Scope} {result : Result X Failure} {c : Bool} {a : Answer A} → Expects p q w s (Ok tt) c → (At q w s → Gives H q v result a) → Gives H p v result (if c then a else fault)
  expected (met b l) k = from l (k b)

  pub unexpected : {p q v : Parser} {w : Toks} {s : Scope} {e : Failure} {c : Bool} (a : Answer A) → Expects p q w s (Err e) c → Gives H p v (Err e) (if c then a else fault)
  unexpected a unmet = no_syntax

-- a part, and then what is read behind it
module _ {X Y A B : Type 0} {H : Texts → X → A → Type 0} {K : Texts → Y → B → Type 0} where
  pub and_then : {p q v : Parser} {x : X} {result : Result Y Failure} {a : Answer A} {f : A → Parse B} → Gives H p q (Ok x) a → ((t : A) (r : Toks) (z : Scope) → At q r z → H q.symbols x t → Gives K q v result (f t r z)) → Gives K p v result (a >>= f)
  unfolding ◌>>=◌
  and_then (gave {t = t} {r = r} {z = z} b l h) k = from l (k t r z b h)

  pub failed : {p q v : Parser} {e : Failure} {a : Answer A} (f : A → Parse B) → Gives H p q (Err e) a → Gives K p v (Err e) (a >>= f)
  unfolding ◌>>=◌
  failed f no_syntax = no_syntax
  failed f too_deep = too_deep
  failed f no_memory = no_memory

  -- a step that takes what is known
  pub step : {p q v : Parser} {x : X} {t : A} {w : Toks} {s : Scope} {result : Result Y Failure} {a : Answer B} → Gives H p q (Ok x) (taken t w s) → (At q w s → H q.symbols x t → Gives K q v result a) → Gives K p v result a
  step (gave b l h) k = from l (k b h)

  -- a step that did not come to an end, since memory was wanting
  pub cut : {p q v : Parser} {e : Failure} {t : A} {w : Toks} {s : Scope} {a : Answer B} → Gives H p q (Err e) (taken t w s) → Gives K p v (Err e) a
  cut no_memory = no_memory

  -- what the tokens alone decide, and then what is read behind it
  pub found_then : {p q v : Parser} {x : X} {result : Result Y Failure} {s : Scope} {a : Found A} {f : A → Toks → Answer B} → Finds H p q s (Ok x) a → ((t : A) (r : Toks) → At q r s → H q.symbols x t → Gives K q v result (f t r)) → Gives K p v result (a >>> f)
  unfolding ◌>>>◌
  found_then (finds {t = t} {r = r} b l h) k = from l (k t r b h)

  pub missed : {p q v : Parser} {e : Failure} {s : Scope} {a : Found A} (f : A → Toks → Answer B) → Finds H p q s (Err e) a → Gives K p v (Err e) (a >>> f)
  unfolding ◌>>>◌
  missed f misses = no_syntax
  missed f no_memory = no_memory

-- a token that has to stand there, by its test
module _ {p q : Parser} {v : Toks} {s : Scope} {c : Bool} where
  pub met_by : c ≡ true → At q v s → Later p q → Expects p q v s (Ok tt) c
  met_by is b l = subst (λ (d : Bool). Expects p q v s (Ok tt) d) (sym is) (met b l)

  pub unmet_by : c ≡ false → Expects p q v s (Err failure.Syntax) c
  unmet_by is = subst (λ (d : Bool). Expects p q v s (Err failure.Syntax) d) (sym is) unmet

-- the same of what is found
module _ {X A : Type 0} {H : Texts → X → A → Type 0} {p q : Parser} {s : Scope} where
  pub finds_yes : {result : Result X Failure} {c : Bool} {a : Found A} (b : Found A) → c ≡ true → Finds H p q s result a → Finds H p q s result (if c then a else b)
  finds_yes {result} {c} {a} b is g = subst (λ (d : Bool). Finds H p q s result (if d then a else b)) (sym is) g

  pub finds_no : {result : Result X Failure} {c : Bool} {b : Found A} (a : Found A) → c ≡ false → Finds H p q s result b → Finds H p q s result (if c then a else b)
  finds_no {result} {c} {b} a is g = subst (λ (d : Bool). Finds H p q s result (if d then a else b)) (sym is) g

  pub finds_from : {result : Result X Failure} {o : Parser} {a : Found A} → Later o p → Finds H p q s result a → Finds H o q s result a
  finds_from l (finds b m h) = finds b (later_then l m) h
  finds_from l misses = misses
  finds_from l no_memory = no_memory

-- an error that is handed on
module _ {X A : Type 0} {H : Texts → X → A → Type 0} {p q : Parser} where
  pub handed : {a : Answer A} (result : Result X Failure) (e : Failure) → IsErrAnd result (λ d. d ≡ e) → Gives H p q (Err e) a → Gives H p q result a
  handed (Ok x) e is g = elim is [ ]
  handed {a} (Err d) e is g = subst (λ (x : Failure). Gives H p q (Err x) a) (sym is) g

  pub wanting : {a : Answer A} (result : Result X Failure) → IsErrAnd result (λ d. d ≡ failure.Memory) → Gives H p q result a
  wanting (Ok x) is = elim is [ ]
  wanting {a} (Err d) is = subst (λ (x : Failure). Gives H p q (Err x) a) (sym is) no_memory

-- a token that has to stand there, and nothing else
pub closes : {p q : Parser} {w : Toks} {s : Scope} {result : Result (Unit {0}) Failure} {c : Bool} → Expects p q w s result c → Gives HoldsNothing p q result (if c then taken tt w s else fault)
closes (met b l) = gave b l tt
closes unmet = no_syntax

pub finds_expected : {p q : Parser} {w : Toks} {s : Scope} {result : Result (Unit {0}) Failure} {c : Bool} → Expects p q w s result c → Finds HoldsNothing p q s result (if c then found tt w else missing)
finds_expected (met b l) = finds b l tt
finds_expected unmet = misses

-- an error that is handed on, of what the tokens alone decide
module _ {X A : Type 0} {H : Texts → X → A → Type 0} {p q : Parser} {s : Scope} where
  pub finds_handed : {a : Found A} (result : Result X Failure) (e : Failure) → IsErrAnd result (λ d. d ≡ e) → Finds H p q s (Err e) a → Finds H p q s result a
  finds_handed (Ok x) e is g = elim is [ ]
  finds_handed {a} (Err d) e is g = subst (λ (x : Failure). Finds H p q s (Err x) a) (sym is) g

  -- what is taken where it stood, as what is found
  pub finds_taken : {result : Result X Failure} {t : A} {w : Toks} → Gives H p q result (taken t w s) → Finds H p q s result (found t w)
  finds_taken (gave b l h) = finds b l h
  finds_taken no_memory = no_memory

  -- a token that has to stand there, and nothing behind it
  pub finds_met : {o : Parser} {x : X} {v : Toks} {c : Bool} (t : A) → Later o p → Expects p q v s (Ok tt) c → H q.symbols x t → Finds H o q s (Ok x) (if c then found t v else missing)
  finds_met t l (met b m) h = finds b (later_then l m) h

  pub finds_unmet : {o : Parser} {e : Failure} {v : Toks} {c : Bool} (a : Found A) → Expects p q v s (Err e) c → Finds H o q s (Err e) (if c then a else missing)
  finds_unmet a unmet = misses

-- a step that takes what is known, and then what the tokens alone decide
module _ {X Y A B : Type 0} {H : Texts → X → A → Type 0} {K : Texts → Y → B → Type 0} {p q v : Parser} {s : Scope} where
  pub finds_step : {x : X} {t : A} {w : Toks} {result : Result Y Failure} {a : Found B} → Gives H p q (Ok x) (taken t w s) → (At q w s → H q.symbols x t → Finds K q v s result a) → Finds K p v s result a
  finds_step (gave b l h) k = finds_from l (k b h)

  pub finds_cut : {e : Failure} {t : A} {w : Toks} {a : Found B} → Gives H p q (Err e) (taken t w s) → Finds K p v s (Err e) a
  finds_cut no_memory = no_memory
