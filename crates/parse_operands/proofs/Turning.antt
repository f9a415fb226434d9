-- What stands behind an operand once, step by step.
use Rattle.std.proofs.Common.{◌≡◌, refl, sym, ◌∙◌, subst, ℕ, zero, suc, ◌<◌, ◌≤◌, ◌-◌, le_trans, length, Bool, true, false, if◌then◌else◌, Result, Ok, Err, IsErrAnd, IfOk}
use Rattle.ruby_lexer.specs.Bytes.{Bytes}
use Rattle.ruby_lexer.specs.Pieces.{Toks}
use Rattle.ruby_tree.specs.declared.names.Name.{Name}
use Rattle.ruby_tree.specs.declared.positions.SourcePosition as declared_spot
use Rattle.ruby_tree.specs.Names.{Texts}
use Rattle.ruby_tree.specs.Tree.{SourcePosition, Tree, Other, at}
use Rattle.ruby_tree.specs.Rules.{Scope, position}
use Rattle.ruby_tree.specs.Build.{Given, call_form}
use Rattle.ruby_tree.specs.FaultLine.{count_of}
use Rattle.ruby_tree.specs.SourcePositions.{position_of}
use Rattle.tree_builder.specs.declared.Subtree.{Subtree}
use Rattle.tree_builder.specs.Subtrees.{IsNamed, Holds}
use Rattle.reference_parser.specs.Answers.{Answer, taken, Parse, ◌>>=◌, Found, ◌>>>◌}
use Rattle.reference_parser.specs.ReadOperands.{Start, command}
use Rattle.parse_state.specs.declared.failures.Failure.{Failure}
use Rattle.parse_state.specs.declared.failures.Failure.TheVariants as failure
use Rattle.parse_state.specs.declared.standing.Parser.{Parser}
use Rattle.parse_state.specs.Standing.{At, Later}
use Rattle.parse_state.specs.Gives.{Gives, gave, Finds, finds, misses}
use Rattle.parse_state.specs.Gives as gives
use Rattle.parse_state.proofs.Steps.{from, named, later_same, later_then}
use Rattle.parse_state.specs.declared.forms.OperandForm as declared_start
use Rattle.parse_state.specs.declared.forms.OperandForm.TheVariants as start
use Rattle.parse_operands.specs.declared.postfixes.PostfixStep.{PostfixStep}
use Rattle.parse_operands.specs.declared.postfixes.PostfixStep.TheVariants as turn
use Rattle.parse_state.specs.Forms.{HoldsOperandForm, holds_command}
use Rattle.parse_operands.specs.Turns.{Turned, longer, ended, no_syntax, too_deep, no_memory, IsLonger}
use Rattle.parse_state.proofs.Tools.{at_spot}
use Rattle.parse_operands.proofs.Counts.{not_below, fewer_left, below_less}

module _ {further : Tree → Parse Start} where
  pub turn_from : {p q v : Parser} {result : Result PostfixStep Failure} {a : Answer Start} → Later p q → Turned further q v result a → Turned further p v result a
  turn_from l (longer b m h) = longer b (later_then l m) h
  turn_from l (ended b m h) = ended b (later_then l m) h
  turn_from l no_syntax = no_syntax
  turn_from l too_deep = too_deep
  turn_from l no_memory = no_memory

  pub turn_yes : {p q : Parser} {result : Result PostfixStep Failure} {c : Bool} {a : Answer Start} (b : Answer Start) → c ≡ true → Turned further p q result a → Turned further p q result (if c then a else b)
  turn_yes {p} {q} {result} {c} {a} b is g = subst (λ (d : Bool). Turned further p q result (if d then a else b)) (sym is) g

  pub turn_no : {p q : Parser} {result : Result PostfixStep Failure} {c : Bool} {b : Answer Start} (a : Answer Start) → c ≡ false → Turned further p q result b → Turned further p q result (if c then a else b)
  turn_no {p} {q} {result} {c} {b} a is g = subst (λ (d : Bool). Turned further p q result (if d then a else b)) (sym is) g

  pub turn_handed : {p q : Parser} {a : Answer Start} (result : Result PostfixStep Failure) (e : Failure) → IsErrAnd result (λ d. d ≡ e) → Turned further p q (Err e) a → Turned further p q result a
  turn_handed (Ok x) e is g = elim is [ ]
  turn_handed {p} {q} {a} (Err d) e is g = subst (λ (x : Failure). Turned further p q (Err x) a) (sym is) g

  pub turn_wanting : {p q : Parser} {a : Answer Start} (result : Result PostfixStep Failure) → IsErrAnd result (λ d. d ≡ failure.Memory) → Turned further p q result a
  turn_wanting (Ok x) is = elim is [ ]
  turn_wanting {p} {q} {a} (Err d) is = subst (λ (x : Failure). Turned further p q (Err x) a) (sym is) no_memory

  module _ {X A : Type 0} {H : Texts → X → A → Type 0} where
    pub turn_then : {p q v : Parser} {x : X} {result : Result PostfixStep Failure} {a : Answer A} {f : A → Parse Start} → Gives H p q (Ok x) a → ((t : A) (r : Toks) (z : Scope) → At q r z → Later p q → H q.symbols x t → Turned further q v result (f t r z)) → Turned further p v result (a >>= f)
    unfolding ◌>>=◌
    turn_then (gave {t = t} {r = r} {z = z} b l h) k = turn_from l (k t r z b l h)

    pub turn_failed : {p q v : Parser} {e : Failure} {a : Answer A} (f : A → Parse Start) → Gives H p q (Err e) a → Turned further p v (Err e) (a >>= f)
    unfolding ◌>>=◌
    turn_failed f gives.no_syntax = no_syntax
    turn_failed f gives.too_deep = too_deep
    turn_failed f gives.no_memory = no_memory

    -- a step that takes what is known
    pub turn_step : {p q v : Parser} {x : X} {t : A} {w : Toks} {s : Scope} {result : Result PostfixStep Failure} {a : Answer Start} → Gives H p q (Ok x) (taken t w s) → (At q w s → Later p q → H q.symbols x t → Turned further q v result a) → Turned further p v result a
    turn_step (gave b l h) k = turn_from l (k b l h)

    pub turn_cut : {p q v : Parser} {e : Failure} {t : A} {w : Toks} {s : Scope} {a : Answer Start} → Gives H p q (Err e) (taken t w s) → Turned further p v (Err e) a
    turn_cut gives.no_memory = no_memory

    pub turn_found : {p q v : Parser} {x : X} {result : Result PostfixStep Failure} {s : Scope} {a : Found A} {f : A → Toks → Answer Start} → Finds H p q s (Ok x) a → ((t : A) (r : Toks) → At q r s → Later p q → H q.symbols x t → Turned further q v result (f t r)) → Turned further p v result (a >>> f)
    unfolding ◌>>>◌
    turn_found (finds {t = t} {r = r} b l h) k = turn_from l (k t r b l h)

    pub turn_missed : {p q v : Parser} {e : Failure} {s : Scope} {a : Found A} (f : A → Toks → Answer Start) → Finds H p q s (Err e) a → Turned further p v (Err e) (a >>> f)
    unfolding ◌>>>◌
    turn_missed f misses = no_syntax
    turn_missed f gives.no_memory = no_memory

-- a command and a call, by whether the receiver may be nil
module _ {T : Texts} {x : Subtree} {b c : Bool} {a : Tree} {p : SourcePosition} where
  pub command_as : {o : declared_spot.SourcePosition} {n : Name} {f : Bytes} → b ≡ c → Holds T x a → position_of o ≡ p → IsNamed T n f → HoldsOperandForm T (start.Command b x o n) (command c a p f)
  command_as {o} {n} {f} is h e i = subst (λ (d : Bool). HoldsOperandForm T (start.Command b x o n) (command d a p f)) is (holds_command h e i)

pub call_as : {T : Texts} {x : Subtree} {b c : Bool} {o p : SourcePosition} (a : Tree) (g : Given) (m : Bytes) (k : Other) → b ≡ c → o ≡ p → Holds T x (at o (call_form b a g m k)) → Holds T x (at p (call_form c a g m k))
call_as {T} {x} {b} {c} {o} {p} a g m k is e h = at_spot e (subst (λ (d : Bool). Holds T x (at o (call_form d a g m k))) is h)

-- How far the turns have come: p stood before the operand x, and q stands before y, of which the rest makes what it makes of x.
pub record Gone (rest : ℕ → Toks → Tree → Parse Start) (o : Toks) (p q : Parser) (y : Subtree) (answer : Answer Start) : Type 0 where
  pub tree : Tree
  pub number : ℕ
  pub toks : Toks
  pub scope : Scope
  pub is : answer ≡ rest number o tree toks scope
  pub holds : Holds q.symbols y tree
  pub stands : At q toks scope
  pub enough : count_of toks < number
  pub later : Later p q

pub record Goes (rest : ℕ → Toks → Tree → Parse Start) (here : declared_spot.SourcePosition) (p q : Parser) (x y : Subtree) : Type 0 where
  pub going : (o : Toks) (a : Tree) (m : ℕ) (w : Toks) (s : Scope) → position_of here ≡ position o → Holds p.symbols x a → At p w s → count_of w < m → Gone rest o p q y (rest m o a w s)

-- what one turn made of the operand
record Longer (further : Tree → Parse Start) (q v : Parser) (z : Subtree) (answer : Answer Start) : Type 0 where
  pub tree : Tree
  pub toks : Toks
  pub scope : Scope
  pub is : answer ≡ further tree toks scope
  pub holds : Holds v.symbols z tree
  pub stands : At v toks scope
  pub later : Later q v

is_longer : {further : Tree → Parse Start} {q v : Parser} {answer : Answer Start} {z : Subtree} → Turned further q v (Ok (turn.Longer z)) answer → Longer further q v z answer
is_longer (longer {b = t} {r = r} {z = s} b l h) = record { tree = t; toks = r; scope = s; is = refl; holds = h; stands = b; later = l }

is_ended : {further : Tree → Parse Start} {q v : Parser} {answer : Answer Start} {x : declared_start.OperandForm} → Turned further q v (Ok (turn.Ended x)) answer → Gives HoldsOperandForm q v (Ok x) answer
is_ended (ended b l h) = gave b l h

is_stopped : {further : Tree → Parse Start} {q v : Parser} {answer : Answer Start} {e : Failure} → Turned further q v (Err e) answer → Gives HoldsOperandForm q v (Err e) answer
is_stopped no_syntax = gives.no_syntax
is_stopped too_deep = gives.too_deep
is_stopped no_memory = gives.no_memory

pub begins : (rest : ℕ → Toks → Tree → Parse Start) (here : declared_spot.SourcePosition) (p : Parser) (x : Subtree) → Goes rest here p p x x
begins rest here p x = record { going = λ o a m w s e h b less. record { tree = a; number = m; toks = w; scope = s; is = refl; holds = h; stands = b; enough = less; later = later_same p } }

-- a turn from q to v, whatever it reads further
module _ (once : (Tree → Parse Start) → Toks → Tree → Parse Start) where
  abbrev pub Turns : declared_spot.SourcePosition → Parser → Parser → Subtree → Result PostfixStep Failure → Type 0
  Turns here q v y result = (further : Tree → Parse Start) (o : Toks) (a : Tree) (w : Toks) (s : Scope) → position_of here ≡ position o → Holds q.symbols y a → At q w s → Turned further q v result (once further o a w s)

  pub turns_as : {here : declared_spot.SourcePosition} {q v : Parser} {y : Subtree} {t u : PostfixStep} → t ≡ u → Turns here q v y (Ok t) → Turns here q v y (Ok u)
  turns_as {here} {q} {v} {y} is k = subst (λ (x : PostfixStep). Turns here q v y (Ok x)) is k

module _ {rest : ℕ → Toks → Tree → Parse Start} (once : (Tree → Parse Start) → Toks → Tree → Parse Start) (unroll : (m : ℕ) (o : Toks) (a : Tree) (w : Toks) (s : Scope) → rest (suc m) o a w s ≡ once (rest m o) o a w s) where
  more_gone : {here : declared_spot.SourcePosition} {p q v : Parser} {y z : Subtree} {o : Toks} {answer : Answer Start} (t : Tree) (n : ℕ) (u : Toks) (c : Scope) → answer ≡ rest n o t u c → Holds q.symbols y t → At q u c → count_of u < n → Later p q → position_of here ≡ position o → length v.rest.now < length q.rest.now → Turns once here q v y (Ok (turn.Longer z)) → Gone rest o p v z answer
  more_gone t zero u c is h b less l e fewer turns = elim (not_below _ less) [ ]
  more_gone {q = q} {v = v} {o = o} t (suc n) u c is h b less l e fewer turns =
      let k = is_longer (turns (rest n o) o t u c e h b) in
      record { tree = k.tree; number = n; toks = k.toks; scope = k.scope; is = is ∙ unroll n o t u c ∙ k.is; holds = k.holds; stands = k.stands; enough = fewer_left b k.stands fewer less; later = later_then l k.later }

  pub goes_more : {here : declared_spot.SourcePosition} {p q v : Parser} {x y z : Subtree} → Goes rest here p q x y → length v.rest.now < length q.rest.now → Turns once here q v y (Ok (turn.Longer z)) → Goes rest here p v x z
  goes_more g fewer turns = record { going = λ o a m w s e h b less. let k = g.going o a m w s e h b less in more_gone k.tree k.number k.toks k.scope k.is k.holds k.stands k.enough k.later e fewer turns }

  last_gone : {here : declared_spot.SourcePosition} {p q v : Parser} {y : Subtree} {o : Toks} {answer : Answer Start} {result : Result declared_start.OperandForm Failure} {told : Result PostfixStep Failure} (t : Tree) (n : ℕ) (u : Toks) (c : Scope) → answer ≡ rest n o t u c → Holds q.symbols y t → At q u c → count_of u < n → Later p q → position_of here ≡ position o → Turns once here q v y told → ((further : Tree → Parse Start) (a : Answer Start) → Turned further q v told a → Gives HoldsOperandForm q v result a) → Gives HoldsOperandForm p v result answer
  last_gone t zero u c is h b less l e turns k = elim (not_below _ less) [ ]
  last_gone {o = o} t (suc n) u c is h b less l e turns k = named (is ∙ unroll n o t u c) (from l (k _ _ (turns (rest n o) o t u c e h b)))

  pub goes_end : {here : declared_spot.SourcePosition} {p q v : Parser} {x y : Subtree} {z : declared_start.OperandForm} {o : Toks} {a : Tree} {m : ℕ} {w : Toks} {s : Scope} → Goes rest here p q x y → position_of here ≡ position o → Holds p.symbols x a → At p w s → count_of w < m → Turns once here q v y (Ok (turn.Ended z)) → Gives HoldsOperandForm p v (Ok z) (rest m o a w s)
  goes_end {o = o} {a = a} {m = m} {w = w} {s = s} g e h b less turns = let k = g.going o a m w s e h b less in last_gone k.tree k.number k.toks k.scope k.is k.holds k.stands k.enough k.later e turns (λ f a t. is_ended t)

  pub goes_stop : {here : declared_spot.SourcePosition} {p q v : Parser} {x y : Subtree} {f : Failure} {o : Toks} {a : Tree} {m : ℕ} {w : Toks} {s : Scope} → Goes rest here p q x y → position_of here ≡ position o → Holds p.symbols x a → At p w s → count_of w < m → Turns once here q v y (Err f) → Gives HoldsOperandForm p v (Err f) (rest m o a w s)
  goes_stop {o = o} {a = a} {m = m} {w = w} {s = s} g e h b less turns = let k = g.going o a m w s e h b less in last_gone k.tree k.number k.toks k.scope k.is k.holds k.stands k.enough k.later e turns (λ f a t. is_stopped t)

-- how much shorter what is left is
pub if_shorter : (result : Result PostfixStep Failure) (j k n : ℕ) → k ≤ n → IfOk result (λ t. IsLonger t → j ≤ k) → IfOk result (λ t. IsLonger t → j ≤ n)
if_shorter (Ok t) j k n le h = λ u. le_trans (h u) le
if_shorter (Err e) j k n le h = h

pub if_fewer : (result : Result PostfixStep Failure) (j m : ℕ) → 1 ≤ m → IfOk result (λ t. IsLonger t → j ≤ m - 1) → IfOk result (λ t. IsLonger t → j < m)
if_fewer (Ok t) j m le h = λ u. below_less j m le (h u)
if_fewer (Err e) j m le h = h

pub found_later : {X A : Type 0} {H : Texts → X → A → Type 0} {p q : Parser} {s : Scope} {x : X} {a : Found A} → Finds H p q s (Ok x) a → Later p q
found_later (finds b l h) = l

-- a part, and then what is read behind it
pub behind_later : {X A : Type 0} {H : Texts → X → A → Type 0} {p q v : Parser} {x : X} {a : Answer A} → Gives H p q (Ok x) a → ((t : A) → H q.symbols x t → Later q v) → Later p v
behind_later (gave {t = t} b l h) k = later_then l (k t h)
