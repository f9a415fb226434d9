-- What a function of the parser gives, by what the reader on lists answers.
use Rattle.std.specs.Prelude.{◌≡◌, ◌<◌, ℕ, Bool, true, false, Result, Ok, Err}
use Rattle.ruby_lexer.specs.Pieces.{Toks}
use Rattle.ruby_tree.specs.Names.{Texts}
use Rattle.ruby_tree.specs.Rules.{Scope}
use Rattle.ruby_tree.specs.FaultLine.{count_of}
use Rattle.reference_parser.specs.Answers.{Answer, taken, fault, deep, Parse, Found, found, missing}
use Rattle.parse_state.specs.declared.failures.Failure.{Failure}
use Rattle.parse_state.specs.declared.failures.Failure.TheVariants as failure
use Rattle.parse_state.specs.declared.standing.Parser.{Parser}
use Rattle.parse_state.specs.Standing.{At, Later}

-- The parser was p and is q now. What it gives is what the answer is: a part that was taken, which what was read holds in the table of names
-- of now, and q stands behind it; or nothing is derived; or symbols nest too deep. Where memory was wanting nothing is said.
pub data Gives {X A : Type 0} (H : Texts → X → A → Type 0) (p q : Parser) : Result X Failure → Answer A → Type 0 where
  gave : {x : X} {t : A} {r : Toks} {z : Scope} → At q r z → Later p q → H q.symbols x t → Gives H p q (Ok x) (taken t r z)
  no_syntax : Gives H p q (Err failure.Syntax) fault
  too_deep : Gives H p q (Err failure.TooDeep) deep
  no_memory : {a : Answer A} → Gives H p q (Err failure.Memory) a

-- the same of what is read where p stands, wherever that is
abbrev pub Reads : {X A : Type 0} → (Texts → X → A → Type 0) → Parser → Parser → Result X Failure → Parse A → Type 0
Reads H p q result f = (w : Toks) (s : Scope) → At p w s → Gives H p q result (f w s)

-- the same of a loop, whose turns a number bounds that is more than the count of the tokens
abbrev pub ReadsWithin : {X A : Type 0} → (Texts → X → A → Type 0) → Parser → Parser → Result X Failure → (ℕ → Parse A) → Type 0
ReadsWithin H p q result f = (m : ℕ) (w : Toks) (s : Scope) → At p w s → count_of w < m → Gives H p q result (f m w s)

-- The same of what the tokens alone decide, which leaves the scope s.
pub data Finds {X A : Type 0} (H : Texts → X → A → Type 0) (p q : Parser) (s : Scope) : Result X Failure → Found A → Type 0 where
  finds : {x : X} {t : A} {r : Toks} → At q r s → Later p q → H q.symbols x t → Finds H p q s (Ok x) (found t r)
  misses : Finds H p q s (Err failure.Syntax) missing
  no_memory : {a : Found A} → Finds H p q s (Err failure.Memory) a

-- A test of the token before v, which is taken where it has passed.
pub data Expects (p q : Parser) (v : Toks) (s : Scope) : Result (Unit {0}) Failure → Bool → Type 0 where
  met : At q v s → Later p q → Expects p q v s (Ok tt) true
  unmet : Expects p q v s (Err failure.Syntax) false

-- what stands for nothing
abbrev pub HoldsNothing : Texts → Unit {0} → Unit {0} → Type 0
HoldsNothing T x t = Unit {0}

-- what is itself
abbrev pub IsSame : {A : Type 0} → Texts → A → A → Type 0
IsSame T x t = x ≡ t
