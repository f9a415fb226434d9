-- A turn of a loop that gathers parts.
use Rattle.std.specs.Prelude.{◌≡◌, ◌<◌, Bool, true, false, length, Result, Ok, Err, IfOk}
use Rattle.ruby_lexer.specs.Pieces.{Toks}
use Rattle.ruby_tree.specs.Names.{Texts}
use Rattle.ruby_tree.specs.Rules.{Scope}
use Rattle.reference_parser.specs.Answers.{Answer, taken, fault, deep, Parse}
use Rattle.parse_state.specs.declared.failures.Failure.{Failure}
use Rattle.parse_state.specs.declared.failures.Failure.TheVariants as failure
use Rattle.parse_state.specs.declared.standing.Parser.{Parser}
use Rattle.parse_state.specs.Standing.{At, Later}

-- The parser was p and is q now, and x is what was gathered. Where one more turn follows, the answer is what the further turns make of what x
-- holds, and fewer tokens are left; where none follows, it is what x holds.
pub data Turns {X A : Type 0} (H : Texts → X → A → Type 0) (p q : Parser) (x : X) (further : A → Parse A) : Result Bool Failure → Answer A → Type 0 where
  goes_on : {t : A} {r : Toks} {z : Scope} → At q r z → Later p q → length q.rest.now < length p.rest.now → H q.symbols x t → Turns H p q x further (Ok true) (further t r z)
  ends : {t : A} {r : Toks} {z : Scope} → At q r z → Later p q → H q.symbols x t → Turns H p q x further (Ok false) (taken t r z)
  no_syntax : Turns H p q x further (Err failure.Syntax) fault
  too_deep : Turns H p q x further (Err failure.TooDeep) deep
  no_memory : {a : Answer A} → Turns H p q x further (Err failure.Memory) a

-- fewer tokens are left, where one more turn follows
abbrev pub IsFewer : Parser → Parser → Result Bool Failure → Type 0
IsFewer p q result = IfOk result (λ further. further ≡ true → length q.rest.now < length p.rest.now)
