-- One turn of the walk to the line at which the grammar stops.
use Rattle.std.specs.Prelude.{◌<◌, ℕ, Result, Ok, Err, length, if◌then◌else◌}
use Rattle.ruby_lexer.specs.Bytes.{Bytes}
use Rattle.ruby_lexer.specs.Pieces.{Toks, none, more}
use Rattle.ruby_tree.specs.Names.{Texts}
use Rattle.ruby_tree.specs.Rules.{Scope, own, next, line_at, begins_statement}
use Rattle.reference_parser.specs.Answers.{Answer, taken, fault, deep, Parse, ◌>>=◌}
use Rattle.reference_parser.specs.Fronts.{is_newline}
use Rattle.reference_parser.specs.ReadItems.{Readers}
use Rattle.reference_parser.specs.ReadStatements.{read_stmt}
use Rattle.reference_parser.specs.Stops.{header_at}
use Rattle.parse_state.specs.declared.failures.Failure.{Failure}
use Rattle.parse_state.specs.declared.failures.Failure.TheVariants as failure
use Rattle.parse_state.specs.declared.standing.Parser.{Parser}
use Rattle.parse_state.specs.Standing.{At}

-- the line of the first token, or the line given where there is none
abbrev pub first_line : ℕ → Toks → ℕ
first_line end none = end
first_line end (more t ts) = line_at (more t ts)

-- whatever was read
abbrev pub IsAny : {A : Type 0} → Texts → Unit {0} → A → Type 0
IsAny T x t = Unit {0}

-- a part, or another one where nothing is derived
unfoldable pub or_else : {A : Type 0} → Answer A → Answer A → Answer A
or_else (taken a r z) b = taken a r z
or_else fault b = b
or_else deep b = deep

-- a part, with the scope s behind it
unfoldable pub kept : {A : Type 0} → Scope → Answer A → Answer A
kept s (taken a r z) = taken a r s
kept s fault = fault
kept s deep = deep

module _ (source : Bytes) (Q : Readers) where
  -- a statement, and the newline behind it
  unfoldable pub statement_line : Parse (Unit {0})
  statement_line w s = if begins_statement source w then (read_stmt source Q own w s >>= λ t q y. if is_newline q then taken tt (next q) y else fault) else fault

  -- What the walk goes on over: a newline, or a statement with its newline, or, where no such statement stands, a header.
  unfoldable pub turn_at : Parse (Unit {0})
  turn_at w s = if is_newline w then taken tt (next w) s else or_else (statement_line w s) (header_at source Q w s)

-- There were so many tokens at a place, and the parser is q now. Either the walk goes on where q stands, and fewer tokens are left; or it goes no
-- further than the place; or it is cut, since symbols nest too deep. Where memory was wanting nothing is said.
pub data Moves (count : ℕ) (q : Parser) : Result (Unit {0}) Failure → Answer (Unit {0}) → Type 0 where
  goes : {r : Toks} {z : Scope} → At q r z → length q.rest.now < count → Moves count q (Ok tt) (taken tt r z)
  stops : Moves count q (Err failure.Syntax) fault
  too_deep : Moves count q (Err failure.TooDeep) deep
  no_memory : {a : Answer (Unit {0})} → Moves count q (Err failure.Memory) a
