-- Where a reader with one token of lookahead stops: the place behind the last line of statements that it takes, and then the line of a fault.
use Rattle.std.specs.Prelude.{ℕ, zero, suc, Bool, true, false, ◌&&◌, codes, Option, Some, None, if◌then◌else◌}
use Rattle.ruby_lexer.specs.Bytes.{Bytes}
use Rattle.ruby_lexer.specs.Pieces.{Toks, none, more}
use Rattle.ruby_tree.specs.Tree.{Tree}
use Rattle.ruby_tree.specs.Rules.{Scope, fresh, next, line_at, own, is_word, begins_statement}
use Rattle.ruby_tree.specs.FaultLine.{count_of}
use Rattle.reference_parser.specs.Answers.{Answer, taken, fault, deep, Parse, ◌>>=◌, ◌>>>◌}
use Rattle.reference_parser.specs.Fronts.{is_newline, is_constant, method_name_at, on_self_at}
use Rattle.reference_parser.specs.ReadItems.{Readers}
use Rattle.reference_parser.specs.ReadBodies.{read_superclass, parameter_list}
use Rattle.reference_parser.specs.ReadStatements.{read_stmt}

-- A place behind lines of statements: the tokens and the locals there. The walk goes no further, and it is cut where the next statement nests
-- too deep.
pub record Place : Type 0 where
  pub rest : Toks
  pub scope : Scope
  pub cut : Bool

module _ (source : Bytes) (Q : Readers) where
  -- behind the statement that was read at w, if it ends a line; what follows is walked by the function given
  unfoldable pub front_behind : (Toks → Scope → Place) → Toks → Scope → Answer Tree → Place
  front_behind further w s (taken t q y) = if is_newline q then further (next q) y else record { rest = w; scope = s; cut = false }
  front_behind further w s fault = record { rest = w; scope = s; cut = false }
  front_behind further w s deep = record { rest = w; scope = s; cut = true }

  -- Statements and newlines, one after another. Each newline ends what is taken so far.
  unfoldable pub front_from : ℕ → Toks → Scope → Place
  front_from zero w s = record { rest = w; scope = s; cut = false }
  front_from (suc m) w s =
      if is_newline w then front_from m (next w) s
      else if begins_statement source w then front_behind (front_from m) w s (read_stmt source Q own w s)
      else record { rest = w; scope = s; cut = false }

  unfoldable pub front_of : Toks → Scope → Place
  front_of w s = front_from (suc (count_of w)) w s

  -- What begins a class, a module or a method, up to its body, with the locals of the body.
  unfoldable pub class_header : Parse (Unit {0})
  class_header w s =
      if is_constant (next w) then (read_superclass source Q own (next (next w)) s >>= λ c q y. if is_newline q then taken tt (next q) fresh else fault) else fault

  unfoldable pub module_header : Parse (Unit {0})
  module_header w s = if is_constant (next w) && is_newline (next (next w)) then taken tt (next (next (next w))) fresh else fault

  unfoldable pub method_header : Parse (Unit {0})
  method_header w s = on_self_at source (next w) >>> λ b q. method_name_at source true q >>> λ m v. parameter_list source Q own v fresh >>= λ ps r z. taken tt r z

  unfoldable pub header_at : Parse (Unit {0})
  header_at w s =
      if is_word source (codes "class") w then class_header w s
      else if is_word source (codes "module") w then module_header w s
      else if is_word source (codes "def") w then method_header w s
      else fault

  -- the line of the first token, or the line given where there is none
  unfoldable pub line_or : ℕ → Toks → ℕ
  line_or end none = end
  line_or end (more t ts) = line_at (more t ts)

  -- behind a front that ends at v, by the header there
  unfoldable pub stop_behind : (Toks → Scope → Option ℕ) → ℕ → Toks → Answer (Unit {0}) → Option ℕ
  stop_behind further end v (taken a r z) = further r z
  stop_behind further end v fault = Some (line_or end v)
  stop_behind further end v deep = None

  -- The line at which the grammar stops: a front, a header, a front, and so on. None where the walk was cut by the depth.
  unfoldable pub stops_from : ℕ → ℕ → Toks → Scope → Option ℕ
  stops_from zero end w s = None
  stops_from (suc m) end w s =
      let p = front_of w s in
      if p.cut then None else stop_behind (stops_from m end) end p.rest (header_at p.rest p.scope)

  unfoldable pub stops_at : ℕ → Toks → Scope → Option ℕ
  stops_at end w s = stops_from (suc (count_of w)) end w s
