-- The reading of a text as a function of it: its tree, or the line of its fault.
use Rattle.std.specs.Prelude.{ℕ, nat_lt, if◌then◌else◌, Option, Some, None}
use Rattle.std.specs.Option.{unwrap_or}
use Rattle.ruby_lexer.specs.Bytes.{Bytes}
use Rattle.ruby_lexer.specs.Pieces.{Toks}
use Rattle.ruby_lexer.specs.Pieces as token
use Rattle.ruby_lexer.specs.Tokens.{before_end}
use Rattle.ruby_tree.specs.declared.surroundings.Misplaced.{Misplaced}
use Rattle.ruby_tree.specs.Tree.{Tree}
use Rattle.ruby_tree.specs.Rules.{fresh}
use Rattle.ruby_tree.specs.Depth.{depth}
use Rattle.ruby_tree.specs.Placement.{faults, at_home, file}
use Rattle.ruby_tree.specs.FirstFault.{first_of}
use Rattle.reference_parser.specs.Answers.{Answer, taken, deep}
use Rattle.reference_parser.specs.Answers as answer
use Rattle.reference_parser.specs.ReadStatements.{readers}
use Rattle.reference_parser.specs.Stops.{stops_at}
use Rattle.reference_parser.specs.Scanned.{Scanned, front, no_text, scanned_of}
use Rattle.reference_parser.specs.HasFault.{text_end, end_line, read_open}

pub data Reading : Type 0 where
  tree : Tree → Reading
  fault : ℕ → Reading

-- a tree, by the first fault of placement in it
abbrev pub placed_by : Tree → Option Misplaced → Reading
placed_by t None = tree t
placed_by t (Some m) = fault m.line

-- what a tree of the whole text is read as, where the text ends in this line
unfoldable pub judged : ℕ → Tree → Reading
judged end t = if nat_lt 200 (depth t) then fault end else placed_by t (first_of (faults (at_home file) t))

-- The line at which the grammar stops, by a walk whose statements nest as they do where the text is read. It is not cut where that reading is
-- not.
unfoldable pub stop_line : Bytes → Toks → Option ℕ → ℕ
stop_line bytes ts stop = unwrap_or (stops_at (before_end bytes) (readers (before_end bytes) 199) (end_line bytes stop) ts fresh) (text_end bytes)

-- by what was taken of the tokens, where they stop, if they do
abbrev pub answered : Bytes → Toks → Option ℕ → Answer Tree → Reading
answered bytes ts stop deep = fault (text_end bytes)
answered bytes ts stop answer.fault = fault (stop_line bytes ts stop)
answered bytes ts stop (taken t (token.more x r) z) = fault (stop_line bytes ts stop)
answered bytes ts (Some line) (taken t token.none z) = fault (stop_line bytes ts (Some line))
answered bytes ts None (taken t token.none z) = judged (text_end bytes) t

abbrev pub reading_with : Bytes → Scanned → Reading
reading_with bytes (no_text line) = fault line
reading_with bytes (front ts stop) = answered bytes ts stop (read_open bytes ts)

-- More than 200 constructs that are open at one place end the reading. Else the grammar decides, then the depth of the tree, and then the
-- placement.
unfoldable pub reading_of : Bytes → Reading
reading_of bytes = reading_with bytes (scanned_of bytes)
