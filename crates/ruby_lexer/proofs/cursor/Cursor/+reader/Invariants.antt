use Rattle.std.proofs.Common.{◌≡◌, ◌+◌, ◌*◌, ◌-◌, ◌<◌, ◌≤◌, length}
use Rattle.ruby_lexer.specs.Scan.{coder}
use Rattle.ruby_lexer.proofs.Turns.{InsideTurn, CodeTurn}
use Rattle.ruby_lexer.proofs.cursor.Cursor.+reader.Given as goal

abbrev pub decreases-code : goal.decreases-code
decreases-code l = 6 * l.depth

abbrev pub decreases-code_part : goal.decreases-code_part
decreases-code_part l = 6 * l.depth + 1

abbrev pub decreases-inside : goal.decreases-inside
decreases-inside l = 6 * l.depth + 2

abbrev pub decreases-quoted_piece : goal.decreases-quoted_piece
decreases-quoted_piece l = 6 * l.depth + 3

abbrev pub decreases-quoted_symbol : goal.decreases-quoted_symbol
decreases-quoted_symbol l = 3

abbrev pub decreases-piece : goal.decreases-piece
decreases-piece l = 6 * l.depth + 4

abbrev pub decreases-step : goal.decreases-step
decreases-step l = 6 * l.depth + 5

abbrev pub invariant-inside-loop-self : goal.invariant-inside-loop-self
invariant-inside-loop-self l = record {
  turn : InsideTurn (coder l.fn.self.text.now l.depth) l.fn.self.rest.now l.self.rest.now l.parts.items l.bytes.items;
  same : l.self.text.now ≡ l.fn.self.text.now;
}

abbrev pub decreases-inside-loop-self : goal.decreases-inside-loop-self
decreases-inside-loop-self l = length l.self.rest.now

abbrev pub invariant-code-loop-state : goal.invariant-code-loop-state
invariant-code-loop-state l = record {
  turn : CodeTurn l.fn.self.text.now (coder l.fn.self.text.now (l.depth - 1)) l.fn.self.rest.now l.self.rest.now l.raws.items l.state;
  same : l.self.text.now ≡ l.fn.self.text.now;
  few : l.state.braces + length l.self.rest.now ≤ 1 + length l.fn.self.rest.now;
  deep : 0 < l.depth;
}

abbrev pub decreases-code-loop-state : goal.decreases-code-loop-state
decreases-code-loop-state l = length l.self.rest.now
