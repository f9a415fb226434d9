use Rattle.std.proofs.Common.{◌≡◌, ◌+◌, ◌≤◌, length}
use Rattle.ruby_lexer.specs.Scan.{coder}
use Rattle.ruby_lexer.proofs.Turns.{AllTurn}
use Rattle.ruby_lexer.proofs.cursor.Cursor.all.Given as goal

abbrev pub invariant-loop-raws : goal.invariant-loop-raws
invariant-loop-raws l = record {
  turn : AllTurn l.fn.self.text.now (coder l.fn.self.text.now 200) l.self.rest.now l.raws.items l.state;
  same : l.self.text.now ≡ l.fn.self.text.now;
  few : l.state.braces + length l.self.rest.now ≤ length l.fn.self.text.now;
}

abbrev pub decreases-loop-raws : goal.decreases-loop-raws
decreases-loop-raws l = length l.self.rest.now
