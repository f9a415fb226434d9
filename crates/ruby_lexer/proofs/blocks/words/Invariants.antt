use Rattle.std.proofs.Common.{◌≡◌, ◌++◌, length}
use Rattle.ruby_lexer.specs.Texts.{cells, word_list}
use Rattle.ruby_lexer.proofs.blocks.words.Given as goal

abbrev pub invariant-loop-left : goal.invariant-loop-left
invariant-loop-left l = word_list (cells l.text) ≡ l.found.items ++ word_list ((l.word.items ++ (cells l.left).0), (cells l.left).1)

abbrev pub decreases-loop-left : goal.decreases-loop-left
decreases-loop-left l = length l.left
