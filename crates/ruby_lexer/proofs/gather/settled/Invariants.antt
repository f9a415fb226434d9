use Rattle.std.proofs.Common.{◌≡◌, vec_len}
use Rattle.ruby_lexer.specs.Pieces.{none}
use Rattle.ruby_lexer.specs.Cut.{closes, begins_with_name}
use Rattle.ruby_lexer.specs.Settle.{settle, onto}
use Rattle.ruby_lexer.proofs.gather.settled.Given as goal

abbrev pub invariant-loop-raw : goal.invariant-loop-raw
invariant-loop-raw l = record {
  all : settle l.text l.raws.items (onto l.tokens.items none) ≡ settle l.text l.initial.raws.items none;
  closing : l.closes ≡ closes l.text (onto l.tokens.items none);
  named : l.has_name ≡ begins_with_name (onto l.tokens.items none);
}

abbrev pub decreases-loop-raw : goal.decreases-loop-raw
decreases-loop-raw l = vec_len l.raws
