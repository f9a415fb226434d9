use Rattle.ruby_lexer.proofs.Once.{one_list, one_line, apart, either}
use Rattle.ruby_lexer.proofs.laws.one_reading.Goals as goal

pub returns : goal.returns
returns c = record { tokens = one_list; lines = one_line; apart = apart; either = either }
