use Rattle.std.proofs.Common.{ap, ℕ, take}
use Rattle.ruby_lexer.specs.Tokens.{before_end}
use Rattle.ruby_lexer.proofs.lexing.before_end.Goals as goal

pub returns : goal.returns
unfolding before_end
returns c = ap (λ (n : ℕ). take n c.args.text.now) c.end_length.ensures.count
