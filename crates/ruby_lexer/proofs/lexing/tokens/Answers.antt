use Rattle.ruby_lexer.proofs.Once.{stopped}
use Rattle.ruby_lexer.proofs.lexing.tokens.Goals as goal

pub returns-in-Some-clause-fault : goal.returns-in-Some-clause-fault
returns-in-Some-clause-fault c =
    let f = c.in_ok-front.ensures.front in
    let ends = rw c.in-Some.is at f.ends_at in
    rw ends.1 (stopped c.args.text.now f.front f.is_text ends.0)
