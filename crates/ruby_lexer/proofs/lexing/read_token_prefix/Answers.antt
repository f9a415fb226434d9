use Rattle.ruby_lexer.specs.Pieces.{seen_all}
use Rattle.ruby_lexer.proofs.Once.{read_token_prefix}
use Rattle.ruby_lexer.proofs.lexing.read_token_prefix.Goals as goal

pub returns-clause-front : goal.returns-clause-front
returns-clause-front c =
    let all = rw (c.new-cursor.ensures.text, c.before_end.ensures) at c.in_ok-front.ensures in
    read_token_prefix c.args.text.now (seen_all c.in_ok-front.front.tokens) c.in_ok-front.front.fault c.in_default.ensures all
