use Rattle.std.proofs.Common.{false}
use Rattle.ruby_lexer.proofs.Gathered.{settle_push}
use Rattle.ruby_lexer.proofs.gather.add_token.Goals as goal

pub returns : goal.returns
returns c = record { raws = λ text ts. rw (c.in_ok-push.ensures.items, ← c.token-token.ensures) (settle_push text c.args.raws.now.items (record { token = c.token-token.result; is_line = false }) ts) }
