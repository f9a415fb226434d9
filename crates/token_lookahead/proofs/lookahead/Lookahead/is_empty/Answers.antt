use Rattle.token_lookahead.proofs.Lookaheads.{not_empty}
use Rattle.token_lookahead.proofs.lookahead.Lookahead.is_empty.Goals as goal

pub returns-in-len1-up : goal.returns-in-len1-up
returns-in-len1-up c = not_empty _ c.in-len1-up.len_at_least
