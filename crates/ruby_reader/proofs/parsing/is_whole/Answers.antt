use Rattle.ruby_reader.proofs.Judging.{tokens_left}
use Rattle.ruby_reader.proofs.parsing.is_whole.Goals as goal

pub returns-in-len1-up : goal.returns-in-len1-up
returns-in-len1-up c = tokens_left c.args.parsed.now.rest.now c.args.front.now.fault c.in-len1-up.len_at_least
