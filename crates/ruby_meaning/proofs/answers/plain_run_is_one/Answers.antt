use Rattle.ruby_meaning.proofs.OneAnswer.{run_same}
use Rattle.ruby_meaning.proofs.answers.plain_run_is_one.Goals as goal

pub returns : goal.returns
returns c = run_same
