use Rattle.ruby_meaning.proofs.OneAnswer.{answer_same}
use Rattle.ruby_meaning.proofs.answers.answer_is_one.Goals as goal

pub returns : goal.returns
returns c = answer_same
