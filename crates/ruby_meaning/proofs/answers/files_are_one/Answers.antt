use Rattle.ruby_meaning.proofs.OneAnswer.{files_same}
use Rattle.ruby_meaning.proofs.answers.files_are_one.Goals as goal

pub returns : goal.returns
returns c = files_same
