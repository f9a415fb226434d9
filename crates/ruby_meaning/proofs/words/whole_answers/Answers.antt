use Rattle.ruby_meaning.proofs.WordRows.{whole, workloads}
use Rattle.ruby_meaning.proofs.TreesOfAnswers.{trees}
use Rattle.ruby_meaning.proofs.words.whole_answers.Goals as goal

pub returns : goal.returns
returns c = record { answers = whole; trees = trees; workloads = workloads }
