use Rattle.ruby_meaning.proofs.OneAnswer.{preludes}
use Rattle.ruby_meaning.proofs.WordRows.{prelude_is_read}
use Rattle.ruby_meaning.proofs.answers.prelude_is_one.Goals as goal

pub returns : goal.returns
returns c = record { reading = prelude_is_read; one = preludes }
