use Rattle.ruby_meaning.proofs.Longer.{more_turns}
use Rattle.ruby_meaning.proofs.MoreTurns.{same_answer}
use Rattle.ruby_meaning.proofs.laws.more_turns_keep.Goals as goal

pub returns : goal.returns
returns c = record { runs = more_turns; programs = same_answer }
