use Rattle.ruby_meaning.proofs.Same.{ends}
use Rattle.ruby_meaning.proofs.Ends.{spent_without_turns, program_ends}
use Rattle.ruby_meaning.proofs.laws.runs_end_as_they_may.Goals as goal

pub returns : goal.returns
returns c = record { allowed = ends; spent = spent_without_turns; program = program_ends }
