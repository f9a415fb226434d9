use Rattle.ruby_meaning.specs.FilesOf.{reads_by}
use Rattle.ruby_meaning.proofs.Plans.{plan_fine}
use Rattle.ruby_meaning.proofs.WordRows.{bad_is_alone}
use Rattle.ruby_meaning.proofs.words.plans_are_of_words.Goals as goal

pub returns : goal.returns
returns c = record { plans = plan_fine; bad_words = λ reader. bad_is_alone (reads_by reader) }
