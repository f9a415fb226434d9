use Rattle.ruby_meaning.proofs.WordRows.{runs, bad_runs, pools, others}
use Rattle.ruby_meaning.proofs.words.small_lists_of_words.Goals as goal

pub returns : goal.returns
returns c = record { runs = runs; bad_runs = bad_runs; pools = pools; others = others }
