use Rattle.ruby_meaning.proofs.Constructs.{table_of, eval_is_run}
use Rattle.ruby_meaning.proofs.laws.nodes_do_as_the_table_says.Goals as goal

pub returns : goal.returns
returns c = record { table = table_of; runs = eval_is_run }
