use Rattle.ruby_tree.specs.Tree.{at}
use Rattle.ruby_tree.specs.Build.{one, sent, read_form}
use Rattle.ruby_tree.specs.SourcePositions.{position_of}
use Rattle.parse_statements.proofs.variables.operated.Goals as goal

pub returns : goal.returns
returns c = record { made = λ T g v f i h n. c.assign.ensures.made T (sent (position_of c.args.call) (at (position_of c.args.here) (read_form g)) f (one v)) g (c.in_ok-made.ensures.made T (at (position_of c.args.here) (read_form g)) f (one v) (c.in_ok-reading.ensures.made T g i) n (c.in_ok-arguments.ensures T v h)) i }
