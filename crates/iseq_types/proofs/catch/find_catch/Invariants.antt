use Rattle.iseq_types.specs.Catch.{NoneFits}
use Rattle.iseq_types.proofs.catch.find_catch.Given as goal

abbrev pub invariant-loop-found : goal.invariant-loop-found
invariant-loop-found l = NoneFits l.rows l.kind l.pc l.from_row l.found
