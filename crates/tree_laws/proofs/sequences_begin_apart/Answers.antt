use Rattle.tree_laws.proofs.Apart.{places_apart, places_below, places_small}
use Rattle.tree_laws.proofs.sequences_begin_apart.Goals as goal

pub returns : goal.returns
returns c = record { apart = places_apart; small = places_small; within = places_below }
