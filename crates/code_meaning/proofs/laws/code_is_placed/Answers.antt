use Rattle.code_meaning.proofs.Placing as places
use Rattle.code_meaning.proofs.Order as order
use Rattle.code_meaning.proofs.laws.code_is_placed.Goals as goal

pub returns : goal.returns
returns c = record { placed = places.placed; rising = order.rows_rise }
