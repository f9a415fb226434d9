use Rattle.yarv_compile.proofs.ByPlaces.{same_order, increasing_is_ordered}
use Rattle.yarv_compile.proofs.laws.sequences_have_one_order.Goals as goal

pub returns : goal.returns
returns c = record { same = same_order; rising = increasing_is_ordered }
