use Rattle.compile_laws.proofs.RowsTrees.{in_order}
use Rattle.compile_laws.proofs.RisingRow.{nested_rises}
use Rattle.compile_laws.proofs.sound.rows_are_in_order.Goals as goal

pub returns : goal.returns
returns c = record { witness = nested_rises; order = in_order }
