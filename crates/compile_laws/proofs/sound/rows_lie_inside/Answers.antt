use Rattle.compile_laws.proofs.RowsTrees as rows
use Rattle.compile_laws.proofs.sound.rows_lie_inside.Goals as goal

pub returns : goal.returns
returns c = record { ordered = rows.ordered; inside = rows.inside }
