use Rattle.compile_laws.proofs.Units.{body_there, row_there, bodies_counted, rows_counted}
use Rattle.compile_laws.proofs.found.units_have_their_sequences.Goals as goal

pub returns : goal.returns
returns c = record { bodies = body_there; rows = row_there; lengths = λ path t. (bodies_counted path t, rows_counted path t) }
