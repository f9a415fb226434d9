use Rattle.code_writer.proofs.Shapes.{whole_code, whole_table}
use Rattle.code_writer.proofs.shapes_are_written.Goals as goal

pub returns : goal.returns
returns c = record { code = whole_code; table = whole_table }
