use Rattle.ruby_meaning.proofs.EdgeRows.{edge_rows}
use Rattle.ruby_meaning.proofs.programs.edge_programs.Goals as goal

pub returns : goal.returns
returns c = edge_rows
