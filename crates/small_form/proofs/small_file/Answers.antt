use Rattle.small_form.proofs.Nodes.{small_control}
use Rattle.small_form.proofs.small_file.Goals as goal

pub returns-in-Control : goal.returns-in-Control
returns-in-Control c = small_control c.args.program.now.symbols c.args.program.now.root c.in-Control.control c.control_file.result c.in-Control.is c.control_file.ensures
