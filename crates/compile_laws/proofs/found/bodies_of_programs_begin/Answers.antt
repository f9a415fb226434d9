use Rattle.compile_laws.proofs.ProgramsRun.{begins_here, method_stands, block_stands}
use Rattle.compile_laws.proofs.found.bodies_of_programs_begin.Goals as goal

pub returns : goal.returns
returns a = record { begins = begins_here; method = method_stands; block = block_stands }
