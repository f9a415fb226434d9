use Rattle.compile_laws.proofs.AlikeCalls.{loop_alike, line_alike}
use Rattle.compile_laws.proofs.alike.frames_are_alike.Goals as goal

pub returns : goal.returns
returns c = record { loops = loop_alike; lines = line_alike }
