use Rattle.compile_laws.proofs.FramesBegin.{enter_keeps}
use Rattle.compile_laws.proofs.frames.entries_change_the_trace.Goals as goal

pub returns : goal.returns
returns c = enter_keeps
