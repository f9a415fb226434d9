use Rattle.mem_outside.proofs.Closing.{timely_none}
use Rattle.mem_outside.proofs.files.Files.new.Goals as goal

pub invariant_of-result : goal.invariant_of-result
invariant_of-result c = timely_none _ c.new.ensures
