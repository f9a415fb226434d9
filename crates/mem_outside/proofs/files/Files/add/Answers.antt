use Rattle.std.proofs.Common.{◌∙◌, sym}
use Rattle.mem_outside.proofs.Closing.{timely, timely_insert}
use Rattle.mem_outside.proofs.files.Files.add.Goals as goal

pub invariant_of-self-2 : goal.invariant_of-self-2
invariant_of-self-2 c = timely_insert _ _ c.args.path c.args.item c.in_ok-insert.ensures.ok c.self.invariant (timely c.args.path c.args.item (sym c.is_entry.ensures ∙ c.if-not-is_entry.false))
