use Rattle.mem_shelf.proofs.LastOf.{named_first, named_after}
use Rattle.mem_shelf.proofs.lists.is_named.Goals as goal

pub returns-then-is_some : goal.returns-then-is_some
returns-then-is_some c = named_first c.args.files.now c.args.after.now c.args.name.now _ _ c.last_of.ensures c.is_some.ensures c.if-is_some.true

pub returns-else-is_some : goal.returns-else-is_some
returns-else-is_some c = named_after c.args.files.now c.args.after.now c.args.name.now _ _ _ _ c.last_of.ensures c.is_some.ensures c.if-is_some.false c.last_of-else-is_some.ensures c.is_some-else-is_some.ensures
