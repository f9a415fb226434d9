use Rattle.load_path_cache.proofs.Stores.{holds_less, remove_is_remove}
use Rattle.load_path_cache.proofs.path_store.PathStore.remove.Goals as goal

pub invariant_of-self : goal.invariant_of-self
invariant_of-self c = holds_less c.self.inside.items.entries c.remove.new.self.entries _ c.remove.result c.self.invariant c.remove.ensures.ordered c.remove.ensures.entries c.remove.ensures.len

pub returns : goal.returns
returns c = rw (← c.self.view_is) (remove_is_remove c.self.inside.items.entries c.remove.new.self.entries c.args.root.now c.self.invariant.sorted c.remove.ensures.ordered c.remove.ensures.updates.0)
