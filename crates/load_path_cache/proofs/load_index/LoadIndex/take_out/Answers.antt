use Rattle.std.proofs.Common.{◌<◌, length, subst, sym}
use Rattle.load_path_cache.proofs.Places.{taken_out_all}
use Rattle.load_path_cache.proofs.load_index.LoadIndex.take_out.Goals as goal

pub invariant_of-self : goal.invariant_of-self
invariant_of-self c =
    taken_out_all c.self.inside.roots.items c.remove.new.self.items c.deref.result.now c.args.gone c.self.inside.table.entries c.forget_root.new.table.entries
    (subst (λ s. c.args.gone < length s) (sym c.self.view_is) c.requires) c.self.invariant c.remove.ensures.items c.deref.ensures.value c.forget_root.ensures
