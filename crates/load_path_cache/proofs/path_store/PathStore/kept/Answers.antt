use Rattle.std.proofs.Common.{◌∙◌, sym}
use Rattle.bs_outside.proofs.TextMaps.{get_is_lookup}
use Rattle.load_path_cache.proofs.path_store.PathStore.kept.Goals as goal

pub returns : goal.returns
returns c = rw (← c.self.view_is) (c.get.ensures.value ∙ sym (get_is_lookup c.self.inside.items.entries c.args.root.now c.self.invariant.sorted))
