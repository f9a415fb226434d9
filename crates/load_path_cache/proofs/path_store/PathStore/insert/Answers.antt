use Rattle.std.proofs.Common.{◌<◌, subst, sym}
use Rattle.std.specs.FinMap as finite
use Rattle.bs_outside.proofs.TextMaps.{insert_is_insert}
use Rattle.load_path_cache.proofs.Stores.{holds_more}
use Rattle.load_path_cache.proofs.path_store.PathStore.insert.Goals as goal

pub invariant_of-self-2 : goal.invariant_of-self-2
invariant_of-self-2 c =
    holds_more c.self.inside.items.entries c.insert.new.self.entries c.args.root c.args.item c.in_ok-insert.field-0 c.self.invariant c.requires.entry c.requires.short
    (subst (λ s. finite.len (finite.remove s c.args.root) < 16777216) (sym c.self.view_is) c.requires.few) c.in_ok-insert.ensures.ordered c.in_ok-insert.ensures.entries c.in_ok-insert.ensures.len

pub returns-clause-ok : goal.returns-clause-ok
returns-clause-ok c =
    rw (← c.self.view_is) (insert_is_insert c.self.inside.items.entries c.insert.new.self.entries c.args.root c.args.item c.self.invariant.sorted c.in_ok-insert.ensures.ordered c.in_ok-insert.ensures.updates.0)
