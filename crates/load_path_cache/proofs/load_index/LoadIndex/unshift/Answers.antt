use Rattle.std.proofs.Common.{refl, arith}
use Rattle.load_path_cache.proofs.Places.{unshifted_all}
use Rattle.load_path_cache.proofs.load_index.LoadIndex.unshift.Goals as goal

pub invariant_of-self-2 : goal.invariant_of-self-2
invariant_of-self-2 c =
    unshifted_all c.self.inside.roots.items c.insert.new.self.items c.args.root.now c.as_slice-files.result.now c.in_ok-unknown.unknown.items c.in_ok-added.added c.self.inside.table.entries c.reserve.new.self.entries
    c.shift_places.new.table.entries c.set_places.new.table.entries c.add_features.new.table.entries (record { root = 0 }) refl (omega (arith, c.self.inside.roots.small)) c.self.invariant c.in_ok-added.ensures
    c.in_ok-insert.ensures.items c.in_ok-unknown.ensures c.in_ok-reserve.ensures.entries c.shift_places.ensures.shifted c.set_places.ensures.set c.add_features.ensures
