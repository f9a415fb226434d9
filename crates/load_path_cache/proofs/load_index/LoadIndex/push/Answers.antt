use Rattle.std.proofs.Common.{arith}
use Rattle.load_path_cache.proofs.Places.{pushed_all}
use Rattle.load_path_cache.proofs.load_index.LoadIndex.push.Goals as goal

pub invariant_of-self-2 : goal.invariant_of-self-2
invariant_of-self-2 c =
    pushed_all c.self.inside.roots.items c.push.new.self.items c.args.root.now c.as_slice-files.result.now c.in_ok-unknown.unknown.items c.in_ok-added.added c.self.inside.table.entries c.reserve.new.self.entries
    c.add_features.new.table.entries (record { root = c.len.result }) (omega (arith, c.len.ensures, c.self.inside.roots.ok)) c.self.invariant c.in_ok-added.ensures c.in_ok-push.ensures.items c.in_ok-unknown.ensures c.in_ok-reserve.ensures.entries c.add_features.ensures
