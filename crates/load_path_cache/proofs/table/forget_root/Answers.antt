use Rattle.std.proofs.Common.{rules}
use Rattle.load_path_cache.specs.Index.{moved_place}
use Rattle.load_path_cache.proofs.Tables.{kept_at}
use Rattle.load_path_cache.proofs.table.forget_root.Goals as goal

pub returns : goal.returns
returns c = kept_at _ (λ k v. moved_place c.args.roots.now c.args.gone k v) _ (λ k v b w g call. search rules) _ _ c.retain.ensures.filtered c.len-count.ensures.unique
