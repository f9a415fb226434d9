use Rattle.std.proofs.Common.{rules}
use Rattle.load_path_cache.specs.Index.{raised}
use Rattle.load_path_cache.proofs.Tables.{kept_at}
use Rattle.load_path_cache.proofs.table.shift_places.Goals as goal

pub returns-clause-shifted : goal.returns-clause-shifted
returns-clause-shifted c = kept_at _ (λ k v. raised v) _ (λ k v b w g call. search rules) _ _ c.retain.ensures.filtered c.len-count.ensures.unique
