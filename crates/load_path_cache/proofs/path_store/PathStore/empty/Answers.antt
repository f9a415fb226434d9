use Rattle.bs_outside.proofs.TextMaps.{none_is_empty}
use Rattle.load_path_cache.proofs.path_store.PathStore.empty.Goals as goal

pub returns : goal.returns
returns c = none_is_empty _ c.new.ensures.empty
