use Rattle.bs_outside.proofs.Owing.{none_came}
use Rattle.load_path_cache.proofs.path_store.PathStore.valid.Goals as goal

pub returns-then-stable-clause-looked : goal.returns-then-stable-clause-looked
returns-then-stable-clause-looked g c = none_came _ _
