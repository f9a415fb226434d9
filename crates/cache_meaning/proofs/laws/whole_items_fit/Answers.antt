use Rattle.cache_meaning.proofs.Prefixes.{whole_fits}
use Rattle.cache_meaning.proofs.laws.whole_items_fit.Goals as goal

pub returns : goal.returns
returns c = whole_fits
