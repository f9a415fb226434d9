use Rattle.cache_meaning.proofs.Moments.{each_moment}
use Rattle.cache_meaning.proofs.laws.moments_fit.Goals as goal

pub returns : goal.returns
returns c = each_moment
