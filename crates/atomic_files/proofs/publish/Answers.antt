use Rattle.atomic_files.proofs.EachMomentOf.{published}
use Rattle.atomic_files.proofs.publish.Goals as goal

pub returns-clause-moments : goal.returns-clause-moments
returns-clause-moments g c told = published _ _ _ _ c.put_whole.result (c.put_whole.ensures.ok told) (c.put_whole.ensures.err told)
