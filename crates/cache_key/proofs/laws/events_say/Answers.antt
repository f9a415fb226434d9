use Rattle.cache_key.proofs.EventLemmas.{hit_says, is_hit, revalidated_says}
use Rattle.cache_key.proofs.laws.events_say.Goals as goal

pub returns : goal.returns
returns c = record { hit = hit_says; is_hit = is_hit; revalidated = revalidated_says }
