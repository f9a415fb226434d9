use Rattle.cache_key.proofs.KeyRead.{key_reads_back}
use Rattle.cache_key.proofs.laws.key_reads_back.Goals as goal

pub returns : goal.returns
returns c = key_reads_back
