use Rattle.cache_key.proofs.KeyLemmas.{put_at}
use Rattle.cache_key.proofs.keys.put_number.Goals as goal

pub returns : goal.returns
returns c = put_at c.args.place c.args.number c.args.key.now _ c.told-key c.write_u64.ensures
