use Rattle.cache_key.proofs.KeyRead.{is_entry-whole, is_entry-prefix}
use Rattle.cache_key.proofs.laws.entry_is_whole.Goals as goal

pub returns : goal.returns
returns c = record { whole = is_entry-whole; cut = is_entry-prefix }
