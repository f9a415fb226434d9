use Rattle.std.proofs.Common.{refl}
use Rattle.cache_key.specs.Key.{key_bytes}
use Rattle.cache_key.proofs.keys.key_of.Goals as goal

pub returns : goal.returns
unfolding key_bytes
returns c = rw (c.copy_from_slice-2.ensures.after, c.put_number-4.ensures, c.put_number-3.ensures, c.put_number-2.ensures, c.put_number.ensures, c.copy_from_slice.ensures.after) refl
