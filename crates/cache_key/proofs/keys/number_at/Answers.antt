use Rattle.std.proofs.Common.{◌-◌, ◌∙◌, drop, arith}
use Rattle.byteorder.specs.Numbers.{little_from-take}
use Rattle.cache_key.specs.Key.{number_at}
use Rattle.cache_key.proofs.keys.number_at.Goals as goal

pub returns : goal.returns
unfolding number_at
returns c = c.read_u64.ensures ∙ little_from-take 0 8 (64 - c.args.place) (drop c.args.place c.args.key.now) (omega arith)
