use Rattle.std.proofs.Common.{◌≡◌, vec_len}
use Rattle.bootsnap_ruby.proofs.desks.Given as goal

-- a desk for each turn
abbrev pub invariant-loop : goal.invariant-loop
invariant-loop g l = vec_len l.desks ≡ l.counter
