use Rattle.std.proofs.Common.{◌≡◌, ◌-◌, map, take}
use Rattle.emit_sequence.proofs.sequences.places.Given as goal

abbrev pub invariant-loop-behind : goal.invariant-loop-behind
invariant-loop-behind l = l.places ≡ map (λ behind. l.total - behind) (take l.behind-index l.starts)
