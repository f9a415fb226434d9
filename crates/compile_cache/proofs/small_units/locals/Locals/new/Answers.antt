use Rattle.std.proofs.Common.{subst, sym, List, ℕ}
use Rattle.compile_cache.specs.SmallSlots.{AreSlots}
use Rattle.compile_cache.proofs.SmallLocals.{no_slots}
use Rattle.compile_cache.proofs.small_units.locals.Locals.new.Goals as goal

pub invariant_of-result : goal.invariant_of-result
invariant_of-result c = subst (λ (names : List (List ℕ)). AreSlots names c.new-2.result) (sym c.new.ensures) (no_slots c.new-2.result c.new-2.ensures)
