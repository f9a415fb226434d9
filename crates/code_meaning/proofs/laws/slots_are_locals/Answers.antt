use Rattle.code_meaning.proofs.Slots as slots
use Rattle.code_meaning.proofs.laws.slots_are_locals.Goals as goal

pub returns : goal.returns
returns c = record { read = slots.slot_read; set = slots.slot_set }
