use Rattle.emit_sequence.proofs.Entries.{starts_are_entries, body_entries}
use Rattle.yarv_compile.proofs.same_code.entries_are_told_from_the_end.Goals as goal

pub returns : goal.returns
returns c = record { entries = starts_are_entries; whole = body_entries }
