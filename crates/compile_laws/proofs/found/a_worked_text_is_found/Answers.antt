use Rattle.compile_laws.proofs.ReadText.{worked_reads, worked_sequences-holds, worked_finds-holds}
use Rattle.compile_laws.proofs.found.a_worked_text_is_found.Goals as goal

pub returns : goal.returns
returns c = record { read = worked_reads; sequences = worked_sequences-holds; finds = worked_finds-holds }
