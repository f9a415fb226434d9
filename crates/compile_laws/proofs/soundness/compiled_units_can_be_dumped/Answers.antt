use Rattle.compile_laws.proofs.SoundPrograms.{text_bodies, text_dumped}
use Rattle.compile_laws.proofs.soundness.compiled_units_can_be_dumped.Goals as goal

pub returns : goal.returns
returns c = record { sound = text_bodies; dumped = text_dumped }
