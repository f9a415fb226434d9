use Rattle.compile_laws.proofs.SoundPrograms.{text_rows, text_sound}
use Rattle.compile_laws.proofs.soundness.compiled_bodies_are_sound.Goals as goal

pub returns : goal.returns
returns c = record { rows = text_rows; sound = λ path source t n d R e. text_sound path source t R n d e }
