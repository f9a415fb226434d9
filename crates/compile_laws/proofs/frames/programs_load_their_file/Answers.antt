use Rattle.compile_laws.proofs.FrameTurns as of_frames
use Rattle.compile_laws.proofs.frames.programs_load_their_file.Goals as goal

pub returns : goal.returns
returns c = record {
  begins = λ files prelude p w none room more. of_frames.program_begins files prelude p w none room more;
  full = λ files prelude p w none. of_frames.program_full files prelude p w none;
  prelude_full = λ files prelude p w room none. of_frames.prelude_full files prelude p w room none;
  file = λ files n path t turns w is le may. of_frames.program_file files n path t turns w is le may;
}
