use Rattle.compile_laws.proofs.FramesBegin as begin
use Rattle.compile_laws.proofs.frames.made_codes_stand.Goals as goal

pub returns : goal.returns
returns c = record {
  method = λ unit l frame t sd fs. begin.method_code_stands unit l frame t sd fs;
  block = λ unit l frame t sd seen fs. begin.block_code_stands unit l frame t sd seen fs;
}
