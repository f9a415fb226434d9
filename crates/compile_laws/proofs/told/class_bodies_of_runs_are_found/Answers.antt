use Rattle.compile_laws.proofs.FramesBegin as begin
use Rattle.compile_laws.proofs.ToldRuns.{class_of_file, module_of_file}
use Rattle.compile_laws.proofs.told.class_bodies_of_runs_are_found.Goals as goal

pub returns : goal.returns
returns c = record {
  opened_class = class_of_file;
  opened_module = module_of_file;
  begins = λ unit l frame line t k w is. begin.opened_begins unit l frame line t k w is;
}
