use Rattle.std.proofs.Common.{Some}
use Rattle.ruby_meaning.specs.Store.{environment_cells}
use Rattle.ruby_meaning.specs.Steps.{stand}
use Rattle.ruby_meaning.specs.Loads.{next_load}
use Rattle.ruby_meaning.specs.Locals.{locals_of}
use Rattle.std.proofs.Common.{length, []}
use Rattle.compile_laws.specs.Calling.{with_cells, at_file}
use Rattle.compile_laws.proofs.FramesBegin as begin
use Rattle.compile_laws.proofs.frames.made_frames_begin.Goals as goal

pub returns : goal.returns
returns c = record {
  method = λ unit l frame line code self x place vs given turns w is. begin.method_begins unit l frame line code self x place vs given turns w is;
  block = λ unit l scopes frame line k vs d turns w is h. begin.block_begins unit l scopes frame line k vs d turns w is h;
  class = λ unit l frame line t k w sd fs. begin.class_begins unit l frame line t k w sd fs;
  file = λ unit path load t outside running calling w fs. begin.file_begins unit path load t outside running calling w fs;
  loaded = λ unit frame line path t turns w fs. begin.file_begins unit path (Some (next_load w)) t (stand frame line) frame.running frame.calling (with_cells (environment_cells (length (locals_of [] t))) (at_file path turns w)) fs;
}
