use Rattle.std.proofs.Common.{◌∙◌}
use Rattle.ruby_meaning.specs.Search.{provided, found_at, missing}
use Rattle.compile_laws.specs.Calling.{searched}
use Rattle.compile_laws.proofs.CallsCome as come
use Rattle.compile_laws.proofs.calls.requires_call_files.Goals as goal

pub returns : goal.returns
returns c = record {
  enters = λ files frame line ask path t turns w e is may. come.ask_enters files frame line ask path t turns w e is may;
  loads = λ files b frame line ask path w e. come.ask_searched files frame line b ask (found_at path) w e ∙ come.after_loaded files frame line b ask path (searched ask w);
  is_provided = λ files frame line ask w e b. come.ask_searched files frame line b ask provided w e;
  is_missing = λ files frame line ask w e b. come.ask_searched files frame line b ask missing w e;
}
