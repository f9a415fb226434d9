use Rattle.std.proofs.Common.{◌∙◌, ap}
use Rattle.ruby_meaning.specs.Invoke.{run_found, run_if_found, run_answer}
use Rattle.compile_laws.proofs.CallsCome as come
use Rattle.compile_laws.proofs.calls.calls_run_what_is_found.Goals as goal

pub returns : goal.returns
returns c = record {
  found = λ files frame line self x vs given bare f w o e comes b. ap (λ y. run_if_found files b frame line self x vs given bare y w) e ∙ comes b;
  nowhere = λ files frame line self x vs given bare w e b. ap (λ y. run_if_found files b frame line self x vs given bare y w) e;
  found_above = λ files frame line self x vs given bare above f w o e comes b. ap (λ y. run_if_found files b frame line self x vs given bare y w) e ∙ comes b;
  nowhere_above = λ files frame line self x vs given bare above w e b. ap (λ y. run_if_found files b frame line self x vs given bare y w) e;
  is_written = λ files frame line self x vs given place m code w o e comes b. ap (λ y. run_found files b frame line self x vs given place y w) e ∙ comes b;
  is_call = λ files frame line self x vs given place k w o e comes b. come.proc_called files frame line k b self x vs given place w e ∙ comes b;
  is_call_of_none = λ files frame line self x vs given place w e b. come.no_proc_called files frame line b self x vs given place w e;
  asks = λ files frame line self x vs given place n ask text w o is e f comes b. come.native_asks files frame line n ask text b self x vs given place w is e f ∙ comes b;
  asks_without_text = λ files frame line self x vs given place n ask w is e f b. come.native_without_text files frame line n ask b self x vs given place w is e f;
  answers = λ files frame line self x vs given place m n a w e is b. ap (λ y. run_found files b frame line self x vs given place y w) e ∙ ap (λ y. run_answer files b frame line self vs y w) is;
  reads = λ files frame line self x vs given place m variable w e b. ap (λ y. run_found files b frame line self x vs given place y w) e;
  writes = λ files frame line self x vs given place m variable w e b. ap (λ y. run_found files b frame line self x vs given place y w) e;
  is_miscounted = λ files frame line self x vs given place n w e b. come.native_miscounted files frame line n b self x vs given place w e;
}
