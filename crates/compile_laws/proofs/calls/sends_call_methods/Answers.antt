use Rattle.compile_laws.proofs.StepsCome as steps
use Rattle.compile_laws.proofs.calls.sends_call_methods.Goals as goal

pub returns : goal.returns
returns c = record {
  sends = λ files unit seq frame p l w o x n ks flags q v given vs self rest e f g is comes. steps.send_calls files unit seq frame p l w o x n ks flags q v given vs self rest e f g is comes;
  send_refused = λ files unit seq frame p l w x n ks flags q v vs self rest e f g wrong. steps.send_refused files unit seq frame p l w x n ks flags q v vs self rest e f g wrong;
  supers = λ files unit seq frame p l w o n ks flags q v given r vs self rest e f g is of comes. steps.super_calls files unit seq frame p l w o n ks flags q v given r vs self rest e f g is of comes;
  super_refused = λ files unit seq frame p l w n ks flags q v vs self rest e f g wrong. steps.super_value_refused files unit seq frame p l w n ks flags q v vs self rest e f g wrong;
  super_nowhere = λ files unit seq frame p l w n ks flags q v given vs self rest e f g is none. steps.super_without_method files unit seq frame p l w n ks flags q v given vs self rest e f g is none;
  texts = λ files unit seq frame p l w o v rest e comes. steps.text_calls files unit seq frame p l w o v rest e comes;
}
