use Rattle.compile_laws.proofs.StepsCome as steps
use Rattle.compile_laws.proofs.calls.class_bodies_are_called.Goals as goal

pub returns : goal.returns
returns c = record {
  classes = λ files unit seq frame p l w o x q v rest e comes. steps.class_calls files unit seq frame p l w o x q v rest e comes;
  below = λ files unit seq frame p l w o x q v rest e comes. steps.class_below_calls files unit seq frame p l w o x q v rest e comes;
  modules = λ files unit seq frame p l w o x q v rest e comes. steps.module_calls files unit seq frame p l w o x q v rest e comes;
}
