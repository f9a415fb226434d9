use Rattle.compile_laws.proofs.CallsCome as come
use Rattle.compile_laws.proofs.StepsCome as steps
use Rattle.compile_laws.proofs.calls.steps_are_alike_or_call.Goals as goal

pub returns : goal.returns
returns c = record {
  steps = λ files unit seq frame p st w. steps.step_comes files unit.seqs unit.bodies seq frame p st w;
  methods = λ files frame line self x vs given bare w. come.call_comes files frame line self x vs given bare w;
  blocks = λ frame line given vs w. come.given_comes frame line given vs w;
  files = λ files frame line ask w. come.ask_comes files frame line ask w;
  classes = λ frame line t k w. come.class_comes frame line t k w;
}
