use Rattle.compile_laws.proofs.StepsCome as steps
use Rattle.compile_laws.proofs.calls.yields_call_blocks.Goals as goal

pub returns : goal.returns
returns c = λ files unit seq frame p l w o n ks vs rest e f comes. steps.yield_calls files unit seq frame p l w o n ks vs rest e f comes
