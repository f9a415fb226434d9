use Rattle.std.proofs.Common.{refl}
use Rattle.compile_laws.proofs.calls.tests_can_pass.Goals as goal

pub returns : goal.returns
returns c = record {
  method = λ p. record { counted = refl; turn = refl; deep = refl; room = record { rest = refl; environment = refl; proc = refl } };
  block = λ p. record { turn = refl; deep = refl; room = record { rest = refl; environment = refl; proc = refl } };
  class = λ p. record { deep = refl; room = refl };
  file = λ path p. record { turn = refl; deep = refl; room = refl };
}
