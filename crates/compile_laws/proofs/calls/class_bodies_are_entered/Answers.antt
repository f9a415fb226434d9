use Rattle.compile_laws.proofs.Enters as enter
use Rattle.compile_laws.proofs.calls.class_bodies_are_entered.Goals as goal

pub returns : goal.returns
returns c = record {
  enters = λ frame line t k w may. enter.class_enters frame line t k w may;
  too_deep = λ frame line t k w e b. enter.class_too_deep frame line t k w e (b t);
  full = λ frame line t k w e f b. enter.class_full frame line t k w e f (b t);
}
