use Rattle.std.proofs.Common.{None}
use Rattle.compile_laws.specs.Calling.{at_method}
use Rattle.compile_laws.proofs.CallsCome.{full_locals}
use Rattle.compile_laws.proofs.Enters as enter
use Rattle.compile_laws.proofs.calls.methods_are_entered.Goals as goal

pub returns : goal.returns
returns c = record {
  enters = λ frame line code self x place vs given turns w may. enter.method_enters frame line code self x place vs given w turns may;
  miscounted = λ frame line code self x place vs given w e. enter.method_miscounted frame line code self x place vs given w e;
  spent = λ frame line code self x place vs given w e t. enter.method_spent frame line code self x place vs given w e t;
  too_deep = λ frame line code self x place vs given turns w e t d. enter.method_too_deep frame line code self x place vs given w turns e t d;
  full = λ frame line code self x place vs given turns w z e t d f. enter.method_full frame line code self x place vs given w turns z e t d (λ go. full_locals None code vs given go (at_method code turns w) z f);
}
