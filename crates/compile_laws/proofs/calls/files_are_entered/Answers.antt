use Rattle.compile_laws.proofs.Enters as enter
use Rattle.compile_laws.proofs.calls.files_are_entered.Goals as goal

pub returns : goal.returns
returns c = record {
  enters = λ files frame line path t turns w is may. enter.file_enters files frame line path w turns t is may;
  spent = λ files frame line path w t. enter.file_spent files frame line path w t;
  too_deep = λ files frame line path turns w t e. enter.file_too_deep files frame line path w turns t e;
  lost = λ files frame line path turns w t e is. enter.file_lost files frame line path w turns t e is;
  at_fault = λ files frame line path n turns w t e is. enter.file_at_fault files frame line path w turns t n e is;
  full = λ files frame line path t turns w turn e is f. enter.file_full files frame line path w turns turn t is e f;
}
