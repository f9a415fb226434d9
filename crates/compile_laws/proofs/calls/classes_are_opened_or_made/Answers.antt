use Rattle.compile_laws.proofs.ClassesCome as class
use Rattle.compile_laws.proofs.calls.classes_are_opened_or_made.Goals as goal

pub returns : goal.returns
returns c = record {
  named_found = λ frame line x w go v k e f. class.named_found frame line x w go v k e f;
  named_refused = λ frame line x w go v e f. class.named_refused frame line x w go v e f;
  named_made = λ frame line x w go e f. class.named_new frame line x w go e f;
  named_full = λ frame line x w go e f. class.named_full frame line x w go e f;
  module_found = λ frame line x w go v k e f. class.module_found frame line x w go v k e f;
  module_refused = λ frame line x w go v e f. class.module_refused frame line x w go v e f;
  module_made = λ frame line x w go e f. class.module_new frame line x w go e f;
  module_full = λ frame line x w go e f. class.module_full frame line x w go e f;
  below_none = λ frame line x w go u e. class.no_base frame line x w go u e;
  below_made = λ frame line x w go u base is e f g. class.below_new frame line x w go u base is e f g;
  below_full = λ frame line x w go u base is e f g. class.below_full frame line x w go u base is e f g;
  below_closed = λ frame line x w go u base is e f. class.below_closed frame line x w go u base is e f;
  below_found = λ frame line x w go u base v k is e f g. class.below_found frame line x w go u base is v e k f g;
  below_mismatch = λ frame line x w go u base v k is e f g. class.below_mismatch frame line x w go u base is v e k f g;
  below_refused = λ frame line x w go u base v is e f. class.below_refused frame line x w go u base is v e f;
}
