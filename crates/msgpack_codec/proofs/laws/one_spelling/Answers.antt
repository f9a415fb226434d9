use Rattle.std.proofs.Common.{◌∙◌, sym, refl, []}
use Rattle.msgpack_codec.proofs.Messages.{one_value, no_more}
use Rattle.msgpack_codec.proofs.laws.one_spelling.Goals as goal

pub returns-clause-one_spelling : goal.returns-clause-one_spelling
returns-clause-one_spelling c v s t h k = h.bytes_are ∙ sym k.bytes_are

pub returns-clause-one_value : goal.returns-clause-one_value
returns-clause-one_value c v w s h k = (one_value v w s s [] [] h k refl).0

pub returns-clause-no_prefix : goal.returns-clause-no_prefix
returns-clause-no_prefix c v w s more h k = no_more v w s more h k
