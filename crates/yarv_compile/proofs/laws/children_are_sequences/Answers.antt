use Rattle.yarv_compile.proofs.DirectChildren.{children_are_sequences, child_is_under}
use Rattle.yarv_compile.proofs.laws.children_are_sequences.Goals as goal

pub returns : goal.returns
returns c = record { sequences = children_are_sequences; child = child_is_under }
