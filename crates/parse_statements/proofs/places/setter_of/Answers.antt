use Rattle.std.proofs.Common.{sym, ap, ◌∙◌, ◌++◌, codes}
use Rattle.ruby_lexer.specs.Bytes.{Bytes}
use Rattle.tree_builder.proofs.GoesOn.{extends_same}
use Rattle.reference_parser.specs.Answers.{taken}
use Rattle.parse_state.proofs.Steps.{named, wanting}
use Rattle.parse_statements.proofs.places.setter_of.Goals as goal

pub returns-in_err-text : goal.returns-in_err-text
returns-in_err-text c = record { gives = λ m n w s a. wanting _ c.from_residual.ensures.1 }

pub returns : goal.returns
returns c = record { gives = λ m n w s a. named (ap (λ (f : Bytes). taken (f ++ codes "=") w s) (sym (c.deref.ensures.value ∙ c.in_ok-text.ensures.items ∙ c.text.ensures ∙ n.text _ (extends_same _)))) (c.setter.ensures.gives w s a) }
