use Rattle.std.proofs.Common.{sym, ap, ◌∙◌}
use Rattle.ruby_lexer.specs.Bytes.{Bytes}
use Rattle.ruby_tree.specs.Rules.{word, but_last}
use Rattle.reference_parser.specs.Answers.{taken}
use Rattle.parse_state.proofs.Steps.{named}
use Rattle.parse_state.proofs.Seen.{seen_as}
use Rattle.parse_statements.proofs.values.operator_name.Goals as goal

pub returns : goal.returns
returns c = record { gives = λ q from sees w s a. named (ap (λ (f : Bytes). taken f w s) (sym (c.without_last.ensures ∙ ap (λ (f : Bytes). but_last f) (seen_as (λ x t. word x t) c.word.ensures from sees)))) (c.intern.ensures.gives w s a) }
