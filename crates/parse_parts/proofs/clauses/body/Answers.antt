use Rattle.reference_parser.specs.ReadBodies.{read_body}
use Rattle.parse_state.proofs.Steps.{and_then, failed, handed, later_same, no, yes}
use Rattle.parse_state.specs.Gives.{gave}
use Rattle.std.proofs.Common.{sym, ◌∙◌}
use Rattle.parse_parts.proofs.clauses.body.Goals as goal

pub returns-in_err-tried : goal.returns-in_err-tried
unfolding read_body
returns-in_err-tried g c = record { reads = λ w s a. handed _ _ c.from_residual.ensures.1 (failed _ (c.in_err-tried.ensures.reads w s a)) }

pub returns-then-is_word : goal.returns-then-is_word
unfolding read_body
returns-then-is_word g c = record { reads = λ w s a. and_then (c.in_ok-tried.ensures.reads w s a) (λ t q y b h. yes _ (sym (c.is_word.ensures q y b) ∙ c.if-is_word.true) (c.ensured.ensures.reads t h q y b)) }

pub returns : goal.returns
unfolding read_body
returns g c = record { reads = λ w s a. and_then (c.in_ok-tried.ensures.reads w s a) (λ t q y b h. no _ (sym (c.is_word.ensures q y b) ∙ c.if-is_word.false) (gave b (later_same _) h)) }
