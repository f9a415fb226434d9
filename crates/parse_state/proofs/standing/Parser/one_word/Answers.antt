use Rattle.tree_builder.proofs.GoesOn.{named_later}
use Rattle.parse_state.specs.Gives.{finds}
use Rattle.parse_state.proofs.Steps.{finds_handed, finds_step, finds_cut}
use Rattle.parse_state.proofs.standing.Parser.one_word.Goals as goal

pub returns-in_err-name : goal.returns-in_err-name
returns-in_err-name c = record { finds = λ w s a. finds_handed _ _ c.from_residual.ensures.1 (finds_cut (c.in_err-name.ensures.gives w s a)) }

pub returns : goal.returns
returns c = record { finds = λ w s a. finds_step (c.in_ok-name.ensures.gives w s a) (λ b h. finds (c.bump.ensures.at w s b) c.bump.ensures.later (named_later _ _ c.bump.ensures.later.names _ _ h)) }
