use Rattle.parse_parts.proofs.Turning.{bumped, turn_no, turn_yes}
use Rattle.parse_parts.specs.Turns.{ends, goes_on}
use Rattle.parse_state.proofs.Steps.{later_same}
use Rattle.tree_builder.proofs.GoesOn.{params_later}
use Rattle.std.proofs.Common.{refl, sym, ◌∙◌}
use Rattle.parse_parts.proofs.params.goes_on.Goals as goal

pub returns-then-is_mark : goal.returns-then-is_mark
returns-then-is_mark c = record { turns = λ w s t k a h. turn_yes _ (sym (c.is_mark.ensures w s a) ∙ c.if-is_mark.true) (goes_on (c.bump.ensures.at w s a) c.bump.ensures.later (bumped c.args.context.source.now a (sym (c.is_mark.ensures w s a) ∙ c.if-is_mark.true) c.bump.ensures.rest) (record { params = params_later _ _ c.bump.ensures.later.names _ _ h; least = refl })) }

pub returns : goal.returns
returns c = record { turns = λ w s t k a h. turn_no _ (sym (c.is_mark.ensures w s a) ∙ c.if-is_mark.false) (ends a (later_same _) (record { params = h; least = refl })) }
