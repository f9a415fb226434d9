use Rattle.std.proofs.Common.{◌&&◌, codes}
use Rattle.ruby_tree.specs.Rules.{next, is_mark}
use Rattle.reference_parser.specs.Fronts.{is_name}
use Rattle.parse_state.proofs.Seen.{sees, seen, seen_in}
use Rattle.parse_parts.specs.Turns.{no_syntax}
use Rattle.parse_parts.specs.OneTurn.{param_turn}
use Rattle.parse_parts.proofs.Turning.{turn_yes, turn_no}
use Rattle.parse_parts.proofs.variables.param_turn.Goals as goal

pub returns-then-is_name : goal.returns-then-is_name
unfolding param_turn
returns-then-is_name c = record { turns = λ w s ps k a h. turn_yes _ (seen (λ t. is_name t) c.is_name.ensures (sees c.lookahead-lookahead.ensures.rest a) c.if-is_name.true) (c.named_param_turn.ensures.turns w s ps k a h) }

pub returns-then-is_rest : goal.returns-then-is_rest
unfolding param_turn
returns-then-is_rest c = record { turns = λ w s ps k a h. turn_no _ (seen (λ t. is_name t) c.is_name.ensures (sees c.lookahead-lookahead.ensures.rest a) c.if-is_name.false) (turn_yes _ (seen_in (λ x t. is_mark x (codes "*") t && is_name (next t)) c.is_rest.ensures c.lookahead-lookahead.ensures.source (sees c.lookahead-lookahead.ensures.rest a) c.if-is_rest.true) (c.rest_param.ensures.turns w s ps k a h)) }

pub returns : goal.returns
unfolding param_turn
returns c = record { turns = λ w s ps k a h. turn_no _ (seen (λ t. is_name t) c.is_name.ensures (sees c.lookahead-lookahead.ensures.rest a) c.if-is_name.false) (turn_no _ (seen_in (λ x t. is_mark x (codes "*") t && is_name (next t)) c.is_rest.ensures c.lookahead-lookahead.ensures.source (sees c.lookahead-lookahead.ensures.rest a) c.if-is_rest.false) no_syntax) }
