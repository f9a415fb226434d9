use Rattle.parse_parts.proofs.PassingSteps.{least_no, least_yes, none_no, none_yes, turn_fault}
use Rattle.parse_parts.proofs.Turning.{turn_no, turn_yes}
use Rattle.parse_state.proofs.Seen.{seen_in, sees}
use Rattle.ruby_tree.specs.Rules.{is_mark, next}
use Rattle.std.proofs.Common.{ap, codes, ◌∙◌}
use Rattle.parse_parts.proofs.params.named_param.Goals as goal

pub returns-then-row-le1 : goal.returns-then-row-le1
returns-then-row-le1 g c = record { turns = λ w s t k a h. turn_yes _ (seen_in (λ v u. is_mark v (codes "=") u) c.is_mark.ensures (c.next.ensures.source ∙ c.lookahead.ensures.source) (c.next.ensures.seen ∙ ap (λ u. next u) (sees c.lookahead.ensures.rest a)) c.if-is_mark.true) (turn_yes _ (least_yes 1 h.least c.if-row-le1.true) (c.default_param.ensures.turns w s t k a h)) }

pub returns-then-is_mark : goal.returns-then-is_mark
returns-then-is_mark g c = record { turns = λ w s t k a h. turn_yes _ (seen_in (λ v u. is_mark v (codes "=") u) c.is_mark.ensures (c.next.ensures.source ∙ c.lookahead.ensures.source) (c.next.ensures.seen ∙ ap (λ u. next u) (sees c.lookahead.ensures.rest a)) c.if-is_mark.true) (turn_no _ (least_no 1 h.least c.if-row-le1.false) turn_fault) }

pub returns-then-row-eq0 : goal.returns-then-row-eq0
returns-then-row-eq0 g c = record { turns = λ w s t k a h. turn_no _ (seen_in (λ v u. is_mark v (codes "=") u) c.is_mark.ensures (c.next.ensures.source ∙ c.lookahead.ensures.source) (c.next.ensures.seen ∙ ap (λ u. next u) (sees c.lookahead.ensures.rest a)) c.if-is_mark.false) (turn_yes _ (none_yes h.least c.if-row-eq0.true) (c.required_param.ensures.turns w s t k a h)) }

pub returns : goal.returns
returns g c = record { turns = λ w s t k a h. turn_no _ (seen_in (λ v u. is_mark v (codes "=") u) c.is_mark.ensures (c.next.ensures.source ∙ c.lookahead.ensures.source) (c.next.ensures.seen ∙ ap (λ u. next u) (sees c.lookahead.ensures.rest a)) c.if-is_mark.false) (turn_no _ (none_no h.least c.if-row-eq0.false) turn_fault) }
