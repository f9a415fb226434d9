use Rattle.reference_parser.specs.Fronts.{is_name}
use Rattle.parse_parts.proofs.PassingSteps.{turn_fault}
use Rattle.parse_parts.proofs.Turning.{turn_no, turn_yes}
use Rattle.parse_state.proofs.Seen.{seen, seen_in, sees}
use Rattle.ruby_tree.specs.Rules.{is_mark, next}
use Rattle.std.proofs.Common.{ap, codes, sym, ◌&&◌, ◌∙◌}
use Rattle.std.specs.Prelude.{nat_le}
use Rattle.parse_parts.proofs.params.one_param.Goals as goal

pub returns-then-is_name : goal.returns-then-is_name
returns-then-is_name g c = record { turns = λ w s t k a h. turn_yes _ (seen (λ u. is_name u) c.is_name.ensures (sees c.lookahead-lookahead.ensures.rest a) c.if-is_name.true) (c.named_param.ensures.turns w s t k a h) }

pub returns-then-is_left : goal.returns-then-is_left
returns-then-is_left g c = record { turns = λ w s t k a h. turn_no _ (seen (λ u. is_name u) c.is_name.ensures (sees c.lookahead-lookahead.ensures.rest a) c.if-is_name.false) (turn_yes _ (sym (ap (λ l. is_mark c.args.context.source.now (codes "*") w && (is_name (next w) && nat_le l 2)) h.least) ∙ seen_in (λ v u. is_mark v (codes "*") u && (is_name (next u) && nat_le c.args.row.now.least 2)) c.is_left.ensures c.lookahead-lookahead.ensures.source (sees c.lookahead-lookahead.ensures.rest a) c.if-is_left.true) (c.left_param.ensures.turns w s t k a h)) }

pub returns-then-is_block : goal.returns-then-is_block
returns-then-is_block g c = record { turns = λ w s t k a h. turn_no _ (seen (λ u. is_name u) c.is_name.ensures (sees c.lookahead-lookahead.ensures.rest a) c.if-is_name.false) (turn_no _ (sym (ap (λ l. is_mark c.args.context.source.now (codes "*") w && (is_name (next w) && nat_le l 2)) h.least) ∙ seen_in (λ v u. is_mark v (codes "*") u && (is_name (next u) && nat_le c.args.row.now.least 2)) c.is_left.ensures c.lookahead-lookahead.ensures.source (sees c.lookahead-lookahead.ensures.rest a) c.if-is_left.false) (turn_yes _ (seen_in (λ v u. is_mark v (codes "&") u && is_name (next u)) c.is_block.ensures c.lookahead-lookahead.ensures.source (sees c.lookahead-lookahead.ensures.rest a) c.if-is_block.true) (c.block_param.ensures.turns w s t k a h))) }

pub returns : goal.returns
returns g c = record { turns = λ w s t k a h. turn_no _ (seen (λ u. is_name u) c.is_name.ensures (sees c.lookahead-lookahead.ensures.rest a) c.if-is_name.false) (turn_no _ (sym (ap (λ l. is_mark c.args.context.source.now (codes "*") w && (is_name (next w) && nat_le l 2)) h.least) ∙ seen_in (λ v u. is_mark v (codes "*") u && (is_name (next u) && nat_le c.args.row.now.least 2)) c.is_left.ensures c.lookahead-lookahead.ensures.source (sees c.lookahead-lookahead.ensures.rest a) c.if-is_left.false) (turn_no _ (seen_in (λ v u. is_mark v (codes "&") u && is_name (next u)) c.is_block.ensures c.lookahead-lookahead.ensures.source (sees c.lookahead-lookahead.ensures.rest a) c.if-is_block.false) turn_fault)) }
