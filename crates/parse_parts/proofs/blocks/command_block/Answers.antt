use Rattle.reference_parser.specs.ReadBodies.{command_block}
use Rattle.parse_parts.proofs.PassingSteps.{has_one, opens_none, opens_one}
use Rattle.parse_state.proofs.Seen.{seen_in, sees}
use Rattle.parse_state.proofs.Steps.{later_same, no, yes}
use Rattle.parse_state.specs.Gives.{gave}
use Rattle.token_lookahead.specs.Lookaheads.{do_owner_of}
use Rattle.ruby_tree.specs.Rules.{opens_do}
use Rattle.std.proofs.Common.{sym, ◌∙◌}
use Rattle.parse_parts.proofs.blocks.command_block.Goals as goal

pub returns-then-is_given : goal.returns-then-is_given
unfolding command_block
returns-then-is_given g c = record { reads = λ x is h w s a. no _ (has_one _ (sym is ∙ c.if-is_given.true)) (gave a (later_same _) h) }

pub returns-then-opens_do : goal.returns-then-opens_do
unfolding command_block
returns-then-opens_do g c = record { reads = λ x is h w s a. yes _ (opens_one (seen_in (λ v t. opens_do v (do_owner_of c.args.do_owner) t) c.opens_do.ensures c.lookahead.ensures.source (sees c.lookahead.ensures.rest a) c.if-opens_do.true) (sym is ∙ c.if-is_given.false)) (c.as_given.ensures _ _ _ (c.do_block.ensures.reads w s a)) }

pub returns : goal.returns
unfolding command_block
returns g c = record { reads = λ x is h w s a. no _ (opens_none _ (seen_in (λ v t. opens_do v (do_owner_of c.args.do_owner) t) c.opens_do.ensures c.lookahead.ensures.source (sees c.lookahead.ensures.rest a) c.if-opens_do.false)) (gave a (later_same _) h) }
