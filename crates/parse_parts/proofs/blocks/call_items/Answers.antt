use Rattle.reference_parser.specs.ReadBodies.{call_items}
use Rattle.parse_state.proofs.Seen.{seen_in, sees}
use Rattle.parse_state.proofs.Steps.{and_then, failed, handed, no, yes}
use Rattle.ruby_tree.specs.Build.{nothing}
use Rattle.ruby_tree.specs.Rules.{opens}
use Rattle.parse_parts.proofs.blocks.call_items.Goals as goal

pub returns-in_err-given : goal.returns-in_err-given
unfolding call_items
returns-in_err-given g c = record { reads = λ w s a. handed _ _ c.from_residual.ensures.1 (yes _ (seen_in (λ v t. opens v t) c.opens.ensures c.lookahead.ensures.source (sees c.lookahead.ensures.rest a) c.if-opens.true) (failed _ (c.in_err-given.ensures.reads w s a))) }

pub returns-then-opens : goal.returns-then-opens
unfolding call_items
returns-then-opens g c = record { reads = λ w s a. yes _ (seen_in (λ v t. opens v t) c.opens.ensures c.lookahead.ensures.source (sees c.lookahead.ensures.rest a) c.if-opens.true) (and_then (c.in_ok-given.ensures.reads w s a) (λ x q y b h. c.with_block.ensures.reads x h q y b)) }

pub returns : goal.returns
unfolding call_items
returns g c = record { reads = λ w s a. no _ (seen_in (λ v t. opens v t) c.opens.ensures c.lookahead.ensures.source (sees c.lookahead.ensures.rest a) c.if-opens.false) (c.with_block-2.ensures.reads nothing (c.nothing.ensures _) w s a) }
