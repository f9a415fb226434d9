use Rattle.std.proofs.Common.{ap, ◌∙◌}
use Rattle.ruby_tree.specs.Rules.{next, position}
use Rattle.tree_builder.proofs.GoesOn.{all_later, other_later, named_later}
use Rattle.parse_state.specs.Gives.{gave}
use Rattle.parse_state.proofs.Steps.{later_same, later_then, from, failed, cut, handed}
use Rattle.parse_state.proofs.Seen.{sees}
use Rattle.parse_state.proofs.Tools.{at_spot, send_spread, so, so_step}
use Rattle.parse_statements.proofs.commands.named_command.Goals as goal

pub returns-in_err-name : goal.returns-in_err-name
returns-in_err-name g c = record { reads = λ w s a. handed _ _ c.from_residual.ensures.1 (cut (c.in_err-name.ensures.gives w s a)) }

pub returns-in_err-given : goal.returns-in_err-given
returns-in_err-given g c = record { reads = λ w s a. handed _ _ c.from_residual-in_err-given.ensures.1 (so_step (c.in_ok-name.ensures.gives w s a) (λ b1 l1 h1. from c.bump.ensures.later (failed _ (c.in_err-given.ensures.reads (next w) s (c.bump.ensures.at w s b1))))) }

pub returns-in_err-block : goal.returns-in_err-block
returns-in_err-block g c = record { reads = λ w s a. handed _ _ c.from_residual-in_err-block.ensures.1 (so_step (c.in_ok-name.ensures.gives w s a) (λ b1 l1 h1. from c.bump.ensures.later (so (c.in_ok-given.ensures.reads (next w) s (c.bump.ensures.at w s b1)) (λ t2 r2 z2 b2 l2 h2. failed _ (c.in_err-block.ensures.reads t2 (c.has_block-has_block.ensures c.command_items.new.parser.symbols t2 h2) h2.block r2 z2 b2))))) }

pub returns : goal.returns
returns g c = record { reads = λ w s a. so_step (c.in_ok-name.ensures.gives w s a) (λ b1 l1 h1. from c.bump.ensures.later (so (c.in_ok-given.ensures.reads (next w) s (c.bump.ensures.at w s b1)) (λ t2 r2 z2 b2 l2 h2. so (c.in_ok-block.ensures.reads t2 (c.has_block-has_block.ensures c.command_items.new.parser.symbols t2 h2) h2.block r2 z2 b2) (λ t3 r3 z3 b3 l3 h3. gave b3 (later_same _) (at_spot (c.position-here.ensures ∙ ap position (sees c.lookahead.ensures.rest a)) (send_spread h2.spread (c.send.ensures.made _ _ _ _ _ _ (c.none-receiver.ensures _) (all_later _ _ l3.names _ _ h2.trees) (other_later _ _ l3.names _ _ h2.value) (named_later _ _ (later_then c.bump.ensures.later (later_then l2 l3)).names _ _ h1) h3))))))) }
