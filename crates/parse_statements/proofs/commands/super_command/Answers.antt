use Rattle.std.proofs.Common.{ap, ◌∙◌}
use Rattle.ruby_tree.specs.Rules.{next, position}
use Rattle.tree_builder.proofs.GoesOn.{all_later, other_later}
use Rattle.parse_state.specs.Gives.{gave}
use Rattle.parse_state.proofs.Steps.{later_same, from, failed, handed}
use Rattle.parse_state.proofs.Seen.{sees}
use Rattle.parse_state.proofs.Tools.{at_spot, super_spread, so}
use Rattle.parse_statements.proofs.commands.super_command.Goals as goal

pub returns-in_err-given : goal.returns-in_err-given
returns-in_err-given g c = record { reads = λ w s a. handed _ _ c.from_residual.ensures.1 (from c.bump.ensures.later (failed _ (c.in_err-given.ensures.reads (next w) s (c.bump.ensures.at w s a)))) }

pub returns-in_err-block : goal.returns-in_err-block
returns-in_err-block g c = record { reads = λ w s a. handed _ _ c.from_residual-in_err-block.ensures.1 (from c.bump.ensures.later (so (c.in_ok-given.ensures.reads (next w) s (c.bump.ensures.at w s a)) (λ t1 r1 z1 b1 l1 h1. failed _ (c.in_err-block.ensures.reads t1 (c.has_block-has_block.ensures c.command_items.new.parser.symbols t1 h1) h1.block r1 z1 b1)))) }

pub returns : goal.returns
returns g c = record { reads = λ w s a. from c.bump.ensures.later (so (c.in_ok-given.ensures.reads (next w) s (c.bump.ensures.at w s a)) (λ t1 r1 z1 b1 l1 h1. so (c.in_ok-block.ensures.reads t1 (c.has_block-has_block.ensures c.command_items.new.parser.symbols t1 h1) h1.block r1 z1 b1) (λ t2 r2 z2 b2 l2 h2. gave b2 (later_same _) (at_spot (c.position-here.ensures ∙ ap position (sees c.lookahead.ensures.rest a)) (super_spread h1.spread (c.super_with.ensures.made c.command_block.new.parser.symbols t1.trees t1.value t2 (all_later _ _ l2.names _ _ h1.trees) (other_later _ _ l2.names _ _ h1.value) h2)))))) }
