use Rattle.std.proofs.Common.{sym, true, false, ◌∙◌}
use Rattle.ruby_tree.specs.Tree.{at}
use Rattle.tree_builder.proofs.GoesOn.{later}
use Rattle.parse_state.specs.Gives.{gave, no_syntax}
use Rattle.parse_state.proofs.Steps.{later_same, from, yes, no, failed, handed}
use Rattle.parse_state.proofs.Tools.{at_spot, yield_spread, so}
use Rattle.parse_operands.proofs.names.given_yield.Goals as goal

pub returns-in_err-given : goal.returns-in_err-given
returns-in_err-given g c = record { reads = λ w s a. handed _ _ c.from_residual.ensures.1 (from c.bump.ensures.later (failed _ (c.in_err-given.ensures.reads _ _ (c.bump.ensures.at _ _ a)))) }

pub returns-then-has_block : goal.returns-then-has_block
returns-then-has_block g c = record { reads = λ w s a. from c.bump.ensures.later (so (c.in_ok-given.ensures.reads _ _ (c.bump.ensures.at _ _ a)) (λ t1 r1 z1 b1 l1 h1. yes _ (sym (c.has_block.ensures _ _ h1) ∙ c.if-has_block.true) no_syntax)) }

pub returns : goal.returns
returns g c = record { reads = λ w s a. from c.bump.ensures.later (so (c.in_ok-given.ensures.reads _ _ (c.bump.ensures.at _ _ a)) (λ t1 r1 z1 b1 l1 h1. no _ (sym (c.has_block.ensures _ _ h1) ∙ c.if-has_block.false) (gave b1 (later_same _) (at_spot (c.position_here-here.ensures _ _ a) (yield_spread h1.spread (c.yield_with.ensures.made _ _ h1.trees)))))) }
