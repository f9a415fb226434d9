use Rattle.std.proofs.Common.{rules}
use Rattle.ruby_tree.specs.Tree.{at, send}
use Rattle.tree_builder.proofs.GoesOn.{later, named_later}
use Rattle.parse_state.specs.Gives.{gave}
use Rattle.parse_state.proofs.Steps.{later_same, later_then, from, failed, cut, handed, wanting}
use Rattle.parse_state.proofs.Tools.{at_spot, send_spread, so, so_step}
use Rattle.parse_operands.proofs.names.blocked_name.Goals as goal

pub returns-in_err-name : goal.returns-in_err-name
returns-in_err-name g c = record { reads = λ w s a. handed _ _ c.from_residual.ensures.1 (cut (c.in_err-name.ensures.gives _ _ a)) }

pub returns-in_err-part : goal.returns-in_err-part
returns-in_err-part g c = record { reads = λ w s a. handed _ _ c.from_residual-in_err-part.ensures.1 (so_step (c.in_ok-name.ensures.gives _ _ a) (λ b1 l1 h1. from c.bump.ensures.later (failed _ (c.in_err-part.ensures.reads _ _ (c.bump.ensures.at _ _ b1))))) }

pub returns-in_err-code : goal.returns-in_err-code
returns-in_err-code g c = record { reads = λ w s a. wanting _ c.from_residual-in_err-code.ensures.1 }

pub returns : goal.returns
returns g c = record { reads = λ w s a. so_step (c.in_ok-name.ensures.gives _ _ a) (λ b1 l1 h1. from c.bump.ensures.later (so (c.in_ok-part.ensures.reads _ _ (c.bump.ensures.at _ _ b1)) (λ t2 r2 z2 b2 l2 h2. gave b2 (later_same _) (at_spot (c.position_here-here.ensures _ _ a) (send_spread (search rules) (c.send.ensures.made _ _ _ _ _ _ (c.none-receiver.ensures _) (c.new-arguments.ensures _) (c.none-value.ensures _) (named_later _ _ (later_then c.bump.ensures.later (l2)).names _ _ h1) (c.in_ok-code.ensures _ _ h2))))))) }
