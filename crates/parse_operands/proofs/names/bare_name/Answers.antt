use Rattle.std.proofs.Common.{sym}
use Rattle.ruby_tree.specs.Rules.{word}
use Rattle.parse_state.proofs.Steps.{cut, handed}
use Rattle.parse_state.proofs.Seen.{sees, seen_as}
use Rattle.parse_state.proofs.Tools.{at_spot, bare_named, so_step}
use Rattle.parse_operands.proofs.names.bare_name.Goals as goal

pub returns-in_err-name : goal.returns-in_err-name
returns-in_err-name c = record { reads = λ w s a. handed _ _ c.from_residual.ensures.1 (cut (c.in_err-name.ensures.gives _ _ a)) }

pub returns : goal.returns
returns c = record { reads = λ w s a. so_step (c.in_ok-name.ensures.gives _ _ a) (λ b1 l1 h1. c.leaf.ensures.gives _ _ _ (at_spot (c.position_here-here.ensures _ _ a) (bare_named s (seen_as (λ x t. word x t) c.word-text.ensures c.lookahead.ensures.source (sees c.lookahead.ensures.rest a)) (c.bare_form-part.ensures.made _ s (sym b1.clause) h1))) b1) }
