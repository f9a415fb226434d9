use Rattle.std.proofs.Common.{◌||◌, codes}
use Rattle.ruby_tree.specs.Rules.{is_word}
use Rattle.reference_parser.specs.Fronts.{is_newline, loop_start_at}
use Rattle.parse_state.specs.Gives.{finds, misses}
use Rattle.parse_state.proofs.Steps.{finds_yes, finds_no}
use Rattle.parse_state.proofs.Seen.{sees, seen_in}
use Rattle.parse_state.proofs.standing.Parser.skip_loop_start.Goals as goal

pub returns-then-is_loop_start : goal.returns-then-is_loop_start
unfolding loop_start_at
returns-then-is_loop_start c = record { finds = λ w s a. finds_yes _ (seen_in (λ x t. is_newline t || is_word x (codes "do") t) c.is_loop_start.ensures c.lookahead.ensures.source (sees c.lookahead.ensures.rest a) c.if-is_loop_start.true) (finds (c.bump.ensures.at w s a) c.bump.ensures.later tt) }

pub returns : goal.returns
unfolding loop_start_at
returns c = record { finds = λ w s a. finds_no _ (seen_in (λ x t. is_newline t || is_word x (codes "do") t) c.is_loop_start.ensures c.lookahead.ensures.source (sees c.lookahead.ensures.rest a) c.if-is_loop_start.false) misses }
