use Rattle.std.proofs.Common.{◌&&◌, codes}
use Rattle.ruby_tree.specs.Rules.{is_mark, next, touches_next}
use Rattle.parse_state.proofs.Steps.{finds_yes, finds_no}
use Rattle.parse_state.proofs.Seen.{sees, seen_in, and_yes, and_no}
use Rattle.parse_state.proofs.standing.Parser.plain_name.Goals as goal

pub returns-then-not-defines : goal.returns-then-not-defines
returns-then-not-defines c = record { finds = λ w s a. finds_no _ (and_no _ c.if-not-defines.true) (c.one_word.ensures.finds w s a) }

pub returns-then-is_set : goal.returns-then-is_set
returns-then-is_set c = record { finds = λ w s a. finds_yes _ (and_yes c.if-not-defines.false (seen_in (λ x t. is_mark x (codes "=") (next t) && touches_next t) c.is_set.ensures c.lookahead.ensures.source (sees c.lookahead.ensures.rest a) c.if-is_set.true)) (c.setter_name.ensures.finds w s a) }

pub returns : goal.returns
returns c = record { finds = λ w s a. finds_no _ (and_yes c.if-not-defines.false (seen_in (λ x t. is_mark x (codes "=") (next t) && touches_next t) c.is_set.ensures c.lookahead.ensures.source (sees c.lookahead.ensures.rest a) c.if-is_set.false)) (c.one_word-2.ensures.finds w s a) }
