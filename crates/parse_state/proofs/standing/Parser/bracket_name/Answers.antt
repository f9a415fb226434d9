use Rattle.std.proofs.Common.{◌&&◌, codes}
use Rattle.ruby_tree.specs.Rules.{is_mark, next, touches_next}
use Rattle.reference_parser.specs.Fronts.{brackets_at}
use Rattle.parse_state.proofs.Steps.{finds_yes, finds_no, finds_from, finds_taken, later_then}
use Rattle.parse_state.proofs.Seen.{sees, seen_in}
use Rattle.parse_state.proofs.standing.Parser.bracket_name.Goals as goal

pub returns-then-is_set : goal.returns-then-is_set
unfolding brackets_at
returns-then-is_set c = record {
  finds = λ w s a.
      let b = c.bump.ensures.at w s a in
      finds_yes _ (seen_in (λ x t. is_mark x (codes "=") (next t) && touches_next t) c.is_set.ensures c.lookahead.ensures.source (sees c.lookahead.ensures.rest b) c.if-is_set.true)
      (finds_from (later_then c.bump.ensures.later (later_then c.bump-then-is_set.ensures.later c.bump-then-is_set-2.ensures.later))
      (finds_taken (c.intern.ensures.gives _ _ (c.bump-then-is_set-2.ensures.at _ _ (c.bump-then-is_set.ensures.at _ _ b)))));
}

pub returns : goal.returns
unfolding brackets_at
returns c = record {
  finds = λ w s a.
      let b = c.bump.ensures.at w s a in
      finds_no _ (seen_in (λ x t. is_mark x (codes "=") (next t) && touches_next t) c.is_set.ensures c.lookahead.ensures.source (sees c.lookahead.ensures.rest b) c.if-is_set.false)
      (finds_from (later_then c.bump.ensures.later c.bump-2.ensures.later) (finds_taken (c.intern-2.ensures.gives _ _ (c.bump-2.ensures.at _ _ b))));
}
