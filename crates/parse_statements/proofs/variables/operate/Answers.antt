use Rattle.std.proofs.Common.{ap, ◌∙◌}
use Rattle.ruby_lexer.specs.Pieces.{Toks}
use Rattle.ruby_tree.specs.Tree.{at, assign}
use Rattle.ruby_tree.specs.Rules.{position, position_with, word, but_last}
use Rattle.ruby_tree.specs.Build.{one, sent, read_form}
use Rattle.ruby_tree.specs.SourcePositions.{position_of}
use Rattle.tree_builder.proofs.GoesOn.{later, target_later}
use Rattle.parse_state.specs.Gives.{gave}
use Rattle.parse_state.proofs.Steps.{cut, handed, later_of, later_same, step, wanting}
use Rattle.parse_statements.proofs.Settings.{made_of}
use Rattle.parse_statements.proofs.variables.operate.Goals as goal

pub returns-in_err-name : goal.returns-in_err-name
returns-in_err-name c = record { gives = λ o q g v here from sees i h w s a. handed _ _ c.from_residual.ensures.1 (cut (c.in_err-name.ensures.gives q from sees w s a)) }

pub returns-in_err-operated : goal.returns-in_err-operated
returns-in_err-operated c = record { gives = λ o q g v here from sees i h w s a. wanting _ c.from_residual-in_err-operated.ensures.1 }

pub returns : goal.returns
returns c = record {
  gives = λ o q g v here from sees i h w s a.
      let sends = c.in_ok-name.ensures.gives q from sees w s a in
      let l = later_of sends in
      let operator = but_last (word c.args.context.source.now q) in
      step sends (λ b n. gave b (later_same _)
      (made_of (λ u. at u (assign (sent (position_with o q) (at u (read_form g)) operator (one v)) g)) here
      (made_of (λ u. at (position_of c.args.here) (assign (sent u (at (position_of c.args.here) (read_form g)) operator (one v)) g)) (c.position_with-position.ensures o here ∙ ap (λ (t : Toks). position_with o t) sees)
      (c.in_ok-operated.ensures.made _ g v operator (target_later _ _ l.names _ _ i) (later _ _ l.names _ _ h) n))));
}
