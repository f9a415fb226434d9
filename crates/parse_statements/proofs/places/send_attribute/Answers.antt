use Rattle.std.proofs.Common.{ap, ℕ, ◌∙◌}
use Rattle.ruby_tree.specs.Tree.{at, operate_attribute}
use Rattle.ruby_tree.specs.Rules.{line_at, word, but_last}
use Rattle.ruby_tree.specs.SourcePositions.{position_of}
use Rattle.tree_builder.proofs.GoesOn.{later, named_later}
use Rattle.parse_state.specs.Gives.{gave}
use Rattle.parse_state.proofs.Steps.{cut, handed, later_of, later_same, step, wanting}
use Rattle.parse_statements.proofs.Settings.{made_of}
use Rattle.parse_statements.proofs.places.send_attribute.Goals as goal

pub returns-in_err-sent : goal.returns-in_err-sent
returns-in_err-sent c = record { gives = λ q t v m n from sees h i k j w s a. handed _ _ c.from_residual.ensures.1 (cut (c.in_err-sent.ensures.gives q from sees w s a)) }

pub returns-in_err-operate_attribute : goal.returns-in_err-operate_attribute
returns-in_err-operate_attribute c = record { gives = λ q t v m n from sees h i k j w s a. wanting _ c.from_residual-in_err-operate_attribute.ensures.1 }

pub returns : goal.returns
returns c = record {
  gives = λ q t v m n from sees h i k j w s a.
      let sends = c.in_ok-sent.ensures.gives q from sees w s a in
      let l = later_of sends in
      let operator = but_last (word c.args.context.source.now q) in
      step sends (λ b f. gave b (later_same _)
      (made_of (λ (line : ℕ). at (position_of c.args.here) (operate_attribute t m v operator n line)) (c.line_at-line.ensures ∙ ap line_at sees)
      (c.in_ok-operate_attribute.ensures.made _ t m v operator n (later _ _ l.names _ _ h) (named_later _ _ l.names _ _ i) (later _ _ l.names _ _ k) f (named_later _ _ l.names _ _ j))));
}
