use Rattle.std.proofs.Common.{ap, ◌∙◌}
use Rattle.ruby_lexer.specs.Pieces.{seen_all}
use Rattle.ruby_tree.specs.Rules.{position_with}
use Rattle.tree_builder.proofs.GoesOn.{named_later}
use Rattle.parse_state.specs.Gives.{gave}
use Rattle.parse_state.proofs.Steps.{handed, wanting, step, cut, later_of, later_same}
use Rattle.parse_parts.proofs.passing.as_block.Goals as goal

pub returns-in_err-variable : goal.returns-in_err-variable
returns-in_err-variable c = record { gives = λ w s a f at h. handed _ _ c.from_residual.ensures.1 (cut (c.in_err-variable.ensures.gives w s at)) }

pub returns-in_err-block : goal.returns-in_err-block
returns-in_err-block c = record { gives = λ w s a f at h. wanting _ c.from_residual-in_err-block.ensures.1 }

pub returns-in_err-block-2 : goal.returns-in_err-block-2
returns-in_err-block-2 c = record { gives = λ w s a f at h. wanting _ c.from_residual-in_err-block-2.ensures.1 }

pub returns : goal.returns
returns c = record {
  gives = λ w s a f at h. step (c.in_ok-variable.ensures.gives w s at) (λ b i.
      let name = named_later _ _ (later_of (c.in_ok-variable.ensures.gives w s at)).names _ _ h in
      let call = c.position_with-call.ensures ∙ ap (λ v. position_with (seen_all c.args.lookahead.rest.now) v) c.next.ensures.seen in
      gave b (later_same _) (record { value = c.none-value.ensures _; block = c.in_ok-block-2.ensures _ _ (c.in_ok-block.ensures.made _ (seen_all c.args.lookahead.rest.now) f c.position-here.ensures call i name) }));
}
