use Rattle.tree_builder.proofs.GoesOn.{later, named_later}
use Rattle.reference_parser.specs.ReadStatements.{start_by}
use Rattle.parse_state.proofs.Steps.{and_then, failed, from, handed, later_of, later_then}
use Rattle.parse_state.proofs.Seen.{sees}
use Rattle.parse_statements.proofs.places.set_attribute.Goals as goal

pub returns-in_err-value : goal.returns-in_err-value
unfolding start_by
returns-in_err-value g c = record { reads = λ b o t m h n w s a. from c.bump.ensures.later (handed _ _ c.from_residual.ensures.1 (failed _ (c.in_err-value.ensures.reads _ _ (c.bump.ensures.at w s a)))) }

pub returns : goal.returns
unfolding start_by
returns g c = record {
  reads = λ b o t m h n w s a.
      let read = c.in_ok-value.ensures.reads _ _ (c.bump.ensures.at w s a) in
      let on = later_then c.bump.ensures.later (later_of read) in
      from c.bump.ensures.later (and_then read (λ v r z e k. c.attribute_form.ensures.gives w t v m c.lookahead-operator.ensures.source (sees c.lookahead-operator.ensures.rest a) (later _ _ on.names _ _ h) (named_later _ _ on.names _ _ n) k r z e));
}
