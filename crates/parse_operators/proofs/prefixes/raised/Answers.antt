use Rattle.std.proofs.Common.{sym, ◌∙◌}
use Rattle.tree_builder.proofs.GoesOn.{later}
use Rattle.reference_parser.specs.ReadLevels.{raised}
use Rattle.parse_state.specs.Gives.{gave}
use Rattle.parse_state.proofs.Steps.{from, and_then, failed, handed, yes, no, later_same, later_then, later_of}
use Rattle.parse_state.proofs.Seen.{sees}
use Rattle.parse_operators.proofs.prefixes.raised.Goals as goal

pub returns-in_err-right : goal.returns-in_err-right
unfolding raised
returns-in_err-right g c = record { reads = λ o a at h w s b. yes _ (sym (c.is_mark.ensures w s b) ∙ c.if-is_mark.true) (from c.bump.ensures.later (handed _ _ c.from_residual.ensures.1 (failed _ (c.in_err-right.ensures.reads _ _ (c.bump.ensures.at w s b))))) }

pub returns-then-is_mark : goal.returns-then-is_mark
unfolding raised
returns-then-is_mark g c = record {
  reads = λ o a at h w s b.
      let read = c.in_ok-right.ensures.reads _ _ (c.bump.ensures.at w s b) in
      let on = later_then c.bump.ensures.later (later_of read) in
      yes _ (sym (c.is_mark.ensures w s b) ∙ c.if-is_mark.true) (from c.bump.ensures.later (and_then read (λ t r z n k. c.operated.ensures.gives o w a t at c.lookahead-operator.ensures.source (sees c.lookahead-operator.ensures.rest b) (later _ _ on.names _ _ h) k r z n)));
}

pub returns : goal.returns
unfolding raised
returns g c = record { reads = λ o a at h w s b. no _ (sym (c.is_mark.ensures w s b) ∙ c.if-is_mark.false) (gave b (later_same _) h) }
