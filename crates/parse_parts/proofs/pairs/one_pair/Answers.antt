use Rattle.tree_builder.proofs.GoesOn.{later}
use Rattle.reference_parser.specs.Fronts.{is_label}
use Rattle.reference_parser.specs.ReadItems.{read_pair}
use Rattle.parse_state.specs.Gives.{gave}
use Rattle.parse_state.proofs.Steps.{yes, no, and_then, failed, handed, expected, unexpected, later_of, later_same, later_then}
use Rattle.parse_state.proofs.Seen.{sees, seen}
use Rattle.parse_parts.proofs.Turning.{met_later}
use Rattle.parse_parts.proofs.pairs.one_pair.Goals as goal

pub returns-then-is_label : goal.returns-then-is_label
unfolding read_pair
returns-then-is_label g c = record { reads = λ w s a. yes _ (seen (λ t. is_label t) c.is_label.ensures (sees c.lookahead.ensures.rest a) c.if-is_label.true) (c.labeled.ensures.reads w s a) }

pub returns-in_err-key : goal.returns-in_err-key
unfolding read_pair
returns-in_err-key g c = record { reads = λ w s a. handed _ _ c.from_residual.ensures.1 (no _ (seen (λ t. is_label t) c.is_label.ensures (sees c.lookahead.ensures.rest a) c.if-is_label.false) (failed _ (c.in_err-key.ensures.reads w s a))) }

pub returns-in_err-expect_mark : goal.returns-in_err-expect_mark
unfolding read_pair
returns-in_err-expect_mark g c = record { reads = λ w s a. handed _ _ c.from_residual-in_err-expect_mark.ensures.1 (no _ (seen (λ t. is_label t) c.is_label.ensures (sees c.lookahead.ensures.rest a) c.if-is_label.false) (and_then (c.in_ok-key.ensures.reads w s a) (λ k q y b h. unexpected _ (c.in_err-expect_mark.ensures.expects q y b)))) }

pub returns-in_err-value : goal.returns-in_err-value
unfolding read_pair
returns-in_err-value g c = record { reads = λ w s a. handed _ _ c.from_residual-in_err-value.ensures.1 (no _ (seen (λ t. is_label t) c.is_label.ensures (sees c.lookahead.ensures.rest a) c.if-is_label.false) (and_then (c.in_ok-key.ensures.reads w s a) (λ k q y b h. expected (c.in_ok-expect_mark.ensures.expects q y b) (λ e. failed _ (c.in_err-value.ensures.reads _ _ e))))) }

pub returns : goal.returns
unfolding read_pair
returns g c = record {
  reads = λ w s a. no _ (seen (λ t. is_label t) c.is_label.ensures (sees c.lookahead.ensures.rest a) c.if-is_label.false) (and_then (c.in_ok-key.ensures.reads w s a) (λ k q y b h.
      expected (c.in_ok-expect_mark.ensures.expects q y b) (λ e. and_then (c.in_ok-value.ensures.reads _ _ e) (λ v r z f i.
      let l = later_then (met_later (c.in_ok-expect_mark.ensures.expects q y b)) (later_of (c.in_ok-value.ensures.reads _ _ e)) in
      gave f (later_same _) (record { key = later _ _ l.names _ _ h; value = i })))));
}
