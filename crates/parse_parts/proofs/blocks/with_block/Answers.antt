use Rattle.parse_state.proofs.Steps.{and_then, failed, handed, later_of, later_same}
use Rattle.parse_state.specs.Gives.{gave}
use Rattle.tree_builder.proofs.GoesOn.{all_later, other_later}
use Rattle.parse_parts.proofs.blocks.with_block.Goals as goal

pub returns-in_err-block : goal.returns-in_err-block
returns-in_err-block g c = record { reads = λ x h w s a. handed _ _ c.from_residual.ensures.1 (failed _ (c.in_err-block.ensures.reads x (c.has_block-is_given.ensures _ x h) h.block w s a)) }

pub returns : goal.returns
returns g c = record {
  reads = λ x h w s a. and_then (c.in_ok-block.ensures.reads x (c.has_block-is_given.ensures _ x h) h.block w s a) (λ t r z b i.
      let l = later_of (c.in_ok-block.ensures.reads x (c.has_block-is_given.ensures _ x h) h.block w s a) in
      gave b (later_same _) (record { trees = all_later _ _ l.names _ _ h.trees; spread = h.spread; value = other_later _ _ l.names _ _ h.value; block = i }));
}
