use Rattle.tree_builder.proofs.GoesOn.{later, all_later, other_later, named_later}
use Rattle.reference_parser.specs.ReadStatements.{command_by}
use Rattle.parse_state.specs.Gives.{gave}
use Rattle.parse_state.proofs.Steps.{later_same, later_then, failed, handed, wanting}
use Rattle.parse_state.proofs.Tools.{so}
use Rattle.parse_statements.proofs.commands.command_behind.Goals as goal

pub returns-in_err-given : goal.returns-in_err-given
unfolding command_by
returns-in_err-given g c = record { reads = λ t m h n w s a. handed _ _ c.from_residual.ensures.1 (failed _ (c.in_err-given.ensures.reads w s a)) }

pub returns-in_err-block : goal.returns-in_err-block
unfolding command_by
returns-in_err-block g c = record { reads = λ t m h n w s a. handed _ _ c.from_residual-in_err-block.ensures.1 (so (c.in_ok-given.ensures.reads w s a) (λ t1 r1 z1 b1 l1 h1. failed _ (c.in_err-block.ensures.reads t1 (c.has_block-has_block.ensures c.command_items.new.parser.symbols t1 h1) h1.block r1 z1 b1))) }

pub returns-in_err-call_form : goal.returns-in_err-call_form
returns-in_err-call_form g c = record { reads = λ t m h n w s a. wanting _ c.from_residual-in_err-call_form.ensures.1 }

pub returns : goal.returns
unfolding command_by
returns g c = record {
  reads = λ t m h n w s a. so (c.in_ok-given.ensures.reads w s a) (λ t1 r1 z1 b1 l1 h1. so (c.in_ok-block.ensures.reads t1 (c.has_block-has_block.ensures c.command_items.new.parser.symbols t1 h1) h1.block r1 z1 b1) (λ t2 r2 z2 b2 l2 h2.
      let on = later_then l1 l2 in
      gave b2 (later_same _) (c.in_ok-call_form.ensures.made _ t t1 m t2 (later _ _ on.names _ _ h) (all_later _ _ l2.names _ _ h1.trees) h1.spread (other_later _ _ l2.names _ _ h1.value) (named_later _ _ on.names _ _ n) h2)));
}
