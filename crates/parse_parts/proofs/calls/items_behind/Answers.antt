use Rattle.std.proofs.Common.{false, refl}
use Rattle.ruby_tree.specs.Build.{nothing}
use Rattle.token_lookahead.specs.Lookaheads.{do_owner_of}
use Rattle.parse_state.proofs.Steps.{named, later_same}
use Rattle.parse_parts.specs.OneTurn.{item_turn}
use Rattle.parse_parts.proofs.Turning.{begins, count_fewer, stopped, ended, turn_was, goes_from, goes_more, goes_end, goes_stop}
use Rattle.parse_parts.proofs.Gathering.{items_rest, items_unroll, behind_whole}
use Rattle.parse_parts.proofs.calls.items_behind.Goals as goal

pub returns-in_err-behind_turn : goal.returns-in_err-behind_turn
returns-in_err-behind_turn g c = record {
  reads = λ o i e h m w s a less. named (behind_whole _ _ _ m o (record { spread = false; tree = i }) w s) (stopped _ c.from_residual.ensures.1 (c.in_err-behind_turn.ensures.turns o w s nothing (record { spread = false; tree = i }) (items_rest c.args.context.source.now (g.N.Nested.readers c.args.nested.now c.args.context.source.now) (do_owner_of c.args.do_owner) m) e a (c.nothing-given.ensures _) (record { spread = refl; tree = h })));
}

pub returns-then-not-branch : goal.returns-then-not-branch
returns-then-not-branch g c = record {
  reads = λ o i e h m w s a less. named (behind_whole _ _ _ m o (record { spread = false; tree = i }) w s) (ended (later_same _) (turn_was c.if-not-branch.true (c.in_ok-behind_turn.ensures.turns o w s nothing (record { spread = false; tree = i }) (items_rest c.args.context.source.now (g.N.Nested.readers c.args.nested.now c.args.context.source.now) (do_owner_of c.args.do_owner) m) e a (c.nothing-given.ensures _) (record { spread = refl; tree = h }))));
}

pub loop-given-init : goal.loop-given-init
loop-given-init g c = begins _ _

pub returns-in_err-item_turn : goal.returns-in_err-item_turn
returns-in_err-item_turn g c = record {
  reads = λ o i e h m w s a less. named (behind_whole _ _ _ m o (record { spread = false; tree = i }) w s) (goes_from c.if-not-branch.false (c.in_ok-behind_turn.ensures.turns o w s nothing (record { spread = false; tree = i }) (items_rest c.args.context.source.now (g.N.Nested.readers c.args.nested.now c.args.context.source.now) (do_owner_of c.args.do_owner) m) e a (c.nothing-given.ensures _) (record { spread = refl; tree = h }))
      (λ t r z b j fewer. goes_stop (item_turn _ _ _) (items_unroll _ _ _) c.loop-given.invariant m t r z b j (count_fewer a b fewer less) _ c.from_residual-in_err-item_turn.ensures.1 c.in_err-item_turn.ensures.turns));
}

pub loop-given-smaller : goal.loop-given-smaller
loop-given-smaller g c = c.in_ok-item_turn.ensures.fewer c.if-branch.true

pub loop-given-preserved : goal.loop-given-preserved
loop-given-preserved g c = goes_more (item_turn _ _ _) (items_unroll _ _ _) c.loop-given.invariant c.if-branch.true c.in_ok-item_turn.ensures.turns

pub returns : goal.returns
returns g c = record {
  reads = λ o i e h m w s a less. named (behind_whole _ _ _ m o (record { spread = false; tree = i }) w s) (goes_from c.if-not-branch.false (c.in_ok-behind_turn.ensures.turns o w s nothing (record { spread = false; tree = i }) (items_rest c.args.context.source.now (g.N.Nested.readers c.args.nested.now c.args.context.source.now) (do_owner_of c.args.do_owner) m) e a (c.nothing-given.ensures _) (record { spread = refl; tree = h }))
      (λ t r z b j fewer. goes_end (item_turn _ _ _) (items_unroll _ _ _) c.loop-given.invariant m t r z b j (count_fewer a b fewer less) c.if-branch.false c.in_ok-item_turn.ensures.turns));
}
