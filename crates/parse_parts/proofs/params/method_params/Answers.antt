use Rattle.token_lookahead.specs.Lookaheads.{do_owner_of}
use Rattle.parse_parts.proofs.Loops.{params_unroll, row_end, row_stop}
use Rattle.parse_parts.specs.Parts.{param_turn}
use Rattle.parse_parts.proofs.Turning.{begins, goes_end, goes_fewer, goes_more, goes_stop}
use Rattle.parse_state.proofs.Steps.{handed}
use Rattle.ruby_tree.specs.Tree.{no_param}
use Rattle.std.proofs.Common.{Err, refl}
use Rattle.parse_parts.proofs.params.method_params.Goals as goal

pub loop-row-init : goal.loop-row-init
loop-row-init g c = begins _ _

pub returns-in_err-one_param : goal.returns-in_err-one_param
returns-in_err-one_param g c = record { reads = λ m w s a less. handed _ _ c.from_residual.ensures.1 (row_stop _ (goes_stop (param_turn c.args.context.source.now (g.N.Nested.readers c.args.nested.now c.args.context.source.now) (do_owner_of c.args.do_owner)) (params_unroll c.args.context.source.now (g.N.Nested.readers c.args.nested.now c.args.context.source.now) (do_owner_of c.args.do_owner)) c.loop-row.invariant m (record { params = no_param; least = 0 }) w s a (record { params = c.new.ensures _; least = refl }) less (Err _) refl c.in_err-one_param.ensures.turns)) }

pub loop-row-smaller : goal.loop-row-smaller
loop-row-smaller g c = goes_fewer (param_turn c.args.context.source.now (g.N.Nested.readers c.args.nested.now c.args.context.source.now) (do_owner_of c.args.do_owner)) (params_unroll c.args.context.source.now (g.N.Nested.readers c.args.nested.now c.args.context.source.now) (do_owner_of c.args.do_owner)) c.loop-row.invariant (record { params = no_param; least = 0 }) (record { params = c.new.ensures _; least = refl }) c.if-branch.true c.in_ok-one_param.ensures.turns

pub loop-row-preserved : goal.loop-row-preserved
loop-row-preserved g c = goes_more (param_turn c.args.context.source.now (g.N.Nested.readers c.args.nested.now c.args.context.source.now) (do_owner_of c.args.do_owner)) (params_unroll c.args.context.source.now (g.N.Nested.readers c.args.nested.now c.args.context.source.now) (do_owner_of c.args.do_owner)) c.loop-row.invariant c.if-branch.true c.in_ok-one_param.ensures.turns

pub returns : goal.returns
returns g c = record { reads = λ m w s a less. row_end _ (goes_end (param_turn c.args.context.source.now (g.N.Nested.readers c.args.nested.now c.args.context.source.now) (do_owner_of c.args.do_owner)) (params_unroll c.args.context.source.now (g.N.Nested.readers c.args.nested.now c.args.context.source.now) (do_owner_of c.args.do_owner)) c.loop-row.invariant m (record { params = no_param; least = 0 }) w s a (record { params = c.new.ensures _; least = refl }) less c.if-branch.false c.in_ok-one_param.ensures.turns) }
