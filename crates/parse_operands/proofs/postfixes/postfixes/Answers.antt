use Rattle.std.proofs.Common.{refl, sym, subst}
use Rattle.token_lookahead.specs.Lookaheads.{do_owner_of}
use Rattle.reference_parser.specs.ReadItems.{Readers}
use Rattle.reference_parser.specs.ReadOperands.{postfixes, postfix_at}
use Rattle.parse_state.proofs.Steps.{handed}
use Rattle.parse_operands.specs.declared.postfixes.PostfixStep.{PostfixStep}
use Rattle.parse_operands.specs.Turns.{IsLonger}
use Rattle.parse_operands.proofs.Turning.{begins, goes_more, goes_end, goes_stop, turns_as}
use Rattle.parse_operands.proofs.postfixes.postfixes.Goals as goal

pub loop-longer-init : goal.loop-longer-init
loop-longer-init g c = begins _ _ _ _

pub returns-in_err-longer : goal.returns-in_err-longer
unfolding postfixes
returns-in_err-longer g c = record { reads = λ o b e h m w s a less. let Q : Readers = g.N.Nested.readers c.args.nested.now c.args.context.source.now in handed _ _ c.from_residual.ensures.1 (goes_stop (λ F o b. postfix_at c.args.context.source.now Q F (do_owner_of c.args.do_owner) o b) (λ n o b w s. refl) c.loop-longer.invariant e h a less c.in_err-longer.ensures.turns) }

pub loop-longer-smaller : goal.loop-longer-smaller
loop-longer-smaller g c = c.in_ok-longer.ensures.shorter (subst (λ (t : PostfixStep). IsLonger t) (sym c.in-Longer.is) tt)

pub loop-longer-preserved : goal.loop-longer-preserved
unfolding postfixes
loop-longer-preserved g c = let Q : Readers = g.N.Nested.readers c.args.nested.now c.args.context.source.now in goes_more (λ F o b. postfix_at c.args.context.source.now Q F (do_owner_of c.args.do_owner) o b) (λ n o b w s. refl) c.loop-longer.invariant (c.in_ok-longer.ensures.shorter (subst (λ (t : PostfixStep). IsLonger t) (sym c.in-Longer.is) tt)) (turns_as (λ F o b. postfix_at c.args.context.source.now Q F (do_owner_of c.args.do_owner) o b) c.in-Longer.is c.in_ok-longer.ensures.turns)

pub returns-in-Ended : goal.returns-in-Ended
unfolding postfixes
returns-in-Ended g c = record { reads = λ o b e h m w s a less. let Q : Readers = g.N.Nested.readers c.args.nested.now c.args.context.source.now in goes_end (λ F o b. postfix_at c.args.context.source.now Q F (do_owner_of c.args.do_owner) o b) (λ n o b w s. refl) c.loop-longer.invariant e h a less (turns_as (λ F o b. postfix_at c.args.context.source.now Q F (do_owner_of c.args.do_owner) o b) c.in-Ended.is c.in_ok-longer.ensures.turns) }
