use Rattle.std.proofs.Common.{refl, sym, ◌∙◌, ◌<◌, ◌≤◌, ◌-◌, length, arith}
use Rattle.token_lookahead.specs.Lookaheads.{do_owner_of}
use Rattle.parse_state.proofs.Steps.{handed}
use Rattle.parse_statements.specs.Statements.{one_joining}
use Rattle.parse_statements.proofs.Growing.{grows_from, grows_more, grows_stop, grows_end}
use Rattle.parse_statements.proofs.StatementLoops.{none_of, tests_more, tests_end}
use Rattle.parse_statements.proofs.logic.joined.Goals as goal

pub loop-joining-init : goal.loop-joining-init
loop-joining-init g c = λ o a at h m w s b less. grows_from a b h less

pub loop-joining-preserved : goal.loop-joining-preserved
loop-joining-preserved g c = λ o a at h m w s b less.
    let some : 0 < length c.loop-joining.parser.rest.now = c.joining_here.ensures.some c.in-Some.joining c.in-Some.is in
    let fewer : length c.one_joining.new.parser.rest.now ≤ length c.loop-joining.parser.rest.now - 1 = c.in_ok-left.ensures.fewer _ refl in
    grows_more (one_joining (g.N.Nested.readers c.args.nested.now c.args.context.source.now) c.in-Some.joining (do_owner_of c.args.do_owner) o) (λ t. t)
    (λ k t v y n. tests_more c.args.context.source.now (g.N.Nested.readers c.args.nested.now c.args.context.source.now) (do_owner_of c.args.do_owner) o k c.in-Some.joining t v y (sym (c.joining_here.ensures.is v y n) ∙ c.in-Some.is))
    (omega arith) (λ t k. k) (λ t v y n k. c.in_ok-left.ensures.reads o t at k v y n) (c.loop-joining.invariant o a at h m w s b less)

pub returns-in_err-left : goal.returns-in_err-left
returns-in_err-left g c = record {
  reads = λ o a at h m w s b less. handed _ _ c.from_residual.ensures.1 (grows_stop (one_joining (g.N.Nested.readers c.args.nested.now c.args.context.source.now) c.in-Some.joining (do_owner_of c.args.do_owner) o) (λ t. t)
      (λ k t v y n. tests_more c.args.context.source.now (g.N.Nested.readers c.args.nested.now c.args.context.source.now) (do_owner_of c.args.do_owner) o k c.in-Some.joining t v y (sym (c.joining_here.ensures.is v y n) ∙ c.in-Some.is))
      (λ t v y n k. c.in_err-left.ensures.reads o t at k v y n) (c.loop-joining.invariant o a at h m w s b less));
}

pub returns : goal.returns
returns g c = record {
  reads = λ o a at h m w s b less. grows_end (λ t. t)
      (λ k t v y n. tests_end c.args.context.source.now (g.N.Nested.readers c.args.nested.now c.args.context.source.now) (do_owner_of c.args.do_owner) o k t v y (sym (c.joining_here.ensures.is v y n) ∙ none_of c.joining_here.result c.in_default.not-Some))
      (λ t k. k) (c.loop-joining.invariant o a at h m w s b less);
}
