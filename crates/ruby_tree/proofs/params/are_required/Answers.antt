use Rattle.std.proofs.Common.{sym, ◌∙◌}
use Rattle.ruby_tree.proofs.Twice.{required_more, required_no_more}
use Rattle.ruby_tree.proofs.params.are_required.Goals as goal

pub loop-param-preserved : goal.loop-param-preserved
loop-param-preserved c texts =
    sym (required_more texts _ _ _ c.loop-param-test.true c.param-item.is (sym (c.is_required.ensures texts) ∙ c.if-not-is_required.false)) ∙ c.loop-param.invariant texts

pub returns-then-not-is_required : goal.returns-then-not-is_required
returns-then-not-is_required c texts =
    sym (required_no_more texts _ _ _ c.loop-param-test.true c.param-item.is (sym (c.is_required.ensures texts) ∙ c.if-not-is_required.true)) ∙ c.loop-param.invariant texts
