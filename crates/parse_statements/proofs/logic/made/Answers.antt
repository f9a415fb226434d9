use Rattle.parse_statements.specs.declared.logic.LogicalOperator.TheVariants as joining
use Rattle.parse_statements.proofs.StatementLoops.{joined_as}
use Rattle.parse_statements.proofs.logic.made.Goals as goal

pub returns-in-And : goal.returns-in-And
returns-in-And c = record { made = λ T o v a b at h k. joined_as T c.conjunction.result joining.And c.args.joining o v a b c.in-And.is (c.conjunction.ensures.made T o v a b at h k) }

pub returns-in-Or : goal.returns-in-Or
returns-in-Or c = record { made = λ T o v a b at h k. joined_as T c.disjunction.result joining.Or c.args.joining o v a b c.in-Or.is (c.disjunction.ensures.made T o v a b at h k) }
