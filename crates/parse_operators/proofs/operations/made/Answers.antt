use Rattle.parse_state.specs.Gives.{gave}
use Rattle.parse_state.proofs.Steps.{later_same, wanting}
use Rattle.parse_operators.proofs.Parts.{at_spot, made_as}
use Rattle.parse_operators.proofs.operations.made.Goals as goal

pub returns-in_err-conjunction-in-Both-clause-gives : goal.returns-in_err-conjunction-in-Both-clause-gives
returns-in_err-conjunction-in-Both-clause-gives c = λ o v a b at from sees h k w s p. wanting _ c.from_residual.ensures.1

pub returns-in_err-disjunction-in-Either-clause-gives : goal.returns-in_err-disjunction-in-Either-clause-gives
returns-in_err-disjunction-in-Either-clause-gives c = λ o v a b at from sees h k w s p. wanting _ c.from_residual-in_err-disjunction-in-Either.ensures.1

pub returns-in_err-range-in-Closed-clause-gives : goal.returns-in_err-range-in-Closed-clause-gives
returns-in_err-range-in-Closed-clause-gives c = λ o v a b at from sees h k w s p. wanting _ c.from_residual-in_err-range-in-Closed.ensures.1

pub returns-in_err-range-in-HalfOpen-clause-gives : goal.returns-in_err-range-in-HalfOpen-clause-gives
returns-in_err-range-in-HalfOpen-clause-gives c = λ o v a b at from sees h k w s p. wanting _ c.from_residual-in_err-range-in-HalfOpen.ensures.1

pub returns-in_ok-conjunction-in-Both-clause-gives : goal.returns-in_ok-conjunction-in-Both-clause-gives
returns-in_ok-conjunction-in-Both-clause-gives c = λ o v a b at from sees h k w s p. made_as _ o v a b w s c.in-Both.is (gave p (later_same _) (c.in_ok-conjunction-in-Both.ensures.made _ o v a b at h k))

pub returns-in_ok-disjunction-in-Either-clause-gives : goal.returns-in_ok-disjunction-in-Either-clause-gives
returns-in_ok-disjunction-in-Either-clause-gives c = λ o v a b at from sees h k w s p. made_as _ o v a b w s c.in-Either.is (gave p (later_same _) (c.in_ok-disjunction-in-Either.ensures.made _ o v a b at h k))

pub returns-in_ok-range-in-Closed-clause-gives : goal.returns-in_ok-range-in-Closed-clause-gives
returns-in_ok-range-in-Closed-clause-gives c = λ o v a b at from sees h k w s p. made_as _ o v a b w s c.in-Closed.is (gave p (later_same _) (at_spot at (c.in_ok-range-in-Closed.ensures.made _ a b h k)))

pub returns-in_ok-range-in-HalfOpen-clause-gives : goal.returns-in_ok-range-in-HalfOpen-clause-gives
returns-in_ok-range-in-HalfOpen-clause-gives c = λ o v a b at from sees h k w s p. made_as _ o v a b w s c.in-HalfOpen.is (gave p (later_same _) (at_spot at (c.in_ok-range-in-HalfOpen.ensures.made _ a b h k)))
