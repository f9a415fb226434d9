use Rattle.tree_builder.proofs.GoesOn.{later}
use Rattle.parse_state.specs.Gives.{gave}
use Rattle.parse_state.proofs.Steps.{here, from, and_then, failed, handed, wanting, later_same, later_then, later_of}
use Rattle.parse_statements.proofs.Growing.{fewer_than}
use Rattle.parse_statements.proofs.logic.one_joining.Goals as goal

pub returns-in_err-right-clause-reads : goal.returns-in_err-right-clause-reads
returns-in_err-right-clause-reads g c = λ o a at h w s b. from c.bump.ensures.later (handed _ _ c.from_residual.ensures.1 (failed _ (c.in_err-right.ensures.reads _ _ (c.bump.ensures.at w s b))))

pub returns-in_err-made-clause-reads : goal.returns-in_err-made-clause-reads
returns-in_err-made-clause-reads g c = λ o a at h w s b. wanting _ c.from_residual-in_err-made.ensures.1

pub returns-clause-reads : goal.returns-clause-reads
returns-clause-reads g c = λ o a at h w s b.
    let read = c.in_ok-right.ensures.reads _ _ (c.bump.ensures.at w s b) in
    let on = later_then c.bump.ensures.later (later_of read) in
    from c.bump.ensures.later (and_then read (λ x r z n k. gave n (later_same _) (c.in_ok-made.ensures.made _ o w a x at (later _ _ on.names _ _ h) k)))

pub returns-clause-fewer : goal.returns-clause-fewer
returns-clause-fewer g c = λ x is. fewer_than c.bump.ensures.rest (later_of (c.in_ok-right.ensures.reads _ _ (here _)))
