use Rattle.std.proofs.Common.{ap, ◌∙◌}
use Rattle.ruby_tree.specs.Rules.{next, position}
use Rattle.tree_builder.proofs.GoesOn.{later}
use Rattle.parse_state.specs.Gives.{gave}
use Rattle.parse_state.proofs.Steps.{here, from, and_then, failed, handed, wanting, later_same, later_then, later_of}
use Rattle.parse_state.proofs.Seen.{sees}
use Rattle.parse_statements.proofs.Growing.{fewer_than}
use Rattle.parse_statements.proofs.modifiers.one_modifier.Goals as goal

pub returns-in_err-condition-clause-reads : goal.returns-in_err-condition-clause-reads
returns-in_err-condition-clause-reads g c = λ o b a at told h w s n. from c.bump.ensures.later (handed _ _ c.from_residual.ensures.1 (failed _ (c.in_err-condition.ensures.reads _ _ (c.bump.ensures.at w s n))))

pub returns-in_err-made-clause-reads : goal.returns-in_err-made-clause-reads
returns-in_err-made-clause-reads g c = λ o b a at told h w s n. wanting _ c.from_residual-in_err-made.ensures.1

pub returns-clause-reads : goal.returns-clause-reads
returns-clause-reads g c = λ o b a at told h w s n.
    let read = c.in_ok-condition.ensures.reads _ _ (c.bump.ensures.at w s n) in
    let on = later_then c.bump.ensures.later (later_of read) in
    let first = sees c.lookahead-lookahead.ensures.rest n in
    from c.bump.ensures.later (and_then read (λ x r z m k. gave m (later_same _) (c.in_ok-made.ensures.made _ o w b a x at (c.position-word.ensures ∙ ap position first) (c.position-behind.ensures ∙ ap position (c.next.ensures.seen ∙ ap next first)) told (later _ _ on.names _ _ h) k)))

pub returns-clause-fewer : goal.returns-clause-fewer
returns-clause-fewer g c = λ x is. fewer_than c.bump.ensures.rest (later_of (c.in_ok-condition.ensures.reads _ _ (here _)))
