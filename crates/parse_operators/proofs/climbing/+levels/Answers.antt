use Rattle.std.proofs.Common.{◌≡◌, refl, sym, ap, ◌∙◌, ◌<◌, ◌≤◌, ◌+◌, ◌-◌, length, arith}
use Rattle.ruby_tree.specs.Rules.{position, mark_in, equality_marks}
use Rattle.token_lookahead.specs.Lookaheads.{do_owner_of}
use Rattle.tree_builder.proofs.GoesOn.{later}
use Rattle.reference_parser.specs.ReadLevels.{compare, ranged, read_level}
use Rattle.parse_state.specs.Gives.{gave}
use Rattle.parse_state.proofs.Steps.{here, later_same, from, named, yes, no, and_then, failed, handed}
use Rattle.parse_state.proofs.Seen.{sees, seen_in}
use Rattle.parse_operators.specs.declared.precedence.PrecedenceLevel.TheVariants as level
use Rattle.parse_operators.specs.Levels.{levels_of}
use Rattle.parse_operators.proofs.Climbs.{climbed_none, one_more, stopped_over, all_over, at_equality, at_ranges, at_conditional, at_others, turned_by}
use Rattle.parse_operators.proofs.Joining.{begins, ends, goes_on, fails}
use Rattle.parse_operators.proofs.climbing.+levels.Goals as goal

pub at_level-returns-in-Equality : goal.at_level-returns-in-Equality
at_level-returns-in-Equality g t c = record { reads = λ o a at h w s b. at_equality _ _ _ o a w s _ c.in-Equality.is (c.compared.ensures.reads o a at h w s b) }

pub at_level-returns-in-Ranges : goal.at_level-returns-in-Ranges
at_level-returns-in-Ranges g t c = record { reads = λ o a at h w s b. at_ranges _ _ _ o a w s _ c.in-Ranges.is (c.ranged.ensures.reads o a at h w s b) }

pub at_level-returns-in-Conditional : goal.at_level-returns-in-Conditional
at_level-returns-in-Conditional g t c = record { reads = λ o a at h w s b. at_conditional _ _ _ o a w s _ c.in-Conditional.is (c.chosen.ensures.reads o a at h w s b) }

pub at_level-returns-in_default : goal.at_level-returns-in_default
at_level-returns-in_default g t c = record { reads = λ o a at h w s b. named (at_others _ _ _ o a w s _ c.args.level c.in_default.not-Equality c.in_default.not-Ranges c.in_default.not-Conditional) (c.rest.ensures.reads o a at h w s b) }

pub over-loop-index-init : goal.over-loop-index-init
over-loop-index-init g t c = λ o a at h w s b. climbed_none _ _ _ o a w s refl (gave b (later_same _) h)

pub over-returns-in_err-left : goal.over-returns-in_err-left
over-returns-in_err-left g t c = record { reads = λ o a at h w s b. handed _ _ c.from_residual.ensures.1 (stopped_over c.args.context.source.now (g.N.Nested.readers c.args.nested.now c.args.context.source.now) (do_owner_of c.args.do_owner) o a w s c.args.levels.now (c.loop-index.index + 1) (one_more c.args.context.source.now (g.N.Nested.readers c.args.nested.now c.args.context.source.now) (do_owner_of c.args.do_owner) o a w s c.args.levels.now level.Product c.loop-index.index (omega arith) (c.loop-index.invariant o a at h w s b) (λ x r z n k. c.in_err-left.ensures.reads o x at k r z n))) }

pub over-loop-index-preserved : goal.over-loop-index-preserved
over-loop-index-preserved g t c = λ o a at h w s b. one_more c.args.context.source.now (g.N.Nested.readers c.args.nested.now c.args.context.source.now) (do_owner_of c.args.do_owner) o a w s c.args.levels.now level.Product c.loop-index.index (omega arith) (c.loop-index.invariant o a at h w s b) (λ x r z n k. c.in_ok-left.ensures.reads o x at k r z n)

pub over-returns : goal.over-returns
over-returns g t c = record { reads = λ o a at h w s b. all_over c.args.context.source.now (g.N.Nested.readers c.args.nested.now c.args.context.source.now) (do_owner_of c.args.do_owner) o a w s c.args.levels.now c.loop-index.index (omega arith) (c.loop-index.invariant o a at h w s b) }

pub compared-returns-then-is_equality : goal.compared-returns-then-is_equality
unfolding compare
compared-returns-then-is_equality g t c = record { reads = λ o a at h w s b. yes _ (seen_in (λ x t. mark_in x equality_marks t) c.is_equality.ensures c.lookahead.ensures.source (sees c.lookahead.ensures.rest b) c.if-is_equality.true) (c.turn.ensures.reads o a at h w s b) }

pub compared-returns-then-is_mark : goal.compared-returns-then-is_mark
unfolding compare
compared-returns-then-is_mark g t c = record { reads = λ o a at h w s b. no _ (seen_in (λ x t. mark_in x equality_marks t) c.is_equality.ensures c.lookahead.ensures.source (sees c.lookahead.ensures.rest b) c.if-is_equality.false) (yes _ (sym (c.is_mark.ensures w s b) ∙ c.if-is_mark.true) (c.turn-then-is_mark.ensures.reads o a at h w s b)) }

pub compared-returns : goal.compared-returns
unfolding compare
compared-returns g t c = record { reads = λ o a at h w s b. no _ (seen_in (λ x t. mark_in x equality_marks t) c.is_equality.ensures c.lookahead.ensures.source (sees c.lookahead.ensures.rest b) c.if-is_equality.false) (no _ (sym (c.is_mark.ensures w s b) ∙ c.if-is_mark.false) (gave b (later_same _) h)) }

pub ranged-returns-then-is_mark : goal.ranged-returns-then-is_mark
unfolding ranged
ranged-returns-then-is_mark g t c = record { reads = λ o a at h w s b. yes _ (sym (c.is_mark.ensures w s b) ∙ c.if-is_mark.true) (c.turn.ensures.reads o a at h w s b) }

pub ranged-returns-then-is_mark-2 : goal.ranged-returns-then-is_mark-2
unfolding ranged
ranged-returns-then-is_mark-2 g t c = record { reads = λ o a at h w s b. no _ (sym (c.is_mark.ensures w s b) ∙ c.if-is_mark.false) (yes _ (sym (c.is_mark-2.ensures w s b) ∙ c.if-is_mark-2.true) (c.turn-then-is_mark-2.ensures.reads o a at h w s b)) }

pub ranged-returns : goal.ranged-returns
unfolding ranged
ranged-returns g t c = record { reads = λ o a at h w s b. no _ (sym (c.is_mark.ensures w s b) ∙ c.if-is_mark.false) (no _ (sym (c.is_mark-2.ensures w s b) ∙ c.if-is_mark-2.false) (gave b (later_same _) h)) }

pub rest-loop-do_owner-init : goal.rest-loop-do_owner-init
rest-loop-do_owner-init g t c = λ o a at h w s b. begins _ _ _ _ o a h b

pub rest-returns-in_err-left : goal.rest-returns-in_err-left
rest-returns-in_err-left g t c = record { reads = λ o a at h w s b. let k = c.loop-do_owner.invariant o a at h w s b in handed _ _ c.from_residual.ensures.1 (fails _ _ _ _ o k (sym (c.joins_here.ensures.is _ _ k.stands) ∙ c.loop-do_owner-test.true) (turned_by c.args.context.source.now (read_level c.args.context.source.now (g.N.Nested.readers c.args.nested.now c.args.context.source.now) (levels_of c.args.below.now) (do_owner_of c.args.do_owner)) o k.tree k.toks k.scope c.operation-operation.ensures (c.in_err-left.ensures.reads o k.tree at k.holds k.toks k.scope k.stands))) }

pub rest-loop-do_owner-preserved : goal.rest-loop-do_owner-preserved
rest-loop-do_owner-preserved g t c = λ o a at h w s b.
    let k = c.loop-do_owner.invariant o a at h w s b in
    let some : 0 < length c.loop-do_owner.parser.rest.now = c.joins_here.ensures.some c.loop-do_owner-test.true in
    let fewer : length c.turn.new.parser.rest.now ≤ length c.loop-do_owner.parser.rest.now - 1 = c.in_ok-left.ensures.fewer _ refl in
    goes_on _ _ _ _ o k (sym (c.joins_here.ensures.is _ _ k.stands) ∙ c.loop-do_owner-test.true) (omega arith) (turned_by c.args.context.source.now (read_level c.args.context.source.now (g.N.Nested.readers c.args.nested.now c.args.context.source.now) (levels_of c.args.below.now) (do_owner_of c.args.do_owner)) o k.tree k.toks k.scope c.operation-operation.ensures (c.in_ok-left.ensures.reads o k.tree at k.holds k.toks k.scope k.stands))

pub rest-returns : goal.rest-returns
rest-returns g t c = record { reads = λ o a at h w s b. let k = c.loop-do_owner.invariant o a at h w s b in ends _ _ _ _ o k (sym (c.joins_here.ensures.is _ _ k.stands) ∙ c.loop-do_owner-test.false) }

pub turn-returns-clause-reads : goal.turn-returns-clause-reads
turn-returns-clause-reads g t c = λ o a at h w s b.
    from c.bump.ensures.later (c.made_with.ensures.gives _ o w a _ at c.lookahead-operator.ensures.source (sees c.lookahead-operator.ensures.rest b) (later _ _ c.bump.ensures.later.names _ _ h) (c.operand-right.ensures.reads _ _ (c.bump.ensures.at w s b)))

pub turn-returns-clause-fewer : goal.turn-returns-clause-fewer
turn-returns-clause-fewer g t c = λ x is.
    let made = c.made_with.ensures.later _ _ x (c.operand-right.ensures.reads _ _ (here _)) is in
    let one : length c.bump.new.self.rest.now ≡ length c.args.parser.now.rest.now - 1 = c.bump.ensures.rest in
    let two : length c.made_with.new.parser.rest.now ≤ length c.bump.new.self.rest.now = made.rest in
    omega arith

pub operand-returns-in_err-first : goal.operand-returns-in_err-first
unfolding read_level
operand-returns-in_err-first g t c = record { reads = λ w s a. handed _ _ c.from_residual.ensures.1 (failed _ (c.in_err-first.ensures.reads w s a)) }

pub operand-returns : goal.operand-returns
unfolding read_level
operand-returns g t c = record { reads = λ w s a. and_then (c.in_ok-first.ensures.reads w s a) (λ x r z b h. c.over.ensures.reads w x (c.position-here.ensures ∙ ap position (sees c.lookahead.ensures.rest a)) h r z b) }
