use Rattle.std.proofs.Common.{sym, suc, length, ◌∙◌}
use Rattle.ruby_tree.specs.Rules.{next}
use Rattle.ruby_tree.specs.FaultLine.{count_of}
use Rattle.tree_builder.proofs.GoesOn.{later}
use Rattle.reference_parser.specs.ReadItems.{Readers}
use Rattle.parse_state.specs.Standing.{toks_of, scope_of}
use Rattle.parse_state.proofs.Steps.{here, later_same, later_then, later_of}
use Rattle.parse_state.specs.Forms.{holds_element}
use Rattle.parse_operands.specs.Turns.{ended}
use Rattle.parse_operands.proofs.Turning.{turn_from, turn_yes, turn_no, turn_handed, turn_then, turn_failed, behind_later, if_shorter}
use Rattle.parse_operands.proofs.Counts.{under, under_later}
use Rattle.parse_operands.proofs.postfixes.index_from.Goals as goal

pub returns-in_err-first-clause-turns : goal.returns-in_err-first-clause-turns
returns-in_err-first-clause-turns g c = λ F o b v s e h a. turn_handed _ _ c.from_residual.ensures.1 (turn_failed _ (c.in_err-first.ensures.reads _ _ a))

pub returns-then-index_set_here-clause-turns : goal.returns-then-index_set_here-clause-turns
returns-then-index_set_here-clause-turns g c = λ F o b v s e h a. turn_then (c.in_ok-first.ensures.reads _ _ a) (λ t1 r1 z1 b1 l1 h1. turn_yes _ (sym (c.index_set_here.ensures _ _ b1) ∙ c.if-index_set_here.true) (turn_from c.bump.ensures.later (ended (c.bump.ensures.at _ _ b1) (later_same _) (holds_element (later _ _ (later_then l1 c.bump.ensures.later).names _ _ h) e (later _ _ c.bump.ensures.later.names _ _ h1)))))

pub returns-in_err-given-clause-turns : goal.returns-in_err-given-clause-turns
returns-in_err-given-clause-turns g c = λ F o b v s e h a. turn_handed _ _ c.from_residual-in_err-given.ensures.1 (turn_then (c.in_ok-first.ensures.reads _ _ a) (λ t1 r1 z1 b1 l1 h1. turn_no _ (sym (c.index_set_here.ensures _ _ b1) ∙ c.if-index_set_here.false) (turn_failed _ (c.in_err-given.ensures.reads (next v) t1 (c.position_here-first_spot.ensures _ _ a) h1 (suc (count_of v)) r1 z1 b1 (under_later v a b1 l1)))))

pub returns-clause-turns : goal.returns-clause-turns
returns-clause-turns g c = let Q : Readers = g.N.Nested.readers c.args.nested.now c.args.context.source.now in λ F o b v s e h a. turn_then (c.in_ok-first.ensures.reads _ _ a) (λ t1 r1 z1 b1 l1 h1. turn_no _ (sym (c.index_set_here.ensures _ _ b1) ∙ c.if-index_set_here.false) (turn_then (c.in_ok-given.ensures.reads (next v) t1 (c.position_here-first_spot.ensures _ _ a) h1 (suc (count_of v)) r1 z1 b1 (under_later v a b1 l1)) (λ t2 r2 z2 b2 l2 h2. c.end_index.ensures.turns Q F o b v t2 r2 z2 e (later _ _ (later_then l1 l2).names _ _ h) h2 b2)))

pub returns-clause-shorter : goal.returns-clause-shorter
returns-clause-shorter g c =
    let first = c.in_ok-first.ensures.reads (toks_of c.args.parser.now) (scope_of c.args.parser.now) (here c.args.parser.now) in
    let position = c.position_here-first_spot.ensures (toks_of c.args.parser.now) (scope_of c.args.parser.now) (here c.args.parser.now) in
    let read = behind_later first (λ t h. later_of (c.in_ok-given.ensures.reads (toks_of c.args.parser.now) t position h (suc (count_of (toks_of c.argument.new.parser))) (toks_of c.argument.new.parser) (scope_of c.argument.new.parser) (here c.argument.new.parser) (under (toks_of c.argument.new.parser)))) in
    if_shorter c.end_index.result (length c.end_index.new.parser.rest.now) (length c.items_behind.new.parser.rest.now) (length c.args.parser.now.rest.now) read.rest c.end_index.ensures.shorter
