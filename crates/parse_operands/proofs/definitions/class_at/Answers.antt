use Rattle.ruby_tree.specs.Names.{Extends}
use Rattle.ruby_tree.specs.Tree.{at, no_param}
use Rattle.ruby_tree.specs.Rules.{DoBlockOwner, next, position, fresh}
use Rattle.tree_builder.proofs.GoesOn.{later, other_later, named_later}
use Rattle.reference_parser.specs.ReadItems.{Readers}
use Rattle.reference_parser.specs.ReadBodies.{read_body, read_superclass}
use Rattle.parse_state.specs.Standing.{Later}
use Rattle.parse_state.proofs.Steps.{later_then, from, unexpected, failed, cut, handed, wanting}
use Rattle.parse_state.proofs.Tools.{at_spot, told_as, so, so_step, so_met, inside, failed_inside, body_later, body_names}
use Rattle.parse_operands.proofs.definitions.class_at.Goals as goal

pub returns-in_err-name : goal.returns-in_err-name
returns-in_err-name g c = record { reads = λ w s a. handed _ _ c.from_residual.ensures.1 (from c.bump.ensures.later (cut (c.in_err-name.ensures.gives _ _ (c.bump.ensures.at _ _ a)))) }

pub returns-in_err-above : goal.returns-in_err-above
returns-in_err-above g c = record { reads = λ w s a. let Q : Readers = g.N.Nested.readers c.args.nested.now c.args.context.source.now in handed _ _ c.from_residual-in_err-above.ensures.1 (from c.bump.ensures.later (so_step (c.in_ok-name.ensures.gives _ _ (c.bump.ensures.at _ _ a)) (λ b1 l1 h1. from c.bump-2.ensures.later (failed _ (told_as (λ (e : DoBlockOwner). read_superclass c.args.context.source.now Q e (next (next w)) s) c.within-within.ensures (c.in_err-above.ensures.reads _ _ (c.bump-2.ensures.at _ _ b1))))))) }

pub returns-in_err-expect_newline : goal.returns-in_err-expect_newline
returns-in_err-expect_newline g c = record { reads = λ w s a. let Q : Readers = g.N.Nested.readers c.args.nested.now c.args.context.source.now in handed _ _ c.from_residual-in_err-expect_newline.ensures.1 (from c.bump.ensures.later (so_step (c.in_ok-name.ensures.gives _ _ (c.bump.ensures.at _ _ a)) (λ b1 l1 h1. from c.bump-2.ensures.later (so (told_as (λ (e : DoBlockOwner). read_superclass c.args.context.source.now Q e (next (next w)) s) c.within-within.ensures (c.in_ok-above.ensures.reads _ _ (c.bump-2.ensures.at _ _ b1))) (λ t2 r2 z2 b2 l2 h2. unexpected _ (c.in_err-expect_newline.ensures.expects _ _ b2)))))) }

pub returns-in_err-code : goal.returns-in_err-code
returns-in_err-code g c = record { reads = λ w s a. let Q : Readers = g.N.Nested.readers c.args.nested.now c.args.context.source.now in handed _ _ c.from_residual-in_err-code.ensures.1 (from c.bump.ensures.later (so_step (c.in_ok-name.ensures.gives _ _ (c.bump.ensures.at _ _ a)) (λ b1 l1 h1. from c.bump-2.ensures.later (so (told_as (λ (e : DoBlockOwner). read_superclass c.args.context.source.now Q e (next (next w)) s) c.within-within.ensures (c.in_ok-above.ensures.reads _ _ (c.bump-2.ensures.at _ _ b1))) (λ t2 r2 z2 b2 l2 h2. so_met (c.in_ok-expect_newline.ensures.expects _ _ b2) (λ b3 l3. failed_inside _ (told_as (λ (e : DoBlockOwner). read_body c.args.context.source.now Q e (position (next r2)) (next r2) fresh) c.within-within.ensures (c.in_err-code.ensures.reads _ _ (c.enter_body-outside.ensures.at _ _ b3))))))))) }

pub returns-in_err-inner : goal.returns-in_err-inner
returns-in_err-inner g c = record { reads = λ w s a. wanting _ c.from_residual-in_err-inner.ensures.1 }

pub returns-in_err-whole : goal.returns-in_err-whole
returns-in_err-whole g c = record { reads = λ w s a. wanting _ c.from_residual-in_err-whole.ensures.1 }

pub returns : goal.returns
returns g c = record { reads = λ w s a. let Q : Readers = g.N.Nested.readers c.args.nested.now c.args.context.source.now in from c.bump.ensures.later (so_step (c.in_ok-name.ensures.gives _ _ (c.bump.ensures.at _ _ a)) (λ b1 l1 h1. from c.bump-2.ensures.later (so (told_as (λ (e : DoBlockOwner). read_superclass c.args.context.source.now Q e (next (next w)) s) c.within-within.ensures (c.in_ok-above.ensures.reads _ _ (c.bump-2.ensures.at _ _ b1))) (λ t2 r2 z2 b2 l2 h2. so_met (c.in_ok-expect_newline.ensures.expects _ _ b2) (λ b3 l3. inside (told_as (λ (e : DoBlockOwner). read_body c.args.context.source.now Q e (position (next r2)) (next r2) fresh) c.within-within.ensures (c.in_ok-code.ensures.reads _ _ (c.enter_body-outside.ensures.at _ _ b3))) (λ t4 r4 z4 b4 l4 h4. let m : Later _ _ = body_later c.enter_body-outside.ensures.same c.enter_body-outside.ensures.rest c.enter_body-outside.ensures.locals l4 c.leave_body.ensures.later in let n : Extends _ _ = body_names c.plain_body.new.parser c.leave_body.ensures.later in from m (c.ended.ensures.reads Q _ (at_spot (c.position_here-here.ensures _ _ a) (c.in_ok-whole.ensures.made _ t2 _ _ (other_later _ _ (later_then l3 m).names _ _ h2) (named_later _ _ (later_then c.bump-2.ensures.later (later_then l2 (later_then l3 m))).names _ _ h1) (at_spot (c.position_here-here.ensures _ _ a) (c.in_ok-inner.ensures.made _ no_param t4 (c.new-params.ensures _) (later _ _ n _ _ h4))))) _ _ (c.leave_body.ensures.at _ _ _ _ _ b3 c.enter_body-outside.ensures.locals c.enter_body-outside.ensures.clause b4)))))))) }
