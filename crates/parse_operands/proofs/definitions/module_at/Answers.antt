use Rattle.ruby_tree.specs.Names.{Extends}
use Rattle.ruby_tree.specs.Tree.{at, no_param}
use Rattle.ruby_tree.specs.Rules.{DoBlockOwner, next, position, fresh}
use Rattle.tree_builder.proofs.GoesOn.{later, named_later}
use Rattle.reference_parser.specs.ReadItems.{Readers}
use Rattle.reference_parser.specs.ReadBodies.{read_body}
use Rattle.parse_state.specs.Standing.{Later}
use Rattle.parse_state.proofs.Steps.{later_then, from, cut, handed, wanting}
use Rattle.parse_state.proofs.Tools.{at_spot, told_as, so_step, inside, failed_inside, body_later, body_names}
use Rattle.parse_operands.proofs.definitions.module_at.Goals as goal

pub returns-in_err-name : goal.returns-in_err-name
returns-in_err-name g c = record { reads = λ w s a. handed _ _ c.from_residual.ensures.1 (from c.bump.ensures.later (cut (c.in_err-name.ensures.gives _ _ (c.bump.ensures.at _ _ a)))) }

pub returns-in_err-code : goal.returns-in_err-code
returns-in_err-code g c = record { reads = λ w s a. let Q : Readers = g.N.Nested.readers c.args.nested.now c.args.context.source.now in handed _ _ c.from_residual-in_err-code.ensures.1 (from c.bump.ensures.later (so_step (c.in_ok-name.ensures.gives _ _ (c.bump.ensures.at _ _ a)) (λ b1 l1 h1. from c.bump-2.ensures.later (from c.bump-3.ensures.later (failed_inside _ (told_as (λ (e : DoBlockOwner). read_body c.args.context.source.now Q e (position (next (next (next w)))) (next (next (next w))) fresh) c.within-within.ensures (c.in_err-code.ensures.reads _ _ (c.enter_body-around.ensures.at _ _ (c.bump-3.ensures.at _ _ (c.bump-2.ensures.at _ _ b1)))))))))) }

pub returns-in_err-inner : goal.returns-in_err-inner
returns-in_err-inner g c = record { reads = λ w s a. wanting _ c.from_residual-in_err-inner.ensures.1 }

pub returns-in_err-whole : goal.returns-in_err-whole
returns-in_err-whole g c = record { reads = λ w s a. wanting _ c.from_residual-in_err-whole.ensures.1 }

pub returns : goal.returns
returns g c = record { reads = λ w s a. let Q : Readers = g.N.Nested.readers c.args.nested.now c.args.context.source.now in from c.bump.ensures.later (so_step (c.in_ok-name.ensures.gives _ _ (c.bump.ensures.at _ _ a)) (λ b1 l1 h1. from c.bump-2.ensures.later (from c.bump-3.ensures.later (inside (told_as (λ (e : DoBlockOwner). read_body c.args.context.source.now Q e (position (next (next (next w)))) (next (next (next w))) fresh) c.within-within.ensures (c.in_ok-code.ensures.reads _ _ (c.enter_body-around.ensures.at _ _ (c.bump-3.ensures.at _ _ (c.bump-2.ensures.at _ _ b1))))) (λ t4 r4 z4 b4 l4 h4. let m : Later _ _ = body_later c.enter_body-around.ensures.same c.enter_body-around.ensures.rest c.enter_body-around.ensures.locals l4 c.leave_body.ensures.later in let n : Extends _ _ = body_names c.plain_body.new.parser c.leave_body.ensures.later in from m (c.ended.ensures.reads Q _ (at_spot (c.position_here-here.ensures _ _ a) (c.in_ok-whole.ensures.made _ _ _ (named_later _ _ (later_then c.bump-2.ensures.later (later_then c.bump-3.ensures.later m)).names _ _ h1) (at_spot (c.position_here-here.ensures _ _ a) (c.in_ok-inner.ensures.made _ no_param t4 (c.new-params.ensures _) (later _ _ n _ _ h4))))) _ _ (c.leave_body.ensures.at _ _ _ _ _ (c.bump-3.ensures.at _ _ (c.bump-2.ensures.at _ _ b1)) c.enter_body-around.ensures.locals c.enter_body-around.ensures.clause b4))))))) }
