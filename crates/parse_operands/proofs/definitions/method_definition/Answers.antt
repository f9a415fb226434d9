use Rattle.ruby_tree.specs.Names.{Extends}
use Rattle.ruby_tree.specs.Tree.{at}
use Rattle.ruby_tree.specs.Rules.{DoBlockOwner, position, fresh}
use Rattle.tree_builder.proofs.GoesOn.{extends_then, later, named_later, params_later}
use Rattle.reference_parser.specs.ReadItems.{Readers}
use Rattle.reference_parser.specs.ReadBodies.{read_body, read_parameters}
use Rattle.reference_parser.specs.ReadOperands.{read_method}
use Rattle.parse_state.specs.Standing.{Later}
use Rattle.parse_state.proofs.Steps.{later_then, from, missed, handed, wanting}
use Rattle.parse_state.proofs.Tools.{at_spot, method_on, told_as, so_found, inside, failed_inside, body_later, body_names}
use Rattle.parse_operands.proofs.definitions.method_definition.Goals as goal

pub returns-in_err-on_self : goal.returns-in_err-on_self
unfolding read_method
returns-in_err-on_self g c = record { reads = λ w s a. handed _ _ c.from_residual.ensures.1 (from c.bump.ensures.later (missed _ (c.in_err-on_self.ensures.finds _ _ (c.bump.ensures.at _ _ a)))) }

pub returns-in_err-name : goal.returns-in_err-name
unfolding read_method
returns-in_err-name g c = record { reads = λ w s a. handed _ _ c.from_residual-in_err-name.ensures.1 (from c.bump.ensures.later (so_found (c.in_ok-on_self.ensures.finds _ _ (c.bump.ensures.at _ _ a)) (λ t1 r1 b1 l1 h1. missed _ (c.in_err-name.ensures.finds _ _ b1)))) }

pub returns-in_err-params : goal.returns-in_err-params
unfolding read_method
returns-in_err-params g c = record { reads = λ w s a. let Q : Readers = g.N.Nested.readers c.args.nested.now c.args.context.source.now in handed _ _ c.from_residual-in_err-params.ensures.1 (from c.bump.ensures.later (so_found (c.in_ok-on_self.ensures.finds _ _ (c.bump.ensures.at _ _ a)) (λ t1 r1 b1 l1 h1. so_found (c.in_ok-name.ensures.finds _ _ b1) (λ t2 r2 b2 l2 h2. failed_inside _ (told_as (λ (e : DoBlockOwner). read_parameters c.args.context.source.now Q e r2 fresh) c.within-within.ensures (c.in_err-params.ensures.reads _ _ (c.enter_body-around.ensures.at _ _ b2))))))) }

pub returns-in_err-code : goal.returns-in_err-code
unfolding read_method
returns-in_err-code g c = record { reads = λ w s a. let Q : Readers = g.N.Nested.readers c.args.nested.now c.args.context.source.now in handed _ _ c.from_residual-in_err-code.ensures.1 (from c.bump.ensures.later (so_found (c.in_ok-on_self.ensures.finds _ _ (c.bump.ensures.at _ _ a)) (λ t1 r1 b1 l1 h1. so_found (c.in_ok-name.ensures.finds _ _ b1) (λ t2 r2 b2 l2 h2. inside (told_as (λ (e : DoBlockOwner). read_parameters c.args.context.source.now Q e r2 fresh) c.within-within.ensures (c.in_ok-params.ensures.reads _ _ (c.enter_body-around.ensures.at _ _ b2))) (λ t3 r3 z3 b3 l3 h3. failed_inside _ (told_as (λ (e : DoBlockOwner). read_body c.args.context.source.now Q e (position r3) r3 z3) c.within-within.ensures (c.in_err-code.ensures.reads _ _ b3))))))) }

pub returns-in_err-inner : goal.returns-in_err-inner
returns-in_err-inner g c = record { reads = λ w s a. wanting _ c.from_residual-in_err-inner.ensures.1 }

pub returns-in_err-whole : goal.returns-in_err-whole
returns-in_err-whole g c = record { reads = λ w s a. wanting _ c.from_residual-in_err-whole.ensures.1 }

pub returns : goal.returns
unfolding read_method
returns g c = record { reads = λ w s a. let Q : Readers = g.N.Nested.readers c.args.nested.now c.args.context.source.now in from c.bump.ensures.later (so_found (c.in_ok-on_self.ensures.finds _ _ (c.bump.ensures.at _ _ a)) (λ t1 r1 b1 l1 h1. so_found (c.in_ok-name.ensures.finds _ _ b1) (λ t2 r2 b2 l2 h2. inside (told_as (λ (e : DoBlockOwner). read_parameters c.args.context.source.now Q e r2 fresh) c.within-within.ensures (c.in_ok-params.ensures.reads _ _ (c.enter_body-around.ensures.at _ _ b2))) (λ t3 r3 z3 b3 l3 h3. inside (told_as (λ (e : DoBlockOwner). read_body c.args.context.source.now Q e (position r3) r3 z3) c.within-within.ensures (c.in_ok-code.ensures.reads _ _ b3)) (λ t4 r4 z4 b4 l4 h4. let m : Later _ _ = body_later c.enter_body-around.ensures.same c.enter_body-around.ensures.rest c.enter_body-around.ensures.locals (later_then l3 l4) c.leave_body.ensures.later in let n : Extends _ _ = body_names c.plain_body.new.parser c.leave_body.ensures.later in from m (c.ended.ensures.reads Q _ (at_spot (c.position_here-here.ensures _ _ a) (method_on h1 (c.in_ok-whole.ensures.made _ _ _ (named_later _ _ m.names _ _ h2) (at_spot (c.position_here-here.ensures _ _ a) (c.in_ok-inner.ensures.made _ _ _ (params_later _ _ (extends_then _ _ _ l4.names n) _ _ h3) (later _ _ n _ _ h4)))))) _ _ (c.leave_body.ensures.at _ _ _ _ _ b2 c.enter_body-around.ensures.locals c.enter_body-around.ensures.clause b4))))))) }
