use Rattle.ruby_tree.specs.Tree.{at}
use Rattle.ruby_tree.specs.Rules.{DoBlockOwner, next}
use Rattle.tree_builder.proofs.GoesOn.{later}
use Rattle.reference_parser.specs.ReadItems.{Readers}
use Rattle.reference_parser.specs.ReadOperands.{read_choice}
use Rattle.parse_state.proofs.Steps.{later_then, from, failed, missed, handed, wanting}
use Rattle.parse_state.proofs.Tools.{at_spot, told_as, so, so_found}
use Rattle.parse_operands.proofs.forms.choice.Goals as goal

pub returns-in_err-condition : goal.returns-in_err-condition
unfolding read_choice
returns-in_err-condition g c = record { reads = λ w s a. let Q : Readers = g.N.Nested.readers c.args.nested.now c.args.context.source.now in handed _ _ c.from_residual.ensures.1 (from c.bump.ensures.later (failed _ (told_as (λ (e : DoBlockOwner). Q.expr e (next w) s) c.within-within.ensures (c.in_err-condition.ensures.reads _ _ (c.bump.ensures.at _ _ a))))) }

pub returns-in_err-skip_then : goal.returns-in_err-skip_then
unfolding read_choice
returns-in_err-skip_then g c = record { reads = λ w s a. let Q : Readers = g.N.Nested.readers c.args.nested.now c.args.context.source.now in handed _ _ c.from_residual-in_err-skip_then.ensures.1 (from c.bump.ensures.later (so (told_as (λ (e : DoBlockOwner). Q.expr e (next w) s) c.within-within.ensures (c.in_ok-condition.ensures.reads _ _ (c.bump.ensures.at _ _ a))) (λ t1 r1 z1 b1 l1 h1. missed _ (c.in_err-skip_then.ensures.finds _ _ b1)))) }

pub returns-in_err-chosen : goal.returns-in_err-chosen
unfolding read_choice
returns-in_err-chosen g c = record { reads = λ w s a. let Q : Readers = g.N.Nested.readers c.args.nested.now c.args.context.source.now in handed _ _ c.from_residual-in_err-chosen.ensures.1 (from c.bump.ensures.later (so (told_as (λ (e : DoBlockOwner). Q.expr e (next w) s) c.within-within.ensures (c.in_ok-condition.ensures.reads _ _ (c.bump.ensures.at _ _ a))) (λ t1 r1 z1 b1 l1 h1. so_found (c.in_ok-skip_then.ensures.finds _ _ b1) (λ t2 r2 b2 l2 h2. failed _ (told_as (λ (e : DoBlockOwner). Q.stmts e r2 z1) c.within-within.ensures (c.in_err-chosen.ensures.reads _ _ b2)))))) }

pub returns-in_err-other : goal.returns-in_err-other
unfolding read_choice
returns-in_err-other g c = record { reads = λ w s a. let Q : Readers = g.N.Nested.readers c.args.nested.now c.args.context.source.now in handed _ _ c.from_residual-in_err-other.ensures.1 (from c.bump.ensures.later (so (told_as (λ (e : DoBlockOwner). Q.expr e (next w) s) c.within-within.ensures (c.in_ok-condition.ensures.reads _ _ (c.bump.ensures.at _ _ a))) (λ t1 r1 z1 b1 l1 h1. so_found (c.in_ok-skip_then.ensures.finds _ _ b1) (λ t2 r2 b2 l2 h2. so (told_as (λ (e : DoBlockOwner). Q.stmts e r2 z1) c.within-within.ensures (c.in_ok-chosen.ensures.reads _ _ b2)) (λ t3 r3 z3 b3 l3 h3. failed _ (told_as (λ (e : DoBlockOwner). Q.else_branches e r3 z3) c.within-within.ensures (c.in_err-other.ensures.reads _ _ b3))))))) }

pub returns-in_err-whole : goal.returns-in_err-whole
returns-in_err-whole g c = record { reads = λ w s a. wanting _ c.from_residual-in_err-whole.ensures.1 }

pub returns : goal.returns
unfolding read_choice
returns g c = record { reads = λ w s a. let Q : Readers = g.N.Nested.readers c.args.nested.now c.args.context.source.now in from c.bump.ensures.later (so (told_as (λ (e : DoBlockOwner). Q.expr e (next w) s) c.within-within.ensures (c.in_ok-condition.ensures.reads _ _ (c.bump.ensures.at _ _ a))) (λ t1 r1 z1 b1 l1 h1. so_found (c.in_ok-skip_then.ensures.finds _ _ b1) (λ t2 r2 b2 l2 h2. so (told_as (λ (e : DoBlockOwner). Q.stmts e r2 z1) c.within-within.ensures (c.in_ok-chosen.ensures.reads _ _ b2)) (λ t3 r3 z3 b3 l3 h3. so (told_as (λ (e : DoBlockOwner). Q.else_branches e r3 z3) c.within-within.ensures (c.in_ok-other.ensures.reads _ _ b3)) (λ t4 r4 z4 b4 l4 h4. c.ended.ensures.reads Q _ (at_spot (c.position_here-here.ensures _ _ a) (c.in_ok-whole.ensures.made _ _ _ _ (later _ _ (later_then l2 (later_then l3 (l4))).names _ _ h1) (later _ _ (l4).names _ _ h3) h4)) _ _ b4))))) }
