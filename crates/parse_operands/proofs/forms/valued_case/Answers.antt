use Rattle.ruby_tree.specs.Tree.{at, with}
use Rattle.ruby_tree.specs.Rules.{DoBlockOwner, next}
use Rattle.tree_builder.proofs.GoesOn.{later}
use Rattle.reference_parser.specs.ReadItems.{Readers}
use Rattle.parse_state.proofs.Steps.{from, failed, handed, wanting}
use Rattle.parse_state.proofs.Tools.{told_as, so}
use Rattle.parse_operands.proofs.forms.valued_case.Goals as goal

pub returns-in_err-value : goal.returns-in_err-value
returns-in_err-value g c = record { reads = λ w s a. let Q : Readers = g.N.Nested.readers c.args.nested.now c.args.context.source.now in handed _ _ c.from_residual.ensures.1 (from c.bump.ensures.later (failed _ (told_as (λ (e : DoBlockOwner). Q.expr e (next w) s) c.within-within.ensures (c.in_err-value.ensures.reads _ _ (c.bump.ensures.at _ _ a))))) }

pub returns-in_err-given : goal.returns-in_err-given
returns-in_err-given g c = record { reads = λ w s a. wanting _ c.from_residual-in_err-given.ensures.1 }

pub returns : goal.returns
returns g c = record { reads = λ w s a. let Q : Readers = g.N.Nested.readers c.args.nested.now c.args.context.source.now in from c.bump.ensures.later (so (told_as (λ (e : DoBlockOwner). Q.expr e (next w) s) c.within-within.ensures (c.in_ok-value.ensures.reads _ _ (c.bump.ensures.at _ _ a))) (λ t1 r1 z1 b1 l1 h1. from c.skip_newlines.ensures.later (c.whens.ensures.reads w (with t1) (c.position_here-here.ensures _ _ a) (c.in_ok-given.ensures _ t1 (later _ _ (c.skip_newlines.ensures.later).names _ _ h1)) _ _ (c.skip_newlines.ensures.at _ _ b1)))) }
