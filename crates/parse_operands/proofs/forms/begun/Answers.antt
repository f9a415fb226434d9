use Rattle.ruby_tree.specs.Tree.{SourcePosition, at}
use Rattle.ruby_tree.specs.Rules.{DoBlockOwner, next, within}
use Rattle.ruby_tree.specs.SourcePositions.{position_of}
use Rattle.token_lookahead.specs.Lookaheads.{do_owner_of}
use Rattle.tree_builder.proofs.GoesOn.{later}
use Rattle.reference_parser.specs.ReadItems.{Readers}
use Rattle.reference_parser.specs.ReadBodies.{read_body}
use Rattle.reference_parser.specs.ReadOperands.{read_begin}
use Rattle.parse_state.proofs.Steps.{from, failed, handed}
use Rattle.parse_state.proofs.Tools.{told_as, so}
use Rattle.parse_operands.proofs.forms.begun.Goals as goal

pub returns-in_err-part : goal.returns-in_err-part
unfolding read_begin
returns-in_err-part g c = record { reads = λ w s a. let Q : Readers = g.N.Nested.readers c.args.nested.now c.args.context.source.now in handed _ _ c.from_residual.ensures.1 (from c.bump.ensures.later (failed _ (told_as (λ (o : SourcePosition). read_body c.args.context.source.now Q (within (do_owner_of c.args.do_owner)) o (next w) s) (c.position_here-here.ensures _ _ a) (told_as (λ (e : DoBlockOwner). read_body c.args.context.source.now Q e (position_of c.position_here-here.result) (next w) s) c.within-within.ensures (c.in_err-part.ensures.reads _ _ (c.bump.ensures.at _ _ a)))))) }

pub returns : goal.returns
unfolding read_begin
returns g c = record { reads = λ w s a. let Q : Readers = g.N.Nested.readers c.args.nested.now c.args.context.source.now in from c.bump.ensures.later (so (told_as (λ (o : SourcePosition). read_body c.args.context.source.now Q (within (do_owner_of c.args.do_owner)) o (next w) s) (c.position_here-here.ensures _ _ a) (told_as (λ (e : DoBlockOwner). read_body c.args.context.source.now Q e (position_of c.position_here-here.result) (next w) s) c.within-within.ensures (c.in_ok-part.ensures.reads _ _ (c.bump.ensures.at _ _ a)))) (λ t1 r1 z1 b1 l1 h1. c.ended.ensures.reads Q _ h1 _ _ b1)) }
