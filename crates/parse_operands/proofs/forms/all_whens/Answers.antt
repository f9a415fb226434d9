use Rattle.std.proofs.Common.{suc}
use Rattle.ruby_tree.specs.Rules.{DoBlockOwner}
use Rattle.ruby_tree.specs.FaultLine.{count_of}
use Rattle.tree_builder.proofs.GoesOn.{other_later, whens_later}
use Rattle.reference_parser.specs.ReadItems.{Readers}
use Rattle.reference_parser.specs.ReadBodies.{read_else, when_list}
use Rattle.parse_state.proofs.Steps.{later_then, failed, handed, wanting}
use Rattle.parse_state.proofs.Tools.{at_spot, told_as, so}
use Rattle.parse_operands.proofs.Counts.{under}
use Rattle.parse_operands.proofs.forms.all_whens.Goals as goal

pub returns-in_err-parts : goal.returns-in_err-parts
returns-in_err-parts g c = record { reads = λ o v e h w s a. let Q : Readers = g.N.Nested.readers c.args.nested.now c.args.context.source.now in handed _ _ c.from_residual.ensures.1 (failed _ (told_as (λ (d : DoBlockOwner). when_list c.args.context.source.now Q (suc (count_of w)) d w s) c.within-within.ensures (c.in_err-parts.ensures.reads (suc (count_of w)) w s a (under w)))) }

pub returns-in_err-other : goal.returns-in_err-other
returns-in_err-other g c = record { reads = λ o v e h w s a. let Q : Readers = g.N.Nested.readers c.args.nested.now c.args.context.source.now in handed _ _ c.from_residual-in_err-other.ensures.1 (so (told_as (λ (d : DoBlockOwner). when_list c.args.context.source.now Q (suc (count_of w)) d w s) c.within-within.ensures (c.in_ok-parts.ensures.reads (suc (count_of w)) w s a (under w))) (λ t1 r1 z1 b1 l1 h1. failed _ (told_as (λ (d : DoBlockOwner). read_else c.args.context.source.now Q d r1 z1) c.within-within.ensures (c.in_err-other.ensures.reads _ _ b1)))) }

pub returns-in_err-whole : goal.returns-in_err-whole
returns-in_err-whole g c = record { reads = λ o v e h w s a. wanting _ c.from_residual-in_err-whole.ensures.1 }

pub returns : goal.returns
returns g c = record { reads = λ o v e h w s a. let Q : Readers = g.N.Nested.readers c.args.nested.now c.args.context.source.now in so (told_as (λ (d : DoBlockOwner). when_list c.args.context.source.now Q (suc (count_of w)) d w s) c.within-within.ensures (c.in_ok-parts.ensures.reads (suc (count_of w)) w s a (under w))) (λ t1 r1 z1 b1 l1 h1. so (told_as (λ (d : DoBlockOwner). read_else c.args.context.source.now Q d r1 z1) c.within-within.ensures (c.in_ok-other.ensures.reads _ _ b1)) (λ t2 r2 z2 b2 l2 h2. c.ended.ensures.reads Q _ (at_spot e (c.in_ok-whole.ensures.made _ v _ _ (other_later _ _ (later_then l1 (l2)).names _ _ h) (whens_later _ _ (l2).names _ _ h1) h2)) _ _ b2)) }
