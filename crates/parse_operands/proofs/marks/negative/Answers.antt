use Rattle.std.proofs.Common.{sym, rules, ℤ}
use Rattle.std.specs.Prelude.{neg_ℤ}
use Rattle.ruby_tree.specs.Tree.{at, integer}
use Rattle.ruby_tree.specs.Rules.{next, position, front}
use Rattle.reference_parser.specs.Answers.{taken}
use Rattle.reference_parser.specs.ReadOperands.{negative_by}
use Rattle.parse_state.specs.Gives.{no_syntax}
use Rattle.parse_state.proofs.Tools.{told_as}
use Rattle.parse_operands.proofs.Signs.{negative_some, negative_none}
use Rattle.parse_operands.proofs.marks.negative.Goals as goal

pub returns-in-Some : goal.returns-in-Some
unfolding negative_by
returns-in-Some c = record { reads = λ R w s a. negative_some c.args.context.source.now R w s (front (next w)) {n = c.in-Some.value} (sym (c.in-Some.ensures w s a)) (told_as (λ (n : ℤ). taken (at (position w) (integer (neg_ℤ n))) (next (next w)) s) (search rules) (c.negated.ensures.reads w s a)) }

pub returns-in-None : goal.returns-in-None
unfolding negative_by
returns-in-None c = record { reads = λ R w s a. negative_none c.args.context.source.now R w s (front (next w)) (sym (c.in-None.ensures w s a)) no_syntax }
