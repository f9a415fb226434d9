use Rattle.std.proofs.Common.{sym, ap, ◌∙◌, codes, if◌then◌else◌}
use Rattle.ruby_tree.specs.Rules.{is_mark}
use Rattle.reference_parser.specs.Answers.{taken, fault, ◌>>=◌}
use Rattle.reference_parser.specs.ReadItems.{read_items, command_items}
use Rattle.parse_state.specs.Gives.{gave, no_syntax}
use Rattle.parse_state.proofs.Steps.{yes, no, named, handed, failed, and_then, later_same}
use Rattle.parse_parts.proofs.calls.command_items.Goals as goal

pub returns-in_err-given : goal.returns-in_err-given
unfolding command_items
returns-in_err-given g c = record { reads = λ w s a. handed _ _ c.from_residual.ensures.1 (named (ap (λ d. read_items c.args.context.source.now (g.N.Nested.readers c.args.nested.now c.args.context.source.now) d w s >>= λ x r z. if is_mark c.args.context.source.now (codes ",") r then fault else taken x r z) (sym c.in_arguments.ensures)) (failed _ (c.in_err-given.ensures.reads w s a))) }

pub returns-then-is_mark : goal.returns-then-is_mark
unfolding command_items
returns-then-is_mark g c = record { reads = λ w s a. named (ap (λ d. read_items c.args.context.source.now (g.N.Nested.readers c.args.nested.now c.args.context.source.now) d w s >>= λ x r z. if is_mark c.args.context.source.now (codes ",") r then fault else taken x r z) (sym c.in_arguments.ensures)) (and_then (c.in_ok-given.ensures.reads w s a) (λ x q y b h. yes _ (sym (c.is_mark.ensures q y b) ∙ c.if-is_mark.true) no_syntax)) }

pub returns : goal.returns
unfolding command_items
returns g c = record { reads = λ w s a. named (ap (λ d. read_items c.args.context.source.now (g.N.Nested.readers c.args.nested.now c.args.context.source.now) d w s >>= λ x r z. if is_mark c.args.context.source.now (codes ",") r then fault else taken x r z) (sym c.in_arguments.ensures)) (and_then (c.in_ok-given.ensures.reads w s a) (λ x q y b h. no _ (sym (c.is_mark.ensures q y b) ∙ c.if-is_mark.false) (gave b (later_same _) h))) }
