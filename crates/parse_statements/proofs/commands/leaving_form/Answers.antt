use Rattle.std.proofs.Common.{sym, subst}
use Rattle.ruby_tree.specs.Tree.{at}
use Rattle.ruby_tree.specs.SourcePositions.{position_of}
use Rattle.tree_builder.specs.Subtrees.{Holds}
use Rattle.parse_statements.specs.Commands.{leaving_form}
use Rattle.parse_statements.proofs.commands.leaving_form.Goals as goal

pub returns-in-Return : goal.returns-in-Return
returns-in-Return c = record { made = λ T ts h. subst (λ l. Holds T c.return_with.result (at (position_of c.args.here) (leaving_form l ts))) (sym c.in-Return.is) (c.return_with.ensures.made T ts h) }

pub returns-in-Break : goal.returns-in-Break
returns-in-Break c = record { made = λ T ts h. subst (λ l. Holds T c.break_with.result (at (position_of c.args.here) (leaving_form l ts))) (sym c.in-Break.is) (c.break_with.ensures.made T ts h) }

pub returns-in-Next : goal.returns-in-Next
returns-in-Next c = record { made = λ T ts h. subst (λ l. Holds T c.next_with.result (at (position_of c.args.here) (leaving_form l ts))) (sym c.in-Next.is) (c.next_with.ensures.made T ts h) }
