use Rattle.std.proofs.Common.{sym, ◌∙◌}
use Rattle.bs_outside.proofs.Cuts.{parts_at, parts_none}
use Rattle.bs_outside.proofs.parts.cut.Goals as goal

pub returns-in-Some-clause-parts : goal.returns-in-Some-clause-parts
returns-in-Some-clause-parts c = parts_at c.args.byte c.args.text.now c.in-Some.at (sym c.in-Some.ensures)

pub returns-in-None-clause-parts : goal.returns-in-None-clause-parts
returns-in-None-clause-parts c = parts_none c.args.byte c.args.text.now (sym c.place_of.ensures ∙ c.in-None.is)
