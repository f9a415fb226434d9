use Rattle.std.proofs.Common.{sym, ◌∙◌, ap, Some}
use Rattle.mem_shelf.proofs.LastOf.{last_of-here, last_of-before}
use Rattle.mem_shelf.proofs.lists.last_of.Goals as goal

pub returns-then-is_same_name : goal.returns-then-is_same_name
returns-then-is_same_name c =
    ap Some c.as_slice.ensures ∙ sym (last_of-here c.in-Some.before.now _ c.in-Some.file.now c.args.name.now c.in-Some.ensures.cases.0 (sym c.is_same_name.ensures ∙ c.if-is_same_name.true)) ∙ c.loop-file.invariant

pub loop-file-preserved : goal.loop-file-preserved
loop-file-preserved c =
    last_of-before c.in-Some.before.now _ c.in-Some.file.now c.args.name.now c.in-Some.ensures.cases.0 (sym c.is_same_name.ensures ∙ c.if-is_same_name.false) ∙ c.loop-file.invariant
