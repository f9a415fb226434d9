use Rattle.std.proofs.Common.{◌≡◌, ◌-◌, ◌++◌, suc, length, replicate}
use Rattle.small_form.specs.declared.tree.Line.TheVariants as line
use Rattle.small_form.proofs.files.push_empty.Given as goal

abbrev pub invariant-loop-lines : goal.invariant-loop-lines
invariant-loop-lines l = l.lines ++ replicate (l.number - suc (length l.lines)) line.Empty ≡ l.initial.lines ++ replicate (l.number - suc (length l.initial.lines)) line.Empty

abbrev pub decreases-loop-lines : goal.decreases-loop-lines
decreases-loop-lines l = l.number - length l.lines
