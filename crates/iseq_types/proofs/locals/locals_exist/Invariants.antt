use Rattle.std.proofs.Common.{All, take}
use Rattle.iseq_types.specs.Sound.{FindsLocal}
use Rattle.iseq_types.proofs.locals.locals_exist.Given as goal

abbrev pub invariant-loop-line : goal.invariant-loop-line
invariant-loop-line l = All (λ line. FindsLocal l.rows l.id line.instr) (take l.line-index l.code)
