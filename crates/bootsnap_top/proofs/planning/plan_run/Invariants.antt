use Rattle.std.proofs.Common.{◌≡◌, ◌+◌, false, length}
use Rattle.bootsnap_top.specs.Plan.{plan_from, no_options}
use Rattle.bootsnap_top.proofs.planning.plan_run.Given as goal

-- the plan is what the words that are left ask for behind these options
abbrev pub invariant-loop-left : goal.invariant-loop-left
invariant-loop-left l = record {
  plan : plan_from l.place false l.options l.left ≡ plan_from 2 false no_options l.words;
  counted : l.place + length l.left ≡ length l.words + 2;
}

abbrev pub decreases-loop-left : goal.decreases-loop-left
decreases-loop-left l = length l.left
