use Rattle.iseq_dump.proofs.number.+read_groups.Given as goal

abbrev pub decreases-read_groups : goal.decreases-read_groups
decreases-read_groups g l = l.more
