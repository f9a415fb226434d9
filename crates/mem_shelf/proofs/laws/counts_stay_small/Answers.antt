use Rattle.std.proofs.Common.{nat_le}
use Rattle.std.proofs.lemmas.List.Sums.{count_by-le-length}
use Rattle.mem_shelf.proofs.laws.counts_stay_small.Goals as goal

pub returns : goal.returns
returns c = λ schedule. count_by-le-length (λ k. nat_le k schedule.calls) schedule.fail
