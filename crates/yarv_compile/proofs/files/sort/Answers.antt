use Rattle.std.proofs.Common.{rules}
use Rattle.std.proofs.lemmas.List.Sorted.{IsNonDecreasingBy-from_sort_by_key}
use Rattle.yarv_compile.specs.declared.units.Finished.{Finished}
use Rattle.yarv_compile.proofs.files.sort.Goals as goal

pub returns-clause-order : goal.returns-clause-order
returns-clause-order c = IsNonDecreasingBy-from_sort_by_key (λ (f : Finished). f.place) c.sort_unstable_by_key.new.self.items c.sort_unstable_by_key.ensures.sorted (search rules)
