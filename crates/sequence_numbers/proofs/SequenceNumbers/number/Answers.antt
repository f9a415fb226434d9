use Rattle.std.proofs.Common.{◌≡◌, nat_lt, suc, ap, sym, subst, ◌∙◌, add-one, rules}
use Rattle.std.specs.List.Sorted.{IsNonDecreasing}
use Rattle.std.proofs.lemmas.List.Sorted.{IsPartitionPoint-from_clause, IsPartitionedBy-ltb}
use Rattle.ruby_meaning.specs.Sequences.{count_below}
use Rattle.sequence_numbers.proofs.Counted.{point-count}
use Rattle.sequence_numbers.proofs.SequenceNumbers.number.Goals as goal

pub returns : goal.returns
returns c =
    let sorted : IsNonDecreasing c.deref.result.now = subst IsNonDecreasing (sym c.deref.ensures.value) c.self.invariant in
    let parted = IsPartitionedBy-ltb (λ x. x) _ c.args.place sorted in
    let point = IsPartitionPoint-from_clause (λ x. nat_lt x c.args.place) _ _ c.partition_point.ensures.partitioned parted (λ a r q k. search rules) in
    let count : count_below c.args.place c.deref.result.now ≡ c.partition_point.result = point-count _ _ _ c.partition_point.ensures.bound point in
    add-one _ ∙ ap suc (sym count ∙ ap (count_below c.args.place) (c.deref.ensures.value ∙ c.self.view_is))
