use Rattle.std.proofs.Common.{◌++◌, [], length, ◌∙◌, sym, ap, suc}
use Rattle.std.proofs.lemmas.List.Sorted.{IsNonDecreasingBy-from_sort, length_permutation}
use Rattle.ruby_tree.specs.Read.{tree_of}
use Rattle.ruby_meaning.specs.Sequences.{places, count_below}
use Rattle.sequence_numbers.proofs.Counted.{count-permutation}
use Rattle.sequence_numbers.proofs.Nameless.{names-same}
use Rattle.sequence_numbers.proofs.SequenceNumbers.of_tree.Goals as goal

pub invariant_of-result : goal.invariant_of-result
invariant_of-result c = IsNonDecreasingBy-from_sort (λ x. x) _ c.sort_unstable.ensures.sorted

pub returns-clause-numbers : goal.returns-clause-numbers
returns-clause-numbers c = λ texts place.
    let found = c.in_ok-add_tree.ensures ∙ ap (λ x. x ++ places (tree_of [] c.args.tree.now)) c.new-places.ensures.items in
    ap suc (count-permutation place _ _ c.sort_unstable.ensures.permutation ∙ ap (count_below place) (found ∙ sym (names-same texts c.args.tree.now)))

pub returns-clause-len : goal.returns-clause-len
returns-clause-len c = λ texts.
    let found = c.in_ok-add_tree.ensures ∙ ap (λ x. x ++ places (tree_of [] c.args.tree.now)) c.new-places.ensures.items in
    length_permutation _ _ c.sort_unstable.ensures.permutation ∙ ap length (found ∙ sym (names-same texts c.args.tree.now))
