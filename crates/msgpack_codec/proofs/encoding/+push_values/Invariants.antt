use Rattle.std.proofs.Common.{◌≡◌, ◌+◌, ◌*◌, ◌++◌, map, drop}
use Rattle.std.specs.List.{AllByRecursion, concat}
use Rattle.msgpack_codec.specs.Message.{spelling_of, FitsWithin, IsSpellableScalar, IsScalar}
use Rattle.msgpack_codec.specs.Writing.{pair_spelling_of, PairFits}
use Rattle.msgpack_codec.proofs.encoding.+push_values.Given as goal

abbrev pub decreases-push_value : goal.decreases-push_value
decreases-push_value l = 2 * l.levels

abbrev pub decreases-push_items : goal.decreases-push_items
decreases-push_items l = 2 * l.levels + 1

abbrev pub decreases-push_pairs : goal.decreases-push_pairs
decreases-push_pairs l = 2 * l.levels + 1

abbrev pub invariant-push_items-loop-item : goal.invariant-push_items-loop-item
invariant-push_items-loop-item l = record {
  bytes : l.out.items ++ concat (map spelling_of (drop l.item-index l.items)) ≡ l.fn.out.items ++ concat (map spelling_of l.items);
  rest : AllByRecursion (FitsWithin IsSpellableScalar l.levels) (drop l.item-index l.items);
  ranges : AllByRecursion (FitsWithin IsScalar l.levels) (drop l.item-index l.items) → AllByRecursion (FitsWithin IsScalar l.levels) l.items;
}

abbrev pub invariant-push_pairs-loop-pair : goal.invariant-push_pairs-loop-pair
invariant-push_pairs-loop-pair l = record {
  bytes : l.out.items ++ concat (map pair_spelling_of (drop l.pair-index l.pairs)) ≡ l.fn.out.items ++ concat (map pair_spelling_of l.pairs);
  rest : AllByRecursion (PairFits IsSpellableScalar l.levels) (drop l.pair-index l.pairs);
  ranges : AllByRecursion (PairFits IsScalar l.levels) (drop l.pair-index l.pairs) → AllByRecursion (PairFits IsScalar l.levels) l.pairs;
}
