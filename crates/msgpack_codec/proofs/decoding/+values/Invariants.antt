use Rattle.std.proofs.Common.{◌+◌, ◌*◌, []}
use Rattle.msgpack_codec.specs.Reading.{Found, Sequence}
use Rattle.msgpack_codec.specs.Values.{ItemAt, PairAt, next_item, next_used}
use Rattle.msgpack_codec.proofs.Loops.{HasKeys}
use Rattle.msgpack_codec.proofs.decoding.+values.Given as goal

abbrev pub decreases-list : goal.decreases-list
decreases-list l = 2 * l.levels + 1

abbrev pub decreases-map : goal.decreases-map
decreases-map l = 2 * l.levels + 1

abbrev pub decreases-value : goal.decreases-value
decreases-value l = 2 * l.levels

abbrev pub invariant-list-loop : goal.invariant-list-loop
invariant-list-loop l = Found (Sequence (ItemAt l.levels) next_item tt l.counter) l.items.items l.fn.bytes l.rest

abbrev pub invariant-map-loop : goal.invariant-map-loop
invariant-map-loop l = record {
  front : Found (Sequence (PairAt l.levels) next_used [] l.counter) l.pairs.items l.fn.bytes l.rest;
  keys : HasKeys l.used l.pairs.items l.counter;
}
