use Rattle.std.proofs.Common.{rules, ◌≡◌, ◌+◌, ◌-◌, List, [], Err, length, take, subst, sym, refl, arith}
use Rattle.msgpack_codec.specs.declared.value.Value.{Value}
use Rattle.msgpack_codec.specs.declared.value.Value.TheVariants as value
use Rattle.msgpack_codec.specs.Reading.{Found, Sequence}
use Rattle.msgpack_codec.specs.Heads.{HeadAt}
use Rattle.msgpack_codec.specs.Values.{ValueAt, ListAt, MapAt, ItemAt, PairAt, next_item, next_used}
use Rattle.msgpack_codec.proofs.Chains.{stopped_result}
use Rattle.msgpack_codec.proofs.Keys.{take_front}
use Rattle.msgpack_codec.proofs.Loops.{list_stop, list_step, list_end, key_stops, value_stops, map_step, map_end, more_keys, value_stop, list_value, map_value, scalar_value, no_nest, nests, HasKeys}
use Rattle.msgpack_codec.proofs.decoding.+values.Goals as goal

pub list-returns-in_err-item : goal.list-returns-in_err-item
list-returns-in_err-item t c =
    let e = c.in_err-item.field-0.0 in
    let is : c.from_residual.result ≡ Err e = search rules in
    stopped_result (ListAt c.args.levels c.args.count) c.args.bytes.now c.from_residual.result e is
    (list_stop c.args.levels c.args.count c.args.bytes.now c.loop.counter c.loop.items.items c.loop.rest.now e c.loop-test.true c.loop.invariant c.in_err-item.ensures)

pub list-loop-preserved : goal.list-loop-preserved
list-loop-preserved t c =
    subst (λ (all : List Value). Found (Sequence (ItemAt c.args.levels) next_item tt (c.loop.counter + 1)) all c.args.bytes.now c.in_ok-item.after.now) (sym c.in_ok-push.ensures.items)
    (list_step c.args.levels c.args.count c.args.bytes.now c.loop.counter c.loop.items.items c.loop.rest.now c.in_ok-item.after.now c.in_ok-item.item c.loop.invariant c.in_ok-item.ensures)

pub list-returns : goal.list-returns
list-returns t c =
    let n : c.loop.counter ≡ c.args.count = omega arith in
    subst (λ (all : List Value). Found (ListAt c.args.levels c.args.count) (value.List all) c.args.bytes.now c.loop.rest.now) (sym c.from_vec.ensures)
    (list_end c.args.levels c.args.count c.args.bytes.now c.loop.items.items c.loop.rest.now
    (subst (λ k. Found (Sequence (ItemAt c.args.levels) next_item tt k) c.loop.items.items c.args.bytes.now c.loop.rest.now) n c.loop.invariant))

pub map-key-requires : goal.map-key-requires
map-key-requires t c = let n : length c.loop.used ≡ c.loop.counter = c.loop.invariant.keys.count in omega arith

pub map-returns-in_err-key : goal.map-returns-in_err-key
map-returns-in_err-key t c =
    let e = c.in_err-key.field-0.0 in
    let is : c.from_residual.result ≡ Err e = search rules in
    stopped_result (MapAt c.args.levels c.args.count) c.args.bytes.now c.from_residual.result e is
    (key_stops c.args.levels c.args.count c.args.bytes.now (omega arith) c.loop.used c.loop.counter c.loop.pairs.items c.loop.rest.now e c.loop-test.true c.loop.invariant.front c.loop.invariant.keys c.in_err-key.ensures)

pub map-returns-in_err-value : goal.map-returns-in_err-value
map-returns-in_err-value t c =
    let e = c.in_err-value.field-0.0 in
    let is : c.from_residual-in_err-value.result ≡ Err e = search rules in
    stopped_result (MapAt c.args.levels c.args.count) c.args.bytes.now c.from_residual-in_err-value.result e is
    (value_stops c.args.levels c.args.count c.args.bytes.now (omega arith) c.loop.used c.loop.counter c.loop.pairs.items c.in_ok-key.key c.loop.rest.now c.in_ok-key.after.now e c.loop-test.true c.loop.invariant.front c.loop.invariant.keys c.in_ok-key.ensures c.in_err-value.ensures)

pub map-loop-preserved : goal.map-loop-preserved
map-loop-preserved t c =
    let r = c.loop.rest.now in
    let q = c.in_ok-key.after.now in
    let found = c.in_ok-key.ensures in
    record {
      front =
          subst (λ (all : List (Value × Value)). Found (Sequence (PairAt c.args.levels) next_used [] (c.loop.counter + 1)) all c.args.bytes.now c.in_ok-value.after.now) (sym c.in_ok-push.ensures.items)
          (map_step c.args.levels c.args.count c.args.bytes.now (omega arith) c.loop.used c.loop.counter c.loop.pairs.items c.in_ok-key.key c.in_ok-value.value r q c.in_ok-value.after.now c.loop.invariant.front c.loop.invariant.keys found c.in_ok-value.ensures);
      keys =
          subst (λ (all : List (Value × Value)). HasKeys c.add.new.self all (c.loop.counter + 1)) (sym c.in_ok-push.ensures.items)
          (more_keys c.loop.used c.add.new.self c.loop.pairs.items c.loop.counter c.in_ok-key.key c.in_ok-value.value r q (take (length r - length q) r) c.loop.invariant.keys found
          (take_front found.spelling q r (length q) found.parts refl) c.in_ok-add.ensures.has c.in_ok-add.ensures.length);
    }

pub map-returns : goal.map-returns
map-returns t c =
    let n : c.loop.counter ≡ c.args.count = omega arith in
    subst (λ (all : List (Value × Value)). Found (MapAt c.args.levels c.args.count) (value.Map all) c.args.bytes.now c.loop.rest.now) (sym c.from_vec.ensures)
    (map_end c.args.levels c.args.count c.args.bytes.now (omega arith) c.loop.pairs.items c.loop.rest.now
    (subst (λ k. Found (Sequence (PairAt c.args.levels) next_used [] k) c.loop.pairs.items c.args.bytes.now c.loop.rest.now) n c.loop.invariant.front))

pub value-returns-in_err-head : goal.value-returns-in_err-head
value-returns-in_err-head t c =
    let e = c.in_err-head.field-0.0 in
    let is : c.from_residual.result ≡ Err e = search rules in
    stopped_result (ValueAt c.args.levels) c.args.bytes.now c.from_residual.result e is (value_stop c.args.levels c.args.bytes.now e c.in_err-head.ensures)

pub value-returns-in-List : goal.value-returns-in-List
value-returns-in-List t c =
    list_value c.args.levels c.in-List.count c.args.bytes.now c.in_ok-head.rest.now
    (subst (λ h. Found (HeadAt (nests c.args.levels)) h c.args.bytes.now c.in_ok-head.rest.now) c.in-List.is c.in_ok-head.ensures) c.list.result c.list.ensures

pub value-returns-in-Map : goal.value-returns-in-Map
value-returns-in-Map t c =
    map_value c.args.levels c.in-Map.count c.args.bytes.now c.in_ok-head.rest.now
    (subst (λ h. Found (HeadAt (nests c.args.levels)) h c.args.bytes.now c.in_ok-head.rest.now) c.in-Map.is c.in_ok-head.ensures) c.map.result c.map.ensures

pub value-returns-in_default : goal.value-returns-in_default
value-returns-in_default t c =
    scalar_value c.args.levels c.in_ok-head.head c.args.bytes.now c.in_ok-head.rest.now (no_nest c.in_ok-head.head c.in_default.not-List c.in_default.not-Map) c.in_ok-head.ensures c.scalar_body.result c.scalar_body.ensures
