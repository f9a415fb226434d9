use Rattle.std.proofs.Common.{◌≡◌, ◌<◌, ◌∙◌, false, ◌++◌, ◌∷◌, [], length, ap, subst, sym, arith, append-nil, length-append}
use Rattle.msgpack_codec.specs.Reading.{Begins, Fails, Stopped}
use Rattle.msgpack_codec.specs.Heads.{HeadAt}
use Rattle.msgpack_codec.proofs.Keys.{begins_few, none_longer, head_unfinished, key_scalar, no_head, free_whole, never_live, type_live, one_byte}
use Rattle.msgpack_codec.proofs.live.+has_unused.Goals as goal

pub overflow_sub-room : goal.overflow_sub-room
overflow_sub-room t c =
    let text : c.as_slice.result.now ≡ c.args.text.now.items = c.as_slice.ensures.value in
    let few : length c.as_slice.result.now < 9 = begins_few false c.as_slice.result.now (subst (λ e. Stopped (HeadAt false) c.as_slice.result.now e) c.in-Err-Short.field-0-is c.in-Err-Short.ensures) in
    let same : length c.as_slice.result.now ≡ length c.args.text.now.items = ap length text in
    omega arith

pub has_unused_body-requires-clause-free : goal.has_unused_body-requires-clause-free
has_unused_body-requires-clause-free t c =
    let found = c.in-Ok.ensures in
    free_whole c.in-Ok.head found.spelling c.in-Ok.rest.now c.args.text.now.items c.in-Bytes.count found.spelled (sym c.as_slice.ensures.value ∙ found.parts) c.in-Bytes.ensures

pub has_unused_body-requires-in-Type-clause-free : goal.has_unused_body-requires-in-Type-clause-free
has_unused_body-requires-in-Type-clause-free t c =
    let found = c.in-Ok.ensures in
    let text = c.in_ok-push-in-Type.ensures.items in
    let parts : c.args.text.now.items ++ 0 ∷ [] ≡ found.spelling ++ 0 ∷ [] =
    ap (λ v. v ++ 0 ∷ []) (sym c.as_slice.ensures.value ∙ found.parts ∙ ap (λ v. found.spelling ++ v) c.in-Type.ensures.0 ∙ append-nil found.spelling) in
    free_whole c.in-Ok.head found.spelling (0 ∷ []) c.push.new.self.items c.in-Type.count found.spelled (text ∙ parts) c.in-Type.ensures.1

pub has_unused-requires : goal.has_unused-requires
has_unused-requires t c =
    let text : c.as_slice.result.now ≡ c.args.text.now.items = c.as_slice.ensures.value in
    let few : length c.as_slice.result.now < 9 = begins_few false c.as_slice.result.now (subst (λ e. Stopped (HeadAt false) c.as_slice.result.now e) c.in-Err-Short.field-0-is c.in-Err-Short.ensures) in
    let same : length c.as_slice.result.now ≡ length c.args.text.now.items = ap length text in
    let one : length c.push-in-loop-byte.new.self.items ≡ length (c.loop-byte.text.items ++ c.loop-byte.byte ∷ []) = ap length c.in_ok-push-in-Err-Short.ensures.items in
    let old : length c.loop-byte.text.items ≡ length c.args.text.now.items = ap length c.loop-byte.invariant.same in
    (omega arith, (c.requires.few, omega (arith, length-append c.loop-byte.text.items (c.loop-byte.byte ∷ []))))

pub returns-in-Never-clause-live : goal.returns-in-Never-clause-live
returns-in-Never-clause-live t c =
    let found = c.in-Ok.ensures in
    never_live c.args.used.now c.in-Ok.head found.spelling c.in-Ok.rest.now c.args.text.now.items found.spelled (sym c.as_slice.ensures.value ∙ found.parts) c.in-Never.ensures

pub returns-in_ok-found-in-Type-clause-live : goal.returns-in_ok-found-in-Type-clause-live
returns-in_ok-found-in-Type-clause-live t c =
    let found = c.in-Ok.ensures in
    let parts = sym c.as_slice.ensures.value ∙ found.parts ∙ ap (λ v. found.spelling ++ v) c.in-Type.ensures.0 in
    one_byte c.args.used.now c.args.text.now.items c.push.new.self.items c.in_ok-found-in-Type.found c.in_ok-push-in-Type.ensures.items
    (type_live c.args.used.now c.in-Ok.head found.spelling c.args.text.now.items found.spelled parts c.in-Type.ensures.2) c.in_ok-found-in-Type.ensures.live

pub returns-after-loop-byte-clause-live : goal.returns-after-loop-byte-clause-live
returns-after-loop-byte-clause-live t c =
    let begins = subst (Begins (HeadAt false)) c.as_slice.ensures.value (subst (λ e. Stopped (HeadAt false) c.as_slice.result.now e) c.in-Err-Short.field-0-is c.in-Err-Short.ensures) in
    none_longer c.args.used.now c.args.text.now.items
    (λ k at. head_unfinished c.args.text.now.items begins k (key_scalar c.args.used.now k (c.args.text.now.items ++ []) at))
    (λ b small. c.loop-byte.invariant.dead b (omega arith))

pub returns-in-Err-Bad-clause-live : goal.returns-in-Err-Bad-clause-live
returns-in-Err-Bad-clause-live t c =
    let fails = subst (λ e. Stopped (HeadAt false) c.as_slice.result.now e) c.in-Err-Bad.field-0-is c.in-Err-Bad.ensures in
    no_head c.args.used.now c.args.text.now.items c.in-Err-Bad.field-0-0 (subst (λ w. Fails (HeadAt false) w c.in-Err-Bad.field-0-0) c.as_slice.ensures.value fails)
