use Rattle.std.proofs.Common.{◌≡◌, suc, ◌/◌, ◌^◌, ◌≤◌, ◌+◌, ◌-◌, ◌*◌, ◌<◌, length, MatchResult, subst, sym, inl, inr, arith}
use Rattle.msgpack_codec.specs.Reading.{Found, Stopped, IsNumber, Begins, Fails}
use Rattle.msgpack_codec.proofs.Numbers.{pow_above, unit_fits, front_fits, short_number, bad_number, step_number}
use Rattle.msgpack_codec.proofs.number.+read_number.Goals as goal
use Rattle.msgpack_codec.proofs.number.+read_number.Goals.{then-front-low-via-then-front-low, then-front-low-via-else-front-low+then-high-unit}

pub returns-in_default : goal.returns-in_default
returns-in_default t c =
    let e : c.args.size ≡ suc (c.args.size - 1) = omega arith in
    let above = subst (λ k. c.args.low / 256 ^ k ≤ c.args.front) e c.requires.above in
    let below = subst (λ k. c.args.front ≤ c.args.high / 256 ^ k) e c.requires.below in
    subst (λ k. Begins (IsNumber k c.args.front c.args.low c.args.high) c.args.bytes.now) (sym e)
    (short_number (c.args.size - 1) c.args.front c.args.low c.args.high c.requires.some above below c.args.bytes.now c.in_default.ensures.cases)

pub overflow_mul-front : goal.overflow_mul-front
overflow_mul-front t c =
    let e : c.args.size ≡ suc (c.args.size - 1) = omega arith in
    let below = subst (λ k. c.args.front ≤ c.args.high / 256 ^ k) e c.requires.below in
    let small : c.args.front < 2 ^ 56 = front_fits (c.args.size - 1) c.args.front c.args.high below (omega arith) in
    omega arith

pub overflow_add-front : goal.overflow_add-front
overflow_add-front t c =
    let e : c.args.size ≡ suc (c.args.size - 1) = omega arith in
    let below = subst (λ k. c.args.front ≤ c.args.high / 256 ^ k) e c.requires.below in
    let small : c.args.front < 2 ^ 56 = front_fits (c.args.size - 1) c.args.front c.args.high below (omega arith) in
    omega arith

pub pow-unit-requires : goal.pow-unit-requires
pow-unit-requires t c = unit_fits c.args.size c.requires.size c.if-size-eq0.false

pub nonzero_div-low : goal.nonzero_div-low
nonzero_div-low t c = let h : 0 < 256 ^ (c.args.size - 1) = pow_above (c.args.size - 1) in omega arith

pub nonzero_div-high : goal.nonzero_div-high
nonzero_div-high t c = let h : 0 < 256 ^ (c.args.size - 1) = pow_above (c.args.size - 1) in omega arith

pub returns-then-front-low : goal.returns-then-front-low
returns-then-front-low t c =
    let e : c.args.size ≡ suc (c.args.size - 1) = omega arith in
    let above = subst (λ k. c.args.low / 256 ^ k ≤ c.args.front) e c.requires.above in
    let below = subst (λ k. c.args.front ≤ c.args.high / 256 ^ k) e c.requires.below in
    let unit : c.pow-unit.result ≡ 256 ^ (c.args.size - 1) = c.pow-unit.ensures in
    subst (λ k. Fails (IsNumber k c.args.front c.args.low c.args.high) c.args.bytes.now (length c.args.bytes.now)) (sym e)
    (bad_number (c.args.size - 1) c.args.front c.args.low c.args.high c.requires.some above below c.in-Some.first.now c.in-Some.rest.now c.args.bytes.now c.in-Some.ensures.cases.0
    (elim c.then-front-low.branch [
      | then-front-low-via-then-front-low w ↦ inl (subst (λ u. 256 * c.args.front + c.in-Some.first.now < c.args.low / u) unit w.if-front-low.true)
      | then-front-low-via-else-front-low+then-high-unit w ↦ inr (subst (λ u. c.args.high / u < 256 * c.args.front + c.in-Some.first.now) unit w.if-high-unit.true)
    ]))

pub returns : goal.returns
returns t c =
    let e : c.args.size ≡ suc (c.args.size - 1) = omega arith in
    let above = subst (λ k. c.args.low / 256 ^ k ≤ c.args.front) e c.requires.above in
    let below = subst (λ k. c.args.front ≤ c.args.high / 256 ^ k) e c.requires.below in
    let unit : c.pow-unit.result ≡ 256 ^ (c.args.size - 1) = c.pow-unit.ensures in
    let small : c.in-Some.first.now < 256 = omega arith in
    subst (λ k. MatchResult c.read_number.result (λ found. Found (IsNumber k c.args.front c.args.low c.args.high) found.0 c.args.bytes.now found.1.now) (λ e. Stopped (IsNumber k c.args.front c.args.low c.args.high) c.args.bytes.now e)) (sym e)
    (step_number (c.args.size - 1) c.args.front c.args.low c.args.high c.requires.some above below c.in-Some.first.now c.in-Some.rest.now c.args.bytes.now c.in-Some.ensures.cases.0 small
    (subst (λ u. c.args.low / u ≤ 256 * c.args.front + c.in-Some.first.now) unit c.if-front-low.false)
    (subst (λ u. 256 * c.args.front + c.in-Some.first.now ≤ c.args.high / u) unit c.if-high-unit.false)
    c.read_number.result c.read_number.ensures)
