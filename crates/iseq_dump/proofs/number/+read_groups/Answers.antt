use Rattle.std.proofs.Common.{◌-◌, arith}
use Rattle.std.proofs.lemmas.Result.{err_from_is_err_and}
use Rattle.iseq_dump.specs.Reading.{with_low}
use Rattle.iseq_dump.proofs.Numbers.{zero_above, large_above, joins_above, groups_none, groups_last, groups_end, groups_more, fails_through, none_bind}
use Rattle.iseq_dump.proofs.number.+read_groups.Goals as goal
use Rattle.iseq_dump.proofs.number.+read_groups.Goals.{then-high-eq0-via-then-high-eq0, then-high-eq0-via-else-high-eq0+then-high}

pub returns-in_err-byte-clause-value : goal.returns-in_err-byte-clause-value
returns-in_err-byte-clause-value g t c =
    let p = err_from_is_err_and c.from_residual.result c.from_residual.ensures.1 in
    rw (p.1, p.2) (fails_through c.in_err-byte.field-0.0 _ _ (groups_none c.args.more c.args.cursor.now) c.in_err-byte.ensures.value)

pub returns-then-byte-lt128-clause-value : goal.returns-then-byte-lt128-clause-value
returns-then-byte-lt128-clause-value g t c =
    rw c.from.ensures (groups_last c.args.more c.args.cursor.now c.in_ok-byte.byte c.byte.new.self c.in_ok-byte.ensures.value c.if-byte-lt128.true)

pub returns-then-more-eq0-clause-value : goal.returns-then-more-eq0-clause-value
returns-then-more-eq0-clause-value g t c =
    groups_end c.args.more c.args.cursor.now c.in_ok-byte.byte c.byte.new.self c.in_ok-byte.ensures.value c.if-byte-lt128.false c.if-more-eq0.true

pub returns-in_err-high-clause-value : goal.returns-in_err-high-clause-value
returns-in_err-high-clause-value g t c =
    let p = err_from_is_err_and c.from_residual-in_err-high.result c.from_residual-in_err-high.ensures.1 in
    let e = groups_more c.args.more (c.args.more - 1) c.args.cursor.now c.in_ok-byte.byte c.byte.new.self c.in_ok-byte.ensures.value c.if-byte-lt128.false (omega arith) in
    rw (p.1, p.2, e) (fails_through c.in_err-high.field-0.0 _ _ (none_bind _ (with_low c.in_ok-byte.byte)) c.in_err-high.ensures.value)

pub returns-then-high-eq0-clause-value : goal.returns-then-high-eq0-clause-value
returns-then-high-eq0-clause-value g t c =
    let e = groups_more c.args.more (c.args.more - 1) c.args.cursor.now c.in_ok-byte.byte c.byte.new.self c.in_ok-byte.ensures.value c.if-byte-lt128.false (omega arith) in
    let h = c.in_ok-high.ensures.value in
    elim c.then-high-eq0.branch [
      | then-high-eq0-via-then-high-eq0 w ↦ rw (e, h) (zero_above c.in_ok-byte.byte c.in_ok-high.high c.read_groups.new.cursor w.if-high-eq0.true)
      | then-high-eq0-via-else-high-eq0+then-high w ↦ rw (e, h) (large_above c.in_ok-byte.byte c.in_ok-high.high c.read_groups.new.cursor w.if-high.true)
    ]

pub returns-clause-value : goal.returns-clause-value
returns-clause-value g t c =
    let e = groups_more c.args.more (c.args.more - 1) c.args.cursor.now c.in_ok-byte.byte c.byte.new.self c.in_ok-byte.ensures.value c.if-byte-lt128.false (omega arith) in
    rw (e, c.in_ok-high.ensures.value, c.from-2.ensures) (joins_above c.in_ok-byte.byte c.in_ok-high.high c.read_groups.new.cursor c.if-high-eq0.false c.if-high.false (omega arith))
