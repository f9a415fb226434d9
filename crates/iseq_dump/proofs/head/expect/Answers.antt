use Rattle.std.proofs.Common.{arith}
use Rattle.std.proofs.lemmas.Result.{err_from_is_err_and}
use Rattle.iseq_dump.proofs.Heads.{expect_end, expect_other, expect_same, expect_done}
use Rattle.iseq_dump.proofs.head.expect.Goals as goal

pub returns-in_err-found-clause-value : goal.returns-in_err-found-clause-value
returns-in_err-found-clause-value g c =
    let p = err_from_is_err_and c.from_residual.result c.from_residual.ensures.1 in
    rw (p.1, p.2) (expect_end c.in_err-found.field-0.0 c.args.wanted.now c.loop-byte.cursor c.loop-byte.byte-index _ c.loop-byte-test.true c.in_err-found.ensures.value c.loop-byte.invariant.so_far)

pub returns-then-found-byte-clause-value : goal.returns-then-found-byte-clause-value
returns-then-found-byte-clause-value g c =
    expect_other c.args.wanted.now c.loop-byte.cursor c.loop-byte.byte-index c.in_ok-found.found c.byte.new.self _ c.loop-byte-test.true c.in_ok-found.ensures.value c.if-found-byte.true c.loop-byte.invariant.so_far

pub loop-byte-preserved : goal.loop-byte-preserved
loop-byte-preserved g c = record {
  so_far = expect_same c.args.wanted.now c.loop-byte.cursor c.loop-byte.byte-index c.in_ok-found.found c.byte.new.self _ c.loop-byte-test.true c.in_ok-found.ensures.value c.if-found-byte.false c.loop-byte.invariant.so_far;
  taken = omega arith;
}

pub returns-clause-value : goal.returns-clause-value
returns-clause-value g c = expect_done c.args.wanted.now c.loop-byte.cursor c.loop-byte.byte-index _ c.loop-byte-test.false c.loop-byte.invariant.so_far
