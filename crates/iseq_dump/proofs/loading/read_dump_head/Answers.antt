use Rattle.std.proofs.Common.{◌-◌, length, arith, refl, sym, subst, List}
use Rattle.std.proofs.lemmas.Result.{err_from_is_err_and}
use Rattle.iseq_types.specs.Index.{AreIndexRows}
use Rattle.iseq_dump.specs.declared.head.Entry.{Entry}
use Rattle.iseq_dump.specs.Dump.{rows_of}
use Rattle.iseq_dump.proofs.Indexes.{IsTiled}
use Rattle.iseq_dump.proofs.Loads.{false_is, tiled_again, head_fails, head_shorter, head_given, head_refused}
use Rattle.iseq_dump.proofs.loading.read_dump_head.Goals as goal
use Rattle.iseq_dump.proofs.loading.read_dump_head.Goals.{else-are_rows-via-then-are_rows+else-are_tiled, else-are_rows-via-else-are_rows}

pub returns-in_err-head-clause-value : goal.returns-in_err-head-clause-value
returns-in_err-head-clause-value g c =
    let p = err_from_is_err_and c.from_residual.result c.from_residual.ensures.1 in
    rw (p.1, p.2) (head_fails c.in_err-head.field-0.0 c.args.cursor.now c.read_any_head.new.cursor c.in_err-head.ensures.value)

pub overflow_sub-before : goal.overflow_sub-before
overflow_sub-before g c = omega (arith, head_shorter c.args.cursor.now c.in_ok-head.head c.read_any_head.new.cursor c.in_ok-head.ensures.value)

pub returns-then-are_tiled-clause-value : goal.returns-then-are_tiled-clause-value
returns-then-are_tiled-clause-value g c =
    head_given c.args.cursor.now c.in_ok-head.head c.read_any_head.new.cursor (c.len-before.result - c.len.result) c.in_ok-head.ensures.value (omega arith)
    (subst (λ (es : List Entry). AreIndexRows (rows_of es)) c.as_slice-entries.ensures (c.if-are_rows.ensures.0 refl))
    (subst (λ (es : List Entry). IsTiled (c.len-before.result - c.len.result) es) c.as_slice-entries.ensures (c.if-are_tiled.ensures.0 refl))

pub returns-else-are_rows-clause-value : goal.returns-else-are_rows-clause-value
returns-else-are_rows-clause-value g c =
    let bytes = c.args.cursor.now in
    let left = c.read_any_head.new.cursor in
    elim c.else-are_rows.branch [
      | else-are_rows-via-then-are_rows+else-are_tiled w ↦
          head_refused bytes c.in_ok-head.head left (length bytes - length left) c.in_ok-head.ensures.value refl
          (λ rows tiled. false_is (w.if-are_tiled.ensures.1 (tiled_again _ _ c.as_slice-entries.result.now _ (omega arith) (sym c.as_slice-entries.ensures) tiled)))
      | else-are_rows-via-else-are_rows w ↦
          head_refused bytes c.in_ok-head.head left (length bytes - length left) c.in_ok-head.ensures.value refl
          (λ rows tiled. false_is (w.if-are_rows.ensures.1 (subst (λ (es : List Entry). AreIndexRows (rows_of es)) (sym c.as_slice-entries.ensures) rows)))
    ]
