use Rattle.std.proofs.Common.{List, ℕ, drop, subst, ap, ◌∙◌, Err, arith}
use Rattle.iseq_dump.specs.declared.head.Head.{Head}
use Rattle.std.proofs.lemmas.List.{length-drop}
use Rattle.std.proofs.lemmas.Result.{err_from_is_err_and}
use Rattle.iseq_dump.specs.Dump.{IsHead, head_bytes, rows_of}
use Rattle.iseq_dump.specs.Reading.{ReadsIt}
use Rattle.iseq_dump.proofs.Units.{load_head_fails, load_bodies_fail, load_more, unit_made, whole_image}
use Rattle.iseq_dump.proofs.loading.load.Goals as goal

pub returns-in_err-head-clause-value : goal.returns-in_err-head-clause-value
returns-in_err-head-clause-value g c =
    let p = err_from_is_err_and c.from_residual.result c.from_residual.ensures.1 in
    let all = whole_image c.new-cursor.result c.args.image.now c.args.from c.len-2.result c.new-cursor.ensures c.len-2.ensures in
    rw (p.1, p.2) (load_head_fails c.in_err-head.field-0.0 (drop c.args.from c.args.image.now) c.read_dump_head.new.cursor (subst (λ (old : List ℕ). ReadsIt {X = Head} IsHead head_bytes old (Err c.in_err-head.field-0.0) c.read_dump_head.new.cursor) all c.in_err-head.ensures.value))

pub returns-in_err-bodies-clause-value : goal.returns-in_err-bodies-clause-value
returns-in_err-bodies-clause-value g c =
    let p = err_from_is_err_and c.from_residual-in_err-bodies.result c.from_residual-in_err-bodies.ensures.1 in
    let all = whole_image c.new-cursor.result c.args.image.now c.args.from c.len-2.result c.new-cursor.ensures c.len-2.ensures in
    rw (p.1, p.2) (load_bodies_fail c.in_err-bodies.field-0.0 c.in_ok-head.head (drop c.args.from c.args.image.now) c.read_dump_head.new.cursor (rw all at c.in_ok-head.ensures.value) (rw c.as_slice.ensures at c.in_err-bodies.ensures.value))

pub returns-then-len-gt0-clause-value : goal.returns-then-len-gt0-clause-value
returns-then-len-gt0-clause-value g c =
    let all = whole_image c.new-cursor.result c.args.image.now c.args.from c.len-2.result c.new-cursor.ensures c.len-2.ensures in
    load_more c.in_ok-head.head (drop c.args.from c.args.image.now) c.read_dump_head.new.cursor c.in_ok-bodies.bodies.items c.read_bodies.new.cursor (rw all at c.in_ok-head.ensures.value) (rw c.as_slice.ensures at c.in_ok-bodies.ensures.value) (omega arith)

pub returns-clause-value : goal.returns-clause-value
returns-clause-value g c =
    let all = whole_image c.new-cursor.result c.args.image.now c.args.from c.len-2.result c.new-cursor.ensures c.len-2.ensures in
    unit_made c.in_ok-head.head (drop c.args.from c.args.image.now) c.read_dump_head.new.cursor c.in_ok-bodies.bodies.items c.read_bodies.new.cursor c.from_vec.result c.from_vec-2.result (rw all at c.in_ok-head.ensures.value) (rw c.as_slice.ensures at c.in_ok-bodies.ensures.value) (omega arith)
    (omega (arith, length-drop c.args.from c.args.image.now)) (c.from_vec.ensures ∙ (c.in_ok-rows.ensures ∙ ap rows_of c.as_slice-2.ensures)) c.from_vec-2.ensures
