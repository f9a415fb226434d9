use Rattle.std.proofs.Common.{◌++◌, List, ℕ, length, subst, ap, ◌∙◌, arith}
use Rattle.std.specs.List.{AllByRecursion, flat_map}
use Rattle.iseq_types.specs.declared.sequences.IndexRow.{IndexRow}
use Rattle.iseq_types.specs.declared.sequences.Sequence.{Sequence}
use Rattle.iseq_dump.specs.Dump.{IsNumber, IsBody, number_bytes, entry_bytes, entries_of, body_bytes, lengths_of}
use Rattle.iseq_dump.specs.Reading.{mark}
use Rattle.iseq_dump.proofs.Dumps.{unit_put, if_some}
use Rattle.iseq_dump.proofs.dumping.dump.Goals as goal

pub returns : goal.returns
returns c =
    let rows = c.as_slice-rows.ensures in
    let bodies = c.as_slice.ensures in
    unit_put c.args.unit.now c.as_slice-2.result.now c.put_bodies.new.out.items c.extend_from_slice.new.self.items c.put.new.out.items c.put_number.new.out.items c.put_index.new.out.items c.from_vec.result c.in_ok-first.first
    c.requires.rows c.requires.bodies
    (c.as_slice-2.ensures.value ∙ (c.in_ok-lengths.ensures.lengths ∙ ap lengths_of bodies))
    (c.in_ok-lengths.ensures.spelled ∙ (ap (λ (bs : List ℕ). bs ++ flat_map body_bytes c.as_slice.result.now) c.new-bodies.ensures.items ∙ ap (flat_map body_bytes) bodies))
    (subst (λ (bs : List Sequence). AllByRecursion IsBody bs) bodies c.in_ok-lengths.ensures.each)
    (subst (λ (rs : List IndexRow). AllByRecursion (λ (row : IndexRow). IsNumber row.locals) rs) rows c.in_ok-put_index.ensures.locals)
    (omega (arith, ap length rows))
    (omega (arith, ap length c.from_vec.ensures))
    (c.in_ok-extend_from_slice.ensures.items ∙ ap (λ (bs : List ℕ). bs ++ mark) c.new-out.ensures.items)
    c.in_ok-put.ensures
    (c.in_ok-put_number.ensures ∙ ap (λ (rs : List IndexRow). c.put.new.out.items ++ number_bytes (length rs)) rows)
    (if_some c.behind_index.result _ c.in_ok-first.first c.behind_index.ensures c.in_ok-first.ensures.ok_part ∙ omega (arith, ap length rows, c.len.ensures))
    (c.in_ok-put_index.ensures.spelled ∙ ap (λ (rs : List IndexRow). c.put_number.new.out.items ++ flat_map entry_bytes (entries_of c.in_ok-first.first rs c.as_slice-2.result.now)) rows)
    (c.from_vec.ensures ∙ c.in_ok-append.ensures.items)
