-- Each sequence whose tree is formed, whose locals are held and whose children are known is sound.
use Rattle.std.proofs.Common.{◌≡◌, ◌≢◌, ℕ, inl, Bool, true, false, refl, sym, ap, ◌∙◌, arith, List, Some, None}
use Rattle.std.specs.Prelude.{slice_get, option_map, unwrap_or}
use Rattle.ruby_tree.specs.Names.{Bytes}
use Rattle.ruby_tree.specs.Tree.{Tree, at, body}
use Rattle.iseq_types.specs.declared.sequences.IndexRow.{IndexRow}
use Rattle.iseq_types.specs.declared.sequences.SeqKind.{SeqKind}
use Rattle.iseq_types.specs.declared.sequences.SeqKind.TheVariants as kinds
use Rattle.iseq_types.specs.declared.sequences.Sequence.{Sequence}
use Rattle.iseq_types.specs.declared.instructions.Instr.TheVariants.{Leave}
use Rattle.iseq_types.specs.Index.{AreIndexRows, homes_of}
use Rattle.iseq_types.specs.Sound.{kind_of, locals_of, CountsLocals, EndsRight, IsSound}
use Rattle.iseq_types.specs.Ways.{start_depth}
use Rattle.iseq_types.proofs.Homes.{local_list}
use Rattle.iseq_types.proofs.Keeping.{keeps_by}
use Rattle.iseq_types.proofs.Taking.{code_ends, sound_from}
use Rattle.ruby_meaning.specs.Levels.{IsHoused, slot_of, level_of}
use Rattle.code_meaning.specs.Code.{Shape, done, op, part, lines_of}
use Rattle.compile_table.specs.Shapes.{Where, shape}
use Rattle.compile_table.specs.Sequences.{Compiled, compiled_body, compiled_part, body_sequence, part_sequence, index_row, sequences}
use Rattle.tree_laws.specs.Formed.{IsBody, IsRescuePart, IsEnsurePart}
use Rattle.compile_laws.proofs.TreeFits.{body_fits, rescue_part_fits, ensure_part_fits}
use Rattle.compile_laws.proofs.SequenceSound.{with_code, HasDepths, has_depths}
use Rattle.compile_laws.proofs.SequenceEnds.{HasLast, entries_right, body_ends, rescue_part_ends, ensure_part_ends}
use Rattle.compile_laws.proofs.FineCode.{MayPend, Stands}
use Rattle.compile_laws.proofs.FineTrees.{Children, body_fine, rescue_part_fine, ensure_part_fine}
use Rattle.compile_laws.proofs.FineSequences.{HasOperands, has_operands}
use Rattle.compile_laws.proofs.HomedLocals.{Homed, held_at, params_counted, params_are_locals}

module _ (rows : List IndexRow) (index : AreIndexRows rows) where
  -- the index has this row for the sequence
  abbrev pub HasRow : Compiled → Type 0
  HasRow c = slice_get rows c.inner.number ≡ Some (index_row c)

  kind_at : (n : ℕ) (row : IndexRow) → slice_get rows n ≡ Some row → kind_of rows n ≡ row.kind
  kind_at n row e = ap (λ o. unwrap_or (option_map (λ (r : IndexRow). r.kind) o) kinds.File) e

  pub locals_at : (n : ℕ) (row : IndexRow) → slice_get rows n ≡ Some row → locals_of rows n ≡ row.locals
  locals_at n row e = ap (λ o. unwrap_or (option_map (λ (r : IndexRow). r.locals) o) 0) e

  -- the locals of the sequence where a node stands are in the index
  abbrev pub IsHomed : Where → Type 0
  IsHomed l = Homed rows (homes_of rows l.number) l.sight.scopes

  stands : (l : Where) (k : Bool) → IsHomed l → (k ≡ true → MayPend rows l.number (kind_of rows l.number)) → Stands rows l.number (kind_of rows l.number) l k
  stands l k h p = record {
    number = refl;
    locals = λ x e. (local_list rows l.number (slot_of x l.sight.scopes) (level_of x l.sight.scopes) index).1 (held_at rows (homes_of rows l.number) l.sight.scopes x h e);
    pends = p;
  }

  -- a sequence by its depths, its end, its operands and its locals
  assembled : (seq : Sequence) (id h : ℕ) (s : Shape) → HasDepths (with_code seq h s) (kind_of rows id) → HasLast (lines_of h 0 s) → HasOperands rows id (kind_of rows id) (with_code seq h s) → CountsLocals (with_code seq h s) rows id
      → IsSound (with_code seq h s) rows id
  assembled seq id h s d e o c =
      sound_from it rows id (keeps_by it (kind_of rows id) d.depths d.covers (code_ends it (kind_of rows id) ends) d.inside d.floors) d.inside d.ordered ends o.locals o.children o.splats o.operands c o.throws
    where
      it : Sequence
      it = with_code seq h s

      ends : EndsRight (with_code seq h s) (kind_of rows id)
      ends = record { last = e; leave = o.leaves }

  pub sound_body : (l inner : Where) (kind : SeqKind) (name : Bytes) (t : Tree) → HasRow (compiled_body l inner kind name t) → start_depth kind ≡ 0 → kind ≢ kinds.Ensure → IsBody t → IsHoused None inner.sight t → IsHomed inner
      → Children rows (sequences inner t) → IsSound (body_sequence inner name t) rows inner.number
  sound_body l inner kind name (at s (body ps u)) row start ens f h home c =
      assembled (body_sequence inner name (at s (body ps u))) inner.number 0 (shape inner (at s (body ps u)))
      (has_depths (body_sequence inner name (at s (body ps u))) (kind_of rows inner.number) 0 (shape inner (at s (body ps u))) (body_fits inner 0 (at s (body ps u)) f) (sym (ap start_depth same ∙ start))
      (entries_right inner ps (part 0 (shape inner u) (op inner.first Leave done)) (omega arith) (body_fits inner 0 (at s (body ps u)) f)))
      (body_ends inner 0 (at s (body ps u)) f)
      (has_operands rows inner.number (kind_of rows inner.number) (body_sequence inner name (at s (body ps u))) 0 (shape inner (at s (body ps u)))
      (body_fine rows inner.number (kind_of rows inner.number) inner (at s (body ps u)) (λ e. ens (sym same ∙ e)) (stands inner false home (λ e. absurd cc)) f h c))
      (record {
        locals = sym (locals_at inner.number (index_row (compiled_body l inner kind name (at s (body ps u)))) row);
        parameters = let a = params_counted inner ps in let b = params_are_locals inner.sight.seen (at s (body ps u)) in omega arith;
      })
    where
      same : kind_of rows inner.number ≡ kind
      same = kind_at inner.number (index_row (compiled_body l inner kind name (at s (body ps u)))) row
  sound_body l inner kind name (at s f) row start ens g h home c = absurd g

  pub sound_rescue : (l inner : Where) (t : Tree) → HasRow (compiled_part l inner kinds.Rescue t) → IsRescuePart t → IsHoused None inner.sight t → IsHomed inner → Children rows (sequences inner t) → IsSound (part_sequence inner kinds.Rescue t) rows inner.number
  sound_rescue l inner t row f h home c =
      assembled (part_sequence inner kinds.Rescue t) inner.number 1 (shape inner t)
      (has_depths (part_sequence inner kinds.Rescue t) (kind_of rows inner.number) 1 (shape inner t) (rescue_part_fits inner 1 t (omega arith) f) (sym (ap start_depth same)) tt)
      (rescue_part_ends inner 1 t f)
      (has_operands rows inner.number (kind_of rows inner.number) (part_sequence inner kinds.Rescue t) 1 (shape inner t)
      (rescue_part_fine rows inner.number (kind_of rows inner.number) inner t same (stands inner true home (λ e. inl same)) f h c))
      (record { locals = sym (locals_at inner.number (index_row (compiled_part l inner kinds.Rescue t)) row); parameters = omega arith })
    where
      same : kind_of rows inner.number ≡ kinds.Rescue
      same = kind_at inner.number (index_row (compiled_part l inner kinds.Rescue t)) row

  pub sound_ensure : (l inner : Where) (t : Tree) → HasRow (compiled_part l inner kinds.Ensure t) → IsEnsurePart t → IsHoused None inner.sight t → IsHomed inner → Children rows (sequences inner t) → IsSound (part_sequence inner kinds.Ensure t) rows inner.number
  sound_ensure l inner t row f h home c =
      assembled (part_sequence inner kinds.Ensure t) inner.number 0 (shape inner t)
      (has_depths (part_sequence inner kinds.Ensure t) (kind_of rows inner.number) 0 (shape inner t) (ensure_part_fits inner 0 t f) (sym (ap start_depth same)) tt)
      (ensure_part_ends inner 0 t f)
      (has_operands rows inner.number (kind_of rows inner.number) (part_sequence inner kinds.Ensure t) 0 (shape inner t)
      (ensure_part_fine rows inner.number (kind_of rows inner.number) inner t same (stands inner false home (λ e. absurd cc)) f h c))
      (record { locals = sym (locals_at inner.number (index_row (compiled_part l inner kinds.Ensure t)) row); parameters = omega arith })
    where
      same : kind_of rows inner.number ≡ kinds.Ensure
      same = kind_at inner.number (index_row (compiled_part l inner kinds.Ensure t)) row
