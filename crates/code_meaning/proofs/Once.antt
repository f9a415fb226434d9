-- Each place, stack and world has one outcome; and the step that is taken says what is left to do.
use Rattle.std.proofs.Common.{◌≡◌, ℕ, refl, sym, subst, List, [], ◌∷◌}
use Rattle.ruby_tree.specs.Tree.{Tree}
use Rattle.ruby_meaning.specs.Value.{Value}
use Rattle.ruby_meaning.specs.World.{World, Frame, Outcome, Run}
use Rattle.ruby_meaning.specs.Files.{Files}
use Rattle.iseq_types.specs.declared.sequences.CatchRow.{CatchRow}
use Rattle.code_meaning.specs.Code.{Routine, rows_at}
use Rattle.code_meaning.specs.Machine.{Step, goes, pends, pends_behind, ends, stuck, Meet, meet, after_rescue, after_ensure, step, Runs, Follows, Met, runs, moves, leaves, falls, behind, passing, landing, rescuing, ensuring}

module _ (files : Files) (b : Tree → Frame → Run) (seqs : ℕ → Routine) (bodies : ℕ → Tree) where
  abbrev R : Routine → Frame → ℕ → List Value → World → Outcome → Type 0
  R seq frame p st w o = Runs files b seqs bodies seq frame p st w o

  abbrev F : Routine → Frame → List CatchRow → List Value → Step → Outcome → Type 0
  F seq frame rs st s o = Follows files b seqs bodies seq frame rs st s o

  -- Inversion: what a machine that takes the same step has to go on with.

  pub unrolled : {seq : Routine} {frame : Frame} {p : ℕ} {st : List Value} {w : World} {o : Outcome} → R seq frame p st w o → F seq frame (rows_at p seq.body.rows) st (step files b seqs bodies seq frame p st w) o
  unrolled (runs f) = f

  pub went : (seq : Routine) (frame : Frame) (rs : List CatchRow) (st : List Value) (p : ℕ) (st1 : List Value) (w : World) (o : Outcome) → F seq frame rs st (goes p st1 w) o → R seq frame p st1 w o
  went seq frame rs st p st1 w o (moves r) = r

  pub left : (seq : Routine) (frame : Frame) (rs : List CatchRow) (st : List Value) (c o : Outcome) → F seq frame rs st (ends c) o → c ≡ o
  left seq frame rs st c o leaves = refl

  pub fell : (seq : Routine) (frame : Frame) (st : List Value) (c o : Outcome) → F seq frame [] st (pends c) o → c ≡ o
  fell seq frame st c o falls = refl

  abbrev M : Routine → Frame → CatchRow → List CatchRow → List Value → Outcome → Outcome → Meet → Type 0
  M seq frame r rs st c o m = Met files b seqs bodies seq frame r rs st c o m

  pub met : (seq : Routine) (frame : Frame) (r : CatchRow) (rs : List CatchRow) (st : List Value) (c o : Outcome) → F seq frame (r ∷ rs) st (pends c) o → M seq frame r rs st c o (meet r c)
  met seq frame r rs st c o (passing e f) = subst (λ m. M seq frame r rs st c o m) (sym e) f
  met seq frame r rs st c o (landing v w e f) = subst (λ m. M seq frame r rs st c o m) (sym e) f
  met seq frame r rs st c o (rescuing v w c1 e x f) = subst (λ m. M seq frame r rs st c o m) (sym e) (c1, x, f)
  met seq frame r rs st c o (ensuring w c1 e x f) = subst (λ m. M seq frame r rs st c o m) (sym e) (c1, x, f)

  pub was_behind : (seq : Routine) (frame : Frame) (r : CatchRow) (rs : List CatchRow) (st : List Value) (c o : Outcome) → F seq frame (r ∷ rs) st (pends_behind c) o → F seq frame rs st (pends c) o
  was_behind seq frame r rs st c o (behind f) = f

  -- no run lacks what its instruction takes, and none has breaks to its call without the call's own row
  pub not_stuck : (seq : Routine) (frame : Frame) (rs : List CatchRow) (st : List Value) (o : Outcome) → F seq frame rs st stuck o → ⊥
  not_stuck seq frame rs st o f = elim f [ ]

  pub has_own_row : (seq : Routine) (frame : Frame) (st : List Value) (c o : Outcome) → F seq frame [] st (pends_behind c) o → ⊥
  has_own_row seq frame st c o f = elim f [ ]

  -- One outcome.

  mutual
    pub one_run : {seq : Routine} {frame : Frame} {p : ℕ} {st : List Value} {w : World} {o : Outcome} → R seq frame p st w o → (o1 : Outcome) → R seq frame p st w o1 → o ≡ o1
    one_run (runs f) o1 r = one_end f o1 (unrolled r)

    pub one_end : {seq : Routine} {frame : Frame} {rs : List CatchRow} {st : List Value} {s : Step} {o : Outcome} → F seq frame rs st s o → (o1 : Outcome) → F seq frame rs st s o1 → o ≡ o1
    one_end {seq} {frame} {rs} {st} (moves {p = p} {st1 = st1} {w = w} f) o1 g = one_run f o1 (went seq frame rs st p st1 w o1 g)
    one_end {seq} {frame} {rs} {st} {s} {o} leaves o1 g = left seq frame rs st o o1 g
    one_end {seq} {frame} {rs} {st} {s} {o} falls o1 g = fell seq frame st o o1 g
    one_end {seq} {frame} {rs} {st} (behind {r = r} {rs = rs1} {c = c} f) o1 g = one_end f o1 (was_behind seq frame r rs1 st c o1 g)
    one_end {seq} {frame} {rs} {st} (passing {r = r} {rs = rs1} {c = c} e f) o1 g = one_end f o1 (subst (λ m. M seq frame r rs1 st c o1 m) e (met seq frame r rs1 st c o1 g))
    one_end {seq} {frame} {rs} {st} (landing {r = r} {rs = rs1} {c = c} v w e f) o1 g = one_run f o1 (subst (λ m. M seq frame r rs1 st c o1 m) e (met seq frame r rs1 st c o1 g))
    one_end {seq} {frame} {rs} {st} (rescuing {r = r} {rs = rs1} {c = c} v w c1 e x f) o1 g =
        let y = subst (λ m. M seq frame r rs1 st c o1 m) e (met seq frame r rs1 st c o1 g) in
        one_end f o1 (subst (λ z. F seq frame rs1 st (after_rescue r st z) o1) (sym (one_run x y.0 y.1)) y.2)
    one_end {seq} {frame} {rs} {st} (ensuring {r = r} {rs = rs1} {c = c} w c1 e x f) o1 g =
        let y = subst (λ m. M seq frame r rs1 st c o1 m) e (met seq frame r rs1 st c o1 g) in
        one_end f o1 (subst (λ z. F seq frame rs1 st (after_ensure r st c z) o1) (sym (one_run x y.0 y.1)) y.2)
