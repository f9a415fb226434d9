-- How a sequence is left, and small facts of the definitions.
use Rattle.std.proofs.Common.{◌≡◌, ℕ, ◌+◌, Bool, true, false, cond, refl, sym, subst, arith, List, [], ◌∷◌, ◌++◌, length, Option, Some, None}
use Rattle.std.specs.Prelude.{nat_le}
use Rattle.ruby_tree.specs.Names.{Bytes}
use Rattle.ruby_tree.specs.Tree.{Tree}
use Rattle.ruby_meaning.specs.Value.{Value, nil, object, Source}
use Rattle.ruby_meaning.specs.Store.{string_cells, object_cells, variable_cells, cell_limit, new_string}
use Rattle.ruby_meaning.specs.World.{entered, World, Frame, Target, to_loop, Outcome, Done, Raise, Break, Next, Return, Retry, Spent, Full, Run}
use Rattle.ruby_meaning.specs.Steps.{then_do, charged, make, exception_of, stand, raise_new, if_here, is_call, broken}
use Rattle.ruby_meaning.specs.Calls.{enter, enter_load, is_entered, with_step}
use Rattle.ruby_meaning.specs.Sequences.{sequence_number}
use Rattle.ruby_meaning.specs.Files.{Files}
use Rattle.iseq_types.specs.declared.sequences.CatchKind.TheVariants as catches
use Rattle.iseq_types.specs.declared.sequences.CatchRow.{CatchRow}
use Rattle.code_meaning.specs.Code.{row_over, Routine, rows_at}
use Rattle.code_meaning.specs.Machine.{pends, ends, pends_behind, cut, break_by, block_answer, step, Runs, Follows, leaves, falls, behind, landing}
use Rattle.compile_laws.proofs.After.{cut_back, Pending, After, by_step, go}
use Rattle.compile_laws.proofs.Control.{emptied}

pub enter_turns : (source : Source) (place : ℕ) (w : World) → (enter source place w).turns ≡ w.turns
enter_turns source place w = by_load source.load
  where
    by_entry : (x : Bool) (load n : ℕ) → (cond x w (with_step (entered load n) w)).turns ≡ w.turns
    by_entry true load n = refl
    by_entry false load n = refl

    by_load : (x : Option ℕ) → (enter_load x source place w).turns ≡ w.turns
    by_load None = refl
    by_load (Some load) = by_entry (is_entered load (sequence_number source.places place) w.trace) load (sequence_number source.places place)

module _ (files : Files) (b : Tree → Frame → Run) (seqs : ℕ → Routine) (bodies : ℕ → Tree) (seq : Routine) (frame : Frame) (c : Outcome) where
  abbrev F : List CatchRow → List Value → Outcome → Type 0
  F rs st o = Follows files b seqs bodies seq frame rs st (pends o) c

  falls_to : (st : List Value) (o : Outcome) → c ≡ o → F [] st o
  falls_to st o e = subst (λ x. Follows files b seqs bodies seq frame [] st (pends o) x) (sym e) falls

  -- a part whose outcome is in the end the sequence's, or goes on
  pub whole_then : (p : ℕ) (stk : List Value) (o : Outcome) (next : Value → Run) → c ≡ then_do o next
      → ((v : Value) (z : World) → o ≡ Done v z → c ≡ next v z → Runs files b seqs bodies seq frame p (v ∷ stk) z c) → After files b seqs bodies seq frame c p stk [] o
  whole_then p stk (Done v z) next e h = h v z refl e
  whole_then p stk (Raise v z) next e h = λ extra. falls_to (extra ++ stk) (Raise v z) e
  whole_then p stk (Break t v z) next e h = λ extra. falls_to (extra ++ stk) (Break t v z) e
  whole_then p stk (Next v z) next e h = λ extra. falls_to (extra ++ stk) (Next v z) e
  whole_then p stk (Return n v z) next e h = λ extra. falls_to (extra ++ stk) (Return n v z) e
  whole_then p stk (Retry z) next e h = λ extra. falls_to (extra ++ stk) (Retry z) e
  whole_then p stk (Spent z) next e h = λ extra. falls_to (extra ++ stk) (Spent z) e
  whole_then p stk (Full z) next e h = λ extra. falls_to (extra ++ stk) (Full z) e

  -- the same for an ensure part, whose value is dropped
  pub emptied_then : (p : ℕ) (stk : List Value) (o : Outcome) → c ≡ emptied o
      → ((v : Value) (z : World) → c ≡ Done nil z → Runs files b seqs bodies seq frame p (v ∷ stk) z c) → After files b seqs bodies seq frame c p stk [] o
  emptied_then p stk (Done v z) e h = h v z e
  emptied_then p stk (Raise v z) e h = λ extra. falls_to (extra ++ stk) (Raise v z) e
  emptied_then p stk (Break t v z) e h = λ extra. falls_to (extra ++ stk) (Break t v z) e
  emptied_then p stk (Next v z) e h = λ extra. falls_to (extra ++ stk) (Next v z) e
  emptied_then p stk (Return n v z) e h = λ extra. falls_to (extra ++ stk) (Return n v z) e
  emptied_then p stk (Retry z) e h = λ extra. falls_to (extra ++ stk) (Retry z) e
  emptied_then p stk (Spent z) e h = λ extra. falls_to (extra ++ stk) (Spent z) e
  emptied_then p stk (Full z) e h = λ extra. falls_to (extra ++ stk) (Full z) e

  pub left_with : (p : ℕ) (st : List Value) (w : World) (o : Outcome) → step files b seqs bodies seq frame p st w ≡ ends o → c ≡ o → Runs files b seqs bodies seq frame p st w c
  left_with p st w o e same = by_step files b seqs bodies seq frame c p st w (ends o) e (subst (λ x. Follows files b seqs bodies seq frame (rows_at p seq.body.rows) st (ends o) x) (sym same) leaves)

  -- an exception that is made where no row is left
  pub raised_end : (p line k : ℕ) (st : List Value) (w : World) (message : Bytes) → c ≡ raise_new frame line k message w → After files b seqs bodies seq frame c p st [] (raise_new frame line k message w)
  raised_end p line k st w message = by_room (nat_le (w.cells + cells) cell_limit)
    where
      cells : ℕ
      cells = string_cells (length message) + object_cells + variable_cells

      by_room : (x : Bool) → c ≡ charged x (string_cells (length message) + object_cells + variable_cells) w (make (new_string message) (λ n. make (exception_of k n (stand frame line)) (λ m. Raise (object m))))
          → After files b seqs bodies seq frame c p st [] (charged x (string_cells (length message) + object_cells + variable_cells) w (make (new_string message) (λ n. make (exception_of k n (stand frame line)) (λ m. Raise (object m)))))
      by_room true e = λ extra. falls_to (extra ++ st) _ e
      by_room false e = λ extra. falls_to (extra ++ st) _ e

  -- the row of a send takes the breaks to the call that was made there, and nothing else
  pub block_ends : (k h p q : ℕ) (stk st extra : List Value) (w : World) (out : List CatchRow) → length st ≡ h → rows_at p seq.body.rows ≡ row_over catches.Break h p (p + 1) 0 q ∷ out → stk ≡ extra ++ st
      → (o : Outcome) → step files b seqs bodies seq frame p stk w ≡ block_answer k (p + 1) st o → After files b seqs bodies seq frame c (p + 1) st out (broken k o) → Runs files b seqs bodies seq frame p stk w c
  block_ends k h p q stk st extra w out high rows over o e a = by_outcome o e a
    where
      row : CatchRow
      row = row_over catches.Break h p (p + 1) 0 q

      past : (o : Outcome) → step files b seqs bodies seq frame p stk w ≡ pends_behind o → Pending files b seqs bodies seq frame c st out o → Runs files b seqs bodies seq frame p stk w c
      past o e f = by_step files b seqs bodies seq frame c p stk w (pends_behind o) e
          (subst (λ x. Follows files b seqs bodies seq frame x stk (pends_behind o) c) (sym rows) (subst (λ x. Follows files b seqs bodies seq frame (row_over catches.Break h p (p + 1) 0 q ∷ out) x (pends_behind o) c) (sym over) (behind (f extra))))

      by_call : (x : Bool) (t : Target) (v : Value) (z : World) → step files b seqs bodies seq frame p stk w ≡ break_by x t v z → After files b seqs bodies seq frame c (p + 1) st out (if_here x (Done v z) (Break t v z)) → Runs files b seqs bodies seq frame p stk w c
      by_call true t v z e f = by_step files b seqs bodies seq frame c p stk w (pends (Break to_loop v z)) e
          (subst (λ x. Follows files b seqs bodies seq frame x stk (pends (Break to_loop v z)) c) (sym rows) (subst (λ x. Follows files b seqs bodies seq frame (row_over catches.Break h p (p + 1) 0 q ∷ out) x (pends (Break to_loop v z)) c) (sym over)
          (landing v z refl (let y : p + 1 ≡ p + 1 + 0 = omega arith in
          subst (λ m. Runs files b seqs bodies seq frame m (v ∷ cut h (extra ++ st)) z c) y (subst (λ x. Runs files b seqs bodies seq frame (p + 1) (v ∷ x) z c) (sym (cut_back h extra st high)) f)))))
      by_call false t v z e f = past (Break t v z) e f

      by_outcome : (o : Outcome) → step files b seqs bodies seq frame p stk w ≡ block_answer k (p + 1) st o → After files b seqs bodies seq frame c (p + 1) st out (broken k o) → Runs files b seqs bodies seq frame p stk w c
      by_outcome (Done v z) e f = go files b seqs bodies seq frame c p stk w (p + 1) (v ∷ st) z e f
      by_outcome (Raise v z) e f = past (Raise v z) e f
      by_outcome (Break t v z) e f = by_call (is_call k t) t v z e f
      by_outcome (Next v z) e f = past (Next v z) e f
      by_outcome (Return n v z) e f = past (Return n v z) e f
      by_outcome (Retry z) e f = past (Retry z) e f
      by_outcome (Spent z) e f = past (Spent z) e f
      by_outcome (Full z) e f = past (Full z) e f
