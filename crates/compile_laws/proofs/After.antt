-- What is to be shown behind a part of the code, and how the parts of a run are put together.
use Rattle.std.proofs.Common.{◌≡◌, ℕ, zero, suc, ◌-◌, ◌≤◌, ◌<◌, sym, subst, ap, ◌∙◌, arith, List, ◌∷◌, ◌++◌, length, drop, Some, append_assoc, length-append}
use Rattle.std.specs.Prelude.{slice_get}
use Rattle.std.proofs.Math.Seq.{drop-append_seam}
use Rattle.std.proofs.lemmas.Bool.{lt-ltb, le-ltb}
use Rattle.ruby_tree.specs.Tree.{Tree}
use Rattle.ruby_meaning.specs.Value.{Value}
use Rattle.ruby_meaning.specs.World.{World, Frame, Outcome, Done, Raise, Break, Next, Return, Retry, Spent, Full, Run, world_of}
use Rattle.ruby_meaning.specs.Steps.{then_do, paid_from}
use Rattle.ruby_meaning.specs.Files.{Files}
use Rattle.iseq_types.specs.declared.instructions.Instr.{Instr}
use Rattle.iseq_types.specs.declared.sequences.CatchRow.{CatchRow}
use Rattle.code_meaning.specs.Code.{at_line, Routine, rows_at}
use Rattle.code_meaning.specs.Machine.{Step, goes, pends, answer, back, leap, leap_if, cut, act, act_at, step, Runs, Follows, runs, moves}

pub cut_back : (h : ℕ) (extra st : List Value) → length st ≡ h → cut h (extra ++ st) ≡ st
cut_back h extra st same =
    let e : length (extra ++ st) - h ≡ length extra = omega (arith, length-append extra st) in
    ap (λ n. drop n (extra ++ st)) e ∙ drop-append_seam extra st

pub leap_ahead : (p t : ℕ) (st : List Value) (w : World) → p < t → leap p t st w ≡ goes t st w
leap_ahead p t st w h = ap (λ x. leap_if x t st w) (lt-ltb p t h)

pub leap_back : (p t : ℕ) (st : List Value) (w : World) → t ≤ p → leap p t st w ≡ back w.turns t st w
leap_back p t st w h = ap (λ x. leap_if x t st w) (le-ltb p t h)

module _ (files : Files) (b : Tree → Frame → Run) (seqs : ℕ → Routine) (bodies : ℕ → Tree) where
  -- o is pending over a stack on which at least st lies, and the rows from out on are still to be searched
  abbrev pub Pending : Routine → Frame → Outcome → List Value → List CatchRow → Outcome → Type 0
  Pending seq frame c st out o = (extra : List Value) → Follows files b seqs bodies seq frame out (extra ++ st) (pends o) c

  -- what has to be shown behind a part that has this outcome, for the run to lead to c
  abbrev pub After : Routine → Frame → Outcome → ℕ → List Value → List CatchRow → Outcome → Type 0
  After seq frame c p st out (Done v w) = Runs files b seqs bodies seq frame p (v ∷ st) w c
  After seq frame c p st out (Raise v w) = Pending seq frame c st out (Raise v w)
  After seq frame c p st out (Break t v w) = Pending seq frame c st out (Break t v w)
  After seq frame c p st out (Next v w) = Pending seq frame c st out (Next v w)
  After seq frame c p st out (Return n v w) = Pending seq frame c st out (Return n v w)
  After seq frame c p st out (Retry w) = Pending seq frame c st out (Retry w)
  After seq frame c p st out (Spent w) = Pending seq frame c st out (Spent w)
  After seq frame c p st out (Full w) = Pending seq frame c st out (Full w)

  module _ (seq : Routine) (frame : Frame) (c : Outcome) where
    abbrev R : ℕ → List Value → World → Type 0
    R p st w = Runs files b seqs bodies seq frame p st w c

    abbrev F : List CatchRow → List Value → Step → Type 0
    F rs st s = Follows files b seqs bodies seq frame rs st s c

    abbrev S : ℕ → List Value → World → Step
    S p st w = step files b seqs bodies seq frame p st w

    pub here : (p : ℕ) (st : List Value) (w : World) (l : ℕ) (i : Instr) → slice_get seq.body.code p ≡ Some (at_line l i) → S p st w ≡ act files b seqs bodies seq.kind frame p st w l i
    here p st w l i e = ap (act_at files b seqs bodies seq.kind frame p st w) e

    pub by_step : (p : ℕ) (st : List Value) (w : World) (s : Step) → S p st w ≡ s → F (rows_at p seq.body.rows) st s → R p st w
    by_step p st w s e f = runs (subst (λ x. F (rows_at p seq.body.rows) st x) (sym e) f)

    pub go : (p : ℕ) (st : List Value) (w : World) (p1 : ℕ) (st1 : List Value) (w1 : World) → S p st w ≡ goes p1 st1 w1 → R p1 st1 w1 → R p st w
    go p st w p1 st1 w1 e r = by_step p st w (goes p1 st1 w1) e (moves r)

    pub pend : (p : ℕ) (st : List Value) (w : World) (out : List CatchRow) (o : Outcome) → S p st w ≡ pends o → rows_at p seq.body.rows ≡ out → F out st (pends o) → R p st w
    pend p st w out o e same f = by_step p st w (pends o) e (subst (λ x. F x st (pends o)) (sym same) f)

    -- an instruction that pushes a value, or leaves what is pending
    pub answers : (p p1 : ℕ) (st base extra : List Value) (w : World) (out : List CatchRow) (o : Outcome) → S p st w ≡ answer p1 base o → rows_at p seq.body.rows ≡ out → st ≡ extra ++ base
        → After seq frame c p1 base out o → R p st w
    answers p p1 st base extra w out (Done v z) e same over k = go p st w p1 (v ∷ base) z e k
    answers p p1 st base extra w out (Raise v z) e same over k = pend p st w out (Raise v z) e same (subst (λ x. F out x (pends (Raise v z))) (sym over) (k extra))
    answers p p1 st base extra w out (Break t v z) e same over k = pend p st w out (Break t v z) e same (subst (λ x. F out x (pends (Break t v z))) (sym over) (k extra))
    answers p p1 st base extra w out (Next v z) e same over k = pend p st w out (Next v z) e same (subst (λ x. F out x (pends (Next v z))) (sym over) (k extra))
    answers p p1 st base extra w out (Return n v z) e same over k = pend p st w out (Return n v z) e same (subst (λ x. F out x (pends (Return n v z))) (sym over) (k extra))
    answers p p1 st base extra w out (Retry z) e same over k = pend p st w out (Retry z) e same (subst (λ x. F out x (pends (Retry z))) (sym over) (k extra))
    answers p p1 st base extra w out (Spent z) e same over k = pend p st w out (Spent z) e same (subst (λ x. F out x (pends (Spent z))) (sym over) (k extra))
    answers p p1 st base extra w out (Full z) e same over k = pend p st w out (Full z) e same (subst (λ x. F out x (pends (Full z))) (sym over) (k extra))

    pub deeper_pending : (stk over st : List Value) (out : List CatchRow) (o : Outcome) → stk ≡ over ++ st → Pending seq frame c st out o → Pending seq frame c stk out o
    deeper_pending stk over st out o e k extra =
        let f : (extra ++ over) ++ st ≡ extra ++ stk = append_assoc extra over st ∙ ap (λ x. extra ++ x) (sym e) in
        subst (λ x. F out x (pends o)) f (k (extra ++ over))

    -- a value and what follows in a world that is as P says, over what lies on the stack by then
    pub after_then : (P : World → Type 0) (p1 p2 : ℕ) (stk over st : List Value) (out : List CatchRow) (o : Outcome) (next : Value → Run) → stk ≡ over ++ st → P (world_of o)
        → ((v : Value) (z : World) → P z → After seq frame c p2 st out (next v z) → R p1 (v ∷ stk) z) → After seq frame c p2 st out (then_do o next) → After seq frame c p1 stk out o
    after_then P p1 p2 stk over st out (Done v z) next e le h k = h v z le k
    after_then P p1 p2 stk over st out (Raise v z) next e le h k = deeper_pending stk over st out (Raise v z) e k
    after_then P p1 p2 stk over st out (Break t v z) next e le h k = deeper_pending stk over st out (Break t v z) e k
    after_then P p1 p2 stk over st out (Next v z) next e le h k = deeper_pending stk over st out (Next v z) e k
    after_then P p1 p2 stk over st out (Return m v z) next e le h k = deeper_pending stk over st out (Return m v z) e k
    after_then P p1 p2 stk over st out (Retry z) next e le h k = deeper_pending stk over st out (Retry z) e k
    after_then P p1 p2 stk over st out (Spent z) next e le h k = deeper_pending stk over st out (Spent z) e k
    after_then P p1 p2 stk over st out (Full z) next e le h k = deeper_pending stk over st out (Full z) e k

    -- a turn that is paid on the way back
    pub pays : (turns n p t : ℕ) (st st1 : List Value) (w : World) (p2 : ℕ) (out : List CatchRow) (extra : List Value) (next : Run) → turns ≤ n → S p st1 w ≡ back turns t st w → rows_at p seq.body.rows ≡ out → st1 ≡ extra ++ st
        → ((j : ℕ) → j < n → After seq frame c p2 st out (next (record w { turns = j })) → R t st (record w { turns = j })) → After seq frame c p2 st out (paid_from turns w next) → R p st1 w
    pays zero n p t st st1 w p2 out extra next le e same over h k = pend p st1 w out (Spent w) e same (subst (λ x. F out x (pends (Spent w))) (sym over) (k extra))
    pays (suc j) n p t st st1 w p2 out extra next le e same over h k = go p st1 w t st (record w { turns = j }) e (h j (omega arith) k)
