-- Loops, rescues and ensures, over any parts.
use Rattle.std.proofs.Common.{◌≡◌, ℕ, zero, suc, ◌+◌, ◌≤◌, ◌<◌, Bool, true, false, refl, sym, subst, ap, ◌∙◌, arith, List, [], ◌∷◌, ◌++◌, Some}
use Rattle.std.specs.Prelude.{slice_get}
use Rattle.ruby_tree.specs.Tree.{Tree}
use Rattle.ruby_meaning.specs.Value.{Value, nil}
use Rattle.ruby_meaning.specs.World.{World, Frame, to_loop, to_call, Outcome, Done, Raise, Break, Next, Return, Retry, Spent, Full, Run, world_of}
use Rattle.ruby_meaning.specs.Steps.{then_do, choose, paid_from, pay, after_turn, rescued, retried, finished}
use Rattle.ruby_meaning.specs.Files.{Files}
use Rattle.ruby_meaning.specs.Evaluation.{goes_on, loop, rescuing as rescuing_run}
use Rattle.ruby_tree.specs.Names.{Bytes}
use Rattle.iseq_types.specs.declared.instructions.Instr.{Instr}
use Rattle.iseq_types.specs.declared.instructions.Instr.TheVariants.{Pop, PutNil, Throw}
use Rattle.iseq_types.specs.declared.sequences.CatchKind.TheVariants as catches
use Rattle.iseq_types.specs.declared.sequences.CatchRow.{CatchRow}
use Rattle.code_meaning.specs.Code.{at_line, row_over, Routine, rows_at}
use Rattle.code_meaning.specs.Machine.{Step, back, leap, branch, cut, act, step, after_rescue, resumed, after_ensure, rescue_frame, ensure_frame, entered_at, Runs, Follows, moves, passing, landing, rescuing, ensuring}
use Rattle.compile_table.specs.Shapes.{branch_by}
use Rattle.compile_laws.proofs.Stack.{High}
use Rattle.compile_laws.proofs.Ready.{Ready, ready_more, ready_paid, KeepsReady}
use Rattle.compile_laws.proofs.After.{cut_back, leap_back, After, here, go, pend, after_then, pays}

-- the value of an ensure part is dropped
abbrev pub emptied : Outcome → Outcome
emptied (Done v w) = Done nil w
emptied (Raise v w) = Raise v w
emptied (Break t v w) = Break t v w
emptied (Next v w) = Next v w
emptied (Return n v w) = Return n v w
emptied (Retry w) = Retry w
emptied (Spent w) = Spent w
emptied (Full w) = Full w

module _ (files : Files) (b : Tree → Frame → Run) (seqs : ℕ → Routine) (bodies : ℕ → Tree) (top : ℕ) (k0 : Bool) (scopes : List (List Bytes)) where
  -- the code between two places does what m says, over any stack of this height
  abbrev pub Does : Routine → Frame → List CatchRow → ℕ → ℕ → ℕ → Run → Type 0
  Does seq frame out h p p1 m = (c : Outcome) (st : List Value) (w : World) → High k0 frame.handled h st → Ready scopes frame top w
      → After files b seqs bodies seq frame c p1 st out (m w) → Runs files b seqs bodies seq frame p st w c

  module _ (seq : Routine) (frame : Frame) (out : List CatchRow) (h : ℕ) where
    abbrev R : Outcome → ℕ → List Value → World → Type 0
    R c p st w = Runs files b seqs bodies seq frame p st w c

    abbrev F : Outcome → List CatchRow → List Value → Step → Type 0
    F c rs st s = Follows files b seqs bodies seq frame rs st s c

    abbrev A : Outcome → ℕ → List Value → List CatchRow → Outcome → Type 0
    A c p st rs o = After files b seqs bodies seq frame c p st rs o

    abbrev G : ℕ → World → Type 0
    G n w = Ready scopes frame n w

    abbrev at_pc : ℕ → ℕ → Instr → Type 0
    at_pc p l i = slice_get seq.body.code p ≡ Some (at_line l i)

    -- A loop: its body from pb to pn, a pop, its condition up to pc, the branch back, and a nil.
    module _ (pb pn pc far l l1 l2 : ℕ) (t : ℕ) (u : Bool) (mt mb : Run)
        (pop : at_pc pn l Pop) (pop_rows : rows_at pn seq.body.rows ≡ out)
        (turn : at_pc pc l1 (branch_by u t)) (turn_rows : rows_at pc seq.body.rows ≡ out) (to_body : t ≡ pb) (is_back : pb ≤ pc)
        (last : at_pc (pc + 1) l2 PutNil) (exit : pn + far ≡ pc + 1 + 1)
        (gain_t : KeepsReady scopes frame top mt) (gain_b : KeepsReady scopes frame top mb)
        (body : Does seq frame (row_over catches.Break h pb pn far 0 ∷ (row_over catches.Next h pb pn 0 0 ∷ out)) h pb pn mb)
        (test : Does seq frame out h (pn + 1) pc mt) (c : Outcome) (st : List Value) (high : High k0 frame.handled h st) where
      branches : (v : Value) (w : World) → step files b seqs bodies seq frame pc (v ∷ st) w ≡ branch (goes_on u v) pc t st w
      branches v w = here files b seqs bodies seq frame c pc (v ∷ st) w l1 (branch_by u t) turn ∙ by_kind u
        where
          by_kind : (x : Bool) → act files b seqs bodies seq.kind frame pc (v ∷ st) w l1 (branch_by x t) ≡ branch (goes_on x v) pc t st w
          by_kind true = refl
          by_kind false = refl

      pub turn_ends : (n : ℕ) (again : Run) → ((w : World) → G n w → A c (pc + 1 + 1) st out (again w) → R c (pn + 1) st w)
          → (o : Outcome) → G n (world_of o) → A c (pc + 1 + 1) st out (after_turn o again) → A c pn st (row_over catches.Break h pb pn far 0 ∷ (row_over catches.Next h pb pn 0 0 ∷ out)) o
      turn_ends n again g (Done v z) le k = go files b seqs bodies seq frame c pn (v ∷ st) z (pn + 1) st z (here files b seqs bodies seq frame c pn (v ∷ st) z l Pop pop) (g z le k)
      turn_ends n again g (Raise v z) le k = λ extra. passing refl (passing refl (k extra))
      turn_ends n again g (Break to_loop v z) le k = λ extra. landing v z refl (subst (λ q. R c q (v ∷ cut h (extra ++ st)) z) (sym exit) (subst (λ x. R c (pc + 1 + 1) (v ∷ x) z) (sym (cut_back h extra st high.tall)) k))
      turn_ends n again g (Break (to_call m) v z) le k = λ extra. passing refl (passing refl (k extra))
      turn_ends n again g (Next v z) le k = λ extra. passing refl (landing v z refl
          (let e : pn ≡ pn + 0 = omega arith in
          subst (λ q. R c q (v ∷ cut h (extra ++ st)) z) e (subst (λ x. R c pn (v ∷ x) z) (sym (cut_back h extra st high.tall))
          (go files b seqs bodies seq frame c pn (v ∷ st) z (pn + 1) st z (here files b seqs bodies seq frame c pn (v ∷ st) z l Pop pop) (g z le k)))))
      turn_ends n again g (Return m v z) le k = λ extra. passing refl (passing refl (k extra))
      turn_ends n again g (Retry z) le k = λ extra. passing refl (passing refl (k extra))
      turn_ends n again g (Spent z) le k = λ extra. passing refl (passing refl (k extra))
      turn_ends n again g (Full z) le k = λ extra. passing refl (passing refl (k extra))

      -- behind the condition
      chosen : (n : ℕ) (next : Run) → ((j : ℕ) (w : World) → j < n → G j w → A c (pc + 1 + 1) st out (next w) → R c pb st w)
          → (v : Value) (w : World) (x : Bool) → goes_on u v ≡ x → G n w → A c (pc + 1 + 1) st out (choose x (pay next) (Done nil) w) → R c pc (v ∷ st) w
      chosen n next g v w true e le k =
          pays files b seqs bodies seq frame c w.turns n pc pb st (v ∷ st) w (pc + 1 + 1) out (v ∷ []) next le.turns
          (branches v w ∙ ap (λ x. branch x pc t st w) e ∙ ap (λ x. leap pc x st w) to_body ∙ leap_back pc pb st w is_back) turn_rows refl
          (λ j less a. g j (record w { turns = j }) less (ready_paid scopes frame n j w le) a) k
      chosen n next g v w false e le k =
          go files b seqs bodies seq frame c pc (v ∷ st) w (pc + 1) st w (branches v w ∙ ap (λ x. branch x pc t st w) e)
          (go files b seqs bodies seq frame c (pc + 1) st w (pc + 1 + 1) (nil ∷ st) w (here files b seqs bodies seq frame c (pc + 1) st w l2 PutNil last) k)

      pub turns_run : (f n : ℕ) (w : World) → n ≤ f → f ≤ top → G n w → A c (pc + 1 + 1) st out (loop f u mt mb w) → R c (pn + 1) st w
      turns_run zero n w le lt bound k =
          test c st w high (ready_more scopes frame n top w (omega arith) bound)
          (after_then files b seqs bodies seq frame c (G n) pc (pc + 1 + 1) st [] st out (mt w) (λ v. choose (goes_on u v) (pay Spent) (Done nil)) refl (gain_t n w (omega arith) bound)
          (λ v z b1 a. chosen n Spent (λ j x less b2 y. absurd (omega arith)) v z (goes_on u v) refl b1 a) k)
      turns_run (suc f) n w le lt bound k =
          test c st w high (ready_more scopes frame n top w (omega arith) bound)
          (after_then files b seqs bodies seq frame c (G n) pc (pc + 1 + 1) st [] st out (mt w) (λ v. choose (goes_on u v) (pay (λ x. after_turn (mb x) (loop f u mt mb))) (Done nil)) refl (gain_t n w (omega arith) bound)
          (λ v z b1 a. chosen n (λ x. after_turn (mb x) (loop f u mt mb))
          (λ j x less b2 y. body c st x high (ready_more scopes frame j top x (omega arith) b2) (turn_ends j (loop f u mt mb) (λ x1 b3 a1. turns_run f j x1 (omega arith) (omega arith) b3 a1) (mb x) (gain_b j x (omega arith) b2) y)) v z (goes_on u v) refl b1 a) k)

    -- A rescue: its body from p to pe, and behind it the else part up to px.
    module _ (p pe px far q : ℕ) (ma : Run) (clauses last : Value → Run) (exit : pe + far ≡ px)
        (gain_a : KeepsReady scopes frame top ma) (gain_c : (v : Value) → KeepsReady scopes frame top (clauses v))
        (body : Does seq frame (row_over catches.Rescue h p pe far q ∷ out) h p pe ma)
        (parts : (v : Value) (z : World) → G top z → Runs files b seqs bodies (seqs q) (rescue_frame (seqs q) frame v) 0 (v ∷ []) (entered_at q frame z) (clauses v z))
        (c : Outcome) (st : List Value) (high : High k0 frame.handled h st)
        (goes_last : (v : Value) (z : World) → G top z → A c px st out (last v z) → R c pe (v ∷ st) z) where
      abbrev the_row : CatchRow
      the_row = row_over catches.Rescue h p pe far q

      again_end : (turns n : ℕ) (again : Run) (extra : List Value) (z : World) → turns ≤ n → ((j : ℕ) → j < n → A c px st out (again (record z { turns = j })) → R c p st (record z { turns = j }))
          → A c px st out (paid_from turns z again) → F c out (extra ++ st) (back turns p (cut h (extra ++ st)) z)
      again_end zero n again extra z le g k = k extra
      again_end (suc j) n again extra z le g k = moves (subst (λ x. R c p x (record z { turns = j })) (sym (cut_back h extra st high.tall)) (g j (omega arith) k))

      part_ends : (n : ℕ) (again : Run) (extra : List Value) → ((j : ℕ) (z : World) → j < n → G j z → A c px st out (again z) → R c p st z)
          → (o : Outcome) → G n (world_of o) → A c px st out (retried o again) → F c out (extra ++ st) (after_rescue the_row (extra ++ st) o)
      part_ends n again extra g (Done v z) le k = moves (subst (λ y. R c y (v ∷ cut h (extra ++ st)) z) (sym exit) (subst (λ x. R c px (v ∷ x) z) (sym (cut_back h extra st high.tall)) k))
      part_ends n again extra g (Raise v z) le k = k extra
      part_ends n again extra g (Break t v z) le k = k extra
      part_ends n again extra g (Next v z) le k = k extra
      part_ends n again extra g (Return m v z) le k = k extra
      part_ends n again extra g (Retry z) le k = again_end z.turns n again extra z le.turns (λ j less a. g j (record z { turns = j }) less (ready_paid scopes frame n j z le) a) k
      part_ends n again extra g (Spent z) le k = k extra
      part_ends n again extra g (Full z) le k = k extra

      body_ends : (n : ℕ) (again : Run) → ((j : ℕ) (z : World) → j < n → G j z → A c px st out (again z) → R c p st z)
          → n ≤ top → (o : Outcome) → G n (world_of o) → A c px st out (rescued o (λ v z. retried (clauses v z) again) last) → A c pe st (the_row ∷ out) o
      body_ends n again g lt (Done v z) le k = goes_last v z (ready_more scopes frame n top z lt le) k
      body_ends n again g lt (Raise v z) le k = λ extra. rescuing v z (clauses v z) refl (parts v z (ready_more scopes frame n top z lt le)) (part_ends n again extra g (clauses v z) (gain_c v n z lt le) k)
      body_ends n again g lt (Break t v z) le k = λ extra. passing refl (k extra)
      body_ends n again g lt (Next v z) le k = λ extra. passing refl (k extra)
      body_ends n again g lt (Return m v z) le k = λ extra. passing refl (k extra)
      body_ends n again g lt (Retry z) le k = λ extra. passing refl (k extra)
      body_ends n again g lt (Spent z) le k = λ extra. passing refl (k extra)
      body_ends n again g lt (Full z) le k = λ extra. passing refl (k extra)

      pub rescues_run : (f n : ℕ) (w : World) → n ≤ f → f ≤ top → G n w → A c px st out (rescuing_run f ma clauses last w) → R c p st w
      rescues_run zero n w le lt bound k =
          body c st w high (ready_more scopes frame n top w (omega arith) bound) (body_ends n Spent (λ j z less b1 a. absurd (omega arith)) (omega arith) (ma w) (gain_a n w (omega arith) bound) k)
      rescues_run (suc f) n w le lt bound k =
          body c st w high (ready_more scopes frame n top w (omega arith) bound) (body_ends n (rescuing_run f ma clauses last) (λ j z less b1 a. rescues_run f j z (omega arith) (omega arith) b1 a) (omega arith) (ma w) (gain_a n w (omega arith) bound) k)

    -- An ensure: its body from p to p6, the throw 6 there, and the end.
    module _ (p p6 q l : ℕ) (ma mc : Run) (six : at_pc p6 l (Throw 6)) (six_rows : rows_at p6 seq.body.rows ≡ row_over catches.Ensure h p (p6 + 1) 0 q ∷ out)
        (body : Does seq frame (row_over catches.Ensure h p (p6 + 1) 0 q ∷ out) h p p6 ma)
        (gain_a : KeepsReady scopes frame top ma)
        (parts : (z : World) → G top z → Runs files b seqs bodies (seqs q) (ensure_frame (seqs q) frame) 0 [] (entered_at q frame z) (emptied (mc z)))
        (c : Outcome) (st : List Value) (high : High k0 frame.handled h st) where
      abbrev its_row : CatchRow
      its_row = row_over catches.Ensure h p (p6 + 1) 0 q

      part_over : (o x : Outcome) (next : Run) (extra : List Value) → ((y : World) → A c (p6 + 1) st out (next y) → F c out (extra ++ st) (resumed its_row (extra ++ st) o y))
          → A c (p6 + 1) st out (then_do x (λ ignored. next)) → F c out (extra ++ st) (after_ensure its_row (extra ++ st) o (emptied x))
      part_over o (Done v z) next extra g k = g z k
      part_over o (Raise v z) next extra g k = k extra
      part_over o (Break t v z) next extra g k = k extra
      part_over o (Next v z) next extra g k = k extra
      part_over o (Return m v z) next extra g k = k extra
      part_over o (Retry z) next extra g k = k extra
      part_over o (Spent z) next extra g k = k extra
      part_over o (Full z) next extra g k = k extra

      ensured : (o : Outcome) → G top (world_of o) → A c (p6 + 1) st out (finished o mc) → A c p6 st (its_row ∷ out) o
      ensured (Done v z) le k =
          pend files b seqs bodies seq frame c p6 (v ∷ st) z (its_row ∷ out) (Done v z) (here files b seqs bodies seq frame c p6 (v ∷ st) z l (Throw 6) six) six_rows
          (ensuring z (emptied (mc z)) refl (parts z le) (part_over (Done v z) (mc z) (Done v) (v ∷ []) (λ y a. moves
          (let e : p6 + 1 ≡ p6 + 1 + 0 = omega arith in
          subst (λ x. R c x (v ∷ cut h (v ∷ st)) y) e (subst (λ x. R c (p6 + 1) (v ∷ x) y) (sym (cut_back h (v ∷ []) st high.tall)) a))) k))
      ensured (Raise v z) le k = λ extra. ensuring z (emptied (mc z)) refl (parts z le) (part_over (Raise v z) (mc z) (Raise v) extra (λ y a. a extra) k)
      ensured (Break t v z) le k = λ extra. ensuring z (emptied (mc z)) refl (parts z le) (part_over (Break t v z) (mc z) (Break t v) extra (λ y a. a extra) k)
      ensured (Next v z) le k = λ extra. ensuring z (emptied (mc z)) refl (parts z le) (part_over (Next v z) (mc z) (Next v) extra (λ y a. a extra) k)
      ensured (Return m v z) le k = λ extra. ensuring z (emptied (mc z)) refl (parts z le) (part_over (Return m v z) (mc z) (Return m v) extra (λ y a. a extra) k)
      ensured (Retry z) le k = λ extra. ensuring z (emptied (mc z)) refl (parts z le) (part_over (Retry z) (mc z) Retry extra (λ y a. a extra) k)
      ensured (Spent z) le k = λ extra. passing refl (k extra)
      ensured (Full z) le k = λ extra. passing refl (k extra)

      pub ensures_run : (w : World) → G top w → A c (p6 + 1) st out (finished (ma w) mc) → R c p st w
      ensures_run w bound k = body c st w high bound (ensured (ma w) (gain_a top w (omega arith) bound) k)
