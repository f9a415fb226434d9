-- A machine with a list of frames: one turn of its loop, and what every state of it leads to.
use Rattle.std.specs.Prelude.{◌≡◌, ℕ, ◌+◌, List, [], ◌∷◌}
use Rattle.ruby_tree.specs.Tree.{Tree}
use Rattle.ruby_tree.specs.Names.{Bytes}
use Rattle.ruby_meaning.specs.Value.{Value, yes}
use Rattle.ruby_meaning.specs.World.{World, Frame, Ask, ask_require, ask_relative, ask_load, Outcome, Done, Run}
use Rattle.ruby_meaning.specs.Steps.{then_do, ended, at_depth, returned, gone_on}
use Rattle.ruby_meaning.specs.Files.{Files}
use Rattle.ruby_meaning.specs.Loads.{with_loading, push_feature}
use Rattle.iseq_types.specs.declared.sequences.CatchRow.{CatchRow}
use Rattle.code_meaning.specs.Code.{Routine, rows_at}
use Rattle.code_meaning.specs.Machine.{Step, goes, pends, pends_behind, ends, stuck, call_answer, Meet, passes, lands, rescues, ensures, meet, cut, after_rescue, after_ensure, rescue_frame, ensure_frame, entered_at, step, Runs, Follows}

-- How the outcome of a body becomes that of its call: the depth before, for a method and a file its environment, and for a file what asked for it
-- and the files that were loading.
pub data Wrap : Type 0 where
  of_method : ℕ → ℕ → Wrap
  of_block : ℕ → Wrap
  of_class : ℕ → Wrap
  of_file : ℕ → ℕ → Frame → ℕ → Ask → Bytes → List Bytes → Wrap

abbrev pub after_file : Frame → ℕ → Ask → Bytes → List Bytes → Outcome → Outcome
after_file frame line (ask_load x) path loading o = then_do o (λ v. Done yes)
after_file frame line (ask_require x) path loading o = then_do (ended (with_loading loading) o) (λ v. push_feature frame line path)
after_file frame line (ask_relative folder x) path loading o = then_do (ended (with_loading loading) o) (λ v. push_feature frame line path)

abbrev pub wrapped : Wrap → Outcome → Outcome
wrapped (of_method d n) o = ended (at_depth d) (returned n o)
wrapped (of_block d) o = ended (at_depth d) (gone_on o)
wrapped (of_class d) o = ended (at_depth d) o
wrapped (of_file d n frame line ask path loading) o = after_file frame line ask path loading (ended (at_depth d) (returned n o))

-- The sequences of a unit by their numbers, and the trees of those that are bodies.
pub record Tables : Type 0 where
  pub seqs : ℕ → Routine
  pub bodies : ℕ → Tree

-- A frame that waits for the one above it, with the tables of its unit: at a call, with its stack, what lies below the arguments, the literal
-- block plus 1 and its closure; or at a row whose part runs, with the rows behind it and its stack, and for an ensure part with what is pending.
pub data Under : Type 0 where
  at_call : Tables → Routine → Frame → ℕ → List Value → List Value → ℕ → ℕ → Wrap → Under
  at_rescue : Tables → Routine → Frame → CatchRow → List CatchRow → List Value → Under
  at_ensure : Tables → Routine → Frame → CatchRow → List CatchRow → List Value → Outcome → Under

pub data State : Type 0 where
  -- a frame runs, with the tables of its unit
  running : Tables → Routine → Frame → ℕ → List Value → World → List Under → State
  -- an outcome is pending, and these rows of the frame are still to be searched
  searching : Tables → Routine → Frame → List CatchRow → List Value → Outcome → List Under → State
  -- the frame on top was left with an outcome
  returning : Outcome → List Under → State
  lost : State

abbrev pub behind_first : Tables → Routine → Frame → List CatchRow → List Value → Outcome → List Under → State
behind_first unit seq frame [] st c us = lost
behind_first unit seq frame (r ∷ rs) st c us = searching unit seq frame rs st c us

abbrev pub proceed : Tables → Routine → Frame → List CatchRow → List Value → Step → List Under → State
proceed unit seq frame rs st (goes p st1 w) us = running unit seq frame p st1 w us
proceed unit seq frame rs st (pends c) us = searching unit seq frame rs st c us
proceed unit seq frame rs st (pends_behind c) us = behind_first unit seq frame rs st c us
proceed unit seq frame rs st (ends c) us = returning c us
proceed unit seq frame rs st stuck us = lost

abbrev pub resume : Under → Outcome → List Under → State
resume (at_call unit seq frame p st rest q k m) c us = proceed unit seq frame (rows_at p seq.body.rows) st (call_answer q k (p + 1) rest (wrapped m c)) us
resume (at_rescue unit seq frame r rs st) c us = proceed unit seq frame rs st (after_rescue r st c) us
resume (at_ensure unit seq frame r rs st o) c us = proceed unit seq frame rs st (after_ensure r st o c) us

module _ (files : Files) (b : Tree → Frame → Run) where
  abbrev pub meeting : Tables → Routine → Frame → CatchRow → List CatchRow → List Value → Outcome → List Under → Meet → State
  meeting unit seq frame r rs st c us passes = searching unit seq frame rs st c us
  meeting unit seq frame r rs st c us (lands v w) = running unit seq frame r.cont (v ∷ cut r.sp st) w us
  meeting unit seq frame r rs st c us (rescues v w) = running unit (unit.seqs r.seq) (rescue_frame (unit.seqs r.seq) frame v) 0 (v ∷ []) (entered_at r.seq frame w) (at_rescue unit seq frame r rs st ∷ us)
  meeting unit seq frame r rs st c us (ensures w) = running unit (unit.seqs r.seq) (ensure_frame (unit.seqs r.seq) frame) 0 [] (entered_at r.seq frame w) (at_ensure unit seq frame r rs st c ∷ us)

  -- one turn of the loop
  pub data Turn : State → State → Type 0 where
    -- an instruction
    steps : (unit : Tables) (seq : Routine) (frame : Frame) (p : ℕ) (st : List Value) (w : World) (us : List Under)
        → Turn (running unit seq frame p st w us) (proceed unit seq frame (rows_at p seq.body.rows) st (step files b unit.seqs unit.bodies seq frame p st w) us)
    -- a call that comes to a body, of this unit or of another: the frame of its sequence is put on top, at its entry, and the caller waits
    calls : (unit : Tables) (seq : Routine) (frame : Frame) (p : ℕ) (st rest : List Value) (w : World) (us : List Under) (q k : ℕ) (m : Wrap)
        (its : Tables) (callee : Routine) (fr : Frame) (entry : ℕ) (z : World) (c : Outcome)
        → step files b unit.seqs unit.bodies seq frame p st w ≡ call_answer q k (p + 1) rest (wrapped m c)
        → Runs files b its.seqs its.bodies callee fr entry [] z c
        → Turn (running unit seq frame p st w us) (running its callee fr entry [] z (at_call unit seq frame p st rest q k m ∷ us))
    -- no row is left
    drops_frame : (unit : Tables) (seq : Routine) (frame : Frame) (st : List Value) (c : Outcome) (us : List Under) → Turn (searching unit seq frame [] st c us) (returning c us)
    -- the next row
    looks : (unit : Tables) (seq : Routine) (frame : Frame) (r : CatchRow) (rs : List CatchRow) (st : List Value) (c : Outcome) (us : List Under)
        → Turn (searching unit seq frame (r ∷ rs) st c us) (meeting unit seq frame r rs st c us (meet r c))
    -- the frame below goes on
    hands_on : (c : Outcome) (u : Under) (us : List Under) → Turn (returning c (u ∷ us)) (resume u c us)

  pub data Turns : State → State → Type 0 where
    none : {s : State} → Turns s s
    first : {s s1 s2 : State} → Turn s s1 → Turns s1 s2 → Turns s s2

  -- what a waiting frame comes to, once it is handed an outcome
  abbrev pub Resumes : Under → Outcome → Outcome → Type 0
  Resumes (at_call unit seq frame p st rest q k m) c o = Follows files b unit.seqs unit.bodies seq frame (rows_at p seq.body.rows) st (call_answer q k (p + 1) rest (wrapped m c)) o
  Resumes (at_rescue unit seq frame r rs st) c o = Follows files b unit.seqs unit.bodies seq frame rs st (after_rescue r st c) o
  Resumes (at_ensure unit seq frame r rs st pending) c o = Follows files b unit.seqs unit.bodies seq frame rs st (after_ensure r st pending c) o

  abbrev pub Below : List Under → Outcome → Outcome → Type 0
  Below [] c o = c ≡ o
  Below (u ∷ us) c o = (d : Outcome) × Resumes u c d × Below us d o

  -- THE INVARIANT: the frame on top runs to an outcome, with which those below come to o.
  abbrev pub Leads : State → Outcome → Type 0
  Leads (running unit seq frame p st w us) o = (c : Outcome) × Runs files b unit.seqs unit.bodies seq frame p st w c × Below us c o
  Leads (searching unit seq frame rs st c us) o = (d : Outcome) × Follows files b unit.seqs unit.bodies seq frame rs st (pends c) d × Below us d o
  Leads (returning c us) o = Below us c o
  Leads lost o = ⊥
