-- Each turn of the machine keeps what its state leads to.
use Rattle.std.proofs.Common.{ℕ, ◌+◌, sym, subst, List, [], ◌∷◌}
use Rattle.ruby_tree.specs.Tree.{Tree}
use Rattle.ruby_meaning.specs.Value.{Value}
use Rattle.ruby_meaning.specs.World.{Frame, Outcome, Run}
use Rattle.ruby_meaning.specs.Files.{Files}
use Rattle.iseq_types.specs.declared.sequences.CatchRow.{CatchRow}
use Rattle.code_meaning.specs.Code.{Routine, rows_at}
use Rattle.code_meaning.specs.Machine.{Step, goes, pends, pends_behind, ends, stuck, call_answer, Meet, passes, lands, rescues, ensures, meet, step, Follows, Met}
use Rattle.code_meaning.specs.Frames.{wrapped, Tables, Under, at_call, at_rescue, at_ensure, State, proceed, resume, meeting, Turn, steps, calls, drops_frame, looks, hands_on, Turns, none, first, Resumes, Below, Leads}
use Rattle.code_meaning.proofs.Once.{unrolled, went, left, fell, met, was_behind, not_stuck, has_own_row}

module _ (files : Files) (b : Tree → Frame → Run) where
  abbrev F : Tables → Routine → Frame → List CatchRow → List Value → Step → Outcome → Type 0
  F unit seq frame rs st s o = Follows files b unit.seqs unit.bodies seq frame rs st s o

  abbrev B : List Under → Outcome → Outcome → Type 0
  B us c o = Below files b us c o

  proceeds : (s : Step) (unit : Tables) (seq : Routine) (frame : Frame) (rs : List CatchRow) (st : List Value) (us : List Under) (c o : Outcome) → F unit seq frame rs st s c → B us c o → Leads files b (proceed unit seq frame rs st s us) o
  proceeds (goes p st1 w) unit seq frame rs st us c o f y = (c, went files b unit.seqs unit.bodies seq frame rs st p st1 w c f, y)
  proceeds (pends x) unit seq frame rs st us c o f y = (c, f, y)
  proceeds (pends_behind x) unit seq frame [] st us c o f y = absurd (has_own_row files b unit.seqs unit.bodies seq frame st x c f)
  proceeds (pends_behind x) unit seq frame (r ∷ rs) st us c o f y = (c, was_behind files b unit.seqs unit.bodies seq frame r rs st x c f, y)
  proceeds (ends x) unit seq frame rs st us c o f y = subst (λ z. B us z o) (sym (left files b unit.seqs unit.bodies seq frame rs st x c f)) y
  proceeds stuck unit seq frame rs st us c o f y = absurd (not_stuck files b unit.seqs unit.bodies seq frame rs st c f)

  meets : (m : Meet) (unit : Tables) (seq : Routine) (frame : Frame) (r : CatchRow) (rs : List CatchRow) (st : List Value) (x : Outcome) (us : List Under) (c o : Outcome) → Met files b unit.seqs unit.bodies seq frame r rs st x c m → B us c o
      → Leads files b (meeting files b unit seq frame r rs st x us m) o
  meets passes unit seq frame r rs st x us c o f y = (c, f, y)
  meets (lands v w) unit seq frame r rs st x us c o f y = (c, f, y)
  meets (rescues v w) unit seq frame r rs st x us c o f y = (f.0, f.1, (c, f.2, y))
  meets (ensures w) unit seq frame r rs st x us c o f y = (f.0, f.1, (c, f.2, y))

  resumes : (u : Under) (us : List Under) (x c o : Outcome) → Resumes files b u x c → B us c o → Leads files b (resume u x us) o
  resumes (at_call unit seq frame p st rest q k m) us x c o f y = proceeds (call_answer q k (p + 1) rest (wrapped m x)) unit seq frame (rows_at p seq.body.rows) st us c o f y
  resumes (at_rescue unit seq frame r rs st) us x c o f y = proceeds _ unit seq frame rs st us c o f y
  resumes (at_ensure unit seq frame r rs st pending) us x c o f y = proceeds _ unit seq frame rs st us c o f y

  pub turn_keeps : {s s1 : State} → Turn files b s s1 → (o : Outcome) → Leads files b s o → Leads files b s1 o
  turn_keeps (steps unit seq frame p st w us) o h = proceeds (step files b unit.seqs unit.bodies seq frame p st w) unit seq frame (rows_at p seq.body.rows) st us h.0 o (unrolled files b unit.seqs unit.bodies h.1) h.2
  turn_keeps (calls unit seq frame p st rest w us q k m its callee fr entry z c e r) o h =
      (c, r, (h.0, subst (λ x. F unit seq frame (rows_at p seq.body.rows) st x h.0) e (unrolled files b unit.seqs unit.bodies h.1), h.2))
  turn_keeps (drops_frame unit seq frame st c us) o h = subst (λ z. B us z o) (sym (fell files b unit.seqs unit.bodies seq frame st c h.0 h.1)) h.2
  turn_keeps (looks unit seq frame r rs st c us) o h = meets (meet r c) unit seq frame r rs st c us h.0 o (met files b unit.seqs unit.bodies seq frame r rs st c h.0 h.1) h.2
  turn_keeps (hands_on c u us) o h = resumes u us c h.0 o h.1 h.2

  pub turns_keep : {s s1 : State} → Turns files b s s1 → (o : Outcome) → Leads files b s o → Leads files b s1 o
  turns_keep none o h = h
  turns_keep (first t ts) o h = turns_keep ts o (turn_keeps t o h)
