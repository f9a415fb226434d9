-- Steps of a run of code.
use Rattle.std.proofs.Common.{◌≡◌, ℕ, List, [], ◌∷◌, sym, ◌∙◌, ap, refl}
use Rattle.iseq_types.specs.declared.sequences.Line.{Line as CodeLine}
use Rattle.bootsnap_top.specs.SmallRun.{Answer, behind}
use Rattle.bootsnap_top.specs.Machine.{MachineState, Goes, Ends, step_of, run_code, end_answer, EndsWith}
use Rattle.bootsnap_top.specs.declared.machine.steps.End.{End}
use Rattle.bootsnap_top.specs.declared.machine.steps.End.TheVariants as end
use Rattle.bootsnap_top.proofs.Sending.{EndsAlike}

-- an instruction that goes on writes its piece, and the run goes on
pub code_gone_on : (path : List ℕ) (rest left : List CodeLine) (line : CodeLine) (state after : MachineState) (piece : List ℕ) → rest ≡ line ∷ left → Goes piece after ≡ step_of state line → run_code path rest state ≡ behind piece (run_code path left after)
code_gone_on path rest left line state after piece r s = rw (r, ← s) refl

-- another one ends the run
pub code_ended : (path : List ℕ) (rest left : List CodeLine) (line : CodeLine) (state : MachineState) (end : End) → rest ≡ line ∷ left → Ends end ≡ step_of state line → run_code path rest state ≡ end_answer path end
code_ended path rest left line state end r s = rw (r, ← s) refl

pub code_over : (path : List ℕ) (rest : List CodeLine) (state : MachineState) → rest ≡ [] → run_code path rest state ≡ end_answer path end.NotYet
code_over path rest state r = rw r refl

-- the end of what is left is that of all
pub ends_with : {now all : Answer} (path : List ℕ) (end : End) → now ≡ end_answer path end → EndsAlike now all → EndsWith path end all
ends_with path end e h = record { errors = sym h.errors ∙ ap (λ a. a.errors) e; ending_is = sym h.ending_is ∙ ap (λ a. a.ending) e }

-- a run that ended writes nothing more
pub nothing_more : (path : List ℕ) (end : End) → (end_answer path end).output ≡ []
nothing_more path end.Left = refl
nothing_more path (end.OutOfRange number) = refl
nothing_more path end.NotYet = refl
