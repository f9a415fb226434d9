-- How the plain run as a whole ends: with no return and no break, at the depth and with the files that are loading of the start.
use Rattle.std.proofs.Common.{◌≡◌, ◌+◌, ◌≤◌, Bool, true, false, refl, subst, ◌∙◌, arith, [], None}
use Rattle.std.specs.Prelude.{nat_le}
use Rattle.ruby_tree.specs.Tree.{Tree}
use Rattle.ruby_meaning.specs.Store.{cell_limit}
use Rattle.ruby_meaning.specs.World.{in_class, Frame, World, Target, to_loop, to_call, Outcome, Done, Raise, Break, Next, Return, Retry, Spent, Full, Run, world_of}
use Rattle.ruby_meaning.specs.Steps.{then_do, then, charged, changing}
use Rattle.ruby_meaning.specs.Files.{Files}
use Rattle.ruby_meaning.specs.Loads.{file_code, run_code, load_ruby}
use Rattle.ruby_meaning.specs.Evaluation.{eval, evaluate}
use Rattle.ruby_meaning.specs.PlainRun.{Program, start_world, start_cells, top_frame, with_turns, program_run}
use Rattle.ruby_meaning.specs.RunLaws.{MayBreak, Allowed, EndsOutside}
use Rattle.ruby_meaning.proofs.Truths.{false_true}
use Rattle.ruby_meaning.proofs.Catching.{Within}
use Rattle.ruby_meaning.proofs.StepsOfLoads.{same_code, same_load_in}
use Rattle.ruby_meaning.proofs.Same.{SameOut, Same, same_respects, same_eval, ends}

spent_at : (frame : Frame) (o : Outcome) (z : World) → Allowed frame o → o ≡ Spent z → z.turns ≡ 0
spent_at frame o z a s = subst (Allowed frame) s a

-- a run is spent only where no turn is left
pub spent_without_turns : (files : Files) (t : Tree) (frame : Frame) (w z : World) → evaluate files t frame w ≡ Spent z → z.turns ≡ 0
spent_without_turns files t frame w z s = spent_at frame (evaluate files t frame w) z (ends files t frame w) s

-- nothing is run around this frame
abbrev outside : Frame
outside = record top_frame { home = in_class }

no_break : (t : Target) → MayBreak outside t → ⊥
no_break to_loop h = false_true h
no_break (to_call k) h = false_true h

allowed_outside : (o : Outcome) → Allowed outside o → EndsOutside o
allowed_outside (Done v w) h = tt
allowed_outside (Raise v w) h = tt
allowed_outside (Break t v w) h = no_break t h
allowed_outside (Next v w) h = tt
allowed_outside (Return n v w) h = false_true h
allowed_outside (Retry w) h = tt
allowed_outside (Spent w) h = h
allowed_outside (Full w) h = tt

nothing_around : Within outside top_frame
nothing_around = record { returns = λ n h. false_true h; calls = λ k h. h }

-- what holds of the end of a program
record Ended (o : Outcome) : Type 0 where
  ends : EndsOutside o
  depth : (world_of o).depth ≡ 0
  loading : (world_of o).loading ≡ []

module _ (files : Files) (p : Program) where
  abbrev load : Run
  load = load_ruby files (eval files p.turns) top_frame 0 p.file

  load_out : (w : World) → w.depth ≡ 0 → w.loading ≡ [] → Ended (changing (with_turns p.turns) load w)
  load_out w d l =
      let z : World = with_turns p.turns w in
      let x : SameOut outside z (load z) (load z) = (same_load_in Same same_respects files (eval files p.turns) (eval files p.turns) p.turns outside top_frame nothing_around 0 p.file (λ j t frame lt. same_eval files j p.turns p.turns t frame (omega arith) (omega arith))).by z (omega arith) in
      record { ends = allowed_outside (load z) x.allowed; depth = x.leads.depth ∙ d; loading = x.leads.loading ∙ l }

  after : (o : Outcome) → Ended o → Ended (then_do o (λ v. changing (with_turns p.turns) load))
  after (Done v w) h = load_out w h.depth h.loading
  after (Raise v w) h = h
  after (Break t v w) h = absurd h.ends
  after (Next v w) h = h
  after (Return n v w) h = absurd h.ends
  after (Retry w) h = h
  after (Spent w) h = h
  after (Full w) h = h

  prelude_out : (t : Tree) (w : World) → w.turns ≤ 0 → w.depth ≡ 0 → w.loading ≡ [] → Ended (run_code files (eval files 0) top_frame 0 (file_code [] None t) w)
  prelude_out t w le d l =
      let go : Run = run_code files (eval files 0) top_frame 0 (file_code [] None t) in
      let x : SameOut outside w (go w) (go w) = (same_code Same same_respects files (eval files 0) (eval files 0) 0 outside top_frame nothing_around 0 (file_code [] None t) (λ s frame. same_eval files 0 0 0 s frame (omega arith) (omega arith))).by w le in
      record { ends = allowed_outside (go w) x.allowed; depth = x.leads.depth ∙ d; loading = x.leads.loading ∙ l }

  start_out : (t : Tree) (fits : Bool) → Ended (charged fits (start_cells p) (start_world p) (then (run_code files (eval files 0) top_frame 0 (file_code [] None t)) (λ v. changing (with_turns p.turns) load)))
  start_out t false = record { ends = tt; depth = refl; loading = refl }
  start_out t true =
      let w : World = record (start_world p) { cells = (start_world p).cells + start_cells p } in
      after (run_code files (eval files 0) top_frame 0 (file_code [] None t) w) (prelude_out t w (omega arith) refl refl)

  program_out : (t : Tree) → Ended (program_run files t p (start_world p))
  program_out t = start_out t (nat_le ((start_world p).cells + start_cells p) cell_limit)

pub program_ends : (files : Files) (prelude : Tree) (p : Program) → EndsOutside (program_run files prelude p (start_world p))
program_ends files prelude p = (program_out files p prelude).ends

pub program_depth : (files : Files) (prelude : Tree) (p : Program) → (world_of (program_run files prelude p (start_world p))).depth ≡ 0
program_depth files prelude p = (program_out files p prelude).depth

pub program_loading : (files : Files) (prelude : Tree) (p : Program) → (world_of (program_run files prelude p (start_world p))).loading ≡ []
program_loading files prelude p = (program_out files p prelude).loading
