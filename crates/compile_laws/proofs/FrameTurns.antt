-- The turns of a machine at a call: a frame goes on top, or the caller goes on with an outcome; and the file of a program.
use Rattle.std.proofs.Common.{◌≡◌, false, ℕ, suc, ◌+◌, ◌≤◌, true, sym, subst, ap, ◌∙◌, arith, List, [], ◌∷◌, length, Option, Some, None}
use Rattle.std.specs.Prelude.{slice_get, is_some}
use Rattle.ruby_tree.specs.Names.{Bytes}
use Rattle.ruby_tree.specs.Tree.{Tree}
use Rattle.iseq_types.specs.declared.instructions.Instr.TheVariants.{Send, InvokeBlock}
use Rattle.iseq_types.specs.declared.sequences.SeqKind.{SeqKind}
use Rattle.ruby_meaning.specs.Value.{Value, Code, written}
use Rattle.ruby_meaning.specs.Store.{environment_cells, Place, find_method}
use Rattle.ruby_meaning.specs.Locals.{locals_of}
use Rattle.ruby_meaning.specs.World.{ruby_file, loaded, Given, no_block, Closure, World, Frame, Outcome, Run, Full}
use Rattle.ruby_meaning.specs.Steps.{then_do, then, changing, reading, returned, stand}
use Rattle.ruby_meaning.specs.Calls.{with_step, spread, optional_given, all_nil, with_environment, next_environment}
use Rattle.ruby_meaning.specs.Files.{Files, ruby_tree}
use Rattle.ruby_meaning.specs.Loads.{file_body, file_code, file_frame, in_file_frame, run_code, load_ruby, next_load}
use Rattle.ruby_meaning.specs.Invoke.{run_if_found}
use Rattle.ruby_meaning.specs.Levels.{Scopes}
use Rattle.ruby_meaning.specs.InSight.{HaveNames}
use Rattle.ruby_meaning.specs.Evaluation.{eval, evaluate}
use Rattle.ruby_meaning.specs.PlainRun.{Program, top_frame, start_cells, with_turns, program_run}
use Rattle.ruby_meaning.proofs.Same.{enough}
use Rattle.code_meaning.specs.Code.{at_line, Routine, rows_at}
use Rattle.code_meaning.specs.Machine.{is_valued, is_bare, call_answer, Runs}
use Rattle.code_meaning.specs.Frames.{Wrap, of_method, of_block, wrapped, Tables, Under, at_call, running, proceed, Turn, steps, calls}
use Rattle.compile_table.specs.Shapes.{Where}
use Rattle.compile_laws.specs.Finds.{body_routine, start_of}
use Rattle.compile_laws.specs.Begins.{Begins, IsCodeAt}
use Rattle.compile_laws.specs.Calling.{entering, MayRunMethod, method_environment, method_world, called_frame, method_entered, MayRunBlock, block_world, yielded_frame, block_entered, given_by, closure_given, calling_frame, calling_given, calling_world, pushed, with_block_value, at_once, enters, has_room, one_deeper, with_cells, MayLoad, file_environment, file_world, loaded_code, loaded_frame, StepCalls}
use Rattle.compile_laws.proofs.BodyRuns.{body_runs}
use Rattle.compile_laws.proofs.FramesBegin.{entry_keeps, method_begins, block_begins}
use Rattle.compile_laws.proofs.Enters.{charged_room, charged_full, method_enters, block_enters, file_enters}
use Rattle.compile_laws.proofs.CallsCome.{block_given_by}
use Rattle.compile_laws.proofs.StepsCome.{send_calls, yield_calls}

module _ (files : Files) where
  pub begun_runs : (unit : Tables) (l : Where) (kind : SeqKind) (name : Bytes) (t : Tree) (frame : Frame) (w : World) → Begins unit l t frame w
      → Runs files (evaluate files) unit.seqs unit.bodies (body_routine l kind name t) frame (start_of l t frame.given) [] w (evaluate files t frame w)
  begun_runs unit l kind name t frame w h = body_runs files unit.seqs unit.bodies t l kind name frame w h.no_loop h.no_clause h.stands h.sight.scopes h.finds h.outside

  pub frame_on_top : (unit its : Tables) (seq : Routine) (frame : Frame) (p : ℕ) (st rest : List Value) (w : World) (us : List Under) (q : ℕ) (m : Wrap) (l : Where) (kind : SeqKind) (name : Bytes) (t : Tree) (fr : Frame) (z : World)
      → StepCalls files unit seq frame p st w q rest (enters m t fr z) → Begins its l t fr z
      → Turn files (evaluate files) (running unit seq frame p st w us) (running its (body_routine l kind name t) fr (start_of l t fr.given) [] z (at_call unit seq frame p st rest q (length w.closures) m ∷ us))
  frame_on_top unit its seq frame p st rest w us q m l kind name t fr z e h =
      calls unit seq frame p st rest w us q (length w.closures) m its (body_routine l kind name t) fr (start_of l t fr.given) z (evaluate files t fr z) (e (evaluate files)) (begun_runs its l kind name t fr z h)

  pub without_frame : (b : Tree → Frame → Run) (unit : Tables) (seq : Routine) (frame : Frame) (p : ℕ) (st rest : List Value) (w : World) (us : List Under) (q : ℕ) (o : Outcome) → StepCalls files unit seq frame p st w q rest (at_once o)
      → Turn files b (running unit seq frame p st w us) (proceed unit seq frame (rows_at p seq.body.rows) st (call_answer q (length w.closures) (p + 1) rest o) us)
  without_frame b unit seq frame p st rest w us q o e =
      subst (λ s. Turn files b (running unit seq frame p st w us) (proceed unit seq frame (rows_at p seq.body.rows) st s us)) (e b) (steps unit seq frame p st w us)

  -- a send of a method that is found and may run
  pub send_turn : (unit its : Tables) (seq : Routine) (frame : Frame) (p line : ℕ) (w : World) (us : List Under) (x : Bytes) (n : ℕ) (ks : List ℕ) (flags q : ℕ) (v : Option Value) (given : Given) (vs : List Value) (self : Value) (rest : List Value)
      (l : Where) (kind : SeqKind) (name : Bytes) (place : Place) (code : Code) (turns : ℕ) → slice_get seq.body.code p ≡ Some (at_line line (Send x n ks flags q)) → is_valued flags ≡ is_some v → n ≡ length vs → given_by w.objects no_block v ≡ Some given
      → find_method (calling_world unit.bodies q frame w).objects self x ≡ Some (record { place = place; body = written code })
      → MayRunMethod code (spread ks vs (calling_world unit.bodies q frame w)) (calling_given q given w) turns (calling_world unit.bodies q frame w) → IsCodeAt its l [] code
      → Turn files (evaluate files) (running unit seq frame p (with_block_value v (pushed vs (self ∷ rest))) w us)
      (running its (body_routine l kind name code.body)
      (called_frame (calling_frame q frame w) line code self x place (spread ks vs (calling_world unit.bodies q frame w)) (calling_given q given w) turns (calling_world unit.bodies q frame w))
      (start_of l code.body (optional_given code (spread ks vs (calling_world unit.bodies q frame w)))) []
      (method_world code (spread ks vs (calling_world unit.bodies q frame w)) (calling_given q given w) turns (calling_world unit.bodies q frame w))
      (at_call unit seq frame p (with_block_value v (pushed vs (self ∷ rest))) rest q (length w.closures)
      (of_method (entering code (calling_world unit.bodies q frame w)).depth (method_environment code (spread ks vs (calling_world unit.bodies q frame w)) (calling_given q given w) turns (calling_world unit.bodies q frame w))) ∷ us))
  send_turn unit its seq frame p line w us x n ks flags q v given vs self rest l kind name place code turns e f g is found may stands =
      let z : World = calling_world unit.bodies q frame w in let fr : Frame = calling_frame q frame w in let them : List Value = spread ks vs z in let its_block : Given = calling_given q given w in
      frame_on_top unit its seq frame p (with_block_value v (pushed vs (self ∷ rest))) rest w us q (of_method (entering code z).depth (method_environment code them its_block turns z)) l kind name code.body
      (called_frame fr line code self x place them its_block turns z) (method_world code them its_block turns z)
      (send_calls files unit seq frame p line w (method_entered fr line code self x place them its_block turns z) x n ks flags q v given vs self rest e f g is
      (λ b. ap (λ o. run_if_found files b fr line self x them its_block (is_bare flags) o z) found ∙ method_enters fr line code self x place them its_block z turns may b))
      (method_begins its l fr line code self x place them its_block turns z stands)

  -- a yield to a block that may run
  pub yield_turn : (unit its : Tables) (seq : Routine) (frame : Frame) (p line : ℕ) (w : World) (us : List Under) (n : ℕ) (ks : List ℕ) (vs rest : List Value) (l : Where) (scopes : Scopes) (kind : SeqKind) (name : Bytes) (k : ℕ) (c : Closure) (turns : ℕ)
      → slice_get seq.body.code p ≡ Some (at_line line (InvokeBlock n ks)) → n ≡ length vs → closure_given frame.block ≡ Some k → slice_get w.closures k ≡ Some c → MayRunBlock c.code (spread ks vs w) turns w
      → IsCodeAt its l scopes c.code → HaveNames (length w.environments) scopes w.environments (Some c.environment)
      → Turn files (evaluate files) (running unit seq frame p (pushed vs rest) w us)
      (running its (body_routine l kind name c.code.body) (yielded_frame frame line c k (spread ks vs w) turns w) (start_of l c.code.body 0) [] (block_world c (spread ks vs w) turns w)
      (at_call unit seq frame p (pushed vs rest) rest 0 (length w.closures) (of_block w.depth) ∷ us))
  yield_turn unit its seq frame p line w us n ks vs rest l scopes kind name k c turns e f of there may stands names =
      frame_on_top unit its seq frame p (pushed vs rest) rest w us 0 (of_block w.depth) l kind name c.code.body (yielded_frame frame line c k (spread ks vs w) turns w) (block_world c (spread ks vs w) turns w)
      (yield_calls files unit seq frame p line w (block_entered frame line k (spread ks vs w) c turns w) n ks vs rest e f
      (λ b. block_given_by b frame line k frame.block (spread ks vs w) w of ∙ block_enters frame line k (spread ks vs w) c turns w there may b))
      (block_begins its l scopes frame line k (spread ks vs w) c turns w stands names)

  -- The file of a program, with its turns.

  file_turns : (path : Bytes) (t : Tree) (turns : ℕ) (w : World) → (file_world path t turns w).turns ≡ turns
  file_turns path t turns w = ap (λ y. y.turns) (entry_keeps (next_load w) 0 (with_step (loaded ruby_file path) (one_deeper (with_turns turns w))))

  pub program_file : (n : ℕ) (path : Bytes) (t : Tree) (turns : ℕ) (w : World) → files.ruby path ≡ ruby_tree t → w.turns ≤ n → MayLoad path t turns w
      → load_ruby files (eval files n) top_frame 0 path w
      ≡ wrapped (of_method w.depth (file_environment path t turns w)) (evaluate files (loaded_code path t w).body (loaded_frame top_frame 0 path t turns w) (file_world path t turns w))
  program_file n path t turns w is le may =
      let z : World = file_world path t turns w in let fr : Frame = loaded_frame top_frame 0 path t turns w in
      let few : z.turns ≤ n = let e : z.turns ≡ turns = file_turns path t turns w in let f : w.turns ≡ suc turns = may.turn in omega (arith, le) in
      file_enters files top_frame 0 path w turns t is may (eval files n)
      ∙ ap (wrapped (of_method w.depth (file_environment path t turns w))) (enough files n (loaded_code path t w).body fr z few)

  pub program_full : (prelude : Tree) (p : Program) (w : World) → has_room (start_cells p) w ≡ false → program_run files prelude p w ≡ Full w
  program_full prelude p w none = charged_full (start_cells p) (then (run_code files (eval files 0) top_frame 0 (file_code [] None prelude)) (λ v. changing (with_turns p.turns) (load_ruby files (eval files p.turns) top_frame 0 p.file))) w none

  pub prelude_full : (prelude : Tree) (p : Program) (w : World) → has_room (start_cells p) w ≡ true → has_room (environment_cells (length (locals_of [] prelude))) (with_cells (start_cells p) w) ≡ false → program_run files prelude p w ≡ Full (with_cells (start_cells p) w)
  prelude_full prelude p w room none =
      let after : Value → Run = λ v. changing (with_turns p.turns) (load_ruby files (eval files p.turns) top_frame 0 p.file) in
      let runs : Run = reading next_environment (λ n. changing (with_environment None (all_nil (locals_of [] prelude))) (in_file_frame files (eval files 0) top_frame 0 (file_code [] None prelude) n)) in
      charged_room (start_cells p) (then (run_code files (eval files 0) top_frame 0 (file_code [] None prelude)) after) w room
      ∙ ap (λ o. then_do o after) (charged_full (environment_cells (length (locals_of [] prelude))) runs (with_cells (start_cells p) w) none)

  -- The prelude, which is run with no turn, and then the program's file.
  pub program_begins : (prelude : Tree) (p : Program) (w : World) → w.turns ≡ 0 → has_room (start_cells p) w ≡ true → has_room (environment_cells (length (locals_of [] prelude))) (with_cells (start_cells p) w) ≡ true
      → program_run files prelude p w
      ≡ then_do (returned (next_environment w) (evaluate files (file_body prelude) (file_frame (file_code [] None prelude) (next_environment w) (stand top_frame 0) top_frame.running top_frame.calling)
      (with_environment None (all_nil (locals_of [] prelude)) (with_cells (environment_cells (length (locals_of [] prelude))) (with_cells (start_cells p) w)))))
      (λ v. changing (with_turns p.turns) (load_ruby files (eval files p.turns) top_frame 0 p.file))
  program_begins prelude p w none room more =
      let after : Value → Run = λ v. changing (with_turns p.turns) (load_ruby files (eval files p.turns) top_frame 0 p.file) in
      let cost : ℕ = environment_cells (length (locals_of [] prelude)) in
      let z : World = with_environment None (all_nil (locals_of [] prelude)) (with_cells cost (with_cells (start_cells p) w)) in
      let fr : Frame = file_frame (file_code [] None prelude) (next_environment w) (stand top_frame 0) top_frame.running top_frame.calling in
      let runs : Run = reading next_environment (λ n. changing (with_environment None (all_nil (locals_of [] prelude))) (in_file_frame files (eval files 0) top_frame 0 (file_code [] None prelude) n)) in
      charged_room (start_cells p) (then (run_code files (eval files 0) top_frame 0 (file_code [] None prelude)) after) w room
      ∙ ap (λ o. then_do o after) (charged_room cost runs (with_cells (start_cells p) w) more
      ∙ ap (λ n. returned (next_environment w) (eval files n (file_body prelude) fr z)) (sym none))
