-- How a call comes to a body, or to an outcome without one: a test after another.
use Rattle.std.proofs.Common.{◌≡◌, ℕ, zero, suc, Bool, true, false, refl, ap, ◌∙◌, List, [], length, Option, Some, None}
use Rattle.std.specs.Prelude.{slice_get, codes}
use Rattle.ruby_tree.specs.Names.{Bytes}
use Rattle.ruby_tree.specs.Tree.{Tree}
use Rattle.ruby_meaning.specs.Value.{Value, object, Code, elements, closed}
use Rattle.ruby_meaning.specs.Numbers.{argument_error, system_stack_error, local_jump_error, load_error, syntax_error}
use Rattle.ruby_meaning.specs.Store.{array_cells, proc_cells, environment_cells, new_object, Place}
use Rattle.ruby_meaning.specs.Locals.{place_of, params_of, locals_of}
use Rattle.ruby_meaning.specs.World.{Given, no_block, literal_block, given_proc, Closure, World, Frame, Spent, Full, Run, ruby_file, loaded}
use Rattle.ruby_meaning.specs.Steps.{reading, changing, choose, pay, paid_from, charge, charged, make, deeper, deeper_if, ended, at_depth, raise_new}
use Rattle.ruby_meaning.specs.Calls.{with_step, enter, count_of_params, wrong_count, with_rest, with_block_param, with_locals, bound, has_block_param, all_nil, with_names, with_environment, next_environment, optional_given, block_arguments}
use Rattle.ruby_meaning.specs.Files.{Files, RubyFile, no_ruby, ruby_fault, ruby_tree}
use Rattle.ruby_meaning.specs.Blocks.{in_method_frame, run_method, in_block_frame, run_closure, run_block}
use Rattle.ruby_meaning.specs.ClassBodies.{class_frame, open_class}
use Rattle.ruby_meaning.specs.Loads.{cannot_load, fault_at, in_file_frame, ruby_loaded, load_ruby, next_load}
use Rattle.ruby_meaning.specs.PlainRun.{with_turns}
use Rattle.compile_laws.specs.Calling.{ComesTo, one_deeper, has_depth, has_room, with_cells, rest_fits, rest_value, with_rest_made, proc_fits, proc_value, with_proc_made, rest_of, with_rest_of, with_cells_of, environment_of, with_locals_made, HasRoomFor, entering, takes, at_method, MayRunMethod, method_entered, block_entered, class_entered, file_entered, at_block, taken, MayRunBlock, at_class, MayOpen, loaded_code, at_file, MayLoad}

-- Cells, and what is made of them.

pub charged_room : (n : ℕ) (go : Run) (w : World) → has_room n w ≡ true → charge n go w ≡ go (with_cells n w)
charged_room n go w e = ap (λ y. charged y n w go) e

pub charged_full : (n : ℕ) (go : Run) (w : World) → has_room n w ≡ false → charge n go w ≡ Full w
charged_full n go w e = ap (λ y. charged y n w go) e

pub rest_made : (t : Bool) (vs : List Value) (go : Value → Run) (w : World) → rest_fits t vs w ≡ true → with_rest t vs go w ≡ go (rest_value t w) (with_rest_made t vs w)
rest_made false vs go w e = refl
rest_made true vs go w e = charged_room (array_cells (length vs)) (make (new_object (elements vs)) (λ n. go (object n))) w e

pub rest_full : (t : Bool) (vs : List Value) (go : Value → Run) (w : World) → rest_fits t vs w ≡ false → with_rest t vs go w ≡ Full w
rest_full false vs go w e = absurd (let y : true ≡ false = e in cc)
rest_full true vs go w e = charged_full (array_cells (length vs)) (make (new_object (elements vs)) (λ n. go (object n))) w e

pub proc_made : (t : Bool) (given : Given) (go : Value → Run) (w : World) → proc_fits t given w ≡ true → with_block_param t given go w ≡ go (proc_value t given w) (with_proc_made t given w)
proc_made false given go w e = refl
proc_made true no_block go w e = refl
proc_made true (literal_block k) go w e = charged_room proc_cells (make (new_object (closed k)) (λ n. go (object n))) w e
proc_made true (given_proc n k) go w e = refl

pub proc_full : (t : Bool) (given : Given) (go : Value → Run) (w : World) → proc_fits t given w ≡ false → with_block_param t given go w ≡ Full w
proc_full false given go w e = absurd (let y : true ≡ false = e in cc)
proc_full true no_block go w e = absurd (let y : true ≡ false = e in cc)
proc_full true (literal_block k) go w e = charged_full proc_cells (make (new_object (closed k)) (λ n. go (object n))) w e
proc_full true (given_proc n k) go w e = absurd (let y : true ≡ false = e in cc)

-- The locals of a body.
module _ (parent : Option ℕ) (code : Code) (vs : List Value) (given : Given) (go : ℕ → Run) (w : World) where
  abbrev has_rest : Bool
  has_rest = (count_of_params (params_of code.body)).rest

  abbrev asks : Bool
  asks = has_block_param (params_of code.body)

  abbrev cost : ℕ
  cost = environment_cells (length code.locals)

  abbrev opens : Value → Value → Run
  opens r v = reading next_environment (λ n. changing (with_environment parent (with_names (bound (params_of code.body) vs (optional_given code vs) r v) (all_nil code.locals))) (go n))

  abbrev charges : Value → Run
  charges r = charge cost (with_block_param asks given (opens r))

  abbrev rest_here : Value
  rest_here = rest_value has_rest w

  pub locals_opened : HasRoomFor code vs given w → with_locals parent code vs given go w ≡ go (environment_of code vs given w) (with_locals_made parent code vs given w)
  locals_opened room =
      rest_made has_rest (rest_of code vs) charges w room.rest
      ∙ charged_room cost (with_block_param asks given (opens rest_here)) (with_rest_of code vs w) room.environment
      ∙ proc_made asks given (opens rest_here) (with_cells_of code vs w) room.proc

  pub no_room_for_rest : rest_fits has_rest (rest_of code vs) w ≡ false → with_locals parent code vs given go w ≡ Full w
  no_room_for_rest e = rest_full has_rest (rest_of code vs) charges w e

  pub no_room_for_locals : rest_fits has_rest (rest_of code vs) w ≡ true → has_room cost (with_rest_of code vs w) ≡ false → with_locals parent code vs given go w ≡ Full (with_rest_of code vs w)
  no_room_for_locals e f = rest_made has_rest (rest_of code vs) charges w e ∙ charged_full cost (with_block_param asks given (opens rest_here)) (with_rest_of code vs w) f

  pub no_room_for_proc : rest_fits has_rest (rest_of code vs) w ≡ true → has_room cost (with_rest_of code vs w) ≡ true → proc_fits asks given (with_cells_of code vs w) ≡ false → with_locals parent code vs given go w ≡ Full (with_cells_of code vs w)
  no_room_for_proc e f g =
      rest_made has_rest (rest_of code vs) charges w e ∙ charged_room cost (with_block_param asks given (opens rest_here)) (with_rest_of code vs w) f
      ∙ proc_full asks given (opens rest_here) (with_cells_of code vs w) g

-- Turns and depth.

pub paid_turn : (go : Run) (n : ℕ) (w : World) → w.turns ≡ suc n → pay go w ≡ go (with_turns n w)
paid_turn go n w e = ap (λ k. paid_from k w go) e

pub no_turn : (go : Run) (w : World) → w.turns ≡ zero → pay go w ≡ Spent w
no_turn go w e = ap (λ k. paid_from k w go) e

pub went_deeper : (frame : Frame) (line : ℕ) (go : Run) (w : World) → has_depth w ≡ true → deeper frame line go w ≡ ended (at_depth w.depth) (go (one_deeper w))
went_deeper frame line go w e = ap (λ y. deeper_if y frame line go w) e

pub too_deep : (frame : Frame) (line : ℕ) (go : Run) (w : World) → has_depth w ≡ false → deeper frame line go w ≡ raise_new frame line system_stack_error (codes "stack level too deep") w
too_deep frame line go w e = ap (λ y. deeper_if y frame line go w) e

-- A method.
module _ (frame : Frame) (line : ℕ) (code : Code) (self : Value) (x : Bytes) (place : Place) (vs : List Value) (given : Given) (w : World) where
  abbrev inner : (Tree → Frame → Run) → Run
  inner b = with_locals None code vs given (in_method_frame b frame line code self x place vs given)

  counted_then : takes code vs ≡ true → (b : Tree → Frame → Run) → run_method b frame line code self x place vs given w ≡ pay (deeper frame line (inner b)) (entering code w)
  counted_then e b = ap (λ y. choose y (pay (deeper frame line (inner b))) (raise_new frame line argument_error (wrong_count (length vs) (count_of_params (params_of code.body)))) (entering code w)) e

  pub method_miscounted : takes code vs ≡ false → (b : Tree → Frame → Run) → run_method b frame line code self x place vs given w ≡ raise_new frame line argument_error (wrong_count (length vs) (count_of_params (params_of code.body))) (entering code w)
  method_miscounted e b = ap (λ y. choose y (pay (deeper frame line (inner b))) (raise_new frame line argument_error (wrong_count (length vs) (count_of_params (params_of code.body)))) (entering code w)) e

  pub method_spent : takes code vs ≡ true → (entering code w).turns ≡ zero → (b : Tree → Frame → Run) → run_method b frame line code self x place vs given w ≡ Spent (entering code w)
  method_spent e t b = counted_then e b ∙ no_turn (deeper frame line (inner b)) (entering code w) t

  module _ (turns : ℕ) (counted : takes code vs ≡ true) (turn : (entering code w).turns ≡ suc turns) where
    paid_then : (b : Tree → Frame → Run) → run_method b frame line code self x place vs given w ≡ deeper frame line (inner b) (with_turns turns (entering code w))
    paid_then b = counted_then counted b ∙ paid_turn (deeper frame line (inner b)) turns (entering code w) turn

    pub method_too_deep : has_depth (entering code w) ≡ false → (b : Tree → Frame → Run) → run_method b frame line code self x place vs given w ≡ raise_new frame line system_stack_error (codes "stack level too deep") (with_turns turns (entering code w))
    method_too_deep e b = paid_then b ∙ too_deep frame line (inner b) (with_turns turns (entering code w)) e

    abbrev inside : World
    inside = at_method code turns w

    deeper_then : has_depth (entering code w) ≡ true → (b : Tree → Frame → Run) → run_method b frame line code self x place vs given w ≡ ended (at_depth (entering code w).depth) (inner b inside)
    deeper_then e b = paid_then b ∙ went_deeper frame line (inner b) (with_turns turns (entering code w)) e

  pub method_enters : (turns : ℕ) → MayRunMethod code vs given turns w
      → ComesTo (λ b. run_method b frame line code self x place vs given w) (method_entered frame line code self x place vs given turns w)
  method_enters turns may b =
      deeper_then turns may.counted may.turn may.deep b
      ∙ ap (ended (at_depth (entering code w).depth)) (locals_opened None code vs given (in_method_frame b frame line code self x place vs given) (at_method code turns w) may.room)

  -- with a turn and the depth, but not all the cells
  pub method_full : (turns : ℕ) (z : World) → takes code vs ≡ true → (entering code w).turns ≡ suc turns → has_depth (entering code w) ≡ true
      → ((go : ℕ → Run) → with_locals None code vs given go (at_method code turns w) ≡ Full z) → (b : Tree → Frame → Run) → run_method b frame line code self x place vs given w ≡ Full (at_depth (entering code w).depth z)
  method_full turns z counted turn deep e b =
      deeper_then turns counted turn deep b ∙ ap (ended (at_depth (entering code w).depth)) (e (in_method_frame b frame line code self x place vs given))

-- A block.
module _ (frame : Frame) (line k : ℕ) (vs : List Value) (c : Closure) (w : World) where
  abbrev in_body : (Tree → Frame → Run) → List Value → Run
  in_body b us = with_locals (Some c.environment) c.code us no_block (in_block_frame b frame line c k)

  abbrev from_entry : (Tree → Frame → Run) → Run
  from_entry b = changing (entering c.code) (reading (λ z. block_arguments z.objects (params_of c.code.body) vs) (in_body b))

  pub block_spent : w.turns ≡ zero → (b : Tree → Frame → Run) → run_closure b frame line k vs (Some c) w ≡ Spent w
  block_spent t b = no_turn (deeper frame line (from_entry b)) w t

  module _ (turns : ℕ) (turn : w.turns ≡ suc turns) where
    pub block_too_deep : has_depth w ≡ false → (b : Tree → Frame → Run) → run_closure b frame line k vs (Some c) w ≡ raise_new frame line system_stack_error (codes "stack level too deep") (with_turns turns w)
    block_too_deep e b = paid_turn (deeper frame line (from_entry b)) turns w turn ∙ too_deep frame line (from_entry b) (with_turns turns w) e

    block_then : has_depth w ≡ true → (b : Tree → Frame → Run) → run_closure b frame line k vs (Some c) w ≡ ended (at_depth w.depth) (in_body b (taken c.code vs (at_block c.code turns w)) (at_block c.code turns w))
    block_then e b = paid_turn (deeper frame line (from_entry b)) turns w turn ∙ went_deeper frame line (from_entry b) (with_turns turns w) e

  pub block_full : (turns : ℕ) (z : World) → w.turns ≡ suc turns → has_depth w ≡ true
      → ((go : ℕ → Run) → with_locals (Some c.environment) c.code (taken c.code vs (at_block c.code turns w)) no_block go (at_block c.code turns w) ≡ Full z)
      → (b : Tree → Frame → Run) → run_closure b frame line k vs (Some c) w ≡ Full (at_depth w.depth z)
  block_full turns z turn deep e b = block_then turns turn deep b ∙ ap (ended (at_depth w.depth)) (e (in_block_frame b frame line c k))

  pub closure_enters : (turns : ℕ) → MayRunBlock c.code vs turns w
      → ComesTo (λ b. run_closure b frame line k vs (Some c) w) (block_entered frame line k vs c turns w)
  closure_enters turns may b =
      block_then turns may.turn may.deep b
      ∙ ap (ended (at_depth w.depth)) (locals_opened (Some c.environment) c.code (taken c.code vs (at_block c.code turns w)) no_block (in_block_frame b frame line c k) (at_block c.code turns w) may.room)

pub block_found : (b : Tree → Frame → Run) (frame : Frame) (line k : ℕ) (vs : List Value) (c : Closure) (w : World) → slice_get w.closures k ≡ Some c → run_block b frame line k vs w ≡ run_closure b frame line k vs (Some c) w
block_found b frame line k vs c w e = ap (λ o. run_closure b frame line k vs o w) e

pub no_closure : (b : Tree → Frame → Run) (frame : Frame) (line k : ℕ) (vs : List Value) (w : World) → slice_get w.closures k ≡ None → run_block b frame line k vs w ≡ raise_new frame line local_jump_error (codes "no block given (yield)") w
no_closure b frame line k vs w e = ap (λ o. run_closure b frame line k vs o w) e

pub block_enters : (frame : Frame) (line k : ℕ) (vs : List Value) (c : Closure) (turns : ℕ) (w : World) → slice_get w.closures k ≡ Some c → MayRunBlock c.code vs turns w
    → ComesTo (λ b. run_block b frame line k vs w) (block_entered frame line k vs c turns w)
block_enters frame line k vs c turns w e may b = block_found b frame line k vs c w e ∙ closure_enters frame line k vs c w turns may b

-- The body of a class.
module _ (frame : Frame) (line : ℕ) (t : Tree) (c : ℕ) (w : World) where
  abbrev class_cost : ℕ
  class_cost = environment_cells (length (locals_of [] t))

  abbrev opening : (Frame → Run) → Run
  opening go = reading next_environment (λ n. changing (with_environment None (all_nil (locals_of [] t))) (go (class_frame frame line t c n)))

  pub class_too_deep : has_depth w ≡ false → (go : Frame → Run) → open_class frame line t go c w ≡ raise_new frame line system_stack_error (codes "stack level too deep") w
  class_too_deep e go = too_deep frame line (changing (enter frame.code.source (place_of t)) (charge class_cost (opening go))) w e

  class_then : has_depth w ≡ true → (go : Frame → Run) → open_class frame line t go c w ≡ ended (at_depth w.depth) (charge class_cost (opening go) (at_class frame t w))
  class_then e go = went_deeper frame line (changing (enter frame.code.source (place_of t)) (charge class_cost (opening go))) w e

  pub class_full : has_depth w ≡ true → has_room class_cost (at_class frame t w) ≡ false → (go : Frame → Run) → open_class frame line t go c w ≡ Full (at_depth w.depth (at_class frame t w))
  class_full e f go = class_then e go ∙ ap (ended (at_depth w.depth)) (charged_full class_cost (opening go) (at_class frame t w) f)

  pub class_enters : MayOpen frame t w → ComesTo (λ b. open_class frame line t (b t) c w) (class_entered frame line t c w)
  class_enters may b = class_then may.deep (b t) ∙ ap (ended (at_depth w.depth)) (charged_room class_cost (opening (b t)) (at_class frame t w) may.room)

-- A file.
module _ (files : Files) (frame : Frame) (line : ℕ) (path : Bytes) (w : World) where
  abbrev loading_file : (Tree → Frame → Run) → Run
  loading_file b = reading next_load (λ load. changing (with_step (loaded ruby_file path)) (ruby_loaded files b frame line path load (files.ruby path)))

  pub file_spent : w.turns ≡ zero → (b : Tree → Frame → Run) → load_ruby files b frame line path w ≡ Spent w
  file_spent t b = no_turn (deeper frame line (loading_file b)) w t

  module _ (turns : ℕ) (turn : w.turns ≡ suc turns) where
    abbrev fetched : World
    fetched = with_step (loaded ruby_file path) (one_deeper (with_turns turns w))

    pub file_too_deep : has_depth w ≡ false → (b : Tree → Frame → Run) → load_ruby files b frame line path w ≡ raise_new frame line system_stack_error (codes "stack level too deep") (with_turns turns w)
    file_too_deep e b = paid_turn (deeper frame line (loading_file b)) turns w turn ∙ too_deep frame line (loading_file b) (with_turns turns w) e

    file_then : has_depth w ≡ true → (b : Tree → Frame → Run) → load_ruby files b frame line path w ≡ ended (at_depth w.depth) (ruby_loaded files b frame line path (next_load w) (files.ruby path) fetched)
    file_then e b = paid_turn (deeper frame line (loading_file b)) turns w turn ∙ went_deeper frame line (loading_file b) (with_turns turns w) e

    file_read : (f : RubyFile) → files.ruby path ≡ f → has_depth w ≡ true → (b : Tree → Frame → Run) → load_ruby files b frame line path w ≡ ended (at_depth w.depth) (ruby_loaded files b frame line path (next_load w) f fetched)
    file_read f r e b = file_then e b ∙ ap (λ y. ended (at_depth w.depth) (ruby_loaded files b frame line path (next_load w) y fetched)) r

    pub file_lost : has_depth w ≡ true → files.ruby path ≡ no_ruby → (b : Tree → Frame → Run) → load_ruby files b frame line path w ≡ ended (at_depth w.depth) (raise_new frame line load_error (cannot_load path) fetched)
    file_lost e r b = file_read no_ruby r e b

    pub file_at_fault : (n : ℕ) → has_depth w ≡ true → files.ruby path ≡ ruby_fault n → (b : Tree → Frame → Run)
        → load_ruby files b frame line path w ≡ ended (at_depth w.depth) (raise_new frame line syntax_error (fault_at path n (codes "syntax error")) fetched)
    file_at_fault n e r b = file_read (ruby_fault n) r e b

    module _ (t : Tree) (is : files.ruby path ≡ ruby_tree t) where
      abbrev file_cost : ℕ
      file_cost = environment_cells (length (locals_of [] t))

      abbrev runs_file : (Tree → Frame → Run) → Run
      runs_file b =
          reading next_environment (λ n. changing (with_environment None (all_nil (locals_of [] t))) (in_file_frame files b frame line (loaded_code path t w) n))

      pub file_full : has_depth w ≡ true → has_room file_cost (at_file path turns w) ≡ false → (b : Tree → Frame → Run) → load_ruby files b frame line path w ≡ Full (at_depth w.depth (at_file path turns w))
      file_full e f b = file_read (ruby_tree t) is e b ∙ ap (ended (at_depth w.depth)) (charged_full file_cost (runs_file b) (at_file path turns w) f)

  pub file_enters : (turns : ℕ) (t : Tree) → files.ruby path ≡ ruby_tree t → MayLoad path t turns w
      → ComesTo (λ b. load_ruby files b frame line path w) (file_entered frame line path t turns w)
  file_enters turns t is may b =
      file_read turns may.turn (ruby_tree t) is may.deep b
      ∙ ap (ended (at_depth w.depth)) (charged_room (environment_cells (length (locals_of [] t))) (runs_file turns may.turn t is b) (at_file path turns w) may.room)
