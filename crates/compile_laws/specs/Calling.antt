-- What a call tests and makes before a body runs, and the frame and the world in which the body begins.
use Rattle.std.specs.Prelude.{◌≡◌, ℕ, zero, suc, ◌+◌, Bool, true, false, nat_le, nat_lt, List, [], ◌∷◌, ◌++◌, length, drop, Option, Some, None, ⊤}
use Rattle.bs_outside.specs.Paths.{parent_of}
use Rattle.ruby_tree.specs.Names.{Bytes}
use Rattle.ruby_tree.specs.Tree.{Tree}
use Rattle.ruby_meaning.specs.NativeName.{Control, control_require, control_require_relative, control_load, control_gets, control_block_given, control_emit, control_throw, control_call, control_load_yaml, control_load_json}
use Rattle.ruby_meaning.specs.Value.{Value, nil, object, Code, elements, closed, class_or_module, Objects}
use Rattle.ruby_meaning.specs.Store.{cell_limit, class_cells, name_cells, array_cells, proc_cells, environment_cells, new_object, next_number, Place}
use Rattle.ruby_meaning.specs.Constants.{innermost, name_behind}
use Rattle.ruby_meaning.specs.Locals.{place_of, first_line_of, params_of, locals_of}
use Rattle.ruby_meaning.specs.World.{Given, no_block, literal_block, given_proc, Closure, Frame, World, Outcome, Run, frame_limit, ruby_file, loaded, Ask, ask_require, ask_relative, ask_load, asked, path_of, loaded_of}
use Rattle.ruby_meaning.specs.Steps.{with_object, at_depth, stand}
use Rattle.ruby_meaning.specs.Calls.{with_step, with_entry, enter, count_of_params, fits, bound, has_block_param, all_nil, with_names, with_environment, next_environment, optional_given, method_frame, block_frame, block_arguments}
use Rattle.ruby_meaning.specs.Loads.{file_code, file_frame, next_load, with_loading}
use Rattle.ruby_meaning.specs.Files.{Files}
use Rattle.ruby_meaning.specs.Definitions.{closure_here, with_closure, with_constant}
use Rattle.ruby_meaning.specs.ClassBodies.{class_frame}
use Rattle.ruby_meaning.specs.Parts.{given_of}
use Rattle.ruby_meaning.specs.PlainRun.{with_turns}
use Rattle.code_meaning.specs.Machine.{Step, call_answer, step}
use Rattle.code_meaning.specs.Frames.{Wrap, of_method, of_block, of_class, of_file, wrapped, Tables}
use Rattle.code_meaning.specs.Code.{Routine}

-- What a call comes to: an outcome, without a frame; or a body, which runs in a frame from a world on, and whose outcome becomes the call's.
pub data Comes : Type 0 where
  at_once : Outcome → Comes
  enters : Wrap → Tree → Frame → World → Comes

-- the outcome of a call that comes to this, by what bodies do
abbrev pub outcome_of : (Tree → Frame → Run) → Comes → Outcome
outcome_of b (at_once o) = o
outcome_of b (enters m t fr z) = wrapped m (b t fr z)

-- Whatever bodies do, the call comes to this.
abbrev pub ComesTo : ((Tree → Frame → Run) → Outcome) → Comes → Type 0
ComesTo call c = (b : Tree → Frame → Run) → call b ≡ outcome_of b c

-- A frame that a body begins in: in no loop, at the first line of the body.
abbrev pub IsFresh : Comes → Type 0
IsFresh (at_once o) = ⊤
IsFresh (enters m t fr z) = (fr.in_loop ≡ false) × (fr.first ≡ first_line_of t) × (fr.code.body ≡ t)

-- Turns, depth and cells.

abbrev pub one_deeper : World → World
one_deeper w = at_depth (suc w.depth) w

-- a frame more may stand
abbrev pub has_depth : World → Bool
has_depth w = nat_lt w.depth frame_limit

-- so many cells more may be used
abbrev pub has_room : ℕ → World → Bool
has_room n w = nat_le (w.cells + n) cell_limit

abbrev pub with_cells : ℕ → World → World
with_cells n w = record w { cells = w.cells + n }

-- The Array of a rest parameter, where there is one.

abbrev pub rest_fits : Bool → List Value → World → Bool
rest_fits false vs w = true
rest_fits true vs w = has_room (array_cells (length vs)) w

abbrev pub rest_value : Bool → World → Value
rest_value false w = nil
rest_value true w = object (next_number w.objects)

abbrev pub with_rest_made : Bool → List Value → World → World
with_rest_made false vs w = w
with_rest_made true vs w = with_object (new_object (elements vs)) (with_cells (array_cells (length vs)) w)

-- The Proc of a block parameter, where there is one: a new one for a literal block alone.

abbrev pub proc_fits : Bool → Given → World → Bool
proc_fits false given w = true
proc_fits true no_block w = true
proc_fits true (literal_block k) w = has_room proc_cells w
proc_fits true (given_proc n k) w = true

abbrev pub proc_value : Bool → Given → World → Value
proc_value false given w = nil
proc_value true no_block w = nil
proc_value true (literal_block k) w = object (next_number w.objects)
proc_value true (given_proc n k) w = object n

abbrev pub with_proc_made : Bool → Given → World → World
with_proc_made false given w = w
with_proc_made true no_block w = w
with_proc_made true (literal_block k) w = with_object (new_object (closed k)) (with_cells proc_cells w)
with_proc_made true (given_proc n k) w = w

-- The locals of a body: first the rest parameter's Array, then the cells of the environment, then the Proc, and then the environment.

-- the arguments that a rest parameter takes
abbrev pub rest_of : Code → List Value → List Value
rest_of code vs = drop ((count_of_params (params_of code.body)).required + (count_of_params (params_of code.body)).optional) vs

abbrev pub with_rest_of : Code → List Value → World → World
with_rest_of code vs w = with_rest_made (count_of_params (params_of code.body)).rest (rest_of code vs) w

abbrev pub with_cells_of : Code → List Value → World → World
with_cells_of code vs w = with_cells (environment_cells (length code.locals)) (with_rest_of code vs w)

abbrev pub with_proc_of : Code → List Value → Given → World → World
with_proc_of code vs given w = with_proc_made (has_block_param (params_of code.body)) given (with_cells_of code vs w)

-- the locals with their first values
abbrev pub locals_made : Code → List Value → Given → World → List (Bytes × Value)
locals_made code vs given w =
    with_names (bound (params_of code.body) vs (optional_given code vs) (rest_value (count_of_params (params_of code.body)).rest w) (proc_value (has_block_param (params_of code.body)) given (with_cells_of code vs w)))
    (all_nil code.locals)

-- the number of the environment, and the world with it
abbrev pub environment_of : Code → List Value → Given → World → ℕ
environment_of code vs given w = next_environment (with_proc_of code vs given w)

abbrev pub with_locals_made : Option ℕ → Code → List Value → Given → World → World
with_locals_made parent code vs given w = with_environment parent (locals_made code vs given w) (with_proc_of code vs given w)

-- The cells for all of them are there.
pub record HasRoomFor (code : Code) (vs : List Value) (given : Given) (w : World) : Type 0 where
  pub rest : rest_fits (count_of_params (params_of code.body)).rest (rest_of code vs) w ≡ true
  pub environment : has_room (environment_cells (length code.locals)) (with_rest_of code vs w) ≡ true
  pub proc : proc_fits (has_block_param (params_of code.body)) given (with_cells_of code vs w) ≡ true

-- Some of the cells are not there, and this is the world in which they are wanting: for the rest parameter, for the environment, or for the Proc.
pub data IsFullFor (code : Code) (vs : List Value) (given : Given) (w : World) : World → Type 0 where
  at_rest : rest_fits (count_of_params (params_of code.body)).rest (rest_of code vs) w ≡ false → IsFullFor code vs given w w
  at_environment : rest_fits (count_of_params (params_of code.body)).rest (rest_of code vs) w ≡ true → has_room (environment_cells (length code.locals)) (with_rest_of code vs w) ≡ false
      → IsFullFor code vs given w (with_rest_of code vs w)
  at_proc : rest_fits (count_of_params (params_of code.body)).rest (rest_of code vs) w ≡ true → has_room (environment_cells (length code.locals)) (with_rest_of code vs w) ≡ true
      → proc_fits (has_block_param (params_of code.body)) given (with_cells_of code vs w) ≡ false → IsFullFor code vs given w (with_cells_of code vs w)

-- A method.

-- the sequence of the code is entered
abbrev pub entering : Code → World → World
entering code w = enter code.source (place_of code.body) w

-- as many arguments as the body takes
abbrev pub takes : Code → List Value → Bool
takes code vs = fits (count_of_params (params_of code.body)) (length vs)

-- the world with a turn paid, of which so many are left, and one deeper
abbrev pub at_method : Code → ℕ → World → World
at_method code turns w = one_deeper (with_turns turns (entering code w))

-- A method written in Ruby may be run: its arguments are as many as they should be, so many turns are left behind its own, and a frame and the
-- cells are there.
pub record MayRunMethod (code : Code) (vs : List Value) (given : Given) (turns : ℕ) (w : World) : Type 0 where
  pub counted : takes code vs ≡ true
  pub turn : (entering code w).turns ≡ suc turns
  pub deep : has_depth (entering code w) ≡ true
  pub room : HasRoomFor code vs given (at_method code turns w)

abbrev pub method_world : Code → List Value → Given → ℕ → World → World
method_world code vs given turns w = with_locals_made None code vs given (at_method code turns w)

abbrev pub method_environment : Code → List Value → Given → ℕ → World → ℕ
method_environment code vs given turns w = environment_of code vs given (at_method code turns w)

-- the frame of a method that a frame calls at a line
abbrev pub called_frame : Frame → ℕ → Code → Value → Bytes → Place → List Value → Given → ℕ → World → Frame
called_frame frame line code self x place vs given turns w =
    method_frame frame line code self (method_environment code vs given turns w) (record { name = x; place = place }) given (optional_given code vs)

abbrev pub method_entered : Frame → ℕ → Code → Value → Bytes → Place → List Value → Given → ℕ → World → Comes
method_entered frame line code self x place vs given turns w =
    enters (of_method (entering code w).depth (method_environment code vs given turns w)) code.body (called_frame frame line code self x place vs given turns w) (method_world code vs given turns w)

-- A block.

abbrev pub at_block : Code → ℕ → World → World
at_block code turns w = entering code (one_deeper (with_turns turns w))

-- what it takes of the arguments
abbrev pub taken : Code → List Value → World → List Value
taken code vs w = block_arguments w.objects (params_of code.body) vs

pub record MayRunBlock (code : Code) (vs : List Value) (turns : ℕ) (w : World) : Type 0 where
  pub turn : w.turns ≡ suc turns
  pub deep : has_depth w ≡ true
  pub room : HasRoomFor code (taken code vs (at_block code turns w)) no_block (at_block code turns w)

abbrev pub block_world : Closure → List Value → ℕ → World → World
block_world c vs turns w = with_locals_made (Some c.environment) c.code (taken c.code vs (at_block c.code turns w)) no_block (at_block c.code turns w)

abbrev pub block_environment : Closure → List Value → ℕ → World → ℕ
block_environment c vs turns w = environment_of c.code (taken c.code vs (at_block c.code turns w)) no_block (at_block c.code turns w)

-- the frame of a block, the closure k, that a frame runs at a line
abbrev pub yielded_frame : Frame → ℕ → Closure → ℕ → List Value → ℕ → World → Frame
yielded_frame frame line c k vs turns w = block_frame frame line c k (block_environment c vs turns w)

abbrev pub block_entered : Frame → ℕ → ℕ → List Value → Closure → ℕ → World → Comes
block_entered frame line k vs c turns w = enters (of_block w.depth) c.code.body (yielded_frame frame line c k vs turns w) (block_world c vs turns w)

-- The body of a class or a module.

abbrev pub at_class : Frame → Tree → World → World
at_class frame t w = enter frame.code.source (place_of t) (one_deeper w)

pub record MayOpen (frame : Frame) (t : Tree) (w : World) : Type 0 where
  pub deep : has_depth w ≡ true
  pub room : has_room (environment_cells (length (locals_of [] t))) (at_class frame t w) ≡ true

abbrev pub class_world : Frame → Tree → World → World
class_world frame t w = with_environment None (all_nil (locals_of [] t)) (with_cells (environment_cells (length (locals_of [] t))) (at_class frame t w))

-- the frame of the body of the class c that a frame opens at a line
abbrev pub opened_frame : Frame → ℕ → Tree → ℕ → World → Frame
opened_frame frame line t c w = class_frame frame line t c (next_environment (with_cells (environment_cells (length (locals_of [] t))) (at_class frame t w)))

abbrev pub class_entered : Frame → ℕ → Tree → ℕ → World → Comes
class_entered frame line t c w = enters (of_class w.depth) t (opened_frame frame line t c w) (class_world frame t w)

-- A file.

-- the code of a file that is loaded next
abbrev pub loaded_code : Bytes → Tree → World → Code
loaded_code path t w = file_code path (Some (next_load w)) t

abbrev pub at_file : Bytes → ℕ → World → World
at_file path turns w = with_entry (next_load w) 0 (with_step (loaded ruby_file path) (one_deeper (with_turns turns w)))

pub record MayLoad (path : Bytes) (t : Tree) (turns : ℕ) (w : World) : Type 0 where
  pub turn : w.turns ≡ suc turns
  pub deep : has_depth w ≡ true
  pub room : has_room (environment_cells (length (locals_of [] t))) (at_file path turns w) ≡ true

abbrev pub file_environment : Bytes → Tree → ℕ → World → ℕ
file_environment path t turns w = next_environment (with_cells (environment_cells (length (locals_of [] t))) (at_file path turns w))

abbrev pub file_world : Bytes → Tree → ℕ → World → World
file_world path t turns w = with_environment None (all_nil (locals_of [] t)) (with_cells (environment_cells (length (locals_of [] t))) (at_file path turns w))

-- the frame of a file that a frame loads at a line
abbrev pub loaded_frame : Frame → ℕ → Bytes → Tree → ℕ → World → Frame
loaded_frame frame line path t turns w = file_frame (loaded_code path t w) (file_environment path t turns w) (stand frame line) frame.running frame.calling

-- the search for a file is a step of the trace, and while the file is loaded its path is among those that are loading
abbrev pub searched : Ask → World → World
searched ask w = with_step (asked ask (path_of w) (loaded_of w) w.loading) w

abbrev pub now_loading : Ask → Bytes → World → World
now_loading (ask_load x) path w = w
now_loading (ask_require x) path w = with_loading (w.loading ++ path ∷ []) w
now_loading (ask_relative folder x) path w = with_loading (w.loading ++ path ∷ []) w

-- a file that a frame loads at a line, and one that it asks for, with the files that are loading before
abbrev pub file_entered : Frame → ℕ → Bytes → Tree → ℕ → World → Comes
file_entered frame line path t turns w = enters (of_method w.depth (file_environment path t turns w)) (loaded_code path t w).body (loaded_frame frame line path t turns w) (file_world path t turns w)

abbrev pub asked_entered : Frame → ℕ → Ask → Bytes → List Bytes → Tree → ℕ → World → Comes
asked_entered frame line ask path before t turns w =
    enters (of_file w.depth (file_environment path t turns w) frame line ask path before) (loaded_code path t w).body (loaded_frame frame line path t turns w) (file_world path t turns w)

-- Natives that come to a body: those that ask for a file, by the text that they are given; and a Proc that is called.
abbrev pub asking : Control → Frame → Option (Bytes → Ask)
asking control_require frame = Some ask_require
asking control_require_relative frame = Some (ask_relative (parent_of frame.code.source.path))
asking control_load frame = Some ask_load
asking control_gets frame = None
asking control_block_given frame = None
asking control_emit frame = None
asking control_throw frame = None
asking control_call frame = None
asking control_load_yaml frame = None
asking control_load_json frame = None

-- Blocks and frames of calls.

-- the block that a call is given by its block value, if that may be one, or else its own
abbrev pub given_by : Objects → Given → Option Value → Option Given
given_by store own None = Some own
given_by store own (Some v) = given_of store v

-- A call with the literal block of this number, plus 1: the frame in which it is made, the block that it is given, and the world with the closure.
abbrev pub calling_frame : ℕ → Frame → World → Frame
calling_frame zero frame w = frame
calling_frame (suc q) frame w = record frame { calling = length w.closures ∷ frame.calling }

abbrev pub calling_given : ℕ → Given → World → Given
calling_given zero given w = given
calling_given (suc q) given w = literal_block (length w.closures)

abbrev pub calling_world : (ℕ → Tree) → ℕ → Frame → World → World
calling_world bodies zero frame w = w
calling_world bodies (suc q) frame w = with_closure (closure_here frame (bodies q)) w

-- the closure that a block is, if there is one
abbrev pub closure_given : Given → Option ℕ
closure_given no_block = None
closure_given (literal_block k) = Some k
closure_given (given_proc n k) = Some k

-- The operands of a call on the stack: the receiver, the arguments, the last of them on top, and the block value.
abbrev pub pushed : List Value → List Value → List Value
pushed [] st = st
pushed (v ∷ vs) st = pushed vs (v ∷ st)

abbrev pub with_block_value : Option Value → List Value → List Value
with_block_value None st = st
with_block_value (Some v) st = v ∷ st

-- The step at a place is a call that comes to this, whatever bodies do: with the literal block q, plus 1, and what lies below the operands.
abbrev pub StepCalls : Files → Tables → Routine → Frame → ℕ → List Value → World → ℕ → List Value → Comes → Type 0
StepCalls files unit seq frame p st w q rest c =
    (b : Tree → Frame → Run) → step files b unit.seqs unit.bodies seq frame p st w ≡ call_answer q (length w.closures) (p + 1) rest (outcome_of b c)

-- What a step comes to: whatever bodies do it is this step; or it is a call that comes to this body, and goes on with its outcome.
pub data StepComes (steps : (Tree → Frame → Run) → Step) (k p : ℕ) : Type 0 where
  same_step : (s : Step) → ((b : Tree → Frame → Run) → steps b ≡ s) → StepComes steps k p
  calls_body : (q : ℕ) (rest : List Value) (m : Wrap) (t : Tree) (fr : Frame) (z : World) → IsFresh (enters m t fr z)
      → ((b : Tree → Frame → Run) → steps b ≡ call_answer q k (p + 1) rest (wrapped m (b t fr z))) → StepComes steps k p

-- Classes.

-- the world in which a class or a module is made, as the value of its constant
abbrev pub class_made : Frame → Bytes → Bool → Option ℕ → World → World
class_made frame x is_module base w =
    with_constant (innermost frame.code.classes) x (object (next_number w.objects))
    (with_object
    (new_object (class_or_module (record { name = name_behind w.objects (innermost frame.code.classes) x; is_module = is_module; superclass = base; modules = []; methods = []; class_methods = []; constants = [] })))
    (with_cells (class_cells + name_cells) w))
