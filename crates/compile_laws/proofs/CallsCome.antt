-- Each call comes to a body, or to an outcome without one, whatever bodies do.
use Rattle.std.proofs.Common.{◌≡◌, ℕ, zero, suc, Bool, true, false, refl, ap, ◌∙◌, le-leb, arith, ◌&&◌, List, [], length, Option, Some, None}
use Rattle.std.specs.Prelude.{slice_get, codes}
use Rattle.std.proofs.lemmas.Option.{none-some, same_Some}
use Rattle.bs_outside.specs.Paths.{parent_of}
use Rattle.ruby_tree.specs.Names.{Bytes}
use Rattle.ruby_tree.specs.Tree.{Tree}
use Rattle.ruby_meaning.specs.NativeName.{Control, control_require, control_require_relative, control_load, control_gets, control_block_given, control_emit, control_throw, control_call, control_load_yaml, control_load_json, control}
use Rattle.ruby_meaning.specs.Value.{Value, nil, no, Code, MethodBody, written, native, reader, writer}
use Rattle.ruby_meaning.specs.Numbers.{argument_error, type_error, load_error}
use Rattle.ruby_meaning.specs.Natives.{control_count}
use Rattle.ruby_meaning.specs.Natives.Messages.{no_conversion}
use Rattle.ruby_meaning.specs.Natives.Reading.{called}
use Rattle.ruby_meaning.specs.Store.{Place, Found, find_method, environment_cells}
use Rattle.ruby_meaning.specs.Locals.{params_of, locals_of}
use Rattle.ruby_meaning.specs.World.{Given, no_block, literal_block, given_proc, Closure, World, Frame, Outcome, Done, Full, Run, Ask, ask_require, ask_relative, ask_load, text_of, path_of, loaded_of}
use Rattle.ruby_meaning.specs.Steps.{choose, raise_new}
use Rattle.ruby_meaning.specs.Calls.{with_locals, count_of_params, fits, wrong_count, has_block_param}
use Rattle.ruby_meaning.specs.NativeAnswer.{NativeAnswer, itself, by_control, native_answer}
use Rattle.ruby_meaning.specs.Files.{Files, RubyFile, no_ruby, ruby_fault, ruby_tree}
use Rattle.ruby_meaning.specs.Blocks.{run_method, run_closure, run_block, run_given, no_block_given}
use Rattle.ruby_meaning.specs.Search.{Resolved, provided, found_at, missing, missing_name, resolve}
use Rattle.ruby_meaning.specs.Loads.{load_ruby, after_load, resolved, ask_for, cannot_load}
use Rattle.ruby_meaning.specs.Invoke.{first_of, with_text, with_text_found, closure_of, call_closure, run_control, run_answer, run_found, run_if_found, call_method}
use Rattle.ruby_meaning.specs.ClassBodies.{open_class}
use Rattle.code_meaning.specs.Frames.{after_file}
use Rattle.compile_laws.specs.Calling.{Comes, at_once, ComesTo, has_depth, has_room, rest_fits, proc_fits, rest_of, with_rest_of, with_cells_of, HasRoomFor, IsFullFor, at_rest, at_environment, at_proc, closure_given, entering, takes, at_method, IsFresh, method_entered, block_entered, class_entered, asked_entered, at_block, taken, at_class, at_file, MayLoad, searched, now_loading, asking}
use Rattle.compile_laws.proofs.Enters as enter

-- what a call comes to, if to anything
abbrev pub Some_call : ((Tree → Frame → Run) → Outcome) → Type 0
Some_call call = (c : Comes) × IsFresh c × ComesTo call c

-- Natives that ask for a file.
module _ (files : Files) (frame : Frame) (line : ℕ) where
  pub ask_searched : (b : Tree → Frame → Run) (ask : Ask) (r : Resolved) (w : World) → resolve files.is_file ask (path_of w) (loaded_of w) w.loading ≡ r → ask_for files b frame line ask w ≡ resolved files b frame line ask r (searched ask w)
  ask_searched b ask r w e = ap (λ y. resolved files b frame line ask y (searched ask w)) e

  pub after_loaded : (b : Tree → Frame → Run) (ask : Ask) (path : Bytes) (w : World) → after_load files b frame line ask path w ≡ after_file frame line ask path w.loading (load_ruby files b frame line path (now_loading ask path w))
  after_loaded b (ask_load x) path w = refl
  after_loaded b (ask_require x) path w = refl
  after_loaded b (ask_relative folder x) path w = refl

  pub ask_enters : (ask : Ask) (path : Bytes) (t : Tree) (turns : ℕ) (w : World) → resolve files.is_file ask (path_of w) (loaded_of w) w.loading ≡ found_at path → files.ruby path ≡ ruby_tree t → MayLoad path t turns (now_loading ask path (searched ask w))
      → ComesTo (λ b. ask_for files b frame line ask w) (asked_entered frame line ask path w.loading t turns (now_loading ask path (searched ask w)))
  ask_enters ask path t turns w e is may b =
      ask_searched b ask (found_at path) w e ∙ after_loaded b ask path (searched ask w)
      ∙ ap (after_file frame line ask path w.loading) (enter.file_enters files frame line path (now_loading ask path (searched ask w)) turns t is may b)

  text_read : (v : Value) (x : Bytes) (go : Bytes → Run) (w : World) → text_of w.objects v ≡ Some x → with_text frame line v go w ≡ go x w
  text_read v x go w e = ap (λ o. with_text_found frame line v go o w) e

  text_refused : (v : Value) (go : Bytes → Run) (w : World) → text_of w.objects v ≡ None → with_text frame line v go w ≡ raise_new frame line type_error (no_conversion (called w.objects v) (codes "String")) w
  text_refused v go w e = ap (λ o. with_text_found frame line v go o w) e

  asks_with_text : (n : Control) (ask : Bytes → Ask) (b : Tree → Frame → Run) (self : Value) (vs : List Value) (w : World) → asking n frame ≡ Some ask
      → run_control files b n frame line self vs w ≡ with_text frame line (first_of vs) (λ x. ask_for files b frame line (ask x)) w
  asks_with_text control_require ask b self vs w e = ap (λ f. with_text frame line (first_of vs) (λ x. ask_for files b frame line (f x)) w) (same_Some _ ask e)
  asks_with_text control_require_relative ask b self vs w e = ap (λ f. with_text frame line (first_of vs) (λ x. ask_for files b frame line (f x)) w) (same_Some _ ask e)
  asks_with_text control_load ask b self vs w e = ap (λ f. with_text frame line (first_of vs) (λ x. ask_for files b frame line (f x)) w) (same_Some _ ask e)
  asks_with_text control_gets ask b self vs w e = absurd (none-some ask e)
  asks_with_text control_block_given ask b self vs w e = absurd (none-some ask e)
  asks_with_text control_emit ask b self vs w e = absurd (none-some ask e)
  asks_with_text control_throw ask b self vs w e = absurd (none-some ask e)
  asks_with_text control_call ask b self vs w e = absurd (none-some ask e)
  asks_with_text control_load_yaml ask b self vs w e = absurd (none-some ask e)
  asks_with_text control_load_json ask b self vs w e = absurd (none-some ask e)

  -- a native of control, by the count of its arguments
  counted_control : (n : Control) (t : Bool) (b : Tree → Frame → Run) (self : Value) (x : Bytes) (vs : List Value) (given : Given) (place : Place) (w : World) → fits (control_count n) (length vs) ≡ t
      → run_found files b frame line self x vs given place (native (control n)) w ≡ choose t (run_control files b n frame line self vs) (raise_new frame line argument_error (wrong_count (length vs) (control_count n))) w
  counted_control n t b self x vs given place w e = ap (λ y. choose y (run_control files b n frame line self vs) (raise_new frame line argument_error (wrong_count (length vs) (control_count n))) w) e

  pub native_asks : (n : Control) (ask : Bytes → Ask) (f : Bytes) (b : Tree → Frame → Run) (self : Value) (x : Bytes) (vs : List Value) (given : Given) (place : Place) (w : World) → asking n frame ≡ Some ask → fits (control_count n) (length vs) ≡ true → text_of w.objects (first_of vs) ≡ Some f
      → run_found files b frame line self x vs given place (native (control n)) w ≡ ask_for files b frame line (ask f) w
  native_asks n ask f b self x vs given place w is e g =
      counted_control n true b self x vs given place w e ∙ asks_with_text n ask b self vs w is ∙ text_read (first_of vs) f (λ y. ask_for files b frame line (ask y)) w g

  pub native_miscounted : (n : Control) (b : Tree → Frame → Run) (self : Value) (x : Bytes) (vs : List Value) (given : Given) (place : Place) (w : World) → fits (control_count n) (length vs) ≡ false
      → run_found files b frame line self x vs given place (native (control n)) w ≡ raise_new frame line argument_error (wrong_count (length vs) (control_count n)) w
  native_miscounted n b self x vs given place w e = counted_control n false b self x vs given place w e

  pub native_without_text : (n : Control) (ask : Bytes → Ask) (b : Tree → Frame → Run) (self : Value) (x : Bytes) (vs : List Value) (given : Given) (place : Place) (w : World) → asking n frame ≡ Some ask → fits (control_count n) (length vs) ≡ true → text_of w.objects (first_of vs) ≡ None
      → run_found files b frame line self x vs given place (native (control n)) w ≡ raise_new frame line type_error (no_conversion (called w.objects (first_of vs)) (codes "String")) w
  native_without_text n ask b self x vs given place w is e g =
      counted_control n true b self x vs given place w e ∙ asks_with_text n ask b self vs w is ∙ text_refused (first_of vs) (λ y. ask_for files b frame line (ask y)) w g

  any_fits : (n : ℕ) → fits (control_count control_call) n ≡ true
  any_fits n = ap (λ y. y && true) (le-leb 0 n (omega arith))

  pub proc_called : (k : ℕ) (b : Tree → Frame → Run) (self : Value) (x : Bytes) (vs : List Value) (given : Given) (place : Place) (w : World) → closure_of w.objects self ≡ Some k
      → run_found files b frame line self x vs given place (native (control control_call)) w ≡ run_block b frame line k vs w
  proc_called k b self x vs given place w e = counted_control control_call true b self x vs given place w (any_fits (length vs)) ∙ ap (λ o. call_closure files b frame line vs o w) e

  pub no_proc_called : (b : Tree → Frame → Run) (self : Value) (x : Bytes) (vs : List Value) (given : Given) (place : Place) (w : World) → closure_of w.objects self ≡ None
      → run_found files b frame line self x vs given place (native (control control_call)) w ≡ Done nil w
  no_proc_called b self x vs given place w e = counted_control control_call true b self x vs given place w (any_fits (length vs)) ∙ ap (λ o. call_closure files b frame line vs o w) e

-- Each call comes to something.

-- by a test
pub by_test : {A : Type 0} (t : Bool) → (t ≡ true → A) → (t ≡ false → A) → A
by_test true holds fails = holds refl
by_test false holds fails = fails refl

pub by_turns : {A : Type 0} (n : ℕ) → (n ≡ zero → A) → ((k : ℕ) → n ≡ suc k → A) → A
by_turns zero none some = none refl
by_turns (suc k) none some = some k refl

pub by_option : {A B : Type 0} (o : Option B) → (o ≡ None → A) → ((x : B) → o ≡ Some x → A) → A
by_option None none some = none refl
by_option (Some x) none some = some x refl

-- what is an outcome, whatever bodies do
pub ends : (o : Outcome) (call : (Tree → Frame → Run) → Outcome) → ((b : Tree → Frame → Run) → call b ≡ o) → Some_call call
ends o call e = (at_once o, tt, e)

pub same_call : (call there : (Tree → Frame → Run) → Outcome) → ((b : Tree → Frame → Run) → call b ≡ there b) → Some_call there → Some_call call
same_call call there e s = (s.0, s.1, λ b. e b ∙ s.2 b)

-- the cells of a body's locals are there, or the store is full
room_or : {A : Type 0} (parent : Option ℕ) (code : Code) (vs : List Value) (given : Given) (w : World) → (HasRoomFor code vs given w → A) → ((z : World) → ((go : ℕ → Run) → with_locals parent code vs given go w ≡ Full z) → A) → A
room_or parent code vs given w some none =
    by_test (rest_fits (count_of_params (params_of code.body)).rest (rest_of code vs) w)
    (λ e. by_test (has_room (environment_cells (length code.locals)) (with_rest_of code vs w))
    (λ f. by_test (proc_fits (has_block_param (params_of code.body)) given (with_cells_of code vs w))
    (λ g. some (record { rest = e; environment = f; proc = g }))
    (λ g. none (with_cells_of code vs w) (λ go. enter.no_room_for_proc parent code vs given go w e f g)))
    (λ f. none (with_rest_of code vs w) (λ go. enter.no_room_for_locals parent code vs given go w e f)))
    (λ e. none w (λ go. enter.no_room_for_rest parent code vs given go w e))

-- a body's locals where some of the cells are not there
pub full_locals : (parent : Option ℕ) (code : Code) (vs : List Value) (given : Given) (go : ℕ → Run) (w z : World) → IsFullFor code vs given w z → with_locals parent code vs given go w ≡ Full z
full_locals parent code vs given go w z (at_rest e) = enter.no_room_for_rest parent code vs given go w e
full_locals parent code vs given go w z (at_environment e f) = enter.no_room_for_locals parent code vs given go w e f
full_locals parent code vs given go w z (at_proc e f g) = enter.no_room_for_proc parent code vs given go w e f g

-- the block that a method was given, by its closure
pub block_given_by : (b : Tree → Frame → Run) (frame : Frame) (line k : ℕ) (given : Given) (vs : List Value) (w : World) → closure_given given ≡ Some k → run_given b frame line given vs w ≡ run_block b frame line k vs w
block_given_by b frame line k no_block vs w e = absurd (none-some k e)
block_given_by b frame line k (literal_block n) vs w e = ap (λ y. run_block b frame line y vs w) (same_Some n k e)
block_given_by b frame line k (given_proc m n) vs w e = ap (λ y. run_block b frame line y vs w) (same_Some n k e)

pub method_comes : (frame : Frame) (line : ℕ) (code : Code) (self : Value) (x : Bytes) (place : Place) (vs : List Value) (given : Given) (w : World) → Some_call (λ b. run_method b frame line code self x place vs given w)
method_comes frame line code self x place vs given w =
    let call : (Tree → Frame → Run) → Outcome = λ b. run_method b frame line code self x place vs given w in
    by_test (takes code vs)
    (λ counted. by_turns (entering code w).turns (λ t. ends _ call (enter.method_spent frame line code self x place vs given w counted t))
    (λ turns turn. by_test (has_depth (entering code w))
    (λ deep. room_or None code vs given (at_method code turns w)
    (λ room. (method_entered frame line code self x place vs given turns w, (refl, refl, refl), enter.method_enters frame line code self x place vs given w turns (record { counted = counted; turn = turn; deep = deep; room = room })))
    (λ z full. ends _ call (enter.method_full frame line code self x place vs given w turns z counted turn deep full)))
    (λ e. ends _ call (enter.method_too_deep frame line code self x place vs given w turns counted turn e))))
    (λ e. ends _ call (enter.method_miscounted frame line code self x place vs given w e))

closure_comes : (frame : Frame) (line k : ℕ) (vs : List Value) (c : Closure) (w : World) → Some_call (λ b. run_closure b frame line k vs (Some c) w)
closure_comes frame line k vs c w =
    let call : (Tree → Frame → Run) → Outcome = λ b. run_closure b frame line k vs (Some c) w in
    by_turns w.turns (λ t. ends _ call (enter.block_spent frame line k vs c w t))
    (λ turns turn. by_test (has_depth w)
    (λ deep. room_or (Some c.environment) c.code (taken c.code vs (at_block c.code turns w)) no_block (at_block c.code turns w)
    (λ room. (block_entered frame line k vs c turns w, (refl, refl, refl), enter.closure_enters frame line k vs c w turns (record { turn = turn; deep = deep; room = room })))
    (λ z full. ends _ call (enter.block_full frame line k vs c w turns z turn deep full)))
    (λ e. ends _ call (enter.block_too_deep frame line k vs c w turns turn e)))

pub block_comes : (frame : Frame) (line k : ℕ) (vs : List Value) (w : World) → Some_call (λ b. run_block b frame line k vs w)
block_comes frame line k vs w =
    by_option (slice_get w.closures k) (λ e. ends _ (λ b. run_block b frame line k vs w) (λ b. enter.no_closure b frame line k vs w e))
    (λ c e. same_call (λ b. run_block b frame line k vs w) (λ b. run_closure b frame line k vs (Some c) w) (λ b. enter.block_found b frame line k vs c w e) (closure_comes frame line k vs c w))

pub given_comes : (frame : Frame) (line : ℕ) (given : Given) (vs : List Value) (w : World) → Some_call (λ b. run_given b frame line given vs w)
given_comes frame line no_block vs w = ends (no_block_given frame line w) (λ b. run_given b frame line no_block vs w) (λ b. refl)
given_comes frame line (literal_block k) vs w = block_comes frame line k vs w
given_comes frame line (given_proc n k) vs w = block_comes frame line k vs w

pub class_comes : (frame : Frame) (line : ℕ) (t : Tree) (c : ℕ) (w : World) → Some_call (λ b. open_class frame line t (b t) c w)
class_comes frame line t c w =
    let call : (Tree → Frame → Run) → Outcome = λ b. open_class frame line t (b t) c w in
    by_test (has_depth w)
    (λ deep. by_test (has_room (environment_cells (length (locals_of [] t))) (at_class frame t w))
    (λ room. (class_entered frame line t c w, (refl, refl, refl), enter.class_enters frame line t c w (record { deep = deep; room = room })))
    (λ e. ends _ call (λ b. enter.class_full frame line t c w deep e (b t))))
    (λ e. ends _ call (λ b. enter.class_too_deep frame line t c w e (b t)))

-- Files, and what is found.
module _ (files : Files) (frame : Frame) (line : ℕ) where
  -- what follows the load of a file
  after_at : (ask : Ask) (path : Bytes) (w : World) → Some_call (λ b. after_file frame line ask path w.loading (load_ruby files b frame line path (now_loading ask path w))) → Some_call (λ b. after_load files b frame line ask path w)
  after_at ask path w s = same_call (λ b. after_load files b frame line ask path w) (λ b. after_file frame line ask path w.loading (load_ruby files b frame line path (now_loading ask path w))) (λ b. after_loaded files frame line b ask path w) s

  load_comes : (ask : Ask) (path : Bytes) (loading : List Bytes) (w : World) → Some_call (λ b. after_file frame line ask path loading (load_ruby files b frame line path w))
  load_comes ask path loading w =
      let call : (Tree → Frame → Run) → Outcome = λ b. after_file frame line ask path loading (load_ruby files b frame line path w) in
      let so : (o : Outcome) → ((b : Tree → Frame → Run) → load_ruby files b frame line path w ≡ o) → Some_call call = λ o e. ends _ call (λ b. ap (after_file frame line ask path loading) (e b)) in
      by_turns w.turns (λ t. so _ (enter.file_spent files frame line path w t))
      (λ turns turn. by_test (has_depth w)
      (λ deep. by_file (files.ruby path)
      (λ e. so _ (enter.file_lost files frame line path w turns turn deep e))
      (λ n e. so _ (enter.file_at_fault files frame line path w turns turn n deep e))
      (λ t e. by_test (has_room (environment_cells (length (locals_of [] t))) (at_file path turns w))
      (λ room. (
        asked_entered frame line ask path loading t turns w,
        (refl, refl, refl),
        λ b. ap (after_file frame line ask path loading) (enter.file_enters files frame line path w turns t e (record { turn = turn; deep = deep; room = room }) b),
      ))
      (λ f. so _ (enter.file_full files frame line path w turns turn t e deep f))))
      (λ e. so _ (enter.file_too_deep files frame line path w turns turn e)))
    where
      by_file : {A : Type 0} (f : RubyFile) → (f ≡ no_ruby → A) → ((n : ℕ) → f ≡ ruby_fault n → A) → ((t : Tree) → f ≡ ruby_tree t → A) → A
      by_file no_ruby none fault some = none refl
      by_file (ruby_fault n) none fault some = fault n refl
      by_file (ruby_tree t) none fault some = some t refl

  resolved_comes : (ask : Ask) (r : Resolved) (w : World) → Some_call (λ b. resolved files b frame line ask r w)
  resolved_comes ask provided w = ends (Done no w) (λ b. resolved files b frame line ask provided w) (λ b. refl)
  resolved_comes ask (found_at path) w = after_at ask path w (load_comes ask path w.loading (now_loading ask path w))
  resolved_comes ask missing w = ends (raise_new frame line load_error (cannot_load (missing_name ask)) w) (λ b. resolved files b frame line ask missing w) (λ b. refl)

  pub ask_comes : (ask : Ask) (w : World) → Some_call (λ b. ask_for files b frame line ask w)
  ask_comes ask w = resolved_comes ask (resolve files.is_file ask (path_of w) (loaded_of w) w.loading) (searched ask w)

  text_comes : (v : Value) (go : Bytes → (Tree → Frame → Run) → Run) (w : World) → ((x : Bytes) → Some_call (λ b. go x b w)) → Some_call (λ b. with_text frame line v (λ x. go x b) w)
  text_comes v go w s =
      by_option (text_of w.objects v) (λ e. ends _ (λ b. with_text frame line v (λ x. go x b) w) (λ b. text_refused files frame line v (λ x. go x b) w e))
      (λ x e. same_call (λ b. with_text frame line v (λ y. go y b) w) (λ b. go x b w) (λ b. text_read files frame line v x (λ y. go y b) w e) (s x))

  closure_called : (vs : List Value) (o : Option ℕ) (w : World) → Some_call (λ b. call_closure files b frame line vs o w)
  closure_called vs None w = ends (Done nil w) (λ b. call_closure files b frame line vs None w) (λ b. refl)
  closure_called vs (Some k) w = block_comes frame line k vs w

  control_comes : (n : Control) (self : Value) (vs : List Value) (w : World) → Some_call (λ b. run_control files b n frame line self vs w)
  control_comes control_require self vs w = text_comes (first_of vs) (λ x b. ask_for files b frame line (ask_require x)) w (λ x. ask_comes (ask_require x) w)
  control_comes control_require_relative self vs w = text_comes (first_of vs) (λ x b. ask_for files b frame line (ask_relative (parent_of frame.code.source.path) x)) w (λ x. ask_comes (ask_relative (parent_of frame.code.source.path) x) w)
  control_comes control_load self vs w = text_comes (first_of vs) (λ x b. ask_for files b frame line (ask_load x)) w (λ x. ask_comes (ask_load x) w)
  control_comes control_call self vs w = closure_called vs (closure_of w.objects self) w
  control_comes control_gets self vs w = ends _ (λ b. run_control files b control_gets frame line self vs w) (λ b. refl)
  control_comes control_block_given self vs w = ends _ (λ b. run_control files b control_block_given frame line self vs w) (λ b. refl)
  control_comes control_emit self vs w = ends _ (λ b. run_control files b control_emit frame line self vs w) (λ b. refl)
  control_comes control_throw self vs w = ends _ (λ b. run_control files b control_throw frame line self vs w) (λ b. refl)
  control_comes control_load_yaml self vs w = ends _ (λ b. run_control files b control_load_yaml frame line self vs w) (λ b. refl)
  control_comes control_load_json self vs w = ends _ (λ b. run_control files b control_load_json frame line self vs w) (λ b. refl)

  native_comes : (r : NativeAnswer) (self : Value) (vs : List Value) (w : World) → Some_call (λ b. run_answer files b frame line self vs r w)
  native_comes (itself a) self vs w = ends _ (λ b. run_answer files b frame line self vs (itself a) w) (λ b. refl)
  native_comes (by_control n) self vs w = by_count (fits (control_count n) (length vs))
    where
      by_count : (t : Bool) → Some_call (λ b. choose t (run_control files b n frame line self vs) (raise_new frame line argument_error (wrong_count (length vs) (control_count n))) w)
      by_count true = control_comes n self vs w
      by_count false = ends _ (λ b. choose false (run_control files b n frame line self vs) (raise_new frame line argument_error (wrong_count (length vs) (control_count n))) w) (λ b. refl)

  pub found_comes : (self : Value) (x : Bytes) (vs : List Value) (given : Given) (place : Place) (m : MethodBody) (w : World) → Some_call (λ b. run_found files b frame line self x vs given place m w)
  found_comes self x vs given place (written code) w = method_comes frame line code self x place vs given w
  found_comes self x vs given place (native n) w = native_comes (native_answer n w.objects self vs) self vs w
  found_comes self x vs given place (reader y) w = ends _ (λ b. run_found files b frame line self x vs given place (reader y) w) (λ b. refl)
  found_comes self x vs given place (writer y) w = ends _ (λ b. run_found files b frame line self x vs given place (writer y) w) (λ b. refl)

  pub if_found_comes : (self : Value) (x : Bytes) (vs : List Value) (given : Given) (bare : Bool) (f : Option Found) (w : World) → Some_call (λ b. run_if_found files b frame line self x vs given bare f w)
  if_found_comes self x vs given bare None w = ends _ (λ b. run_if_found files b frame line self x vs given bare None w) (λ b. refl)
  if_found_comes self x vs given bare (Some f) w = found_comes self x vs given f.place f.body w

  pub call_comes : (self : Value) (x : Bytes) (vs : List Value) (given : Given) (bare : Bool) (w : World) → Some_call (λ b. call_method files b frame line self x vs given bare w)
  call_comes self x vs given bare w = if_found_comes self x vs given bare (find_method w.objects self x) w
