-- What a call does is the same in frames that are alike.
use Rattle.std.proofs.Common.{◌≡◌, ℕ, zero, suc, ◌+◌, Bool, true, false, refl, ap, ◌∙◌, List, [], ◌∷◌, ◌++◌, length, Option, Some, None}
use Rattle.std.specs.Prelude.{nat_lt, slice_get, codes}
use Rattle.msgpack_codec.specs.declared.value.DataKind.{DataKind}
use Rattle.msgpack_codec.specs.declared.value.DataKind.TheVariants as data_kind
use Rattle.ruby_tree.specs.Names.{Bytes}
use Rattle.ruby_tree.specs.Tree.{Tree, Goal, to_local, to_instance, to_global, to_constant}
use Rattle.bs_outside.specs.Paths.{normal_of, parent_of}
use Rattle.ruby_meaning.specs.NativeName.{Control, control_require, control_require_relative, control_load, control_gets, control_block_given, control_emit, control_throw, control_call, control_load_yaml, control_load_json}
use Rattle.ruby_meaning.specs.NativeAnswer.{NativeAnswer, itself, by_control, native_answer}
use Rattle.ruby_meaning.specs.Value.{Value, yes, number, object, Code, MethodBody, written, native, reader, writer}
use Rattle.ruby_meaning.specs.Native.{Answer, gives, raises, Count}
use Rattle.ruby_meaning.specs.Numbers.{object_class, system_stack_error, argument_error, type_error, name_error, frozen_error, local_jump_error, runtime_error, syntax_error, load_error, features, exception, closed_classes}
use Rattle.ruby_meaning.specs.Store.{environment_cells, string_cells, object_cells, variable_cells, new_string, truth_value, is_a, find_method, is_frozen_at, name_of_class_of, class_name, class_at, Place, Found, is_one_of}
use Rattle.ruby_meaning.specs.Natives.{control_count}
use Rattle.ruby_meaning.specs.Natives.Messages.{no_change, no_conversion}
use Rattle.ruby_meaning.specs.Natives.Reading.{called}
use Rattle.ruby_meaning.specs.Locals.{place_of, params_of, locals_of}
use Rattle.ruby_meaning.specs.World.{Home, in_file, in_method, in_class, ruby_file, data_file, Given, no_block, literal_block, given_proc, Running, Closure, loaded, Ask, ask_require, ask_relative, ask_load, asked, Frame, Done, Raise, Break, to_call, Return, Run, frame_limit, text_of, path_of, loaded_of}
use Rattle.ruby_meaning.specs.Steps.{then, reading, changing, choose, pay, charge, make, make_string, raise_new, exception_of, line_in, stand_in, stand, deeper_if, deeper, returned, gone_on}
use Rattle.ruby_meaning.specs.Calls.{call_fault, call_fault_class, wrong_count, enter, count_of_params, fits, counted, with_locals, optional_given, method_frame, block_frame, block_arguments, answered, set_in, set_variable, settable, variable_of, no_method, with_step, with_entry, all_nil, with_environment, next_environment}
use Rattle.ruby_meaning.specs.Blocks.{run_method, run_closure, run_block, run_given}
use Rattle.ruby_meaning.specs.Files.{Files, RubyFile, no_ruby, ruby_fault, ruby_tree, DataFile, no_data_file, data_fault, data_value}
use Rattle.ruby_meaning.specs.Search.{missing_name, slash, resolve, Resolved, provided, found_at, missing}
use Rattle.ruby_meaning.specs.Loads.{no_such_file, cannot_load, fault_at, file_code, file_frame, next_load, data_loaded, with_feature, push_feature, while_loading, load_data, run_code, ruby_loaded, load_ruby, after_load, resolved, ask_for}
use Rattle.ruby_meaning.specs.Invoke.{is_given, first_of, with_text_found, with_text, thrown, throw_if, throw_value, closure_of, call_closure, load_named, run_control, run_answer, run_found, run_if_found, call_method}
use Rattle.ruby_meaning.specs.Definitions.{set_local, set_global_if, fixed_global, set_constant, set_goal, define_on, define_method, class_number, constant_found, behind_class, path_from, path_around}
use Rattle.ruby_meaning.specs.Constants.{missing_constant, innermost, own_constant, constant_around, constant_behind}
use Rattle.ruby_meaning.specs.ClassBodies.{class_alone, module_alone, same_class, class_frame, open_class, make_class, not_a, open_found, class_or_new, module_or_new, below_base, with_base, class_below, class_named, module_of_name}
use Rattle.ruby_meaning.specs.Parts.{range_to, make_range, wrong_block, leave_from, leave_home, leave_block, super_found, given_of, given_found, given_value}
use Rattle.ruby_meaning.specs.Evaluation.{super_with}
use Rattle.compile_laws.specs.Likeness.{core, Alike, with_flag}

module _ (it frame : Frame) (at_line line : ℕ) (a : core it ≡ core frame) (s : stand it at_line ≡ stand frame line) where
  pub raising_same : (k : ℕ) (x : Bytes) → raise_new it at_line k x ≡ raise_new frame line k x
  raising_same k x = ap (λ p. charge (string_cells (length x) + object_cells + variable_cells) (make (new_string x) (λ n. make (exception_of k n p) (λ m. Raise (object m))))) s

  counted_same : (c : Count) (g : ℕ) (go go' : Run) → go ≡ go' → counted it at_line c g go ≡ counted frame line c g go'
  counted_same c g go go' e = λ i. choose (fits c g) (e i) (raising_same argument_error (wrong_count g c) i)

  deeper_same : (go go' : Run) → go ≡ go' → deeper it at_line go ≡ deeper frame line go'
  deeper_same go go' e = λ i. reading (λ w. nat_lt w.depth frame_limit) (λ x. by_room x i)
    where
      by_room : (x : Bool) → deeper_if x it at_line go ≡ deeper_if x frame line go'
      by_room true = ap (λ y. deeper_if true frame line y) e
      by_room false = raising_same system_stack_error (codes "stack level too deep")

  text_same : (v : Value) (go go' : Bytes → Run) → go ≡ go' → with_text it at_line v go ≡ with_text frame line v go'
  text_same v go go' e = λ i. reading (λ w. text_of w.objects v) (λ x. by_text x i)
    where
      by_text : (x : Option Bytes) → with_text_found it at_line v go x ≡ with_text_found frame line v go' x
      by_text None = λ i. reading (λ w. called w.objects v) (λ y. raising_same type_error (no_conversion y (codes "String")) i)
      by_text (Some f) = λ i. e i f

  throw_same : (v : Value) → throw_value it at_line v ≡ throw_value frame line v
  throw_same v = λ i. reading (λ w. is_a w.objects v exception) (λ x. by_kind x i)
    where
      by_kind : (x : Bool) → throw_if x it at_line v ≡ throw_if x frame line v
      by_kind true = ap (λ p. changing (thrown p v) (Raise v)) s
      by_kind false = raising_same type_error (codes "exception class/object expected")

  variable_same : (self : Value) (x : Bytes) (v : Value) → set_variable it at_line self x v ≡ set_variable frame line self x v
  variable_same self x v = λ i. reading (λ w. settable w.objects self) (λ y. by_place y i)
    where
      by_place : (y : Option ℕ) → set_in it at_line self x v y ≡ set_in frame line self x v y
      by_place None = λ i. reading (λ w. name_of_class_of w.objects self) (λ c. raising_same frozen_error (no_change c) i)
      by_place (Some n) = refl

  answered_same : (a : Answer) → answered it at_line a ≡ answered frame line a
  answered_same (gives cells store v) = refl
  answered_same (raises c message) = raising_same c message

  pub no_method_same : (self : Value) (x : Bytes) (bare : Bool) → no_method it at_line self x bare ≡ no_method frame line self x bare
  no_method_same self x bare = λ i. reading (λ w. name_of_class_of w.objects self) (λ c. raising_same (call_fault_class bare) (call_fault bare x c) i)

  pub range_same : (e : Bool) (u v : Value) → make_range it at_line e u v ≡ make_range frame line e u v
  range_same e (number i) v = to_end v
    where
      to_end : (y : Value) → range_to it at_line e i y ≡ range_to frame line e i y
      to_end (number j) = refl
      to_end y = raising_same argument_error (codes "bad value for range")
  range_same e u v = raising_same argument_error (codes "bad value for range")

  -- paths of constants

  found_same : (c : ℕ) (x : Bytes) (go go' : Value → Run) (o : Option Value) → go ≡ go' → constant_found it at_line c x go o ≡ constant_found frame line c x go' o
  found_same c x go go' None e = λ i. reading (λ w. missing_constant w.objects c x) (λ y. raising_same name_error y i)
  found_same c x go go' (Some v) e = λ i. e i v

  behind_same : (x : Bytes) (xs : List Bytes) (v : Value) → path_from it at_line xs ≡ path_from frame line xs → (k : Option ℕ) → behind_class it at_line v x (path_from it at_line xs) k ≡ behind_class frame line v x (path_from frame line xs) k
  behind_same x xs v ih None = λ i. reading (λ w. name_of_class_of w.objects v) (λ c. raising_same type_error (c ++ codes " is not a class/module") i)
  behind_same x xs v ih (Some c) = λ i. reading (λ w. constant_behind w.objects c x) (λ o. found_same c x (path_from it at_line xs) (path_from frame line xs) o ih i)

  pub path_same : (xs : List Bytes) (v : Value) → path_from it at_line xs v ≡ path_from frame line xs v
  path_same [] v = refl
  path_same (x ∷ xs) v = λ i. reading (λ w. class_number w.objects v) (λ k. behind_same x xs v (λ j u. path_same xs u j) k i)

  pub around_same : (xs : List Bytes) → path_around it at_line xs ≡ path_around frame line xs
  around_same [] = refl
  around_same (x ∷ xs) =
      ap (λ f. reading (λ w. constant_around w.objects f.code.classes x) (constant_found it at_line (innermost f.code.classes) x (path_from it at_line xs))) a
      ∙ (λ i. reading (λ w. constant_around w.objects frame.code.classes x) (λ o. found_same (innermost frame.code.classes) x (path_from it at_line xs) (path_from frame line xs) o (λ j u. path_same xs u j) i))

  -- what is set and defined

  global_same : (x : Bytes) (v : Value) (o : Option Value) → set_global_if it at_line x v o ≡ set_global_if frame line x v o
  global_same x v None = refl
  global_same x v (Some u) = raising_same name_error (x ++ codes " is a read-only variable")

  pub goal_same : (g : Goal) (v : Value) → set_goal it at_line g v ≡ set_goal frame line g v
  goal_same (to_local x) v = ap (λ f. changing (set_local f x v) (Done v)) a
  goal_same (to_instance x) v = ap (λ f. set_variable it at_line f.self_value x v) a ∙ variable_same frame.self_value x v
  goal_same (to_global x) v = global_same x v (fixed_global x)
  goal_same (to_constant x) v = ap (λ f. set_constant (innermost f.code.classes) x v) a

  on_same : (x : Bytes) (t : Tree) (o : Option ℕ) → define_on it at_line x t o ≡ define_on frame line x t o
  on_same x t None = raising_same type_error (codes "can't define singleton")
  on_same x t (Some c) = ap (λ f. define_on f line x t (Some c)) a

  pub method_defined_same : (x : Bytes) (t : Tree) (on_self : Bool) → define_method it at_line x t on_self ≡ define_method frame line x t on_self
  method_defined_same x t false = ap (λ f. define_method f line x t false) a
  method_defined_same x t true = λ i. reading (λ w. class_number w.objects (a i).self_value) (λ o. on_same x t o i)

  -- class bodies

  pub open_same : (t : Tree) (go : Frame → Run) (c : ℕ) → open_class it at_line t go c ≡ open_class frame line t go c
  open_same t go c = deeper_same _ _ (λ j.
      changing (enter (a j).code.source (place_of t)) (charge (environment_cells (length (locals_of [] t))) (reading next_environment (λ n.
      changing (with_environment None (all_nil (locals_of [] t))) (go (record (class_frame (a j) line t c n) { outside = s j }))))))

  open_found_same : (x kind : Bytes) (go go' : ℕ → Run) (o : Option ℕ) → go ≡ go' → open_found it at_line x kind go o ≡ open_found frame line x kind go' o
  open_found_same x kind go go' None e = raising_same type_error (not_a x kind)
  open_found_same x kind go go' (Some c) e = λ i. e i c

  made_same : (x : Bytes) (is_module : Bool) (base : Option ℕ) (go go' : ℕ → Run) → go ≡ go' → make_class it x is_module base go ≡ make_class frame x is_module base go'
  made_same x is_module base go go' e = λ i. make_class (a i) x is_module base (e i)

  pub class_named_same : (x : Bytes) (go go' : ℕ → Run) → go ≡ go' → class_named it at_line x go ≡ class_named frame line x go'
  class_named_same x go go' e = λ i. reading (λ w. own_constant w.objects (innermost (a i).code.classes) x) (λ o. or_new o i)
    where
      or_new : (o : Option Value) → class_or_new it at_line x go o ≡ class_or_new frame line x go' o
      or_new None = made_same x false (Some object_class) go go' e
      or_new (Some v) = λ i. reading (λ w. class_alone w.objects v) (λ k. open_found_same x (codes "class") go go' k e i)

  pub module_same : (x : Bytes) (go go' : ℕ → Run) → go ≡ go' → module_of_name it at_line x go ≡ module_of_name frame line x go'
  module_same x go go' e = λ i. reading (λ w. own_constant w.objects (innermost (a i).code.classes) x) (λ o. or_new o i)
    where
      or_new : (o : Option Value) → module_or_new it at_line x go o ≡ module_or_new frame line x go' o
      or_new None = made_same x true None go go' e
      or_new (Some v) = λ i. reading (λ w. module_alone w.objects v) (λ k. open_found_same x (codes "module") go go' k e i)

  below_same : (x : Bytes) (go go' : ℕ → Run) → go ≡ go' → (base : ℕ) (o : Option Value) → below_base it at_line x go base o ≡ below_base frame line x go' base o
  below_same x go go' e base None = λ i.
      choose (is_one_of base closed_classes) (reading (λ w. class_name w.objects base) (λ name. raising_same type_error (codes "can't inherit from " ++ name) i)) (made_same x false (Some base) go go' e i)
  below_same x go go' e base (Some v) = λ i. reading (λ w. class_alone w.objects v) (λ k. open_found_same x (codes "class") _ _ k (λ j c.
      reading (λ w. same_class (class_at w.objects c).superclass base) (λ same. choose same (e j c) (raising_same type_error (codes "superclass mismatch for class " ++ x) j))) i)

  pub class_below_same : (x : Bytes) (v : Value) (go go' : ℕ → Run) → go ≡ go' → class_below it at_line x v go ≡ class_below frame line x v go'
  class_below_same x v go go' e = λ i. reading (λ w. class_alone w.objects v) (λ o. by_base o i)
    where
      by_base : (o : Option ℕ) → with_base it at_line x go o ≡ with_base frame line x go' o
      by_base None = raising_same type_error (codes "superclass must be a Class")
      by_base (Some base) = λ i. reading (λ w. own_constant w.objects (innermost (a i).code.classes) x) (λ o. below_same x go go' e base o i)

  -- leaving

  pub home_same : (v : Value) → leave_home it at_line v ≡ leave_home frame line v
  home_same v = ap (λ f. leave_from f.home f.in_block it at_line v) a ∙ by_home frame.home frame.in_block
    where
      by_home : (h : Home) (k : Option ℕ) → leave_from h k it at_line v ≡ leave_from h k frame line v
      by_home (in_file n) None = refl
      by_home (in_file n) (Some k) = raising_same local_jump_error (codes "unexpected return")
      by_home (in_method n) None = refl
      by_home (in_method n) (Some k) = λ i. choose (is_one_of n (a i).running) (Return n v) (raising_same local_jump_error (codes "unexpected return") i)
      by_home in_class k = raising_same local_jump_error (codes "unexpected return")

  pub leave_same : (k : Option ℕ) (v : Value) → leave_block k it at_line v ≡ leave_block k frame line v
  leave_same None v = raising_same local_jump_error (codes "break from proc-closure")
  leave_same (Some k) v = λ i. choose (is_one_of k (a i).calling) (Break (to_call k) v) (raising_same local_jump_error (codes "break from proc-closure") i)

  pub given_same : (v : Value) (go go' : Given → Run) → go ≡ go' → given_value it at_line v go ≡ given_value frame line v go'
  given_same v go go' e = λ i. reading (λ w. given_of w.objects v) (λ g. by_given g i)
    where
      by_given : (g : Option Given) → given_found it at_line v go g ≡ given_found frame line v go' g
      by_given None = λ i. reading (λ w. wrong_block (name_of_class_of w.objects v)) (λ x. raising_same type_error x i)
      by_given (Some g) = λ i. e i g

  module _ (files : Files) (b : Tree → Frame → Run) where
    method_same : (code : Code) (self : Value) (x : Bytes) (place : Place) (vs : List Value) (given : Given) → run_method b it at_line code self x place vs given ≡ run_method b frame line code self x place vs given
    method_same code self x place vs given = λ i.
        changing (enter code.source (place_of code.body))
        (counted_same (count_of_params (params_of code.body)) (length vs) _ _ (λ j. pay (deeper_same _ _ (λ k. with_locals None code vs given (λ n w.
        returned n (b code.body (record (method_frame (a k) line code self n (record { name = x; place = place }) given (optional_given code vs)) { outside = s k }) w))) j)) i)

    block_run_same : (k : ℕ) (vs : List Value) → run_block b it at_line k vs ≡ run_block b frame line k vs
    block_run_same k vs = λ i. reading (λ w. slice_get w.closures k) (λ c. by_closure c i)
      where
        by_closure : (c : Option Closure) → run_closure b it at_line k vs c ≡ run_closure b frame line k vs c
        by_closure None = raising_same local_jump_error (codes "no block given (yield)")
        by_closure (Some c) = λ i. pay (deeper_same _ _ (λ j.
            changing (enter c.code.source (place_of c.code.body)) (reading (λ w. block_arguments w.objects (params_of c.code.body) vs) (λ us. with_locals (Some c.environment) c.code us no_block (λ n w.
            gone_on (b c.code.body (record (block_frame (a j) line c k n) { outside = s j }) w))))) i)

    pub given_block_same : (g : Given) (vs : List Value) → run_given b it at_line g vs ≡ run_given b frame line g vs
    given_block_same no_block vs = raising_same local_jump_error (codes "no block given (yield)")
    given_block_same (literal_block k) vs = block_run_same k vs
    given_block_same (given_proc n k) vs = block_run_same k vs

    closure_same : (vs : List Value) (k : Option ℕ) → call_closure files b it at_line vs k ≡ call_closure files b frame line vs k
    closure_same vs None = refl
    closure_same vs (Some k) = block_run_same k vs

    data_same : (path : Bytes) (d : DataFile) → data_loaded it at_line path d ≡ data_loaded frame line path d
    data_same path no_data_file = raising_same runtime_error (no_such_file path)
    data_same path (data_fault n) = raising_same runtime_error (fault_at path n (codes "data fault"))
    data_same path (data_value d) = refl

    load_data_same : (kind : DataKind) (x : Bytes) (p : Option Bytes) → load_data files it at_line kind x p ≡ load_data files frame line kind x p
    load_data_same kind x None = raising_same runtime_error (no_such_file x)
    load_data_same kind x (Some path) = λ i. pay (changing (with_step (loaded (data_file kind) path)) (data_same path (files.datum kind path) i))

    named_same : (kind : DataKind) (v : Value) → load_named files b it at_line kind v ≡ load_named files b frame line kind v
    named_same kind v = text_same v _ _ (λ i x. load_data_same kind x (normal_of slash x) i)

    code_same : (code : Code) → run_code files b it at_line code ≡ run_code files b frame line code
    code_same code = λ i. charge (environment_cells (length code.locals)) (reading next_environment (λ n. changing (with_environment None (all_nil code.locals)) (λ w.
        returned n (b code.body (file_frame code n (s i) (a i).running (a i).calling) w))))

    ruby_same : (path : Bytes) (load : ℕ) (f : RubyFile) → ruby_loaded files b it at_line path load f ≡ ruby_loaded files b frame line path load f
    ruby_same path load no_ruby = raising_same load_error (cannot_load path)
    ruby_same path load (ruby_fault n) = raising_same syntax_error (fault_at path n (codes "syntax error"))
    ruby_same path load (ruby_tree t) = λ i. changing (with_entry load 0) (code_same (file_code path (Some load) t) i)

    load_same : (path : Bytes) → load_ruby files b it at_line path ≡ load_ruby files b frame line path
    load_same path = λ i. pay (deeper_same _ _ (λ j. reading next_load (λ load. changing (with_step (loaded ruby_file path)) (ruby_same path load (files.ruby path) j))) i)

    feature_same : (path : Bytes) → push_feature it at_line path ≡ push_feature frame line path
    feature_same path = λ i. make_string path (λ n. reading (λ w. is_frozen_at w.objects features) (λ frozen. choose frozen (raising_same frozen_error (no_change (codes "Array")) i) (charge 1 (changing (with_feature n) (Done yes)))))

    after_load_same : (ask : Ask) (path : Bytes) → after_load files b it at_line ask path ≡ after_load files b frame line ask path
    after_load_same (ask_load x) path = λ i. then (load_same path i) (λ v. Done yes)
    after_load_same (ask_require x) path = λ i. then (while_loading path (load_same path i)) (λ v. feature_same path i)
    after_load_same (ask_relative folder x) path = λ i. then (while_loading path (load_same path i)) (λ v. feature_same path i)

    resolved_same : (ask : Ask) (r : Resolved) → resolved files b it at_line ask r ≡ resolved files b frame line ask r
    resolved_same ask provided = refl
    resolved_same ask (found_at path) = after_load_same ask path
    resolved_same ask missing = raising_same load_error (cannot_load (missing_name ask))

    ask_same : (ask : Ask) → ask_for files b it at_line ask ≡ ask_for files b frame line ask
    ask_same ask = λ i. reading path_of (λ path. reading loaded_of (λ have. reading (λ w. w.loading) (λ now. changing (with_step (asked ask path have now)) (resolved_same ask (resolve files.is_file ask path have now) i))))

    control_same : (c : Control) (self : Value) (vs : List Value) → run_control files b c it at_line self vs ≡ run_control files b c frame line self vs
    control_same control_require self vs = text_same (first_of vs) _ _ (λ i x. ask_same (ask_require x) i)
    control_same control_require_relative self vs = text_same (first_of vs) _ _ (λ i x. (ap (λ f. ask_for files b it at_line (ask_relative (parent_of f.code.source.path) x)) a ∙ ask_same (ask_relative (parent_of frame.code.source.path) x)) i)
    control_same control_load self vs = text_same (first_of vs) _ _ (λ i x. ask_same (ask_load x) i)
    control_same control_gets self vs = refl
    control_same control_block_given self vs = λ i. Done (truth_value (is_given (a i).block))
    control_same control_emit self vs = text_same (first_of vs) _ _ refl
    control_same control_throw self vs = throw_same (first_of vs)
    control_same control_call self vs = λ i. reading (λ w. closure_of w.objects self) (λ k. closure_same vs k i)
    control_same control_load_yaml self vs = named_same data_kind.Yaml (first_of vs)
    control_same control_load_json self vs = named_same data_kind.Json (first_of vs)

    native_same : (self : Value) (vs : List Value) (r : NativeAnswer) → run_answer files b it at_line self vs r ≡ run_answer files b frame line self vs r
    native_same self vs (itself r) = answered_same r
    native_same self vs (by_control c) = counted_same (control_count c) (length vs) _ _ (control_same c self vs)

    found_run_same : (self : Value) (x : Bytes) (vs : List Value) (given : Given) (place : Place) (m : MethodBody) → run_found files b it at_line self x vs given place m ≡ run_found files b frame line self x vs given place m
    found_run_same self x vs given place (written code) = method_same code self x place vs given
    found_run_same self x vs given place (native n) = λ i. reading (λ w. native_answer n w.objects self vs) (λ r. native_same self vs r i)
    found_run_same self x vs given place (reader variable) = counted_same (record { required = 0; optional = 0; rest = false }) (length vs) (reading (variable_of self variable) Done) (reading (variable_of self variable) Done) refl
    found_run_same self x vs given place (writer variable) = counted_same (record { required = 1; optional = 0; rest = false }) (length vs) _ _ (variable_same self variable (first_of vs))

    if_found_same : (self : Value) (x : Bytes) (vs : List Value) (given : Given) (bare : Bool) (f : Option Found) → run_if_found files b it at_line self x vs given bare f ≡ run_if_found files b frame line self x vs given bare f
    if_found_same self x vs given bare None = no_method_same self x bare
    if_found_same self x vs given bare (Some f) = found_run_same self x vs given f.place f.body

    pub call_same : (self : Value) (x : Bytes) (vs : List Value) (given : Given) (bare : Bool) → call_method files b it at_line self x vs given bare ≡ call_method files b frame line self x vs given bare
    call_same self x vs given bare = λ i. reading (λ w. find_method w.objects self x) (λ f. if_found_same self x vs given bare f i)

    pub super_same : (fuel : ℕ) (vs : List Value) (own : Given) (r : Running) (given : Given) → super_with files fuel b at_line vs own r it given ≡ super_with files fuel b line vs own r frame given
    super_same fuel vs own r given =
        ap (λ f. reading (super_found f r) (run_if_found files b it at_line f.self_value r.name vs given false)) a
        ∙ (λ i. reading (super_found frame r) (λ f. if_found_same frame.self_value r.name vs given false f i))

pub loop_alike : (x : Bool) (frame : Frame) (line : ℕ) → Alike (with_flag x frame) line frame line
loop_alike x frame line = record { frames = refl; lines = by_load frame.code.source.load }
  where
    same_line : (n : ℕ) → line_in (with_flag x frame) n ≡ line_in frame n
    same_line zero = refl
    same_line (suc n) = refl

    by_load : (o : Option ℕ) → stand_in o (with_flag x frame) line ≡ stand_in o frame line
    by_load None = refl
    by_load (Some n) = ap (λ y. Some (frame.code.source.path, y)) (same_line line)

-- a line that was read once stays
pub line_alike : (frame : Frame) (line : ℕ) → Alike frame (line_in frame line) frame line
line_alike frame line = record { frames = refl; lines = by_load frame.code.source.load }
  where
    read : (m : ℕ) → line_in frame (line_in frame m) ≡ line_in frame m
    read zero = by_first frame.first refl
      where
        by_first : (n : ℕ) → frame.first ≡ n → line_in frame n ≡ n
        by_first zero e = e
        by_first (suc n) e = refl
    read (suc m) = refl

    by_load : (o : Option ℕ) → stand_in o frame (line_in frame line) ≡ stand_in o frame line
    by_load None = refl
    by_load (Some n) = ap (λ y. Some (frame.code.source.path, y)) (read line)
