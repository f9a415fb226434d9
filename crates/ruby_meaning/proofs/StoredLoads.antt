-- Loads, the natives that need more than the store, and calls as a whole, from a good world.
use Rattle.std.proofs.Common.{map, subst, sym, ◌≡◌, ℕ, Bool, true, false, refl, List, [], ◌∷◌, ◌++◌, length, Option, Some, None}
use Rattle.std.specs.Prelude.{codes}
use Rattle.std.proofs.lemmas.Bool.{false≢true}
use Rattle.bs_outside.specs.Paths.{normal_of, parent_of}
use Rattle.msgpack_codec.specs.declared.value.DataKind.{DataKind}
use Rattle.msgpack_codec.specs.declared.value.DataKind.TheVariants as data_kind
use Rattle.msgpack_codec.specs.declared.value.Value as message
use Rattle.msgpack_codec.specs.declared.value.Value.{roll-Value}
use Rattle.msgpack_codec.specs.declared.value.Value.TheOpen.{Value-F}
use Rattle.msgpack_codec.specs.declared.value.Value.TheFolds.{fold-roll-Value, ind-Value}
use Rattle.ruby_tree.specs.Names.{Bytes}
use Rattle.ruby_tree.specs.Tree.{Tree}
use Rattle.ruby_tree.specs.Placement.{Around, at_home, file}
use Rattle.ruby_meaning.specs.NativeName.{Native, Control, control_require, control_require_relative, control_load, control_gets, control_block_given, control_emit, control_throw, control_call, control_load_yaml, control_load_json}
use Rattle.ruby_meaning.specs.Value.{Value, nil, yes, no, number, symbol_named, object, Code, MethodBody, written, native, reader, writer, elements, table}
use Rattle.ruby_meaning.specs.Numbers.{load_error, syntax_error, runtime_error, type_error, frozen_error, exception, features}
use Rattle.ruby_meaning.specs.Store.{Place, Found, array_cells, hash_cells, environment_cells, new_object, kind_at, is_frozen_at, truth_value, with_pairs, is_true, is_a, find_method, places_for}
use Rattle.ruby_meaning.specs.Natives.{control_count}
use Rattle.ruby_meaning.specs.Natives.Messages.{no_conversion, no_change}
use Rattle.ruby_meaning.specs.Natives.Reading.{called}
use Rattle.ruby_meaning.specs.World.{ruby_file, data_file, Given, no_block, Ask, ask_require, ask_relative, ask_load, Step, asked, loaded, World, Frame, Done, Run, text_of, elements_in, path_of, loaded_of}
use Rattle.ruby_meaning.specs.Steps.{changing, stand}
use Rattle.ruby_meaning.specs.Calls.{with_step, with_entry, all_nil, variable_of}
use Rattle.ruby_meaning.specs.NativeAnswer.{NativeAnswer, itself, by_control, native_answer}
use Rattle.ruby_meaning.specs.Files.{Files, RubyFile, no_ruby, ruby_fault, ruby_tree, DataFile, no_data_file, data_fault, data_value}
use Rattle.ruby_meaning.specs.Search.{slash, resolve, Resolved, provided, found_at, missing, missing_name}
use Rattle.ruby_meaning.specs.Loads.{no_such_file, cannot_load, fault_at, file_code, file_frame, next_load, Making, make_datum, make_all, make_pairs, make_layer, data_loaded, with_feature, push_feature, with_loading, while_loading, load_data, run_code, ruby_loaded, load_ruby, after_load, resolved, ask_for}
use Rattle.ruby_meaning.specs.Invoke.{first_of, second_of, with_text_found, with_text, written_out, first_line, with_line_taken, line_or_nil, get_line, is_given, thrown, throw_if, closure_of, call_closure, load_named, run_control, run_answer, run_native, run_found, run_if_found, call_method, send_to}
use Rattle.reference_laws.specs.Placed.{IsPlaced}
use Rattle.ruby_meaning.specs.Levels.{file_sight, IsHoused}
use Rattle.ruby_meaning.specs.Stored.{IsClass, BodyIs, class_of_place, ArePlaced}
use Rattle.ruby_meaning.specs.Housed.{source_of, AreHoused}
use Rattle.ruby_meaning.proofs.LocalNames.{names_nil}
use Rattle.ruby_meaning.proofs.StoreLeading.{store_with_kind}
use Rattle.ruby_meaning.proofs.StoredStores.{Asked, GoodCode, keeps_kind, keeps_thrown}
use Rattle.ruby_meaning.proofs.StoredWorlds.{Good, Moves, moves_objects, moves_same}
use Rattle.ruby_meaning.proofs.StoredSteps.{Known, GoodOut, Keeps, keep_done, keep_raise, keep_then, keep_reading, keep_read, keep_changing, keep_choose, keep_pay, keep_charge, keep_make, keep_make_string, keep_raise_new, keep_between, keep_deeper, returned_out}
use Rattle.ruby_meaning.proofs.MadeFrames.{file_fits, file_sees}
use Rattle.ruby_meaning.proofs.StoredCalls.{Bodies, AnswerFine, native_fine, FoundIs, find_is, moves_with_entry, keep_opening, keep_counted, keep_set_variable, keep_no_method, answered_out, keep_method, keep_block}

module _ (asked : Asked) where
  moves_written : (t : Bool) (f : Bytes) (w : World) → Good asked w → Moves asked w (written_out t f w)
  moves_written true f w s = moves_same asked w (written_out true f w) refl refl refl s
  moves_written false f w s = moves_same asked w (written_out false f w) refl refl refl s

  pub moves_thrown : (p : Option (Bytes × ℕ)) (v : Value) (w : World) → Good asked w → Moves asked w (thrown p v w)
  moves_thrown p (object n) w s = moves_objects asked w (thrown p (object n) w) (keeps_thrown asked p n w.objects) refl refl s
  moves_thrown p nil w s = moves_same asked w w refl refl refl s
  moves_thrown p yes w s = moves_same asked w w refl refl refl s
  moves_thrown p no w s = moves_same asked w w refl refl refl s
  moves_thrown p (number i) w s = moves_same asked w w refl refl refl s
  moves_thrown p (symbol_named x) w s = moves_same asked w w refl refl refl s

  pub moves_feature : (n : ℕ) (w : World) → Good asked w → Moves asked w (with_feature n w)
  moves_feature n w s =
      let vs : List Value = elements_in (kind_at w.objects features) ++ object n ∷ [] in
      moves_objects asked w (with_feature n w) (keeps_kind asked w.objects features (elements vs) (store_with_kind w.objects features (elements vs) (sym s.other) (λ p h. absurd (false≢true h))) refl) refl refl s

module _ (k : Known) (c : Around) where
  -- Data.

  abbrev Goes : Making → Type 0
  Goes m = (go : Value → Run) → ((v : Value) → Keeps k c (go v)) → Keeps k c (m go)

  abbrev Gone : Type 0
  Gone = (d : message.Value) × Goes (make_datum d)

  abbrev value_in : Gone → message.Value
  value_in x = x.0

  keep_all : (ms : List Gone) (go : List Value → Run) → ((vs : List Value) → Keeps k c (go vs)) → Keeps k c (make_all (map make_datum (map value_in ms)) go)
  keep_all [] go h = h []
  keep_all (m ∷ ms) go h = m.1 _ (λ v. keep_all ms _ (λ vs. h (v ∷ vs)))

  -- keys with their values, as they are made
  abbrev pair_in : Gone × Gone → message.Value × message.Value
  pair_in p = (value_in p.0, value_in p.1)

  abbrev made_pair : message.Value × message.Value → Making × Making
  made_pair p = (make_datum p.0, make_datum p.1)

  keep_pairs : (ps : List (Gone × Gone)) (go : List (Value × Value) → Run) → ((qs : List (Value × Value)) → Keeps k c (go qs)) → Keeps k c (make_pairs (map made_pair (map pair_in ps)) go)
  keep_pairs [] go h = h []
  keep_pairs (p ∷ ps) go h = p.0.1 _ (λ x. p.1.1 _ (λ v. keep_pairs ps _ (λ qs. h ((x, v) ∷ qs))))

  keep_layer : (x : Value-F Gone) → Goes (make_layer (message.map-Value message.Value Making make_datum (message.map-Value Gone message.Value value_in x)))
  keep_layer (Value-F.Nil) go h = h nil
  keep_layer (Value-F.Bool t) go h = h (truth_value t)
  keep_layer (Value-F.Int i) go h = h (number i)
  keep_layer (Value-F.Str f) go h = keep_make_string k c f _ (λ n. h (object n))
  keep_layer (Value-F.Sym x) go h = h (symbol_named x)
  keep_layer (Value-F.List ms) go h = keep_all ms _ (λ vs. keep_charge k c (array_cells (length vs)) _ (keep_make k c (new_object (elements vs)) _ refl (λ n. h (object n))))
  keep_layer (Value-F.Map ps) go h =
      keep_pairs ps _ (λ qs. keep_reading k c (λ w. with_pairs w.objects qs []) _ (λ rs. keep_charge k c (hash_cells (length rs)) _ (keep_make k c (new_object (table rs nil)) _ refl (λ n. h (object n)))))

  keep_datum : (d : message.Value) → Goes (make_datum d)
  unfolding make_datum
  keep_datum =
      ind-Value (λ d. Goes (make_datum d)) (λ x y is.
      subst (λ z. Goes (make_datum (roll-Value z))) is
      (subst Goes (sym (fold-roll-Value Making make_layer (message.map-Value Gone message.Value value_in y))) (keep_layer y)))

  keep_data_loaded : (frame : Frame) (line : ℕ) (path : Bytes) (d : DataFile) → Keeps k c (data_loaded frame line path d)
  keep_data_loaded frame line path no_data_file = keep_raise_new k c frame line runtime_error (no_such_file path)
  keep_data_loaded frame line path (data_fault l) = keep_raise_new k c frame line runtime_error (fault_at path l (codes "data fault"))
  keep_data_loaded frame line path (data_value d) = keep_datum d Done (λ v. keep_done k c v)

  keep_step : (x : Step) (go : Run) → Keeps k c go → Keeps k c (changing (with_step x) go)
  keep_step x go h = keep_changing k c (with_step x) go (λ w p s. moves_same k.asked w (with_step x w) refl refl refl s) h

  keep_push_feature : (frame : Frame) (line : ℕ) (path : Bytes) → Keeps k c (push_feature frame line path)
  keep_push_feature frame line path =
      keep_make_string k c path _ (λ n. keep_reading k c (λ w. is_frozen_at w.objects features) _ (λ t.
      keep_choose k c t _ _ (keep_raise_new k c frame line frozen_error (no_change (codes "Array")))
      (keep_charge k c 1 _ (keep_changing k c (with_feature n) _ (λ w p s. moves_feature k.asked n w s) (keep_done k c yes)))))

  keep_while_loading : (path : Bytes) (go : Run) → Keeps k c go → Keeps k c (while_loading path go)
  keep_while_loading path go h = keep_between k c (λ w. with_loading (w.loading ++ path ∷ []) w) (λ u w. with_loading u.loading w) go (λ w. refl) (λ w. refl) (λ w. refl) (λ w z. refl) (λ w z. refl) (λ w z. refl) h

  -- Texts.

  keep_text_found : (frame : Frame) (line : ℕ) (v : Value) (go : Bytes → Run) (o : Option Bytes) → ((f : Bytes) → Keeps k c (go f)) → Keeps k c (with_text_found frame line v go o)
  keep_text_found frame line v go None h = keep_reading k c (λ w. called w.objects v) _ (λ x. keep_raise_new k c frame line type_error (no_conversion x (codes "String")))
  keep_text_found frame line v go (Some f) h = h f

  keep_text : (frame : Frame) (line : ℕ) (v : Value) (go : Bytes → Run) → ((f : Bytes) → Keeps k c (go f)) → Keeps k c (with_text frame line v go)
  keep_text frame line v go h = keep_reading k c (λ w. text_of w.objects v) _ (λ o. keep_text_found frame line v go o h)

  keep_line_or_nil : (f : Bytes) → Keeps k c (line_or_nil f)
  keep_line_or_nil [] = keep_done k c nil
  keep_line_or_nil (x ∷ f) = keep_make_string k c (x ∷ f) _ (λ n. keep_done k c (object n))

  keep_get_line : Keeps k c get_line
  keep_get_line = keep_reading k c (λ w. first_line w.input) _ (λ f. keep_changing k c with_line_taken _ (λ w p s. moves_same k.asked w (with_line_taken w) refl refl refl s) (keep_line_or_nil f))

  keep_throw_if : (t : Bool) (frame : Frame) (line : ℕ) (v : Value) → Keeps k c (throw_if t frame line v)
  keep_throw_if true frame line v = keep_changing k c (thrown (stand frame line) v) _ (λ w p s. moves_thrown k.asked (stand frame line) v w s) (keep_raise k c v)
  keep_throw_if false frame line v = keep_raise_new k c frame line type_error (codes "exception class/object expected")

  module _ (files : Files) (are : ArePlaced files) (held : k.asked.is → AreHoused k.asked.told files) (b : Tree → Frame → Run) (h : Bodies k.asked b) where
    keep_load_data : (frame : Frame) (line : ℕ) (kind : DataKind) (x : Bytes) (o : Option Bytes) → Keeps k c (load_data files frame line kind x o)
    keep_load_data frame line kind x None = keep_raise_new k c frame line runtime_error (no_such_file x)
    keep_load_data frame line kind x (Some path) = keep_pay k c _ (keep_step (loaded (data_file kind) path) _ (keep_data_loaded frame line path (files.datum kind path)))

    -- a file's body
    pub keep_code : (frame : Frame) (line : ℕ) (path : Bytes) (load : Option ℕ) (t : Tree) → IsPlaced (at_home file) t → (k.asked.is → IsHoused (k.asked.told (source_of path load t)) (file_sight t) t) → Keeps k c (run_code files b frame line (file_code path load t))
    keep_code frame line path load t placed housed =
        let code : Code = file_code path load t in
        keep_charge k c (environment_cells (length code.locals)) _ (keep_opening k c None (all_nil code.locals) code.locals (λ a. []) _ (λ w p a. names_nil code.locals) (λ w p a. tt) (λ n. record {
          by = λ w p s.
              let inner : Frame = file_frame code n (stand frame line) frame.running frame.calling in
              returned_out k.asked c (at_home file) n w (b code.body inner w) refl refl
              ((h (at_home file) (λ a. file_sight t) code.body inner (refl, (tt, placed)) (λ a. (tt, housed a))).by w
              (record { fits = file_fits path load t n (stand frame line) frame.running frame.calling w.objects; sees = λ a. file_sees path load t n (stand frame line) frame.running frame.calling w (p.1 a) }) s);
        }))

    keep_ruby_loaded : (frame : Frame) (line : ℕ) (path : Bytes) (load : ℕ) (r : RubyFile) → files.ruby path ≡ r → Keeps k c (ruby_loaded files b frame line path load r)
    keep_ruby_loaded frame line path load no_ruby e = keep_raise_new k c frame line load_error (cannot_load path)
    keep_ruby_loaded frame line path load (ruby_fault l) e = keep_raise_new k c frame line syntax_error (fault_at path l (codes "syntax error"))
    keep_ruby_loaded frame line path load (ruby_tree t) e =
        keep_changing k c (with_entry load 0) _ (λ w p s. moves_with_entry k.asked load 0 w s) (keep_code frame line path (Some load) t (are path t e) (λ a. held a path load t e))

    pub keep_load_ruby : (frame : Frame) (line : ℕ) (path : Bytes) → Keeps k c (load_ruby files b frame line path)
    keep_load_ruby frame line path =
        keep_pay k c _ (keep_deeper k c frame line _ (keep_reading k c next_load _ (λ load. keep_step (loaded ruby_file path) _ (keep_ruby_loaded frame line path load (files.ruby path) refl))))

    keep_after_load : (frame : Frame) (line : ℕ) (ask : Ask) (path : Bytes) → Keeps k c (after_load files b frame line ask path)
    keep_after_load frame line (ask_load x) path = keep_then k c _ _ (keep_load_ruby frame line path) (λ v. keep_done k c yes)
    keep_after_load frame line (ask_require x) path = keep_then k c _ _ (keep_while_loading path _ (keep_load_ruby frame line path)) (λ v. keep_push_feature frame line path)
    keep_after_load frame line (ask_relative folder x) path = keep_then k c _ _ (keep_while_loading path _ (keep_load_ruby frame line path)) (λ v. keep_push_feature frame line path)

    keep_resolved : (frame : Frame) (line : ℕ) (ask : Ask) (r : Resolved) → Keeps k c (resolved files b frame line ask r)
    keep_resolved frame line ask provided = keep_done k c no
    keep_resolved frame line ask (found_at path) = keep_after_load frame line ask path
    keep_resolved frame line ask missing = keep_raise_new k c frame line load_error (cannot_load (missing_name ask))

    keep_ask_for : (frame : Frame) (line : ℕ) (ask : Ask) → Keeps k c (ask_for files b frame line ask)
    keep_ask_for frame line ask =
        keep_reading k c path_of _ (λ path. keep_reading k c loaded_of _ (λ have. keep_reading k c (λ w. w.loading) _ (λ now.
        keep_step (asked ask path have now) _ (keep_resolved frame line ask (resolve files.is_file ask path have now)))))

    keep_call_closure : (frame : Frame) (line : ℕ) (vs : List Value) (o : Option ℕ) → Keeps k c (call_closure files b frame line vs o)
    keep_call_closure frame line vs None = keep_done k c nil
    keep_call_closure frame line vs (Some i) = keep_block b k h c frame line i vs

    keep_load_named : (frame : Frame) (line : ℕ) (kind : DataKind) (v : Value) → Keeps k c (load_named files b frame line kind v)
    keep_load_named frame line kind v = keep_text frame line v _ (λ x. keep_load_data frame line kind x (normal_of slash x))

    keep_control : (d : Control) (frame : Frame) (line : ℕ) (self : Value) (vs : List Value) → Keeps k c (run_control files b d frame line self vs)
    keep_control control_require frame line self vs = keep_text frame line (first_of vs) _ (λ x. keep_ask_for frame line (ask_require x))
    keep_control control_require_relative frame line self vs = keep_text frame line (first_of vs) _ (λ x. keep_ask_for frame line (ask_relative (parent_of frame.code.source.path) x))
    keep_control control_load frame line self vs = keep_text frame line (first_of vs) _ (λ x. keep_ask_for frame line (ask_load x))
    keep_control control_gets frame line self vs = keep_get_line
    keep_control control_block_given frame line self vs = keep_done k c (truth_value (is_given frame.block))
    keep_control control_emit frame line self vs =
        keep_text frame line (first_of vs) _ (λ f. keep_changing k c (written_out (is_true (second_of vs)) f) _ (λ w p s. moves_written k.asked (is_true (second_of vs)) f w s) (keep_done k c nil))
    keep_control control_throw frame line self vs = keep_reading k c (λ w. is_a w.objects (first_of vs) exception) _ (λ t. keep_throw_if t frame line (first_of vs))
    keep_control control_call frame line self vs = keep_reading k c (λ w. closure_of w.objects self) _ (keep_call_closure frame line vs)
    keep_control control_load_yaml frame line self vs = keep_load_named frame line data_kind.Yaml (first_of vs)
    keep_control control_load_json frame line self vs = keep_load_named frame line data_kind.Json (first_of vs)

    answer_out : (frame : Frame) (line : ℕ) (self : Value) (vs : List Value) (a : NativeAnswer) (w : World) → AnswerFine k.asked w.objects a → k.holds w → Good k.asked w → GoodOut k.asked c w (run_answer files b frame line self vs a w)
    answer_out frame line self vs (itself a) w fine p s = answered_out k c frame line a w fine p s
    answer_out frame line self vs (by_control d) w fine p s = (keep_counted k c frame line (control_count d) (length vs) _ (keep_control d frame line self vs)).by w p s

    keep_native : (n : Native) (frame : Frame) (line : ℕ) (self : Value) (vs : List Value) → Keeps k c (run_native files b n frame line self vs)
    keep_native n frame line self vs =
        keep_read k c (λ w. native_answer n w.objects self vs) (run_answer files b frame line self vs) (λ w p s. answer_out frame line self vs (native_answer n w.objects self vs) w (native_fine k.asked n w.objects self vs) p s)

    found_out : (frame : Frame) (line : ℕ) (self : Value) (x : Bytes) (vs : List Value) (g : Given) (place : Place) (body : MethodBody) (w : World) → BodyIs (GoodCode k.asked w.objects) body → IsClass w.objects (class_of_place place) → k.holds w → Good k.asked w →
        GoodOut k.asked c w (run_found files b frame line self x vs g place body w)
    found_out frame line self x vs g place (written code) w stored is p s = (keep_method b k h c frame line code self x place vs g).by w ((p, stored), is) s
    found_out frame line self x vs g place (native n) w stored is p s = (keep_native n frame line self vs).by w p s
    found_out frame line self x vs g place (reader y) w stored is p s =
        (keep_counted k c frame line (record { required = 0; optional = 0; rest = false }) (length vs) _ (keep_reading k c (variable_of self y) _ (λ v. keep_done k c v))).by w p s
    found_out frame line self x vs g place (writer y) w stored is p s =
        (keep_counted k c frame line (record { required = 1; optional = 0; rest = false }) (length vs) _ (keep_set_variable k c frame line self y (first_of vs))).by w p s

    pub if_found_out : (frame : Frame) (line : ℕ) (self : Value) (x : Bytes) (vs : List Value) (g : Given) (bare : Bool) (o : Option Found) (w : World) → FoundIs (GoodCode k.asked w.objects) w.objects o → k.holds w → Good k.asked w →
        GoodOut k.asked c w (run_if_found files b frame line self x vs g bare o w)
    if_found_out frame line self x vs g bare None w stored p s = (keep_no_method k c frame line self x bare).by w p s
    if_found_out frame line self x vs g bare (Some f) w stored p s = found_out frame line self x vs g f.place f.body w stored.0 stored.1 p s

    pub keep_call : (frame : Frame) (line : ℕ) (self : Value) (x : Bytes) (vs : List Value) (g : Given) (bare : Bool) → Keeps k c (call_method files b frame line self x vs g bare)
    keep_call frame line self x vs g bare =
        keep_read k c (λ w. find_method w.objects self x) (run_if_found files b frame line self x vs g bare) (λ w p s.
        if_found_out frame line self x vs g bare (find_method w.objects self x) w (find_is (GoodCode k.asked w.objects) w.objects x s.rows (places_for w.objects self)) p s)

    pub keep_send : (frame : Frame) (line : ℕ) (self : Value) (x : Bytes) (vs : List Value) → Keeps k c (send_to files b frame line self x vs)
    keep_send frame line self x vs = keep_call frame line self x vs no_block false
