-- Calls of methods and blocks, and natives, from a good world.
use Rattle.std.proofs.Common.{◌≡◌, subst, ℕ, zero, suc, ◌+◌, ◌-◌, Bool, true, false, cond, min, refl, List, [], ◌∷◌, length, drop, Option, Some, None}
use Rattle.std.specs.Prelude.{codes, nat_le, slice_get, ⊤}
use Rattle.std.proofs.lemmas.Option.{same_Some, none-some}
use Rattle.ruby_lexer.specs.Bytes.{same}
use Rattle.ruby_tree.specs.Names.{Bytes}
use Rattle.ruby_tree.specs.Tree.{Tree}
use Rattle.ruby_tree.specs.Placement.{Around, at_home, in_block}
use Rattle.ruby_meaning.specs.Value.{Value, nil, object, Source, Code, MethodBody, MethodRow, Kind, string, elements, table, span, closed, plain, class_or_module, Objects}
use Rattle.ruby_meaning.specs.Numbers.{argument_error, frozen_error, local_jump_error}
use Rattle.ruby_meaning.specs.NativeName.{Native, control}
use Rattle.ruby_meaning.specs.Store.{cell_limit, kind_at, class_in, is_class_or_module, Place, rows_of, class_rows_of, rows_at, row_named, Found, found_or, find_in, array_cells, proc_cells, environment_cells, new_object, has_name, variables_at, name_of_class_of}
use Rattle.ruby_meaning.specs.Native.{Answer, gives, raises, Count}
use Rattle.ruby_meaning.specs.NativeAnswer.{NativeAnswer, itself, by_control, native_answer}
use Rattle.ruby_meaning.specs.Natives.{meaning_of, count_of}
use Rattle.ruby_meaning.specs.Natives.Messages.{no_change}
use Rattle.ruby_meaning.specs.Locals.{place_of, params_of, locals_of}
use Rattle.ruby_meaning.specs.Sequences.{sequence_number}
use Rattle.ruby_meaning.specs.World.{Environment, Given, no_block, literal_block, given_proc, Running, Closure, Step, entered, World, Frame, Done, Run}
use Rattle.ruby_meaning.specs.Steps.{reading, changing, charged, with_objects}
use Rattle.ruby_meaning.specs.Calls.{is_entered, with_step, with_entry, enter_load, enter, count_of_params, counted, fits, wrong_count, with_rest, proc_of, with_block_param, with_locals, has_block_param, bound, all_nil, with_names, with_environment, next_environment, optional_given, method_frame, block_frame, answered, settable, set_in, first_cost, set_variable, with_variable, block_arguments, no_method, call_fault, call_fault_class}
use Rattle.ruby_meaning.specs.Blocks.{no_block_given, in_method_frame, run_method, in_block_frame, run_closure, run_block, run_given}
use Rattle.ruby_meaning.specs.Laws.{names_in}
use Rattle.ruby_meaning.specs.Levels.{Scopes, Sight, body_sight, names_seen, block_sight, IsHoused}
use Rattle.ruby_meaning.specs.InSight.{HaveNames, InSight}
use Rattle.reference_laws.specs.Placed.{home_of, IsPlaced}
use Rattle.ruby_meaning.specs.Stored.{IsClass, BodyIs, RowsAre, EachCode, EachClosure, class_of_place, StoredIn, FrameFits}
use Rattle.ruby_meaning.specs.Housed.{MadeIn}
use Rattle.ruby_meaning.proofs.Leading.{stay_push}
use Rattle.ruby_meaning.proofs.LocalNames.{names_begin}
use Rattle.ruby_meaning.proofs.Scopes.{names_stay, names_open}
use Rattle.ruby_meaning.proofs.NativeStores.{Fine, native_keeps}
use Rattle.ruby_meaning.proofs.StoredStores.{Asked, GoodCode, good_code_on, GoodClosure, closure_on, made_on, StoreKeeps, keeps_variables, natives_keep}
use Rattle.ruby_meaning.proofs.StoredWorlds.{Good, Onward, onward_same, Moves, moves_objects, moves_rooms, moves_same}
use Rattle.ruby_meaning.proofs.StoredSteps.{Known, with_class, GoodOut, Keeps, out_on, keep_done, keep_reading, keep_read, keep_changing, keep_choose, keep_pay, keep_charge, keep_make, keep_raise_new, keep_deeper, returned_out, gone_on_out}
use Rattle.ruby_meaning.proofs.MadeFrames.{fits_on, sight_on, method_fits, method_sees, block_fits, block_sees}

-- What is known of a frame: it fits, and where housing is asked it is in sight of this.
pub record GoodFrame (asked : Asked) (c : Around) (s : asked.is → Sight) (frame : Frame) (w : World) : Type 0 where
  pub fits : FrameFits c frame w.objects
  pub sees : (g : asked.is) → InSight (s g) frame w

pub frame_on : (asked : Asked) (c : Around) (s : asked.is → Sight) (frame : Frame) (w z : World) → Onward asked w z → GoodFrame asked c s frame w → GoodFrame asked c s frame z
frame_on asked c s frame w z l h = record { fits = fits_on c frame w.objects z.objects l.store h.fits; sees = λ g. sight_on (s g) frame w z (l.rooms g) (h.sees g) }

abbrev pub in_frame : (asked : Asked) → Around → (asked.is → Sight) → Frame → Known
in_frame asked c s frame = record { asked = asked; holds = GoodFrame asked c s frame; stays = frame_on asked c s frame }

-- A block that was made there.
pub record GoodIn (asked : Asked) (c : Around) (s : asked.is → Sight) (d : Closure) (w : World) : Type 0 where
  pub stored : StoredIn c w.objects d
  pub made : (g : asked.is) → MadeIn asked.told (s g) w.environments d

pub block_on : (asked : Asked) (c : Around) (s : asked.is → Sight) (d : Closure) (w z : World) → Onward asked w z → GoodIn asked c s d w → GoodIn asked c s d z
block_on asked c s d w z l h = record { stored = closure_on c w.objects z.objects l.store d h.stored; made = λ g. made_on asked.told (s g) w.environments z.environments (l.rooms g) d (h.made g) }

-- This code stands too.
abbrev pub with_code : Known → Code → Known
with_code k code = record { asked = k.asked; holds = λ w. k.holds w × GoodCode k.asked w.objects code; stays = λ w z l h. (k.stays w z l h.0, good_code_on k.asked w.objects z.objects l.store code h.1) }

-- This block was made there too.
abbrev pub with_block_of : (k : Known) → Around → (k.asked.is → Sight) → Closure → Known
with_block_of k c s d = record { asked = k.asked; holds = λ w. k.holds w × GoodIn k.asked c s d w; stays = λ w z l h. (k.stays w z l h.0, block_on k.asked c s d w z l h.1) }

-- The environment of this number has these names before those outward.
abbrev pub with_room : (k : Known) → ℕ → List Bytes → (k.asked.is → Scopes) → Known
with_room k n names outer = record {
  asked = k.asked;
  holds = λ w. k.holds w × ((g : k.asked.is) → HaveNames (length w.environments) (names ∷ outer g) w.environments (Some n));
  stays = λ w z l h. (k.stays w z l h.0, λ g. names_stay (names ∷ outer g) w.environments z.environments (Some n) (l.rooms g) (h.1 g));
}

-- What a body does, where it is placed and housed and its frame is in place.
abbrev pub Bodies : Asked → (Tree → Frame → Run) → Type 0
Bodies asked b = (c : Around) (s : asked.is → Sight) (t : Tree) (inner : Frame) → IsPlaced c t → ((g : asked.is) → IsHoused (asked.told inner.code.source) (s g) t) → Keeps (in_frame asked c s inner) c (b t inner)

-- Entries and environments.

module _ (asked : Asked) where
  moves_entry : (t : Bool) (s : Step) (w : World) → Good asked w → Moves asked w (cond t w (with_step s w))
  moves_entry true s w h = moves_same asked w w refl refl refl h
  moves_entry false s w h = moves_same asked w (with_step s w) refl refl refl h

  pub moves_with_entry : (load m : ℕ) (w : World) → Good asked w → Moves asked w (with_entry load m w)
  moves_with_entry load m w h = moves_entry (is_entered load m w.trace) (entered load m) w h

  moves_enter_load : (o : Option ℕ) (source : Source) (place : ℕ) (w : World) → Good asked w → Moves asked w (enter_load o source place w)
  moves_enter_load None source place w h = moves_same asked w w refl refl refl h
  moves_enter_load (Some load) source place w h = moves_with_entry load (sequence_number source.places place) w h

  pub moves_enter : (source : Source) (place : ℕ) (w : World) → Good asked w → Moves asked w (enter source place w)
  moves_enter source place w h = moves_enter_load source.load source place w h

module _ (k : Known) (c : Around) where
  pub keep_entering : (source : Source) (place : ℕ) (go : Run) → Keeps k c go → Keeps k c (changing (enter source place) go)
  keep_entering source place go h = keep_changing k c (enter source place) go (λ w p s. moves_enter k.asked source place w s) h

  -- An environment is opened that has these names, within one that has those outward.
  pub keep_opening : (parent : Option ℕ) (locals : List (Bytes × Value)) (names : List Bytes) (outer : k.asked.is → Scopes) (go : ℕ → Run) →
      ((w : World) → k.holds w → k.asked.is → names_in locals ≡ names) → ((w : World) → k.holds w → (g : k.asked.is) → HaveNames (length w.environments) (outer g) w.environments parent) →
      ((n : ℕ) → Keeps (with_room k n names outer) c (go n)) → Keeps k c (reading next_environment (λ n. changing (with_environment parent locals) (go n)))
  keep_opening parent locals names outer go named around h = keep_read k c next_environment (λ n. changing (with_environment parent locals) (go n)) (λ w p s.
      let z : World = with_environment parent locals w in
      let e : Environment = record { parent = parent; locals = locals } in
      let x : Moves k.asked w z = moves_rooms k.asked w z refl (λ g. stay_push w.environments e) refl s in
      let room : (g : k.asked.is) → HaveNames (length z.environments) (names ∷ outer g) z.environments (Some (next_environment w)) =
      (λ g. subst (λ xs. HaveNames (length z.environments) (xs ∷ outer g) z.environments (Some (next_environment w))) (named w p g) (names_open (outer g) parent locals w (around w p g))) in
      out_on k.asked c w z (go (next_environment w) z) x.leads ((h (next_environment w)).by z (k.stays w z x.leads p, room) x.good))

  -- Arguments and locals.

  pub keep_counted : (frame : Frame) (line : ℕ) (n : Count) (i : ℕ) (go : Run) → Keeps k c go → Keeps k c (counted frame line n i go)
  keep_counted frame line n i go h = keep_choose k c (fits n i) _ _ h (keep_raise_new k c frame line argument_error (wrong_count i n))

  keep_rest : (t : Bool) (vs : List Value) (go : Value → Run) → ((v : Value) → Keeps k c (go v)) → Keeps k c (with_rest t vs go)
  keep_rest false vs go h = h nil
  keep_rest true vs go h = keep_charge k c (array_cells (length vs)) _ (keep_make k c (new_object (elements vs)) _ refl (λ n. h (object n)))

  keep_proc : (g : Given) (go : Value → Run) → ((v : Value) → Keeps k c (go v)) → Keeps k c (proc_of g go)
  keep_proc no_block go h = h nil
  keep_proc (literal_block i) go h = keep_charge k c proc_cells _ (keep_make k c (new_object (closed i)) _ refl (λ n. h (object n)))
  keep_proc (given_proc n i) go h = h (object n)

  keep_block_param : (t : Bool) (g : Given) (go : Value → Run) → ((v : Value) → Keeps k c (go v)) → Keeps k c (with_block_param t g go)
  keep_block_param false g go h = h nil
  keep_block_param true g go h = keep_proc g go h

  -- The locals of a body that holds its own.
  keep_locals : (parent : Option ℕ) (code : Code) (vs : List Value) (g : Given) (outer : k.asked.is → Scopes) (go : ℕ → Run) →
      ((w : World) → k.holds w → k.asked.is → (seen : List Bytes) × (code.locals ≡ locals_of seen code.body)) → ((w : World) → k.holds w → (g : k.asked.is) → HaveNames (length w.environments) (outer g) w.environments parent) →
      ((n : ℕ) → Keeps (with_room k n code.locals outer) c (go n)) → Keeps k c (with_locals parent code vs g go)
  keep_locals parent code vs g outer go own around h =
      let n : Count = count_of_params (params_of code.body) in
      keep_rest n.rest (drop (n.required + n.optional) vs) _ (λ r.
      keep_charge k c (environment_cells (length code.locals)) _
      (keep_block_param (has_block_param (params_of code.body)) g _ (λ v.
      keep_opening parent (with_names (bound (params_of code.body) vs (min n.optional (length vs - n.required)) r v) (all_nil code.locals)) code.locals outer go
      (λ w p a. let is = own w p a in names_begin is.0 code.body code.locals vs (min n.optional (length vs - n.required)) r v is.1) around h)))

  -- Variables.

  keep_set_in : (frame : Frame) (line : ℕ) (self : Value) (x : Bytes) (v : Value) (o : Option ℕ) → Keeps k c (set_in frame line self x v o)
  keep_set_in frame line self x v None = keep_reading k c (λ w. name_of_class_of w.objects self) _ (λ n. keep_raise_new k c frame line frozen_error (no_change n))
  keep_set_in frame line self x v (Some n) =
      keep_reading k c (λ w. first_cost (has_name x (variables_at w.objects n))) _ (λ cost. keep_charge k c cost _
      (keep_changing k c (with_variable n x v) _ (λ w p s. moves_objects k.asked w (with_variable n x v w) (keeps_variables k.asked w.objects n _) refl refl s) (keep_done k c v)))

  pub keep_set_variable : (frame : Frame) (line : ℕ) (self : Value) (x : Bytes) (v : Value) → Keeps k c (set_variable frame line self x v)
  keep_set_variable frame line self x v = keep_reading k c (λ w. settable w.objects self) _ (keep_set_in frame line self x v)

  pub keep_no_method : (frame : Frame) (line : ℕ) (self : Value) (x : Bytes) (bare : Bool) → Keeps k c (no_method frame line self x bare)
  keep_no_method frame line self x bare = keep_reading k c (λ w. name_of_class_of w.objects self) _ (λ n. keep_raise_new k c frame line (call_fault_class bare) (call_fault bare x n))

  -- Answers of natives.

  given_out : (t : Bool) (cells : ℕ) (store : Objects) (v : Value) (w : World) → StoreKeeps k.asked w.objects store → Good k.asked w → GoodOut k.asked c w (charged t cells w (changing (with_objects store) (Done v)))
  given_out true cells store v w l s =
      let z : World = with_objects store (record w { cells = w.cells + cells }) in
      let x : Moves k.asked w z = moves_objects k.asked w z l refl refl s in
      record { leads = x.leads; good = x.good; placed = tt }
  given_out false cells store v w l s = record { leads = onward_same k.asked w; good = s; placed = tt }

  pub answered_out : (frame : Frame) (line : ℕ) (a : Answer) (w : World) → Fine (StoreKeeps k.asked) (natives_keep k.asked) w.objects a → k.holds w → Good k.asked w → GoodOut k.asked c w (answered frame line a w)
  answered_out frame line (gives cells store v) w l p s = given_out (nat_le (w.cells + cells) cell_limit) cells store v w l s
  answered_out frame line (raises n message) w l p s = (keep_raise_new k c frame line n message).by w p s

-- what a native's answer does to the store
abbrev pub AnswerFine : Asked → Objects → NativeAnswer → Type 0
AnswerFine asked store (itself a) = Fine (StoreKeeps asked) (natives_keep asked) store a
AnswerFine asked store (by_control d) = ⊤

module _ (asked : Asked) where
  count_fine : (t : Bool) (store : Objects) (a : Answer) (n : ℕ) (message : Bytes) → Fine (StoreKeeps asked) (natives_keep asked) store a → Fine (StoreKeeps asked) (natives_keep asked) store (cond t a (raises n message))
  count_fine true store a n message h = h
  count_fine false store a n message h = tt

  pub native_fine : (n : Native) (store : Objects) (self : Value) (vs : List Value) → AnswerFine asked store (native_answer n store self vs)
  native_fine (control d) store self vs = tt
  native_fine n store self vs = count_fine (fits (count_of n) (length vs)) store (meaning_of n store self vs) argument_error (wrong_count (length vs) (count_of n)) (native_keeps (StoreKeeps asked) (natives_keep asked) n store self vs)

-- Only a class has rows.

with_methods : (x : Bytes) (k : Kind) (b : MethodBody) → row_named x (class_in k).methods ≡ Some b → is_class_or_module k ≡ true
with_methods x (class_or_module c) b e = refl
with_methods x (string f) b e = absurd (none-some b e)
with_methods x (elements vs) b e = absurd (none-some b e)
with_methods x (table ps d) b e = absurd (none-some b e)
with_methods x (span i j l) b e = absurd (none-some b e)
with_methods x (closed n) b e = absurd (none-some b e)
with_methods x (plain c) b e = absurd (none-some b e)

with_class_methods : (x : Bytes) (k : Kind) (b : MethodBody) → row_named x (class_in k).class_methods ≡ Some b → is_class_or_module k ≡ true
with_class_methods x (class_or_module c) b e = refl
with_class_methods x (string f) b e = absurd (none-some b e)
with_class_methods x (elements vs) b e = absurd (none-some b e)
with_class_methods x (table ps d) b e = absurd (none-some b e)
with_class_methods x (span i j l) b e = absurd (none-some b e)
with_class_methods x (closed n) b e = absurd (none-some b e)
with_class_methods x (plain c) b e = absurd (none-some b e)

place_class : (store : Objects) (x : Bytes) (p : Place) (b : MethodBody) → row_named x (rows_at store p) ≡ Some b → IsClass store (class_of_place p)
place_class store x (rows_of n) b e = with_methods x (kind_at store n) b e
place_class store x (class_rows_of n) b e = with_class_methods x (kind_at store n) b e

-- Methods that are found.

module _ (so : Code → Type 0) (store : Objects) where
  abbrev RowIs : Option MethodBody → Type 0
  RowIs None = ⊤
  RowIs (Some b) = BodyIs so b

  -- what is found is so, and it is found among the rows of a class
  abbrev pub FoundIs : Option Found → Type 0
  FoundIs None = ⊤
  FoundIs (Some f) = BodyIs so f.body × IsClass store (class_of_place f.place)

  row_is : (x : Bytes) (rows : List MethodRow) → RowsAre so rows → RowIs (row_named x rows)
  row_is x [] h = tt
  row_is x (r ∷ rows) h = by (same x r.name) h.0 (row_is x rows h.1)
    where
      by : (t : Bool) → BodyIs so r.body → RowIs (row_named x rows) → RowIs (cond t (Some r.body) (row_named x rows))
      by true this rest = this
      by false this rest = rest

  place_is : EachCode so store → (p : Place) → RowsAre so (rows_at store p)
  place_is h (rows_of n) = (h n).0
  place_is h (class_rows_of n) = (h n).1

  found_is : (p : Place) (o : Option MethodBody) (rest : Option Found) → RowIs o → ((b : MethodBody) → o ≡ Some b → IsClass store (class_of_place p)) → FoundIs rest → FoundIs (found_or p o rest)
  found_is p None rest h is g = g
  found_is p (Some b) rest h is g = (h, is b refl)

  pub find_is : (x : Bytes) → EachCode so store → (ps : List Place) → FoundIs (find_in store x ps)
  find_is x h [] = tt
  find_is x h (p ∷ ps) = found_is p (row_named x (rows_at store p)) (find_in store x ps) (row_is x (rows_at store p) (place_is h p)) (place_class store x p) (find_is x h ps)

-- Bodies.

pub closure_at : (so : Closure → Type 0) (all : List Closure) (n : ℕ) (d : Closure) → slice_get all n ≡ Some d → EachClosure so all → so d
closure_at so [] n d e h = absurd (none-some d e)
closure_at so (x ∷ all) zero d e h = subst so (same_Some x d e) h.0
closure_at so (x ∷ all) (suc n) d e h = closure_at so all n d e h.1

module _ (b : Tree → Frame → Run) (k : Known) (h : Bodies k.asked b) (c : Around) where
  keep_in_method : (frame : Frame) (line : ℕ) (code : Code) (self : Value) (x : Bytes) (place : Place) (vs : List Value) (g : Given) (n : ℕ) →
      Keeps (with_room (with_class (with_code k code) (class_of_place place)) n code.locals (λ a. [])) c (in_method_frame b frame line code self x place vs g n)
  keep_in_method frame line code self x place vs g n = record {
    by = λ w p s.
        let d : Around = at_home (home_of code.body) in
        let is : GoodCode k.asked w.objects code = p.0.0.1 in
        let r : Running = record { name = x; place = place } in
        let inner : Frame = method_frame frame line code self n r g (optional_given code vs) in
        returned_out k.asked c d n w (b code.body inner w) refl refl
        ((h d (λ a. body_sight code.body) code.body inner is.stored.placed (λ a. (is.housed a).housed)).by w
        (record { fits = method_fits frame line code self n r g (optional_given code vs) w.objects is.stored p.0.1; sees = λ a. method_sees frame line code self n r g (optional_given code vs) k.asked.told w (is.housed a) (p.1 a) }) s);
  }

  pub keep_method : (frame : Frame) (line : ℕ) (code : Code) (self : Value) (x : Bytes) (place : Place) (vs : List Value) (g : Given) → Keeps (with_class (with_code k code) (class_of_place place)) c (run_method b frame line code self x place vs g)
  keep_method frame line code self x place vs g =
      let j : Known = with_class (with_code k code) (class_of_place place) in
      keep_entering j c code.source (place_of code.body) _
      (keep_counted j c frame line (count_of_params (params_of code.body)) (length vs) _
      (keep_pay j c _ (keep_deeper j c frame line _
      (keep_locals j c None code vs g (λ a. []) _ (λ w p a. ([], (p.0.1.housed a).locals)) (λ w p a. tt) (keep_in_method frame line code self x place vs g)))))

  -- a block that was made there
  module _ (around : Around) (sight : k.asked.is → Sight) where
    keep_in_block : (frame : Frame) (line : ℕ) (d : Closure) (i n : ℕ) → Keeps (with_room (with_block_of k around sight d) n d.code.locals (λ a. (sight a).scopes)) c (in_block_frame b frame line d i n)
    keep_in_block frame line d i n = record {
      by = λ w p s.
          let is : GoodIn k.asked around sight d w = p.0.1 in
          let inner : Frame = block_frame frame line d i n in
          gone_on_out k.asked c (in_block around) w (b d.code.body inner w) refl
          ((h (in_block around) (λ a. block_sight (sight a) d.code.body) d.code.body inner is.stored.placed (λ a. (is.made a).housed)).by w
          (record { fits = block_fits frame line d i n around w.objects is.stored; sees = λ a. block_sees frame line d i n k.asked.told (sight a) w (is.made a) (p.1 a) }) s);
    }

    keep_closure : (frame : Frame) (line i : ℕ) (vs : List Value) (d : Closure) → Keeps (with_block_of k around sight d) c (run_closure b frame line i vs (Some d))
    keep_closure frame line i vs d =
        let j : Known = with_block_of k around sight d in
        keep_pay j c _ (keep_deeper j c frame line _ (keep_entering j c d.code.source (place_of d.code.body) _
        (keep_reading j c (λ w. block_arguments w.objects (params_of d.code.body) vs) _ (λ us.
        keep_locals j c (Some d.environment) d.code us no_block (λ a. (sight a).scopes) _ (λ w p a. (names_seen (sight a) d.code.body, (p.1.made a).locals)) (λ w p a. (p.1.made a).scopes) (keep_in_block frame line d i)))))

  keep_no_block : (frame : Frame) (line : ℕ) → Keeps k c (no_block_given frame line)
  keep_no_block frame line = keep_raise_new k c frame line local_jump_error (codes "no block given (yield)")

  closure_out : (frame : Frame) (line i : ℕ) (vs : List Value) (o : Option Closure) (w : World) → slice_get w.closures i ≡ o → k.holds w → Good k.asked w → GoodOut k.asked c w (run_closure b frame line i vs o w)
  closure_out frame line i vs None w e p s = (keep_no_block frame line).by w p s
  closure_out frame line i vs (Some d) w e p s =
      let is : GoodClosure k.asked w.objects w.environments d = closure_at (GoodClosure k.asked w.objects w.environments) w.closures i d e s.closures in
      (keep_closure is.stored.0 (λ a. (is.housed a).0) frame line i vs d).by w (p, record { stored = is.stored.1; made = λ a. (is.housed a).1 }) s

  pub keep_block : (frame : Frame) (line i : ℕ) (vs : List Value) → Keeps k c (run_block b frame line i vs)
  keep_block frame line i vs = keep_read k c (λ w. slice_get w.closures i) (run_closure b frame line i vs) (λ w p s. closure_out frame line i vs (slice_get w.closures i) w refl p s)

  pub keep_given : (frame : Frame) (line : ℕ) (g : Given) (vs : List Value) → Keeps k c (run_given b frame line g vs)
  keep_given frame line no_block vs = keep_no_block frame line
  keep_given frame line (literal_block i) vs = keep_block frame line i vs
  keep_given frame line (given_proc n i) vs = keep_block frame line i vs
