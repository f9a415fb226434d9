-- The evaluation of placed trees as a whole, from a good world.
use Rattle.std.proofs.Common.{◌≡◌, ℕ, zero, suc, pred, Bool, false, refl, List, [], ◌∷◌, ◌++◌, map, length, Option, Some, None}
use Rattle.std.specs.Prelude.{codes}
use Rattle.bs_outside.specs.Paths.{parent_of}
use Rattle.ruby_tree.specs.Names.{Bytes}
use Rattle.ruby_tree.specs.Tree.{SourcePosition, Tree, at, Form, nil_value, true_value, false_value, integer, symbol, text, self_value, file_name, folder_name, line_number, local, instance, global, joined, array, hash, range, constant_path, assign, assign_all, assign_attribute, assign_index, operate_attribute, or_attribute, and_attribute, operate_index, or_index, and_index, send, safe_send, yield, super, bare_super, bare_raise, statements, both, either, negated, if_else, while_loop, case_of, case_tests, return_with, break_with, next_with, retry, rescue, ensure, rescue_sequence, ensure_sequence, method, class, module_named, body, Trees, no_more, more, Other, without, with, Pairs, no_pair, pair, Pieces, no_piece, plain_piece, code_piece, Whens, no_when, when, Rescues, no_clause, clause, Params, no_param, required, optional, rest_param, block_param}
use Rattle.ruby_tree.specs.Placement.{Around, in_loop, in_block, in_clause, outside_clause, at_home, is_fault}
use Rattle.ruby_tree.specs.Placement as placement
use Rattle.ruby_meaning.specs.Value.{Value, nil, yes, no, number, symbol_named, object}
use Rattle.ruby_meaning.specs.Numbers.{object_class}
use Rattle.ruby_meaning.specs.Store.{is_true, places_for}
use Rattle.ruby_meaning.specs.Locals.{params_of, names_of_params}
use Rattle.ruby_meaning.specs.World.{Given, no_block, literal_block, Closure, Running, World, Frame, Next, Retry, Spent, Run, world_of}
use Rattle.ruby_meaning.specs.Calls.{spread, variable_of}
use Rattle.ruby_meaning.specs.Files.{Files}
use Rattle.ruby_meaning.specs.Invoke.{run_if_found, send_to}
use Rattle.ruby_meaning.specs.Definitions.{read_local, set_local, read_global, closure_here, with_closure}
use Rattle.ruby_meaning.specs.ClassBodies.{class_frame}
use Rattle.ruby_meaning.specs.Parts.{parts_of, super_found, places_behind, in_loop_of, in_sequence, handling}
use Rattle.ruby_meaning.specs.Evaluation.{unless_nil, is_given_one, set_exception, with_block, send_with, super_with, super_to, set_by_send, run, run_form, run_all, run_trees, run_other, run_last, run_receiver, run_given_value, run_path, run_class, run_pairs, run_pieces, run_whens, run_patterns, run_tests, run_any, run_clauses, run_clause, run_classes, run_defaults, eval, evaluate}
use Rattle.reference_laws.specs.Placed.{IsPlaced, FormPlaced, TreesPlaced, OtherPlaced, PairsPlaced, PiecesPlaced, WhensPlaced, ClausesPlaced, ParamsPlaced}
use Rattle.ruby_meaning.specs.Levels.{Sight, body_sight, Telling, IsHoused, FormHoused, BlockHoused, TreesHoused, OtherHoused, PairsHoused, PiecesHoused, WhensHoused, ClausesHoused, ParamsHoused}
use Rattle.ruby_meaning.specs.Stored.{AreClasses, EachClosure, IsStored, FrameFits, ArePlaced, StoredOut, StaysStored}
use Rattle.ruby_meaning.specs.Housed.{HousedOut, InPlace, StaysHoused, AreHoused}
use Rattle.ruby_meaning.proofs.Truths.{holds}
use Rattle.ruby_meaning.proofs.Leading.{all_stay}
use Rattle.ruby_meaning.proofs.StoreLeading.{store_same}
use Rattle.ruby_meaning.proofs.StoredStores.{Asked, unasked, asked_by, GoodCode, GoodClosure, keeps_same}
use Rattle.ruby_meaning.proofs.StoredWorlds.{Good, good_of, stored_of, housed_of, Moves, good_on, moves_same}
use Rattle.ruby_meaning.proofs.StoredSteps.{Known, with_class, GoodOut, Keeps, keep_stay, keep_done, keep_raise, keep_then, keep_reading, keep_read, keep_changing, keep_choose, keep_make_string, keep_known, broken_out, part_out, keep_loop_from, keep_rescuing, keep_finished}
use Rattle.ruby_meaning.proofs.MadeFrames.{block_stands, block_made, calling_fits, handling_fits, sequence_fits, part_fits, loop_fits, calling_sees, handling_sees, sequence_sees, loop_sees}
use Rattle.ruby_meaning.proofs.StoredCalls.{GoodFrame, in_frame, Bodies, find_is, keep_entering, keep_no_method, keep_given}
use Rattle.ruby_meaning.proofs.StoredLoads.{if_found_out, keep_call, keep_send}
use Rattle.ruby_meaning.proofs.StoredParts.{moves_local, keep_set_goal, keep_set_goals, keep_path_from, keep_path_around, keep_define_method, keep_open_class, keep_class_below, keep_class_named, keep_module_named, keep_make_array, keep_make_hash, keep_make_range, keep_string, keep_piece, keep_joined, keep_values, keep_leave_home, keep_leave_loop, keep_given_value, keep_match}

-- One more closure, that stands.
closures_push : (so : Closure → Type 0) (all : List Closure) (d : Closure) → EachClosure so all → so d → EachClosure so (all ++ d ∷ [])
closures_push so [] d h g = (g, tt)
closures_push so (x ∷ all) d h g = (h.0, closures_push so all d h.1 g)

module _ (asked : Asked) where
  pub moves_closure : (d : Closure) (w : World) → GoodClosure asked w.objects w.environments d → Good asked w → Moves asked w (with_closure d w)
  moves_closure d w h s = record {
    leads = record { store = store_same w.objects; rooms = λ g. all_stay w.environments };
    good = good_on asked w (with_closure d w) (keeps_same asked w.objects) (closures_push (GoodClosure asked w.objects w.environments) w.closures d s.closures h) s;
  }

  moves_exception : (frame : Frame) (x : Option Bytes) (w : World) → Good asked w → Moves asked w (set_exception frame x w)
  moves_exception frame None w s = moves_same asked w w refl refl refl s
  moves_exception frame (Some x) w s = moves_local asked frame x frame.handled w s

  classes_of : (c : Around) (y : asked.is → Sight) (frame : Frame) (w : World) → GoodFrame asked c y frame w → AreClasses w.objects frame.code.classes
  classes_of c y frame w h = h.fits.classes

  calling_in : (c : Around) (y : asked.is → Sight) (frame : Frame) (ns : List ℕ) (w : World) → GoodFrame asked c y frame w → GoodFrame asked c y (record frame { calling = ns }) w
  calling_in c y frame ns w h = record { fits = calling_fits c frame w.objects h.fits ns; sees = λ g. calling_sees (y g) frame w (h.sees g) ns }

  handling_in : (c : Around) (y : asked.is → Sight) (frame : Frame) (v : Value) (w : World) → GoodFrame asked c y frame w → GoodFrame asked (in_clause c) y (handling frame v) w
  handling_in c y frame v w h = record { fits = handling_fits c frame w.objects h.fits v; sees = λ g. handling_sees (y g) frame w (h.sees g) v }

  sequence_in : (c : Around) (y : asked.is → Sight) (frame : Frame) (n : ℕ) (w : World) → GoodFrame asked c y frame w → GoodFrame asked c y (in_sequence n frame) w
  sequence_in c y frame n w h = record { fits = sequence_fits c frame w.objects h.fits n; sees = λ g. sequence_sees (y g) frame w (h.sees g) n }

  part_in : (c : Around) (y : asked.is → Sight) (frame : Frame) (n : ℕ) (w : World) → GoodFrame asked c y frame w → GoodFrame asked (outside_clause c) y (in_sequence n frame) w
  part_in c y frame n w h = record { fits = part_fits c frame w.objects h.fits n; sees = λ g. sequence_sees (y g) frame w (h.sees g) n }

  loop_of : (c : Around) (y : asked.is → Sight) (frame : Frame) (w : World) → GoodFrame asked c y frame w → GoodFrame asked (in_loop c) y (in_loop_of frame) w
  loop_of c y frame w h = record { fits = loop_fits c frame w.objects h.fits; sees = λ g. loop_sees (y g) frame w (h.sees g) }

unless_nil_keeps : (k : Known) (c : Around) (v : Value) (go : Run) → Keeps k c go → Keeps k c (unless_nil v go)
unless_nil_keeps k c nil go h = keep_done k c nil
unless_nil_keeps k c yes go h = h
unless_nil_keeps k c no go h = h
unless_nil_keeps k c (number i) go h = h
unless_nil_keeps k c (symbol_named x) go h = h
unless_nil_keeps k c (object n) go h = h

-- The block of a call.
keep_with_block : (asked : Asked) (c : Around) (y : asked.is → Sight) (t : Other) (frame : Frame) (given : Given) (go : Frame → Given → Run) → OtherPlaced (in_block c) t → ((g : asked.is) → BlockHoused (asked.told frame.code.source) (y g) t) →
    ((ns : List ℕ) (own : Given) → Keeps (in_frame asked c y (record frame { calling = ns })) c (go (record frame { calling = ns }) own)) → Keeps (in_frame asked c y frame) c (go frame given) →
    Keeps (in_frame asked c y frame) c (with_block t frame given go)
keep_with_block asked c y without frame given go placed housed h g = g
keep_with_block asked c y (with t) frame given go placed housed h g =
    let k : Known = in_frame asked c y frame in
    keep_reading k c (λ w. length w.closures) _ (λ n.
    keep_changing k c (with_closure (closure_here frame t)) _
    (λ w p s. moves_closure asked (closure_here frame t) w (record { stored = (c, block_stands c frame t w.objects placed p.fits); housed = λ a. (y a, block_made asked.told (y a) frame t w (housed a).0 (housed a).1 (p.sees a)) }) s)
    (record {
      by = λ w p s. broken_out asked c n w (go (record frame { calling = n ∷ frame.calling }) (literal_block n) w) ((h (n ∷ frame.calling) (literal_block n)).by w (calling_in asked c y frame (n ∷ frame.calling) w p) s);
    }))

module _ (asked : Asked) (files : Files) (are : ArePlaced files) (held : asked.is → AreHoused asked.told files) (fuel : ℕ) (b : Tree → Frame → Run) (h : Bodies asked b) where
  keep_send_with : (c : Around) (y : asked.is → Sight) (inner frame : Frame) (line : ℕ) (self : Value) (x : Bytes) (ks : List ℕ) (vs : List Value) (bare : Bool) (given : Given) → Keeps (in_frame asked c y inner) c (send_with files fuel b frame line self x ks vs bare inner given)
  keep_send_with c y inner frame line self x ks vs bare given = keep_reading (in_frame asked c y inner) c (spread ks vs) _ (λ us. keep_call (in_frame asked c y inner) c files are held b h inner line self x us given bare)

  keep_super_with : (c : Around) (y : asked.is → Sight) (inner : Frame) (line : ℕ) (vs : List Value) (own : Given) (r : Running) (given : Given) → Keeps (in_frame asked c y inner) c (super_with files fuel b line vs own r inner given)
  keep_super_with c y inner line vs own r given =
      let k : Known = in_frame asked c y inner in
      keep_read k c (super_found inner r) (run_if_found files b inner line inner.self_value r.name vs given false) (λ w p s.
      if_found_out k c files are held b h inner line inner.self_value r.name vs given false (super_found inner r w) w (find_is (GoodCode asked w.objects) w.objects r.name s.rows (places_behind r.place (places_for w.objects inner.self_value))) p s)

  keep_super_to : (c : Around) (y : asked.is → Sight) (r : Option Running) (frame : Frame) (line : ℕ) (t : Other) (given : Given) (vs : List Value) → OtherPlaced (in_block c) t → ((g : asked.is) → BlockHoused (asked.told frame.code.source) (y g) t) → Keeps (in_frame asked c y frame) c (super_to files fuel b r frame line t given vs)
  keep_super_to c y None frame line t given vs placed housed = keep_no_method (in_frame asked c y frame) c frame line frame.self_value [] false
  keep_super_to c y (Some r) frame line t given vs placed housed =
      keep_with_block asked c y t frame given (super_with files fuel b line vs given r) placed housed (λ ns own. keep_super_with c y (record frame { calling = ns }) line vs given r own) (keep_super_with c y frame line vs given r given)

  keep_set_by_send : (c : Around) (y : asked.is → Sight) (frame : Frame) (line : ℕ) (self : Value) (x : Bytes) (vs : List Value) (v : Value) → Keeps (in_frame asked c y frame) c (set_by_send files fuel b frame line self x vs v)
  keep_set_by_send c y frame line self x vs v = keep_then (in_frame asked c y frame) c _ _ (keep_send (in_frame asked c y frame) c files are held b h frame line self x vs) (λ u. keep_done (in_frame asked c y frame) c v)

  -- in a call's frame, the sends
  sends : (c : Around) (y : asked.is → Sight) (frame : Frame) (line : ℕ) (self : Value) (x : Bytes) (vs : List Value) → Keeps (in_frame asked c y frame) c (send_to files b frame line self x vs)
  sends c y frame line self x vs = keep_send (in_frame asked c y frame) c files are held b h frame line self x vs

  mutual
    pub keep_run : (c : Around) (y : asked.is → Sight) (t : Tree) (frame : Frame) → IsPlaced c t → ((g : asked.is) → IsHoused (asked.told frame.code.source) (y g) t) → Keeps (in_frame asked c y frame) c (run files fuel b t frame)
    keep_run c y (at s x) frame p j = keep_form c y x s frame p.0 p.1 j

    keep_form : (c : Around) (y : asked.is → Sight) (x : Form) (s : SourcePosition) (frame : Frame) → is_fault c x ≡ false → FormPlaced c x → ((g : asked.is) → FormHoused (asked.told frame.code.source) (y g) x) → Keeps (in_frame asked c y frame) c (run_form files fuel b x s frame)
    keep_form c y nil_value s frame e p j = keep_done (in_frame asked c y frame) c nil
    keep_form c y true_value s frame e p j = keep_done (in_frame asked c y frame) c yes
    keep_form c y false_value s frame e p j = keep_done (in_frame asked c y frame) c no
    keep_form c y (integer i) s frame e p j = keep_done (in_frame asked c y frame) c (number i)
    keep_form c y (symbol x) s frame e p j = keep_done (in_frame asked c y frame) c (symbol_named x)
    keep_form c y (text x) s frame e p j = keep_make_string (in_frame asked c y frame) c x _ (λ n. keep_done (in_frame asked c y frame) c (object n))
    keep_form c y self_value s frame e p j = keep_done (in_frame asked c y frame) c frame.self_value
    keep_form c y file_name s frame e p j = keep_make_string (in_frame asked c y frame) c frame.code.source.path _ (λ n. keep_done (in_frame asked c y frame) c (object n))
    keep_form c y folder_name s frame e p j = keep_make_string (in_frame asked c y frame) c (parent_of frame.code.source.path) _ (λ n. keep_done (in_frame asked c y frame) c (object n))
    keep_form c y line_number s frame e p j = keep_done (in_frame asked c y frame) c _
    keep_form c y (local x) s frame e p j = keep_reading (in_frame asked c y frame) c (read_local frame x) _ (λ v. keep_done (in_frame asked c y frame) c v)
    keep_form c y (instance x) s frame e p j = keep_reading (in_frame asked c y frame) c (variable_of frame.self_value x) _ (λ v. keep_done (in_frame asked c y frame) c v)
    keep_form c y (global x) s frame e p j = keep_reading (in_frame asked c y frame) c (read_global x) _ (λ v. keep_done (in_frame asked c y frame) c v)
    keep_form c y (joined ps) s frame e p j = keep_pieces c y ps frame s.line [] _ p j (λ vs. keep_joined (in_frame asked c y frame) c vs)
    keep_form c y (array ts ks) s frame e p j = keep_trees c y ts frame [] _ p j (λ vs. keep_reading (in_frame asked c y frame) c (spread ks vs) _ (λ us. keep_make_array (in_frame asked c y frame) c us _ (λ v. keep_done (in_frame asked c y frame) c v)))
    keep_form c y (hash ps) s frame e p j = keep_pairs c y ps frame [] _ p j (λ qs. keep_make_hash (in_frame asked c y frame) c qs)
    keep_form c y (range a d t) s frame e p j = keep_then (in_frame asked c y frame) c _ _ (keep_run c y a frame p.0 (λ g. (j g).0)) (λ u. keep_then (in_frame asked c y frame) c _ _ (keep_run c y d frame p.1 (λ g. (j g).1)) (λ v. keep_make_range (in_frame asked c y frame) c frame s.line t u v))
    keep_form c y (constant_path o top xs) s frame e p j = keep_path c y o top xs frame s.line p j
    keep_form c y (assign t x) s frame e p j = keep_then (in_frame asked c y frame) c _ _ (keep_run c y t frame p (λ g. (j g).1)) (λ v. keep_set_goal (in_frame asked c y frame) c frame (classes_of asked c y frame) s.line x v)
    keep_form c y (assign_all ts gs) s frame e p j =
        keep_trees c y ts frame [] _ p (λ g. (j g).1) (λ vs. keep_values (in_frame asked c y frame) c vs _ (λ v. keep_reading (in_frame asked c y frame) c (λ w. parts_of w.objects v) _ (λ us.
        keep_then (in_frame asked c y frame) c _ _ (keep_set_goals (in_frame asked c y frame) c frame (classes_of asked c y frame) s.line gs us) (λ u. keep_done (in_frame asked c y frame) c v))))
    keep_form c y (assign_attribute a t m) s frame e p j =
        keep_then (in_frame asked c y frame) c _ _ (keep_run c y a frame p.0 (λ g. (j g).0)) (λ o. keep_then (in_frame asked c y frame) c _ _ (keep_run c y t frame p.1 (λ g. (j g).1)) (λ v. keep_set_by_send c y frame s.line o m (v ∷ []) v))
    keep_form c y (assign_index a i t) s frame e p j =
        keep_then (in_frame asked c y frame) c _ _ (keep_run c y a frame p.0 (λ g. (j g).0)) (λ o. keep_then (in_frame asked c y frame) c _ _ (keep_run c y i frame p.1.0 (λ g. (j g).1.0)) (λ k. keep_then (in_frame asked c y frame) c _ _ (keep_run c y t frame p.1.1 (λ g. (j g).1.1)) (λ v.
        keep_set_by_send c y frame s.line o (codes "[]=") (k ∷ v ∷ []) v)))
    keep_form c y (operate_attribute a x t op m l) s frame e p j =
        keep_then (in_frame asked c y frame) c _ _ (keep_run c y a frame p.0 (λ g. (j g).0)) (λ o. keep_then (in_frame asked c y frame) c _ _ (sends c y frame s.line o x []) (λ u.
        keep_then (in_frame asked c y frame) c _ _ (keep_run c y t frame p.1 (λ g. (j g).1)) (λ v. keep_then (in_frame asked c y frame) c _ _ (sends c y frame l u op (v ∷ [])) (λ r.
        keep_set_by_send c y frame s.line o m (r ∷ []) r))))
    keep_form c y (or_attribute a x t m) s frame e p j =
        keep_then (in_frame asked c y frame) c _ _ (keep_run c y a frame p.0 (λ g. (j g).0)) (λ o. keep_then (in_frame asked c y frame) c _ _ (sends c y frame s.line o x []) (λ u.
        keep_choose (in_frame asked c y frame) c (is_true u) _ _ (keep_done (in_frame asked c y frame) c u) (keep_then (in_frame asked c y frame) c _ _ (keep_run c y t frame p.1 (λ g. (j g).1)) (λ v. keep_set_by_send c y frame s.line o m (v ∷ []) v))))
    keep_form c y (and_attribute a x t m) s frame e p j =
        keep_then (in_frame asked c y frame) c _ _ (keep_run c y a frame p.0 (λ g. (j g).0)) (λ o. keep_then (in_frame asked c y frame) c _ _ (sends c y frame s.line o x []) (λ u.
        keep_choose (in_frame asked c y frame) c (is_true u) _ _ (keep_then (in_frame asked c y frame) c _ _ (keep_run c y t frame p.1 (λ g. (j g).1)) (λ v. keep_set_by_send c y frame s.line o m (v ∷ []) v)) (keep_done (in_frame asked c y frame) c u)))
    keep_form c y (operate_index a i t op l) s frame e p j =
        keep_then (in_frame asked c y frame) c _ _ (keep_run c y a frame p.0 (λ g. (j g).0)) (λ o. keep_then (in_frame asked c y frame) c _ _ (keep_run c y i frame p.1.0 (λ g. (j g).1.0)) (λ k.
        keep_then (in_frame asked c y frame) c _ _ (sends c y frame s.line o (codes "[]") (k ∷ [])) (λ u.
        keep_then (in_frame asked c y frame) c _ _ (keep_run c y t frame p.1.1 (λ g. (j g).1.1)) (λ v. keep_then (in_frame asked c y frame) c _ _ (sends c y frame l u op (v ∷ [])) (λ r.
        keep_set_by_send c y frame s.line o (codes "[]=") (k ∷ r ∷ []) r)))))
    keep_form c y (or_index a i t) s frame e p j =
        keep_then (in_frame asked c y frame) c _ _ (keep_run c y a frame p.0 (λ g. (j g).0)) (λ o. keep_then (in_frame asked c y frame) c _ _ (keep_run c y i frame p.1.0 (λ g. (j g).1.0)) (λ k.
        keep_then (in_frame asked c y frame) c _ _ (sends c y frame s.line o (codes "[]") (k ∷ [])) (λ u.
        keep_choose (in_frame asked c y frame) c (is_true u) _ _ (keep_done (in_frame asked c y frame) c u)
        (keep_then (in_frame asked c y frame) c _ _ (keep_run c y t frame p.1.1 (λ g. (j g).1.1)) (λ v. keep_set_by_send c y frame s.line o (codes "[]=") (k ∷ v ∷ []) v)))))
    keep_form c y (and_index a i t) s frame e p j =
        keep_then (in_frame asked c y frame) c _ _ (keep_run c y a frame p.0 (λ g. (j g).0)) (λ o. keep_then (in_frame asked c y frame) c _ _ (keep_run c y i frame p.1.0 (λ g. (j g).1.0)) (λ k.
        keep_then (in_frame asked c y frame) c _ _ (sends c y frame s.line o (codes "[]") (k ∷ [])) (λ u.
        keep_choose (in_frame asked c y frame) c (is_true u) _ _
        (keep_then (in_frame asked c y frame) c _ _ (keep_run c y t frame p.1.1 (λ g. (j g).1.1)) (λ v. keep_set_by_send c y frame s.line o (codes "[]=") (k ∷ v ∷ []) v)) (keep_done (in_frame asked c y frame) c u))))
    keep_form c y (send o ts ks v x bare t) s frame e p j =
        keep_receiver c y o frame _ p.0 (λ g. (j g).0) (λ self. keep_trees c y ts frame [] _ p.1.0 (λ g. (j g).1.0) (λ vs. keep_block_value c y v frame s.line no_block _ p.1.1.0 (λ g. (j g).1.1.0) (λ given.
        keep_with_block asked c y t frame given _ p.1.1.1 (λ g. (j g).1.1.1) (λ ns own. keep_send_with c y (record frame { calling = ns }) frame s.line self x ks vs bare own) (keep_send_with c y frame frame s.line self x ks vs bare given))))
    keep_form c y (safe_send a ts ks v x t) s frame e p j =
        keep_then (in_frame asked c y frame) c _ _ (keep_run c y a frame p.0 (λ g. (j g).0)) (λ self. unless_nil_keeps (in_frame asked c y frame) c self _ (keep_trees c y ts frame [] _ p.1.0 (λ g. (j g).1.0) (λ vs. keep_block_value c y v frame s.line no_block _ p.1.1.0 (λ g. (j g).1.1.0) (λ given.
        keep_with_block asked c y t frame given _ p.1.1.1 (λ g. (j g).1.1.1) (λ ns own. keep_send_with c y (record frame { calling = ns }) frame s.line self x ks vs false own) (keep_send_with c y frame frame s.line self x ks vs false given)))))
    keep_form c y (yield ts ks) s frame e p j = keep_trees c y ts frame [] _ p j (λ vs. keep_reading (in_frame asked c y frame) c (spread ks vs) _ (λ us. keep_given b (in_frame asked c y frame) h c frame s.line frame.block us))
    keep_form c y (super ts ks v t) s frame e p j =
        keep_trees c y ts frame [] _ p.0 (λ g. (j g).0) (λ vs. keep_block_value c y v frame s.line frame.block _ p.1.0 (λ g. (j g).1.0) (λ given. keep_reading (in_frame asked c y frame) c (spread ks vs) _ (λ us. keep_super_to c y frame.method frame s.line t given us p.1.1 (λ g. (j g).1.1))))
    keep_form c y (bare_super t) s frame e p j =
        keep_reading (in_frame asked c y frame) c (λ w. map (λ x. read_local frame x w) (names_of_params (params_of frame.code.body))) _ (λ vs. keep_super_to c y frame.method frame s.line t frame.block vs p (λ g. (j g).1))
    keep_form c y bare_raise s frame e p j = sends c y frame s.line frame.self_value (codes "raise") (frame.handled ∷ [])
    keep_form c y (statements ts) s frame e p j = keep_all c y ts frame nil p j
    keep_form c y (both a d) s frame e p j = keep_then (in_frame asked c y frame) c _ _ (keep_run c y a frame p.0 (λ g. (j g).0)) (λ v. keep_choose (in_frame asked c y frame) c (is_true v) _ _ (keep_run c y d frame p.1 (λ g. (j g).1)) (keep_done (in_frame asked c y frame) c v))
    keep_form c y (either a d) s frame e p j = keep_then (in_frame asked c y frame) c _ _ (keep_run c y a frame p.0 (λ g. (j g).0)) (λ v. keep_choose (in_frame asked c y frame) c (is_true v) _ _ (keep_done (in_frame asked c y frame) c v) (keep_run c y d frame p.1 (λ g. (j g).1)))
    keep_form c y (negated a) s frame e p j = keep_then (in_frame asked c y frame) c _ _ (keep_run c y a frame p j) (λ v. sends c y frame s.line v (codes "!") [])
    keep_form c y (if_else d a o) s frame e p j = keep_then (in_frame asked c y frame) c _ _ (keep_run c y d frame p.0 (λ g. (j g).0)) (λ v. keep_choose (in_frame asked c y frame) c (is_true v) _ _ (keep_run c y a frame p.1.0 (λ g. (j g).1.0)) (keep_other c y o frame p.1.1 (λ g. (j g).1.1)))
    keep_form c y (while_loop a d u first) s frame e p j =
        keep_loop_from (in_frame asked c y frame) c first fuel u _ _ (keep_run c y d frame p.1 (λ g. (j g).1)) (keep_known (in_frame asked c y frame) (in_frame asked (in_loop c) y (in_loop_of frame)) (in_loop c) _ refl (loop_of asked c y frame) (keep_run (in_loop c) y a (in_loop_of frame) p.0 (λ g. (j g).0)))
    keep_form c y (case_of a ws o) s frame e p j = keep_then (in_frame asked c y frame) c _ _ (keep_run c y a frame p.0 (λ g. (j g).0)) (λ v. keep_whens c y ws frame v _ p.1.0 (λ g. (j g).1.0) (keep_other c y o frame p.1.1 (λ g. (j g).1.1)))
    keep_form c y (case_tests ws o) s frame e p j = keep_tests c y ws frame _ p.0 (λ g. (j g).0) (keep_other c y o frame p.1 (λ g. (j g).1))
    keep_form c y (return_with ts) s frame e p j = keep_trees c y ts frame [] _ p j (λ vs. keep_values (in_frame asked c y frame) c vs _ (keep_leave_home (in_frame asked c y frame) c frame s.line))
    keep_form c y (break_with ts) s frame e p j = keep_trees c y ts frame [] _ p j (λ vs. keep_values (in_frame asked c y frame) c vs _ (keep_leave_loop (in_frame asked c y frame) c frame s.line))
    keep_form c y (next_with ts) s frame e p j = keep_trees c y ts frame [] _ p j (λ vs. keep_values (in_frame asked c y frame) c vs _ (λ v. keep_stay (in_frame asked c y frame) c (Next v) (λ w. refl) (λ w. holds c.loop e)))
    keep_form c y retry s frame e p j = keep_stay (in_frame asked c y frame) c Retry (λ w. refl) (λ w. holds c.clause e)
    keep_form c y (rescue a o d) s frame e p j =
        keep_rescuing (in_frame asked c y frame) c fuel _ _ _ (keep_run c y a frame p.0 (λ g. (j g).0))
        (λ v. keep_known (in_frame asked c y frame) (in_frame asked (in_clause c) y (handling frame v)) (in_clause c) _ refl (handling_in asked c y frame v) (keep_run (in_clause c) y d (handling frame v) p.1.1 (λ g. (j g).1.1)))
        (λ v. keep_last c y o frame v p.1.0 (λ g. (j g).1.0))
    keep_form c y (ensure a d) s frame e p j = keep_finished (in_frame asked c y frame) c _ _ (keep_run c y a frame p.0 (λ g. (j g).0)) (keep_run c y d frame p.1 (λ g. (j g).1))
    keep_form c y (rescue_sequence cs) s frame e p j =
        keep_entering (in_frame asked c y frame) c frame.code.source s.place _ (keep_known (in_frame asked c y frame) (in_frame asked c y (in_sequence s.first frame)) c _ refl (sequence_in asked c y frame s.first) (keep_clauses c y cs (in_sequence s.first frame) s.line p j))
    keep_form c y (ensure_sequence a) s frame e p j =
        keep_entering (in_frame asked c y frame) c frame.code.source s.place _ (record {
          by = λ w q z. part_out asked c w (run files fuel b a (in_sequence s.first frame) w) ((keep_run (outside_clause c) y a (in_sequence s.first frame) p j).by w (part_in asked c y frame s.first w q) z);
        })
    keep_form c y (method x t on_self) s frame e p j = keep_define_method (in_frame asked c y frame) c frame (classes_of asked c y frame) t p j s.line x on_self
    keep_form c y (class o x t) s frame e p j = keep_class c y o x frame s.line _ p.0 (λ g. (j g).0) (keep_open_class (in_frame asked c y frame) c frame (classes_of asked c y frame) s.line t (run files fuel b t) (λ n i. keep_run (at_home placement.in_class) (λ g. body_sight t) t (class_frame frame s.line t n i) p.1 (λ g. (j g).1.0)))
    keep_form c y (module_named x t) s frame e p j = keep_module_named (in_frame asked c y frame) c frame (classes_of asked c y frame) x _ (keep_open_class (in_frame asked c y frame) c frame (classes_of asked c y frame) s.line t (run files fuel b t) (λ n i. keep_run (at_home placement.in_class) (λ g. body_sight t) t (class_frame frame s.line t n i) p (λ g. (j g).0))) s.line
    keep_form c y (body ps t) s frame e p j = keep_defaults c y ps frame frame.given _ p.0 (λ g. (j g).0) (keep_run c y t frame p.1 (λ g. (j g).1))

    keep_all : (c : Around) (y : asked.is → Sight) (ts : Trees) (frame : Frame) (v : Value) → TreesPlaced c ts → ((g : asked.is) → TreesHoused (asked.told frame.code.source) (y g) ts) → Keeps (in_frame asked c y frame) c (run_all files fuel b ts frame v)
    keep_all c y no_more frame v p j = keep_done (in_frame asked c y frame) c v
    keep_all c y (more t ts) frame v p j = keep_then (in_frame asked c y frame) c _ _ (keep_run c y t frame p.0 (λ g. (j g).0)) (λ u. keep_all c y ts frame u p.1 (λ g. (j g).1))

    keep_trees : (c : Around) (y : asked.is → Sight) (ts : Trees) (frame : Frame) (vs : List Value) (go : List Value → Run) → TreesPlaced c ts → ((g : asked.is) → TreesHoused (asked.told frame.code.source) (y g) ts) → ((us : List Value) → Keeps (in_frame asked c y frame) c (go us)) → Keeps (in_frame asked c y frame) c (run_trees files fuel b ts frame vs go)
    keep_trees c y no_more frame vs go p j k = k vs
    keep_trees c y (more t ts) frame vs go p j k = keep_then (in_frame asked c y frame) c _ _ (keep_run c y t frame p.0 (λ g. (j g).0)) (λ v. keep_trees c y ts frame (vs ++ v ∷ []) go p.1 (λ g. (j g).1) k)

    keep_other : (c : Around) (y : asked.is → Sight) (o : Other) (frame : Frame) → OtherPlaced c o → ((g : asked.is) → OtherHoused (asked.told frame.code.source) (y g) o) → Keeps (in_frame asked c y frame) c (run_other files fuel b o frame)
    keep_other c y without frame p j = keep_done (in_frame asked c y frame) c nil
    keep_other c y (with t) frame p j = keep_run c y t frame p j

    keep_last : (c : Around) (y : asked.is → Sight) (o : Other) (frame : Frame) (v : Value) → OtherPlaced c o → ((g : asked.is) → OtherHoused (asked.told frame.code.source) (y g) o) → Keeps (in_frame asked c y frame) c (run_last files fuel b o frame v)
    keep_last c y without frame v p j = keep_done (in_frame asked c y frame) c v
    keep_last c y (with t) frame v p j = keep_run c y t frame p j

    keep_receiver : (c : Around) (y : asked.is → Sight) (o : Other) (frame : Frame) (go : Value → Run) → OtherPlaced c o → ((g : asked.is) → OtherHoused (asked.told frame.code.source) (y g) o) → ((v : Value) → Keeps (in_frame asked c y frame) c (go v)) → Keeps (in_frame asked c y frame) c (run_receiver files fuel b o frame go)
    keep_receiver c y without frame go p j k = k frame.self_value
    keep_receiver c y (with t) frame go p j k = keep_then (in_frame asked c y frame) c _ _ (keep_run c y t frame p j) k

    keep_block_value : (c : Around) (y : asked.is → Sight) (o : Other) (frame : Frame) (line : ℕ) (given : Given) (go : Given → Run) → OtherPlaced c o → ((g : asked.is) → OtherHoused (asked.told frame.code.source) (y g) o) → ((x : Given) → Keeps (in_frame asked c y frame) c (go x)) → Keeps (in_frame asked c y frame) c (run_given_value files fuel b o frame line given go)
    keep_block_value c y without frame line given go p j k = k given
    keep_block_value c y (with t) frame line given go p j k = keep_then (in_frame asked c y frame) c _ _ (keep_run c y t frame p j) (λ v. keep_given_value (in_frame asked c y frame) c frame line v go k)

    keep_path : (c : Around) (y : asked.is → Sight) (o : Other) (top : Bool) (xs : List Bytes) (frame : Frame) (line : ℕ) → OtherPlaced c o → ((g : asked.is) → OtherHoused (asked.told frame.code.source) (y g) o) → Keeps (in_frame asked c y frame) c (run_path files fuel b o top xs frame line)
    keep_path c y without top xs frame line p j =
        keep_choose (in_frame asked c y frame) c top _ _ (keep_path_from (in_frame asked c y frame) c frame (classes_of asked c y frame) line xs (object object_class)) (keep_path_around (in_frame asked c y frame) c frame (classes_of asked c y frame) line xs)
    keep_path c y (with t) top xs frame line p j = keep_then (in_frame asked c y frame) c _ _ (keep_run c y t frame p j) (λ v. keep_path_from (in_frame asked c y frame) c frame (classes_of asked c y frame) line xs v)

    keep_class : (c : Around) (y : asked.is → Sight) (o : Other) (x : Bytes) (frame : Frame) (line : ℕ) (go : ℕ → Run) → OtherPlaced c o → ((g : asked.is) → OtherHoused (asked.told frame.code.source) (y g) o) → ((n : ℕ) → Keeps (with_class (in_frame asked c y frame) n) c (go n)) → Keeps (in_frame asked c y frame) c (run_class files fuel b o x frame line go)
    keep_class c y without x frame line go p j k = keep_class_named (in_frame asked c y frame) c frame (classes_of asked c y frame) x go k line
    keep_class c y (with t) x frame line go p j k = keep_then (in_frame asked c y frame) c _ _ (keep_run c y t frame p j) (λ v. keep_class_below (in_frame asked c y frame) c frame (classes_of asked c y frame) x go k line v)

    keep_pairs : (c : Around) (y : asked.is → Sight) (ps : Pairs) (frame : Frame) (qs : List (Value × Value)) (go : List (Value × Value) → Run) → PairsPlaced c ps → ((g : asked.is) → PairsHoused (asked.told frame.code.source) (y g) ps) → ((rs : List (Value × Value)) → Keeps (in_frame asked c y frame) c (go rs)) → Keeps (in_frame asked c y frame) c (run_pairs files fuel b ps frame qs go)
    keep_pairs c y no_pair frame qs go p j k = k qs
    keep_pairs c y (pair t u ps) frame qs go p j k =
        keep_then (in_frame asked c y frame) c _ _ (keep_run c y t frame p.0 (λ g. (j g).0)) (λ x. keep_then (in_frame asked c y frame) c _ _ (keep_run c y u frame p.1.0 (λ g. (j g).1.0)) (λ v. keep_pairs c y ps frame (qs ++ (x, v) ∷ []) go p.1.1 (λ g. (j g).1.1) k))

    keep_pieces : (c : Around) (y : asked.is → Sight) (ps : Pieces) (frame : Frame) (line : ℕ) (vs : List Value) (go : List Value → Run) → PiecesPlaced c ps → ((g : asked.is) → PiecesHoused (asked.told frame.code.source) (y g) ps) → ((us : List Value) → Keeps (in_frame asked c y frame) c (go us)) → Keeps (in_frame asked c y frame) c (run_pieces files fuel b ps frame line vs go)
    keep_pieces c y no_piece frame line vs go p j k = k vs
    keep_pieces c y (plain_piece x ps) frame line vs go p j k = keep_then (in_frame asked c y frame) c _ _ (keep_string (in_frame asked c y frame) c x) (λ v. keep_pieces c y ps frame line (vs ++ v ∷ []) go p j k)
    keep_pieces c y (code_piece t ps) frame line vs go p j k =
        keep_then (in_frame asked c y frame) c _ _ (keep_run c y t frame p.0 (λ g. (j g).0)) (λ v. keep_then (in_frame asked c y frame) c _ _ (sends c y frame line v (codes "to_s") []) (λ u.
        keep_then (in_frame asked c y frame) c _ _ (keep_piece (in_frame asked c y frame) c v u) (λ x. keep_pieces c y ps frame line (vs ++ x ∷ []) go p.1 (λ g. (j g).1) k)))

    keep_whens : (c : Around) (y : asked.is → Sight) (ws : Whens) (frame : Frame) (v : Value) (last : Run) → WhensPlaced c ws → ((g : asked.is) → WhensHoused (asked.told frame.code.source) (y g) ws) → Keeps (in_frame asked c y frame) c last → Keeps (in_frame asked c y frame) c (run_whens files fuel b ws frame v last)
    keep_whens c y no_when frame v last p j k = k
    keep_whens c y (when ts t ws) frame v last p j k = keep_patterns c y ts frame v _ _ p.0 (λ g. (j g).0) (keep_run c y t frame p.1.0 (λ g. (j g).1.0)) (keep_whens c y ws frame v last p.1.1 (λ g. (j g).1.1) k)

    keep_patterns : (c : Around) (y : asked.is → Sight) (ts : Trees) (frame : Frame) (v : Value) (hit rest : Run) → TreesPlaced c ts → ((g : asked.is) → TreesHoused (asked.told frame.code.source) (y g) ts) → Keeps (in_frame asked c y frame) c hit → Keeps (in_frame asked c y frame) c rest → Keeps (in_frame asked c y frame) c (run_patterns files fuel b ts frame v hit rest)
    keep_patterns c y no_more frame v hit rest p j k l = l
    keep_patterns c y (more t ts) frame v hit rest p j k l =
        keep_then (in_frame asked c y frame) c _ _ (keep_run c y t frame p.0 (λ g. (j g).0)) (λ u. keep_then (in_frame asked c y frame) c _ _ (sends c y frame 0 u (codes "===") (v ∷ [])) (λ r.
        keep_choose (in_frame asked c y frame) c (is_true r) _ _ k (keep_patterns c y ts frame v hit rest p.1 (λ g. (j g).1) k l)))

    keep_tests : (c : Around) (y : asked.is → Sight) (ws : Whens) (frame : Frame) (last : Run) → WhensPlaced c ws → ((g : asked.is) → WhensHoused (asked.told frame.code.source) (y g) ws) → Keeps (in_frame asked c y frame) c last → Keeps (in_frame asked c y frame) c (run_tests files fuel b ws frame last)
    keep_tests c y no_when frame last p j k = k
    keep_tests c y (when ts t ws) frame last p j k = keep_any c y ts frame _ _ p.0 (λ g. (j g).0) (keep_run c y t frame p.1.0 (λ g. (j g).1.0)) (keep_tests c y ws frame last p.1.1 (λ g. (j g).1.1) k)

    keep_any : (c : Around) (y : asked.is → Sight) (ts : Trees) (frame : Frame) (hit rest : Run) → TreesPlaced c ts → ((g : asked.is) → TreesHoused (asked.told frame.code.source) (y g) ts) → Keeps (in_frame asked c y frame) c hit → Keeps (in_frame asked c y frame) c rest → Keeps (in_frame asked c y frame) c (run_any files fuel b ts frame hit rest)
    keep_any c y no_more frame hit rest p j k l = l
    keep_any c y (more t ts) frame hit rest p j k l = keep_then (in_frame asked c y frame) c _ _ (keep_run c y t frame p.0 (λ g. (j g).0)) (λ r. keep_choose (in_frame asked c y frame) c (is_true r) _ _ k (keep_any c y ts frame hit rest p.1 (λ g. (j g).1) k l))

    keep_clauses : (c : Around) (y : asked.is → Sight) (cs : Rescues) (frame : Frame) (line : ℕ) → ClausesPlaced c cs → ((g : asked.is) → ClausesHoused (asked.told frame.code.source) (y g) cs) → Keeps (in_frame asked c y frame) c (run_clauses files fuel b cs frame line)
    keep_clauses c y no_clause frame line p j = keep_raise (in_frame asked c y frame) c frame.handled
    keep_clauses c y (clause ts x t cs) frame line p j =
        keep_clause c y ts frame line _ _ p.0 (λ g. (j g).0) (keep_changing (in_frame asked c y frame) c (set_exception frame x) _ (λ w q s. moves_exception asked frame x w s) (keep_run c y t frame p.1.0 (λ g. (j g).1.1.0))) (keep_clauses c y cs frame line p.1.1 (λ g. (j g).1.1.1))

    keep_clause : (c : Around) (y : asked.is → Sight) (ts : Trees) (frame : Frame) (line : ℕ) (hit rest : Run) → TreesPlaced c ts → ((g : asked.is) → TreesHoused (asked.told frame.code.source) (y g) ts) → Keeps (in_frame asked c y frame) c hit → Keeps (in_frame asked c y frame) c rest → Keeps (in_frame asked c y frame) c (run_clause files fuel b ts frame line hit rest)
    keep_clause c y no_more frame line hit rest p j k l =
        keep_then (in_frame asked c y frame) c _ _ (keep_path_from (in_frame asked c y frame) c frame (classes_of asked c y frame) 0 (codes "StandardError" ∷ []) (object object_class)) (λ v. keep_match (in_frame asked c y frame) c frame line v _ _ k l)
    keep_clause c y (more t ts) frame line hit rest p j k l =
        keep_then (in_frame asked c y frame) c _ _ (keep_run c y t frame p.0 (λ g. (j g).0)) (λ v. keep_match (in_frame asked c y frame) c frame line v _ _ k (keep_classes c y ts frame line hit rest p.1 (λ g. (j g).1) k l))

    keep_classes : (c : Around) (y : asked.is → Sight) (ts : Trees) (frame : Frame) (line : ℕ) (hit rest : Run) → TreesPlaced c ts → ((g : asked.is) → TreesHoused (asked.told frame.code.source) (y g) ts) → Keeps (in_frame asked c y frame) c hit → Keeps (in_frame asked c y frame) c rest → Keeps (in_frame asked c y frame) c (run_classes files fuel b ts frame line hit rest)
    keep_classes c y no_more frame line hit rest p j k l = l
    keep_classes c y (more t ts) frame line hit rest p j k l =
        keep_then (in_frame asked c y frame) c _ _ (keep_run c y t frame p.0 (λ g. (j g).0)) (λ v. keep_match (in_frame asked c y frame) c frame line v _ _ k (keep_classes c y ts frame line hit rest p.1 (λ g. (j g).1) k l))

    keep_defaults : (c : Around) (y : asked.is → Sight) (ps : Params) (frame : Frame) (n : ℕ) (go : Run) → ParamsPlaced c ps → ((g : asked.is) → ParamsHoused (asked.told frame.code.source) (y g) ps) → Keeps (in_frame asked c y frame) c go → Keeps (in_frame asked c y frame) c (run_defaults files fuel b ps frame n go)
    keep_defaults c y no_param frame n go p j k = k
    keep_defaults c y (required x ps) frame n go p j k = keep_defaults c y ps frame n go p (λ g. (j g).1) k
    keep_defaults c y (optional x t ps) frame n go p j k =
        keep_choose (in_frame asked c y frame) c (is_given_one n) _ _ (keep_defaults c y ps frame (pred n) go p.1 (λ g. (j g).1.1) k)
        (keep_then (in_frame asked c y frame) c _ _ (keep_run c y t frame p.0 (λ g. (j g).1.0)) (λ v. keep_changing (in_frame asked c y frame) c (set_local frame x v) _ (λ w q s. moves_local asked frame x v w s) (keep_defaults c y ps frame n go p.1 (λ g. (j g).1.1) k)))
    keep_defaults c y (rest_param x ps) frame n go p j k = keep_defaults c y ps frame n go p (λ g. (j g).1) k
    keep_defaults c y (block_param x ps) frame n go p j k = keep_defaults c y ps frame n go p (λ g. (j g).1) k

-- The evaluation, by its fuel.

module _ (asked : Asked) where
  none_runs : Bodies asked (λ t frame. Spent)
  none_runs c y t inner placed housed = keep_stay (in_frame asked c y inner) c Spent (λ w. refl) (λ w. tt)

  module _ (files : Files) (are : ArePlaced files) (held : asked.is → AreHoused asked.told files) where
    pub keep_eval : (fuel : ℕ) → Bodies asked (eval files fuel)
    keep_eval zero c y t frame placed housed = keep_run asked files are held zero (λ t frame. Spent) none_runs c y t frame placed housed
    keep_eval (suc fuel) c y t frame placed housed = keep_run asked files are held (suc fuel) (eval files fuel) (keep_eval fuel) c y t frame placed housed

    pub keep_evaluate : Bodies asked (evaluate files)
    keep_evaluate c y t frame placed housed = record { by = λ w p s. (keep_eval w.turns c y t frame placed housed).by w p s }

-- As the laws say it: where nothing is asked of housing.

module _ (files : Files) (are : ArePlaced files) where
  stored_in : (c : Around) (t : Tree) (frame : Frame) (w : World) (m : Run) → Keeps (in_frame unasked c (λ g. absurd g) frame) c m → FrameFits c frame w.objects → IsStored w → StoredOut c w (m w)
  stored_in c t frame w m h fits s =
      let o : GoodOut unasked c w (m w) = h.by w (record { fits = fits; sees = λ g. absurd g }) (good_of unasked w s (λ g. absurd g)) in
      record { leads = o.leads.store; stored = stored_of unasked (world_of (m w)) o.good; placed = o.placed }

  stored_bodies : (b : Tree → Frame → Run) → StaysStored b → Bodies unasked b
  stored_bodies b h c y t inner placed housed = record {
    by = λ w p s.
        let o : StoredOut c w (b t inner w) = h c t inner w placed p.fits (stored_of unasked w s) in
        record { leads = record { store = o.leads; rooms = λ g. absurd g }; good = good_of unasked (world_of (b t inner w)) o.stored (λ g. absurd g); placed = o.placed };
  }

  pub run_stays : (fuel : ℕ) (b : Tree → Frame → Run) → StaysStored b → StaysStored (run files fuel b)
  run_stays fuel b h c t frame w placed fits s = stored_in c t frame w _ (keep_run unasked files are (λ g. absurd g) fuel b (stored_bodies b h) c (λ g. absurd g) t frame placed (λ g. absurd g)) fits s

  pub evaluate_stays : StaysStored (evaluate files)
  evaluate_stays c t frame w placed fits s = stored_in c t frame w _ (keep_evaluate unasked files are (λ g. absurd g) c (λ g. absurd g) t frame placed (λ g. absurd g)) fits s

-- And where it is asked.

module _ (told : Telling) (files : Files) (are : ArePlaced files) (held : AreHoused told files) where
  housed_in : (c : Around) (s : Sight) (t : Tree) (frame : Frame) (w : World) (m : Run) → Keeps (in_frame (asked_by told) c (λ g. s) frame) c m → InPlace told c s t frame w → StoredOut c w (m w) × HousedOut told w (m w)
  housed_in c s t frame w m h p =
      let o : GoodOut (asked_by told) c w (m w) = h.by w (record { fits = p.fits; sees = λ g. p.sight }) (good_of (asked_by told) w p.stored (λ g. p.world)) in
      (record { leads = o.leads.store; stored = stored_of (asked_by told) (world_of (m w)) o.good; placed = o.placed }, record { stay = o.leads.rooms tt; housed = housed_of (asked_by told) (world_of (m w)) o.good tt })

  housed_bodies : (b : Tree → Frame → Run) → StaysHoused told b → Bodies (asked_by told) b
  housed_bodies b h c y t inner placed housed = record {
    by = λ w p s.
        let is : InPlace told c (y tt) t inner w = record { placed = placed; housed = housed tt; fits = p.fits; sight = p.sees tt; stored = stored_of (asked_by told) w s; world = housed_of (asked_by told) w s tt } in
        let o : StoredOut c w (b t inner w) × HousedOut told w (b t inner w) = h c (y tt) t inner w is in
        record { leads = record { store = o.0.leads; rooms = λ g. o.1.stay }; good = good_of (asked_by told) (world_of (b t inner w)) o.0.stored (λ g. o.1.housed); placed = o.0.placed };
  }

  pub run_houses : (fuel : ℕ) (b : Tree → Frame → Run) → StaysHoused told b → StaysHoused told (run files fuel b)
  run_houses fuel b h c s t frame w p = housed_in c s t frame w _ (keep_run (asked_by told) files are (λ g. held) fuel b (housed_bodies b h) c (λ g. s) t frame p.placed (λ g. p.housed)) p

  pub evaluate_houses : StaysHoused told (evaluate files)
  evaluate_houses c s t frame w p = housed_in c s t frame w _ (keep_evaluate (asked_by told) files are (λ g. held) c (λ g. s) t frame p.placed (λ g. p.housed)) p
