-- What is defined, set and left, from a good world.
use Rattle.std.proofs.Common.{◌≡◌, ℕ, ◌+◌, Bool, true, false, cond, refl, sym, subst, List, [], ◌∷◌, ◌++◌, length, Option, Some, None, ℤ}
use Rattle.std.specs.Prelude.{codes, nat_eq, ◌||◌}
use Rattle.std.proofs.lemmas.Bool.{false≢true, eqb-true}
use Rattle.ruby_tree.specs.Names.{Bytes}
use Rattle.ruby_tree.specs.Tree.{Tree, Goal, to_local, to_instance, to_global, to_constant}
use Rattle.ruby_tree.specs.Placement.{Around, at_home}
use Rattle.ruby_tree.specs.Placement as placement
use Rattle.ruby_meaning.specs.Value.{Value, nil, yes, no, number, symbol_named, object, written, MethodRow, Kind, string, elements, table, span, closed, plain, class_or_module, Object, Objects}
use Rattle.ruby_meaning.specs.Numbers.{object_class, name_error, type_error, argument_error, local_jump_error, closed_classes}
use Rattle.ruby_meaning.specs.Store.{class_cells, method_cells, name_cells, environment_cells, array_cells, hash_cells, range_cells, new_object, has_name, with_name, kind_at, class_at, class_name, is_class_or_module, is_a, is_one_of, name_of_class_of, with_pairs}
use Rattle.ruby_meaning.specs.Locals.{place_of, locals_of}
use Rattle.ruby_meaning.specs.Constants.{own_constant, innermost, name_behind, constant_around, constant_behind, missing_constant}
use Rattle.ruby_meaning.specs.World.{Home, in_file, in_method, in_class, Given, World, Frame, to_loop, to_call, Done, Break, Return, Run, text_of}
use Rattle.ruby_meaning.specs.Steps.{changing, make_string, with_object, make}
use Rattle.ruby_meaning.specs.Calls.{all_nil}
use Rattle.ruby_meaning.specs.Definitions.{holder, set_local_in, set_local, fixed_global, with_global, name_cost, set_global_if, with_constant, set_constant, set_goal, set_goals, constant_found, class_number, behind_class, path_from, path_around, code_of, with_row, with_class_row, define_on, define_method}
use Rattle.ruby_meaning.specs.ClassBodies.{is_class_kind, is_module_kind, class_alone, module_alone, same_class, class_frame, open_class, make_class, not_a, open_found, class_or_new, module_or_new, if_same_superclass, below_base, with_base, class_below, class_named, module_of_name}
use Rattle.ruby_meaning.specs.Parts.{make_array, make_hash, no_range, range_to, make_range, piece_found, piece_of, joined_text, make_joined, of_values, unexpected_return, leave_from, leave_home, no_break, leave_block, leave_loop, given_of, wrong_block, given_found, given_value, match_found, match_class}
use Rattle.ruby_meaning.specs.ClassGraph.{number_if, StoreLeads}
use Rattle.ruby_meaning.specs.Levels.{body_sight, Told, IsHoused}
use Rattle.reference_laws.specs.Placed.{home_of, IsPlaced}
use Rattle.ruby_meaning.specs.Stored.{IsClass, AreClasses}
use Rattle.ruby_meaning.proofs.Changes.{keeps_set_local}
use Rattle.ruby_meaning.proofs.LocalNames.{names_nil}
use Rattle.ruby_meaning.proofs.StoreLeading.{store_behind, stays_class}
use Rattle.ruby_meaning.proofs.StoredStores.{Asked, GoodCode, keeps_behind, keeps_method, keeps_class_method, keeps_constants}
use Rattle.ruby_meaning.proofs.StoredWorlds.{Good, Moves, moves_objects, moves_rooms, moves_same}
use Rattle.ruby_meaning.proofs.StoredSteps.{Known, with_class, GoodOut, Keeps, out_on, keep_by, keep_stay, keep_done, keep_then, keep_reading, keep_read, keep_changing, keep_choose, keep_charge, keep_make, keep_make_string, keep_raise_new, keep_deeper, class_out}
use Rattle.ruby_meaning.proofs.MadeFrames.{class_fits, class_sees, code_stands, code_housed}
use Rattle.ruby_meaning.proofs.StoredCalls.{in_frame, keep_entering, keep_opening, keep_set_variable}

-- the innermost class body is one of a class, or there is none and it is Object
innermost_class : (s : Objects) (cs : List ℕ) → IsClass s object_class → AreClasses s cs → IsClass s (innermost cs)
innermost_class s [] o h = o
innermost_class s (c ∷ cs) o h = h.0

objects_same : (x : Bytes) (v : Value) (o : Option ℕ) (w : World) → (set_local_in x v o w).objects ≡ w.objects
objects_same x v None w = refl
objects_same x v (Some n) w = refl

closures_same : (x : Bytes) (v : Value) (o : Option ℕ) (w : World) → (set_local_in x v o w).closures ≡ w.closures
closures_same x v None w = refl
closures_same x v (Some n) w = refl

module _ (asked : Asked) where
  pub moves_local : (frame : Frame) (x : Bytes) (v : Value) (w : World) → Good asked w → Moves asked w (set_local frame x v w)
  moves_local frame x v w s = moves_rooms asked w (set_local frame x v w) (objects_same x v (holder frame x w) w) (λ g. ((keeps_set_local frame frame x v).leads w).stay) (closures_same x v (holder frame x w) w) s

  pub moves_constant : (n : ℕ) (x : Bytes) (v : Value) (w : World) → IsClass w.objects n → Good asked w → Moves asked w (with_constant n x v w)
  moves_constant n x v w is s = moves_objects asked w (with_constant n x v w) (keeps_constants asked w.objects n (with_name x v (class_at w.objects n).constants) is) refl refl s

-- Numbers that are found to be classes.

abbrev NumberIs : Objects → Option ℕ → Type 0
NumberIs s None = Unit {0}
NumberIs s (Some n) = IsClass s n

number_if_class : (s : Objects) (n : ℕ) (t : Bool) → (t ≡ true → IsClass s n) → NumberIs s (cond t (Some n) None)
number_if_class s n true h = h refl
number_if_class s n false h = tt

number_is : (s : Objects) (v : Value) → NumberIs s (class_number s v)
number_is s (object n) = number_if_class s n (is_class_or_module (kind_at s n)) (λ h. h)
number_is s nil = tt
number_is s yes = tt
number_is s no = tt
number_is s (number i) = tt
number_is s (symbol_named x) = tt

class_kind : (k : Kind) → is_class_kind k ≡ true → is_class_or_module k ≡ true
class_kind (class_or_module c) h = refl
class_kind (string f) h = absurd (false≢true h)
class_kind (elements vs) h = absurd (false≢true h)
class_kind (table ps d) h = absurd (false≢true h)
class_kind (span a b e) h = absurd (false≢true h)
class_kind (closed k) h = absurd (false≢true h)
class_kind (plain c) h = absurd (false≢true h)

module_kind : (k : Kind) → is_module_kind k ≡ true → is_class_or_module k ≡ true
module_kind (class_or_module c) h = refl
module_kind (string f) h = absurd (false≢true h)
module_kind (elements vs) h = absurd (false≢true h)
module_kind (table ps d) h = absurd (false≢true h)
module_kind (span a b e) h = absurd (false≢true h)
module_kind (closed k) h = absurd (false≢true h)
module_kind (plain c) h = absurd (false≢true h)

alone_is : (s : Objects) (v : Value) → NumberIs s (class_alone s v)
alone_is s (object n) = number_if_class s n (is_class_kind (kind_at s n)) (class_kind (kind_at s n))
alone_is s nil = tt
alone_is s yes = tt
alone_is s no = tt
alone_is s (number i) = tt
alone_is s (symbol_named x) = tt

module_is : (s : Objects) (v : Value) → NumberIs s (module_alone s v)
module_is s (object n) = number_if_class s n (is_module_kind (kind_at s n)) (module_kind (kind_at s n))
module_is s nil = tt
module_is s yes = tt
module_is s no = tt
module_is s (number i) = tt
module_is s (symbol_named x) = tt

-- what goes on with a number that is read, of which it is known that it is a class's
module _ (k : Known) (c : Around) where
  number_out : (go : Option ℕ → Run) → Keeps k c (go None) → ((n : ℕ) → Keeps (with_class k n) c (go (Some n))) → (o : Option ℕ) (w : World) → NumberIs w.objects o → k.holds w → Good k.asked w → GoodOut k.asked c w (go o w)
  number_out go h hs None w is p s = h.by w p s
  number_out go h hs (Some n) w is p s = (hs n).by w (p, is) s

-- the one number of a list of one
only : (p n : ℕ) (t : Bool) → nat_eq p n ≡ t → (t || false) ≡ true → p ≡ n
only p n true e h = eqb-true p n e
only p n false e h = absurd (false≢true h)

kind_last : (s : Objects) (o : Object) → kind_at (s ++ o ∷ []) (length s) ≡ o.kind
kind_last [] o = refl
kind_last (x ∷ s) o = kind_last s o

-- Names, methods and classes, in a frame of which the class bodies are known.
module _ (k : Known) (c : Around) (frame : Frame) (has : (w : World) → k.holds w → AreClasses w.objects frame.code.classes) where
  inner_is : (w : World) → k.holds w → Good k.asked w → IsClass w.objects (innermost frame.code.classes)
  inner_is w p s = innermost_class w.objects frame.code.classes s.object (has w p)

  keep_set_global : (line : ℕ) (x : Bytes) (v : Value) (o : Option Value) → Keeps k c (set_global_if frame line x v o)
  keep_set_global line x v None =
      keep_reading k c (λ w. name_cost (has_name x w.globals)) _ (λ cost. keep_charge k c cost _ (keep_changing k c (with_global x v) _ (λ w p s. moves_same k.asked w (with_global x v w) refl refl refl s) (keep_done k c v)))
  keep_set_global line x v (Some u) = keep_raise_new k c frame line name_error (x ++ codes " is a read-only variable")

  keep_set_constant : (x : Bytes) (v : Value) → Keeps k c (set_constant (innermost frame.code.classes) x v)
  keep_set_constant x v =
      keep_reading k c (λ w. name_cost (has_name x (class_at w.objects (innermost frame.code.classes)).constants)) _ (λ cost. keep_charge k c cost _
      (keep_changing k c (with_constant (innermost frame.code.classes) x v) _ (λ w p s. moves_constant k.asked (innermost frame.code.classes) x v w (inner_is w p s) s) (keep_done k c v)))

  pub keep_set_goal : (line : ℕ) (g : Goal) (v : Value) → Keeps k c (set_goal frame line g v)
  keep_set_goal line (to_local x) v = keep_changing k c (set_local frame x v) _ (λ w p s. moves_local k.asked frame x v w s) (keep_done k c v)
  keep_set_goal line (to_instance x) v = keep_set_variable k c frame line frame.self_value x v
  keep_set_goal line (to_global x) v = keep_set_global line x v (fixed_global x)
  keep_set_goal line (to_constant x) v = keep_set_constant x v

  pub keep_set_goals : (line : ℕ) (gs : List Goal) (vs : List Value) → Keeps k c (set_goals frame line gs vs)
  keep_set_goals line [] vs = keep_done k c nil
  keep_set_goals line (g ∷ gs) [] = keep_then k c _ _ (keep_set_goal line g nil) (λ u. keep_set_goals line gs [])
  keep_set_goals line (g ∷ gs) (v ∷ vs) = keep_then k c _ _ (keep_set_goal line g v) (λ u. keep_set_goals line gs vs)

  keep_constant_found : (line n : ℕ) (x : Bytes) (go : Value → Run) (o : Option Value) → ((v : Value) → Keeps k c (go v)) → Keeps k c (constant_found frame line n x go o)
  keep_constant_found line n x go None h = keep_reading k c (λ w. missing_constant w.objects n x) _ (λ f. keep_raise_new k c frame line name_error f)
  keep_constant_found line n x go (Some v) h = h v

  keep_behind_class : (line : ℕ) (v : Value) (x : Bytes) (go : Value → Run) (o : Option ℕ) → ((u : Value) → Keeps k c (go u)) → Keeps k c (behind_class frame line v x go o)
  keep_behind_class line v x go None h = keep_reading k c (λ w. name_of_class_of w.objects v) _ (λ n. keep_raise_new k c frame line type_error (n ++ codes " is not a class/module"))
  keep_behind_class line v x go (Some n) h = keep_reading k c (λ w. constant_behind w.objects n x) _ (λ o. keep_constant_found line n x go o h)

  pub keep_path_from : (line : ℕ) (xs : List Bytes) (v : Value) → Keeps k c (path_from frame line xs v)
  keep_path_from line [] v = keep_done k c v
  keep_path_from line (x ∷ xs) v = keep_reading k c (λ w. class_number w.objects v) _ (λ o. keep_behind_class line v x (path_from frame line xs) o (keep_path_from line xs))

  pub keep_path_around : (line : ℕ) (xs : List Bytes) → Keeps k c (path_around frame line xs)
  keep_path_around line [] = keep_done k c nil
  keep_path_around line (x ∷ xs) =
      keep_reading k c (λ w. constant_around w.objects frame.code.classes x) _ (λ o. keep_constant_found line (innermost frame.code.classes) x (path_from frame line xs) o (keep_path_from line xs))

  -- Methods.

  module _ (t : Tree) (placed : IsPlaced (at_home (home_of t)) t) (housed : k.asked.is → IsHoused (k.asked.told frame.code.source) (body_sight t) t × Told (k.asked.told frame.code.source) (body_sight t) t) where
    good_code : (w : World) → k.holds w → GoodCode k.asked w.objects (code_of frame t)
    good_code w p = record { stored = code_stands frame t w.objects placed (has w p); housed = λ a. code_housed k.asked.told frame t (housed a).0 (housed a).1 }

    keep_define_on : (line : ℕ) (x : Bytes) (n : ℕ) → Keeps (with_class k n) c (define_on frame line x t (Some n))
    keep_define_on line x n =
        let j : Known = with_class k n in
        let r : MethodRow = record { name = x; body = written (code_of frame t) } in
        keep_charge j c method_cells _ (keep_changing j c (with_class_row n r) _
        (λ w p s. moves_objects k.asked w (with_class_row n r w) (keeps_class_method k.asked w.objects n r p.1 (good_code w p.0)) refl refl s) (keep_done j c (symbol_named x)))

    pub keep_define_method : (line : ℕ) (x : Bytes) (on_self : Bool) → Keeps k c (define_method frame line x t on_self)
    keep_define_method line x false =
        let r : MethodRow = record { name = x; body = written (code_of frame t) } in
        keep_charge k c method_cells _ (keep_changing k c (with_row (innermost frame.code.classes) r) _
        (λ w p s. moves_objects k.asked w (with_row (innermost frame.code.classes) r w) (keeps_method k.asked w.objects (innermost frame.code.classes) r (inner_is w p s) (good_code w p)) refl refl s) (keep_done k c (symbol_named x)))
    keep_define_method line x true =
        keep_read k c (λ w. class_number w.objects frame.self_value) (define_on frame line x t) (λ w p s.
        number_out k c (define_on frame line x t) (keep_raise_new k c frame line type_error (codes "can't define singleton")) (keep_define_on line x) (class_number w.objects frame.self_value) w (number_is w.objects frame.self_value) p s)

  -- Class bodies.

  pub keep_open_class : (line : ℕ) (t : Tree) (go : Frame → Run) → ((n i : ℕ) → Keeps (in_frame k.asked (at_home placement.in_class) (λ a. body_sight t) (class_frame frame line t n i)) (at_home placement.in_class) (go (class_frame frame line t n i))) → (n : ℕ) → Keeps (with_class k n) c (open_class frame line t go n)
  keep_open_class line t go h n =
      let j : Known = with_class k n in
      keep_deeper j c frame line _ (keep_entering j c frame.code.source (place_of t) _ (keep_charge j c (environment_cells (length (locals_of [] t))) _
      (keep_opening j c None (all_nil (locals_of [] t)) (locals_of [] t) (λ a. []) _ (λ w p a. names_nil (locals_of [] t)) (λ w p a. tt) (λ i. record {
        by = λ w p s.
            let inner : Frame = class_frame frame line t n i in
            class_out k.asked c (at_home placement.in_class) w (go inner w) refl refl
            ((h n i).by w (record { fits = class_fits frame line t n i w.objects p.0.1 (has w p.0.0); sees = λ a. class_sees frame line t n i w (p.1 a) }) s);
      }))))

  -- Makes a class below one that there is, or none.
  module _ (x : Bytes) (go : ℕ → Run) (h : (n : ℕ) → Keeps (with_class k n) c (go n)) where
    abbrev made : Bytes → Bool → Option ℕ → Object
    made name m base = new_object (class_or_module (record { name = name; is_module = m; superclass = base; modules = []; methods = []; class_methods = []; constants = [] }))

    over : (s : Objects) (base : Option ℕ) → NumberIs s base → (p : ℕ) → is_one_of p (number_if base) ≡ true → IsClass s p
    over s None is p i = absurd (false≢true i)
    over s (Some n) is p i = subst (IsClass s) (sym (only p n (nat_eq p n) refl i)) is

    made_out : (name : Bytes) (m : Bool) (base : Option ℕ) (w : World) → NumberIs w.objects base → k.holds w → Good k.asked w →
        GoodOut k.asked c w (make (made name m base) (λ n. changing (with_constant (innermost frame.code.classes) x (object n)) (go n)) w)
    made_out name m base w is p s =
        let o : Object = made name m base in
        let n : ℕ = length w.objects in
        let z : World = with_object o w in
        let l : StoreLeads w.objects z.objects = store_behind w.objects o (over w.objects base is) in
        let a : Moves k.asked w z = moves_objects k.asked w z (keeps_behind k.asked w.objects o l (tt, tt)) refl refl s in
        let y : World = with_constant (innermost frame.code.classes) x (object n) z in
        let q : k.holds z = k.stays w z a.leads p in
        let b : Moves k.asked z y = moves_constant k.asked (innermost frame.code.classes) x (object n) z (inner_is z q a.good) a.good in
        let there : IsClass z.objects n = subst (λ kind. is_class_or_module kind ≡ true) (sym (kind_last w.objects o)) refl in
        out_on k.asked c w z (go n y) a.leads (out_on k.asked c z y (go n y) b.leads ((h n).by y (k.stays z y b.leads q, stays_class z.objects y.objects n b.leads.store there) b.good))

    keep_make_class : (j : Known) (same : j.asked ≡ k.asked) (m : Bool) (base : Option ℕ) → ((w : World) → j.holds w → Good k.asked w → k.holds w × NumberIs w.objects base) → Keeps j c (make_class frame x m base go)
    keep_make_class j same m base is =
        keep_reading j c (λ w. name_behind w.objects (innermost frame.code.classes) x) _ (λ name. keep_charge j c (class_cells + name_cells) _
        (keep_by j k c _ same (λ w p s. made_out name m base w (is w p s).1 (is w p s).0 s)))

    keep_class_or_new : (line : ℕ) (o : Option Value) → Keeps k c (class_or_new frame line x go o)
    keep_class_or_new line None = keep_make_class k refl false (Some object_class) (λ w p s. (p, s.object))
    keep_class_or_new line (Some v) =
        keep_read k c (λ w. class_alone w.objects v) (open_found frame line x (codes "class") go) (λ w p s.
        number_out k c (open_found frame line x (codes "class") go) (keep_raise_new k c frame line type_error (not_a x (codes "class"))) h (class_alone w.objects v) w (alone_is w.objects v) p s)

    keep_module_or_new : (line : ℕ) (o : Option Value) → Keeps k c (module_or_new frame line x go o)
    keep_module_or_new line None = keep_make_class k refl true None (λ w p s. (p, tt))
    keep_module_or_new line (Some v) =
        keep_read k c (λ w. module_alone w.objects v) (open_found frame line x (codes "module") go) (λ w p s.
        number_out k c (open_found frame line x (codes "module") go) (keep_raise_new k c frame line type_error (not_a x (codes "module"))) h (module_alone w.objects v) w (module_is w.objects v) p s)

    keep_superclass : (line base n : ℕ) → Keeps (with_class k n) c (if_same_superclass frame line x go base n)
    keep_superclass line base n =
        let j : Known = with_class k n in
        keep_reading j c (λ w. same_class (class_at w.objects n).superclass base) _ (λ t. keep_choose j c t _ _ (h n) (keep_raise_new j c frame line type_error (codes "superclass mismatch for class " ++ x)))

    keep_below : (line base : ℕ) (o : Option Value) → Keeps (with_class k base) c (below_base frame line x go base o)
    keep_below line base None =
        let j : Known = with_class k base in
        keep_choose j c (is_one_of base closed_classes) _ _
        (keep_reading j c (λ w. class_name w.objects base) _ (λ name. keep_raise_new j c frame line type_error (codes "can't inherit from " ++ name)))
        (keep_make_class j refl false (Some base) (λ w p s. p))
    keep_below line base (Some v) =
        let j : Known = with_class k base in
        let step : ℕ → Run = if_same_superclass frame line x go base in
        keep_read j c (λ w. class_alone w.objects v) (open_found frame line x (codes "class") step) (λ w p s.
        number_out k c (open_found frame line x (codes "class") step) (keep_raise_new k c frame line type_error (not_a x (codes "class"))) (keep_superclass line base) (class_alone w.objects v) w (alone_is w.objects v) p.0 s)

    keep_base : (line base : ℕ) → Keeps (with_class k base) c (with_base frame line x go (Some base))
    keep_base line base = keep_reading (with_class k base) c (λ w. own_constant w.objects (innermost frame.code.classes) x) _ (keep_below line base)

    pub keep_class_below : (line : ℕ) (v : Value) → Keeps k c (class_below frame line x v go)
    keep_class_below line v =
        keep_read k c (λ w. class_alone w.objects v) (with_base frame line x go) (λ w p s.
        number_out k c (with_base frame line x go) (keep_raise_new k c frame line type_error (codes "superclass must be a Class")) (keep_base line) (class_alone w.objects v) w (alone_is w.objects v) p s)

    pub keep_class_named : (line : ℕ) → Keeps k c (class_named frame line x go)
    keep_class_named line = keep_reading k c (λ w. own_constant w.objects (innermost frame.code.classes) x) _ (keep_class_or_new line)

    pub keep_module_named : (line : ℕ) → Keeps k c (module_of_name frame line x go)
    keep_module_named line = keep_reading k c (λ w. own_constant w.objects (innermost frame.code.classes) x) _ (keep_module_or_new line)

-- What nodes make and leave.
module _ (k : Known) (c : Around) where
  pub keep_make_array : (vs : List Value) (go : Value → Run) → ((v : Value) → Keeps k c (go v)) → Keeps k c (make_array vs go)
  keep_make_array vs go h = keep_charge k c (array_cells (length vs)) _ (keep_make k c (new_object (elements vs)) _ refl (λ n. h (object n)))

  pub keep_make_hash : (qs : List (Value × Value)) → Keeps k c (make_hash qs)
  keep_make_hash qs = keep_reading k c (λ w. with_pairs w.objects qs []) _ (λ ps. keep_charge k c (hash_cells (length ps)) _ (keep_make k c (new_object (table ps nil)) _ refl (λ n. keep_done k c (object n))))

  keep_no_range : (frame : Frame) (line : ℕ) → Keeps k c (no_range frame line)
  keep_no_range frame line = keep_raise_new k c frame line argument_error (codes "bad value for range")

  keep_range_to : (frame : Frame) (line : ℕ) (t : Bool) (i : ℤ) (v : Value) → Keeps k c (range_to frame line t i v)
  keep_range_to frame line t i (number j) = keep_charge k c range_cells _ (keep_make k c (new_object (span i j t)) _ refl (λ n. keep_done k c (object n)))
  keep_range_to frame line t i nil = keep_no_range frame line
  keep_range_to frame line t i yes = keep_no_range frame line
  keep_range_to frame line t i no = keep_no_range frame line
  keep_range_to frame line t i (symbol_named x) = keep_no_range frame line
  keep_range_to frame line t i (object n) = keep_no_range frame line

  pub keep_make_range : (frame : Frame) (line : ℕ) (t : Bool) (u v : Value) → Keeps k c (make_range frame line t u v)
  keep_make_range frame line t (number i) v = keep_range_to frame line t i v
  keep_make_range frame line t nil v = keep_no_range frame line
  keep_make_range frame line t yes v = keep_no_range frame line
  keep_make_range frame line t no v = keep_no_range frame line
  keep_make_range frame line t (symbol_named x) v = keep_no_range frame line
  keep_make_range frame line t (object n) v = keep_no_range frame line

  pub keep_string : (f : Bytes) → Keeps k c (make_string f (λ n. Done (object n)))
  keep_string f = keep_make_string k c f _ (λ n. keep_done k c (object n))

  keep_piece_found : (v u : Value) (o : Option Bytes) → Keeps k c (piece_found v u o)
  keep_piece_found v u None = keep_reading k c (λ w. codes "#<" ++ (name_of_class_of w.objects v ++ codes ">")) _ (λ f. keep_string f)
  keep_piece_found v u (Some f) = keep_done k c u

  pub keep_piece : (v u : Value) → Keeps k c (piece_of v u)
  keep_piece v u = keep_reading k c (λ w. text_of w.objects u) _ (λ o. keep_piece_found v u o)

  pub keep_joined : (vs : List Value) → Keeps k c (make_joined vs)
  keep_joined vs = keep_reading k c (λ w. joined_text w.objects vs) _ (λ f. keep_string f)

  pub keep_values : (vs : List Value) (go : Value → Run) → ((v : Value) → Keeps k c (go v)) → Keeps k c (of_values vs go)
  keep_values [] go h = h nil
  keep_values (v ∷ []) go h = h v
  keep_values (v ∷ u ∷ vs) go h = keep_make_array (v ∷ u ∷ vs) go h

  keep_unexpected : (frame : Frame) (line : ℕ) → Keeps k c (unexpected_return frame line)
  keep_unexpected frame line = keep_raise_new k c frame line local_jump_error (codes "unexpected return")

  keep_return : (n : ℕ) (v : Value) → Keeps k c (Return n v)
  keep_return n v = keep_stay k c (Return n v) (λ w. refl) (λ w. tt)

  keep_leave_from : (home : Home) (o : Option ℕ) (frame : Frame) (line : ℕ) (v : Value) → Keeps k c (leave_from home o frame line v)
  keep_leave_from (in_file n) None frame line v = keep_return n v
  keep_leave_from (in_file n) (Some i) frame line v = keep_unexpected frame line
  keep_leave_from (in_method n) None frame line v = keep_return n v
  keep_leave_from (in_method n) (Some i) frame line v = keep_choose k c (is_one_of n frame.running) _ _ (keep_return n v) (keep_unexpected frame line)
  keep_leave_from in_class None frame line v = keep_unexpected frame line
  keep_leave_from in_class (Some i) frame line v = keep_unexpected frame line

  pub keep_leave_home : (frame : Frame) (line : ℕ) (v : Value) → Keeps k c (leave_home frame line v)
  keep_leave_home frame line v = keep_leave_from frame.home frame.in_block frame line v

  keep_no_break : (frame : Frame) (line : ℕ) → Keeps k c (no_break frame line)
  keep_no_break frame line = keep_raise_new k c frame line local_jump_error (codes "break from proc-closure")

  keep_leave_block : (o : Option ℕ) (frame : Frame) (line : ℕ) (v : Value) → Keeps k c (leave_block o frame line v)
  keep_leave_block None frame line v = keep_no_break frame line
  keep_leave_block (Some i) frame line v = keep_choose k c (is_one_of i frame.calling) _ _ (keep_stay k c (Break (to_call i) v) (λ w. refl) (λ w. tt)) (keep_no_break frame line)

  pub keep_leave_loop : (frame : Frame) (line : ℕ) (v : Value) → Keeps k c (leave_loop frame line v)
  keep_leave_loop frame line v = keep_choose k c frame.in_loop _ _ (keep_stay k c (Break to_loop v) (λ w. refl) (λ w. tt)) (keep_leave_block frame.in_block frame line v)

  keep_given_found : (frame : Frame) (line : ℕ) (v : Value) (go : Given → Run) (o : Option Given) → ((g : Given) → Keeps k c (go g)) → Keeps k c (given_found frame line v go o)
  keep_given_found frame line v go None h = keep_reading k c (λ w. wrong_block (name_of_class_of w.objects v)) _ (λ f. keep_raise_new k c frame line type_error f)
  keep_given_found frame line v go (Some g) h = h g

  pub keep_given_value : (frame : Frame) (line : ℕ) (v : Value) (go : Given → Run) → ((g : Given) → Keeps k c (go g)) → Keeps k c (given_value frame line v go)
  keep_given_value frame line v go h = keep_reading k c (λ w. given_of w.objects v) _ (λ o. keep_given_found frame line v go o h)

  keep_match_found : (frame : Frame) (line : ℕ) (hit rest : Run) (o : Option ℕ) → Keeps k c hit → Keeps k c rest → Keeps k c (match_found frame line hit rest o)
  keep_match_found frame line hit rest None h g = keep_raise_new k c frame line type_error (codes "class or module required for rescue clause")
  keep_match_found frame line hit rest (Some n) h g = keep_reading k c (λ w. is_a w.objects frame.handled n) _ (λ t. keep_choose k c t _ _ h g)

  pub keep_match : (frame : Frame) (line : ℕ) (v : Value) (hit rest : Run) → Keeps k c hit → Keeps k c rest → Keeps k c (match_class frame line v hit rest)
  keep_match frame line v hit rest h g = keep_reading k c (λ w. class_number w.objects v) _ (λ o. keep_match_found frame line hit rest o h g)
