-- The frames that a run makes, and those of parts, are in place where they begin.
use Rattle.std.proofs.Common.{◌≡◌, ℕ, true, refl, subst, List, [], ◌∷◌, length, Option, Some, None}
use Rattle.std.specs.Prelude.{slice_get}
use Rattle.ruby_tree.specs.Names.{Bytes}
use Rattle.ruby_tree.specs.Tree.{Tree}
use Rattle.ruby_tree.specs.Placement.{Around, in_loop, in_block, in_clause, outside_clause, at_home, file}
use Rattle.ruby_tree.specs.Placement as placement
use Rattle.ruby_meaning.specs.Value.{Value, Code, MethodBody, written}
use Rattle.ruby_meaning.specs.Store.{Place, Found, find_in}
use Rattle.ruby_meaning.specs.Locals.{params_of, locals_of}
use Rattle.ruby_meaning.specs.World.{Given, Running, Closure, World, Frame, to_loop, Break}
use Rattle.ruby_meaning.specs.Calls.{bound, all_nil, with_names, with_environment, next_environment, method_frame, block_frame}
use Rattle.ruby_meaning.specs.Files.{Files}
use Rattle.ruby_meaning.specs.Loads.{file_body, file_code, file_frame}
use Rattle.ruby_meaning.specs.ClassBodies.{class_frame}
use Rattle.ruby_meaning.specs.Parts.{in_loop_of, in_sequence, handling}
use Rattle.ruby_meaning.specs.Evaluation.{evaluate}
use Rattle.ruby_meaning.specs.ClassGraph.{StoreLeads}
use Rattle.ruby_meaning.specs.Laws.{names_in, EnvironmentsStay}
use Rattle.ruby_meaning.specs.RunLaws.{Allowed}
use Rattle.ruby_meaning.specs.Levels.{Scopes, Sight, file_sight, body_sight, names_seen, block_sight, Telling, IsHoused}
use Rattle.ruby_meaning.specs.InSight.{HaveNames}
use Rattle.reference_laws.specs.Placed.{home_of, IsPlaced}
use Rattle.ruby_meaning.specs.Stored.{IsClass, AreClasses, BodyIs, class_of_place, CodeStored, StoredIn, ClosureStored, IsStored, FrameFits}
use Rattle.ruby_meaning.specs.Housed.{source_of, CodeHoused, MadeIn, ClosureHoused, WorldHoused, InPlace}
use Rattle.ruby_meaning.proofs.Leading.{stay_push}
use Rattle.ruby_meaning.proofs.LocalNames.{names_nil, names_begin}
use Rattle.ruby_meaning.proofs.Scopes.{names_open}
use Rattle.ruby_meaning.proofs.StoredStores.{asked_by, made_on}
use Rattle.ruby_meaning.proofs.StoredWorlds.{good_of, stored_of, housed_of, Moves, moves_rooms}
use Rattle.ruby_meaning.proofs.StoredCalls.{FoundIs, find_is, closure_at}
use Rattle.ruby_meaning.proofs.MadeFrames.{fits_on, sight_on, method_fits, method_sees, block_fits, block_sees, class_fits, class_sees, file_fits, file_sees, calling_fits, handling_fits, sequence_fits, part_fits, loop_fits, calling_sees, handling_sees, sequence_sees, loop_sees}

-- By what is told of bodies.
module _ (told : Telling) where
  -- A world in which an environment is opened.

  module _ (parent : Option ℕ) (locals : List (Bytes × Value)) (w : World) where
    opened : IsStored w → WorldHoused told w → Moves (asked_by told) w (with_environment parent locals w)
    opened s h = moves_rooms (asked_by told) w (with_environment parent locals w) refl (λ g. stay_push w.environments (record { parent = parent; locals = locals })) refl (good_of (asked_by told) w s (λ g. h))

    opened_stored : IsStored w → WorldHoused told w → IsStored (with_environment parent locals w)
    opened_stored s h = stored_of (asked_by told) (with_environment parent locals w) (opened s h).good

    opened_housed : IsStored w → WorldHoused told w → WorldHoused told (with_environment parent locals w)
    opened_housed s h = housed_of (asked_by told) (with_environment parent locals w) (opened s h).good tt

    -- it has these names
    named : (names : List Bytes) (outer : Scopes) → names_in locals ≡ names → HaveNames (length w.environments) outer w.environments parent
        → HaveNames (length (with_environment parent locals w).environments) (names ∷ outer) (with_environment parent locals w).environments (Some (next_environment w))
    named names outer same h = subst (λ xs. HaveNames (length (with_environment parent locals w).environments) (xs ∷ outer) (with_environment parent locals w).environments (Some (next_environment w))) same (names_open outer parent locals w h)

  -- The locals with which a body begins, by what is bound.
  abbrev pub begun : Code → List Value → ℕ → Value → Value → List (Bytes × Value)
  begun code vs k r b = with_names (bound (params_of code.body) vs k r b) (all_nil code.locals)

  pub method_in_place : (frame : Frame) (line : ℕ) (code : Code) (self : Value) (x : Running) (given : Given) (vs : List Value) (n k : ℕ) (r b : Value) (w : World) → IsStored w → WorldHoused told w →
      CodeStored w.objects code → CodeHoused told code → IsClass w.objects (class_of_place x.place) →
      InPlace told (at_home (home_of code.body)) (body_sight code.body) code.body (method_frame frame line code self (next_environment w) x given n) (with_environment None (begun code vs k r b) w)
  method_in_place frame line code self x given vs n k r b w s h stored housed is = record {
    placed = stored.placed;
    housed = housed.housed;
    fits = method_fits frame line code self (next_environment w) x given n w.objects stored is;
    sight = method_sees frame line code self (next_environment w) x given n told (with_environment None (begun code vs k r b) w) housed
        (named None (begun code vs k r b) w code.locals [] (names_begin [] code.body code.locals vs k r b housed.locals) tt);
    stored = opened_stored None (begun code vs k r b) w s h;
    world = opened_housed None (begun code vs k r b) w s h;
  }

  pub block_in_place : (frame : Frame) (line : ℕ) (d : Closure) (i : ℕ) (c : Around) (y : Sight) (vs : List Value) (k : ℕ) (r b : Value) (w : World) → IsStored w → WorldHoused told w →
      StoredIn c w.objects d → MadeIn told y w.environments d →
      InPlace told (in_block c) (block_sight y d.code.body) d.code.body (block_frame frame line d i (next_environment w)) (with_environment (Some d.environment) (begun d.code vs k r b) w)
  block_in_place frame line d i c y vs k r b w s h stored made =
      let z : World = with_environment (Some d.environment) (begun d.code vs k r b) w in
      record {
        placed = stored.placed;
        housed = made.housed;
        fits = block_fits frame line d i (next_environment w) c w.objects stored;
        sight = block_sees frame line d i (next_environment w) told y z (made_on told y w.environments z.environments (stay_push w.environments _) d made)
            (named (Some d.environment) (begun d.code vs k r b) w d.code.locals y.scopes (names_begin (names_seen y d.code.body) d.code.body d.code.locals vs k r b made.locals) made.scopes);
        stored = opened_stored (Some d.environment) (begun d.code vs k r b) w s h;
        world = opened_housed (Some d.environment) (begun d.code vs k r b) w s h;
      }

  pub class_in_place : (frame : Frame) (line : ℕ) (t : Tree) (c : ℕ) (w : World) → IsStored w → WorldHoused told w → IsClass w.objects c → AreClasses w.objects frame.code.classes →
      IsPlaced (at_home placement.in_class) t → IsHoused (told frame.code.source) (body_sight t) t →
      InPlace told (at_home placement.in_class) (body_sight t) t (class_frame frame line t c (next_environment w)) (with_environment None (all_nil (locals_of [] t)) w)
  class_in_place frame line t c w s h is classes placed housed = record {
    placed = placed;
    housed = housed;
    fits = class_fits frame line t c (next_environment w) w.objects is classes;
    sight = class_sees frame line t c (next_environment w) (with_environment None (all_nil (locals_of [] t)) w) (named None (all_nil (locals_of [] t)) w (locals_of [] t) [] (names_nil (locals_of [] t)) tt);
    stored = opened_stored None (all_nil (locals_of [] t)) w s h;
    world = opened_housed None (all_nil (locals_of [] t)) w s h;
  }

  pub file_in_place : (path : Bytes) (load : Option ℕ) (t : Tree) (outside : Option (Bytes × ℕ)) (running calling : List ℕ) (w : World) → IsStored w → WorldHoused told w →
      IsPlaced (at_home file) t → IsHoused (told (source_of path load t)) (file_sight t) t →
      InPlace told (at_home file) (file_sight t) (file_body t) (file_frame (file_code path load t) (next_environment w) outside running calling) (with_environment None (all_nil (locals_of [] t)) w)
  file_in_place path load t outside running calling w s h placed housed = record {
    placed = (refl, (tt, placed));
    housed = (tt, housed);
    fits = file_fits path load t (next_environment w) outside running calling w.objects;
    sight = file_sees path load t (next_environment w) outside running calling (with_environment None (all_nil (locals_of [] t)) w) (named None (all_nil (locals_of [] t)) w (locals_of [] t) [] (names_nil (locals_of [] t)) tt);
    stored = opened_stored None (all_nil (locals_of [] t)) w s h;
    world = opened_housed None (all_nil (locals_of [] t)) w s h;
  }

  -- What is found stands.

  found_written : (so : Code → Type 0) (w : World) (f : Found) (b : MethodBody) (code : Code) → f.body ≡ b → b ≡ written code → FoundIs so w.objects (Some f) → so code × IsClass w.objects (class_of_place f.place)
  found_written so w f b code same is h = (subst (BodyIs so) is (subst (BodyIs so) same h.0), h.1)

  module _ (w : World) (s : IsStored w) (h : WorldHoused told w) where
    pub found_stands : (x : Bytes) (ps : List Place) (f : Found) (code : Code) → find_in w.objects x ps ≡ Some f → f.body ≡ written code → CodeStored w.objects code × CodeHoused told code × IsClass w.objects (class_of_place f.place)
    found_stands x ps f code e is =
        let a = found_written (CodeStored w.objects) w f f.body code refl is (subst (FoundIs (CodeStored w.objects) w.objects) e (find_is (CodeStored w.objects) w.objects x s.rows ps)) in
        let b = found_written (CodeHoused told) w f f.body code refl is (subst (FoundIs (CodeHoused told) w.objects) e (find_is (CodeHoused told) w.objects x h.rows ps)) in
        (a.0, b.0, a.1)

    pub closure_stands : (i : ℕ) (d : Closure) → slice_get w.closures i ≡ Some d → ClosureStored w.objects d × ClosureHoused told w.environments d
    closure_stands i d e = (closure_at (ClosureStored w.objects) w.closures i d e s.closures, closure_at (ClosureHoused told w.environments) w.closures i d e h.closures)

  -- Parts.

  module _ (c : Around) (s : Sight) (t : Tree) (frame : Frame) (w : World) (h : InPlace told c s t frame w) where
    pub part_in_place : (u : Tree) → IsPlaced c u → IsHoused (told frame.code.source) s u → InPlace told c s u frame w
    part_in_place u placed housed = record { placed = placed; housed = housed; fits = h.fits; sight = h.sight; stored = h.stored; world = h.world }

    pub loop_in_place : (u : Tree) → IsPlaced (in_loop c) u → IsHoused (told frame.code.source) s u → InPlace told (in_loop c) s u (in_loop_of frame) w
    loop_in_place u placed housed = record { placed = placed; housed = housed; fits = loop_fits c frame w.objects h.fits; sight = loop_sees s frame w h.sight; stored = h.stored; world = h.world }

    pub clause_in_place : (u : Tree) (v : Value) → IsPlaced (in_clause c) u → IsHoused (told frame.code.source) s u → InPlace told (in_clause c) s u (handling frame v) w
    clause_in_place u v placed housed = record { placed = placed; housed = housed; fits = handling_fits c frame w.objects h.fits v; sight = handling_sees s frame w h.sight v; stored = h.stored; world = h.world }

    pub sequence_in_place : (u : Tree) (n : ℕ) → IsPlaced c u → IsHoused (told frame.code.source) s u → InPlace told c s u (in_sequence n frame) w
    sequence_in_place u n placed housed = record { placed = placed; housed = housed; fits = sequence_fits c frame w.objects h.fits n; sight = sequence_sees s frame w h.sight n; stored = h.stored; world = h.world }

    pub ensured_in_place : (u : Tree) (n : ℕ) → IsPlaced (outside_clause c) u → IsHoused (told frame.code.source) s u → InPlace told (outside_clause c) s u (in_sequence n frame) w
    ensured_in_place u n placed housed = record { placed = placed; housed = housed; fits = part_fits c frame w.objects h.fits n; sight = sequence_sees s frame w h.sight n; stored = h.stored; world = h.world }

    pub calling_in_place : (ns : List ℕ) → InPlace told c s t (record frame { calling = ns }) w
    calling_in_place ns = record { placed = h.placed; housed = h.housed; fits = calling_fits c frame w.objects h.fits ns; sight = calling_sees s frame w h.sight ns; stored = h.stored; world = h.world }

    -- in a world to which it leads
    pub stays_in_place : (z : World) → StoreLeads w.objects z.objects → EnvironmentsStay w.environments z.environments → IsStored z → WorldHoused told z → InPlace told c s t frame z
    stays_in_place z l stay stored world = record { placed = h.placed; housed = h.housed; fits = fits_on c frame w.objects z.objects l h.fits; sight = sight_on s frame w z stay h.sight; stored = stored; world = world }

-- A break out of a loop comes only from where a loop or a block stands around.
pub break_in_loop : (files : Files) (c : Around) (t : Tree) (frame : Frame) (w z : World) (v : Value) → Allowed frame (evaluate files t frame w) → FrameFits c frame w.objects → evaluate files t frame w ≡ Break to_loop v z → c.loop ≡ true
break_in_loop files c t frame w z v may h same = h.in_loop (subst (Allowed frame) same may)
