-- The frames that a run makes and those of parts fit what stands around their trees, and are in the sight of these.
use Rattle.std.proofs.Common.{◌≡◌, ℕ, true, refl, sym, ap, ◌∙◌, subst, List, [], ◌∷◌, length, Option, Some}
use Rattle.std.specs.Prelude.{nat_eq}
use Rattle.std.proofs.lemmas.Bool.{false≢true, eq-eqb}
use Rattle.ruby_tree.specs.Names.{Bytes}
use Rattle.ruby_tree.specs.Tree.{Tree}
use Rattle.ruby_tree.specs.Placement.{Around, in_loop, in_block, in_clause, outside_clause, at_home, file}
use Rattle.ruby_tree.specs.Placement as placement
use Rattle.ruby_meaning.specs.Value.{Value, Code, Objects}
use Rattle.ruby_meaning.specs.Store.{is_one_of}
use Rattle.ruby_meaning.specs.Locals.{place_of, locals_of, seen_by}
use Rattle.ruby_meaning.specs.World.{Given, Running, Closure, World, Frame}
use Rattle.ruby_meaning.specs.Calls.{method_frame, block_frame}
use Rattle.ruby_meaning.specs.Loads.{file_code, file_frame}
use Rattle.ruby_meaning.specs.Definitions.{names_at, code_of, closure_here}
use Rattle.ruby_meaning.specs.ClassBodies.{class_frame}
use Rattle.ruby_meaning.specs.Parts.{in_loop_of, in_sequence, handling}
use Rattle.ruby_meaning.specs.ClassGraph.{StoreLeads}
use Rattle.ruby_meaning.specs.Laws.{EnvironmentsStay}
use Rattle.ruby_meaning.specs.Levels.{Sight, file_sight, body_sight, names_seen, block_sight, Telling, Told, IsHoused}
use Rattle.ruby_meaning.specs.InSight.{HaveNames, InSight}
use Rattle.reference_laws.specs.Placed.{home_of, IsPlaced}
use Rattle.ruby_meaning.specs.Stored.{IsClass, AreClasses, CodeStored, class_of_place, StoredIn, FrameFits}
use Rattle.ruby_meaning.specs.Housed.{CodeHoused, MadeIn}
use Rattle.ruby_meaning.proofs.Truths.{or_left}
use Rattle.ruby_meaning.proofs.Scopes.{scopes_stay}
use Rattle.ruby_meaning.proofs.StoredStores.{classes_on, running_on}

-- What was known of a frame stays.

pub fits_on : (c : Around) (frame : Frame) (s t : Objects) → StoreLeads s t → FrameFits c frame s → FrameFits c frame t
fits_on c frame s t l h = record {
  classes = classes_on s t l frame.code.classes h.classes;
  running = running_on s t l frame.method h.running;
  home = h.home;
  runs = h.runs;
  loop = h.loop;
  in_loop = h.in_loop;
  block = h.block;
}

pub sight_on : (s : Sight) (frame : Frame) (w z : World) → EnvironmentsStay w.environments z.environments → InSight s frame w → InSight s frame z
sight_on s frame w z stay h = record { body = h.body; seen = h.seen; scopes = scopes_stay s.scopes frame w z h.scopes stay }

its_own : (n : ℕ) (ns : List ℕ) → is_one_of n (n ∷ ns) ≡ true
its_own n ns = or_left (nat_eq n n) (is_one_of n ns) (eq-eqb n n refl)

-- The frame of a method.

module _ (frame : Frame) (line : ℕ) (code : Code) (self : Value) (n : ℕ) (r : Running) (given : Given) (k : ℕ) where
  pub method_fits : (s : Objects) → CodeStored s code → IsClass s (class_of_place r.place) → FrameFits (at_home (home_of code.body)) (method_frame frame line code self n r given k) s
  method_fits s h is = record {
    classes = h.classes;
    running = is;
    home = tt;
    runs = λ e. its_own n frame.running;
    loop = λ e. absurd (false≢true e);
    in_loop = λ e. absurd (false≢true e);
    block = refl;
  }

  pub method_sees : (told : Telling) (w : World) → CodeHoused told code → HaveNames (length w.environments) (code.locals ∷ []) w.environments (Some n) → InSight (body_sight code.body) (method_frame frame line code self n r given k) w
  method_sees told w h names = record { body = refl; seen = h.seen; scopes = subst (λ xs. HaveNames (length w.environments) (xs ∷ []) w.environments (Some n)) h.locals names }

-- The frame of a block.

module _ (frame : Frame) (line : ℕ) (d : Closure) (i n : ℕ) where
  pub block_fits : (around : Around) (s : Objects) → StoredIn around s d → FrameFits (in_block around) (block_frame frame line d i n) s
  block_fits around s h = record {
    classes = h.classes;
    running = h.running;
    home = h.home;
    runs = λ e. absurd (false≢true (sym e));
    loop = λ e. refl;
    in_loop = λ e. refl;
    block = refl;
  }

  pub block_sees : (told : Telling) (s : Sight) (w : World) → MadeIn told s w.environments d → HaveNames (length w.environments) (d.code.locals ∷ s.scopes) w.environments (Some n) → InSight (block_sight s d.code.body) (block_frame frame line d i n) w
  block_sees told s w h names = record { body = refl; seen = h.seen; scopes = subst (λ xs. HaveNames (length w.environments) (xs ∷ s.scopes) w.environments (Some n)) h.locals names }

-- The frame of a class body.

module _ (frame : Frame) (line : ℕ) (t : Tree) (c n : ℕ) where
  pub class_fits : (s : Objects) → IsClass s c → AreClasses s frame.code.classes → FrameFits (at_home placement.in_class) (class_frame frame line t c n) s
  class_fits s is h = record {
    classes = (is, h);
    running = tt;
    home = tt;
    runs = λ e. tt;
    loop = λ e. absurd (false≢true e);
    in_loop = λ e. absurd (false≢true e);
    block = refl;
  }

  pub class_sees : (w : World) → HaveNames (length w.environments) (locals_of [] t ∷ []) w.environments (Some n) → InSight (body_sight t) (class_frame frame line t c n) w
  class_sees w names = record { body = refl; seen = refl; scopes = names }

-- The frame of a file.

module _ (path : Bytes) (load : Option ℕ) (t : Tree) (n : ℕ) (outside : Option (Bytes × ℕ)) (running calling : List ℕ) where
  pub file_fits : (s : Objects) → FrameFits (at_home file) (file_frame (file_code path load t) n outside running calling) s
  file_fits s = record {
    classes = tt;
    running = tt;
    home = tt;
    runs = λ e. its_own n running;
    loop = λ e. absurd (false≢true e);
    in_loop = λ e. absurd (false≢true e);
    block = refl;
  }

  pub file_sees : (w : World) → HaveNames (length w.environments) (locals_of [] t ∷ []) w.environments (Some n) → InSight (file_sight t) (file_frame (file_code path load t) n outside running calling) w
  file_sees w names = record { body = refl; seen = refl; scopes = names }

-- Code that a frame makes.

pub code_stands : (frame : Frame) (t : Tree) (s : Objects) → IsPlaced (at_home (home_of t)) t → AreClasses s frame.code.classes → CodeStored s (code_of frame t)
code_stands frame t s placed classes = record { placed = placed; classes = classes }

pub code_housed : (told : Telling) (frame : Frame) (t : Tree) → IsHoused (told frame.code.source) (body_sight t) t → Told (told frame.code.source) (body_sight t) t → CodeHoused told (code_of frame t)
code_housed told frame t h found = record { seen = refl; locals = refl; housed = h; told_body = found }

pub block_stands : (c : Around) (frame : Frame) (t : Tree) (s : Objects) → IsPlaced (in_block c) t → FrameFits c frame s → StoredIn c s (closure_here frame t)
block_stands c frame t s placed h = record { placed = placed; home = h.home; running = h.running; classes = h.classes }

names_at_sight : (s : Sight) (frame : Frame) (t : Tree) (w : World) → InSight s frame w → names_at frame t ≡ names_seen s t
names_at_sight s frame t w h = ap (λ xs. seen_by xs frame.code.body (place_of t)) h.seen ∙ ap (λ b. seen_by s.seen b (place_of t)) h.body

pub block_made : (told : Telling) (s : Sight) (frame : Frame) (t : Tree) (w : World) → IsHoused (told frame.code.source) (block_sight s t) t → Told (told frame.code.source) (block_sight s t) t → InSight s frame w → MadeIn told s w.environments (closure_here frame t)
block_made told s frame t w housed found h = record {
  seen = names_at_sight s frame t w h;
  locals = ap (λ xs. locals_of xs t) (names_at_sight s frame t w h);
  scopes = h.scopes;
  housed = housed;
  told_body = found;
}

-- Frames of parts.

module _ (c : Around) (frame : Frame) (s : Objects) (h : FrameFits c frame s) where
  pub calling_fits : (ns : List ℕ) → FrameFits c (record frame { calling = ns }) s
  calling_fits ns = record { classes = h.classes; running = h.running; home = h.home; runs = h.runs; loop = h.loop; in_loop = h.in_loop; block = h.block }

  pub handling_fits : (v : Value) → FrameFits (in_clause c) (handling frame v) s
  handling_fits v = record { classes = h.classes; running = h.running; home = h.home; runs = h.runs; loop = h.loop; in_loop = h.in_loop; block = h.block }

  pub sequence_fits : (n : ℕ) → FrameFits c (in_sequence n frame) s
  sequence_fits n = record { classes = h.classes; running = h.running; home = h.home; runs = h.runs; loop = h.loop; in_loop = h.in_loop; block = h.block }

  pub part_fits : (n : ℕ) → FrameFits (outside_clause c) (in_sequence n frame) s
  part_fits n = record { classes = h.classes; running = h.running; home = h.home; runs = h.runs; loop = h.loop; in_loop = h.in_loop; block = h.block }

  pub loop_fits : FrameFits (in_loop c) (in_loop_of frame) s
  loop_fits = record { classes = h.classes; running = h.running; home = h.home; runs = h.runs; loop = λ e. refl; in_loop = λ e. refl; block = h.block }

module _ (s : Sight) (frame : Frame) (w : World) (h : InSight s frame w) where
  pub calling_sees : (ns : List ℕ) → InSight s (record frame { calling = ns }) w
  calling_sees ns = record { body = h.body; seen = h.seen; scopes = h.scopes }

  pub handling_sees : (v : Value) → InSight s (handling frame v) w
  handling_sees v = record { body = h.body; seen = h.seen; scopes = h.scopes }

  pub sequence_sees : (n : ℕ) → InSight s (in_sequence n frame) w
  sequence_sees n = record { body = h.body; seen = h.seen; scopes = h.scopes }

  pub loop_sees : InSight s (in_loop_of frame) w
  loop_sees = record { body = h.body; seen = h.seen; scopes = h.scopes }
