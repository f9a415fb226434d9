-- The plain run as a whole over placed files: its world is stored, and housed where the files are; and it ends as a program does.
use Rattle.std.proofs.Common.{ℕ, zero, suc, ◌+◌, Bool, true, false, refl, arith, List, [], ◌∷◌, ◌++◌, map, length, Option, Some, None}
use Rattle.std.specs.Prelude.{filter_map}
use Rattle.std.proofs.lemmas.Bool.{false≢true}
use Rattle.ruby_tree.specs.Names.{Bytes}
use Rattle.ruby_tree.specs.Tree.{Tree}
use Rattle.ruby_tree.specs.Placement.{at_home, file}
use Rattle.ruby_meaning.specs.NativeName.{Native}
use Rattle.ruby_meaning.specs.Value.{Code, MethodRow, plain, elements, Objects}
use Rattle.ruby_meaning.specs.Numbers.{object_class}
use Rattle.ruby_meaning.specs.Natives.{native_rows}
use Rattle.ruby_meaning.specs.Store.{class_in, class_at, new_object, new_string, Place}
use Rattle.ruby_meaning.specs.World.{Outcome, Done, Raise, Break, Next, Return, Retry, Spent, Full, world_of}
use Rattle.ruby_meaning.specs.Files.{Files}
use Rattle.ruby_meaning.specs.Evaluation.{eval}
use Rattle.ruby_meaning.specs.RunLaws.{EndsOutside}
use Rattle.ruby_meaning.specs.PlainRun.{StartClass, numbers_from, is_rows_of, is_class_rows_of, row_if, row_here, class_row_here, start_classes, start_objects, start_store, start_world, start_cells, top_frame, with_turns, Program, program_run}
use Rattle.reference_laws.specs.Placed.{IsPlaced}
use Rattle.ruby_meaning.specs.Levels.{file_sight, Telling, IsHoused}
use Rattle.ruby_meaning.specs.Stored.{RowsAre, ClassIs, EachCode, CodeStored, IsStored, PlacedOut, ArePlaced, EndsAsProgram}
use Rattle.ruby_meaning.specs.Housed.{CodeHoused, WorldHoused, source_of, AreHoused}
use Rattle.ruby_meaning.proofs.ClassGraph.{start_graph}
use Rattle.ruby_meaning.proofs.Ends.{program_ends}
use Rattle.ruby_meaning.proofs.StoredStores.{Asked, unasked, asked_by}
use Rattle.ruby_meaning.proofs.StoredWorlds.{good_of, stored_of, housed_of, moves_same}
use Rattle.ruby_meaning.proofs.StoredSteps.{Known, nothing, GoodOut, Keeps, keep_then, keep_changing, keep_charge}
use Rattle.ruby_meaning.proofs.StoredLoads.{keep_code, keep_load_ruby}
use Rattle.ruby_meaning.proofs.StoredTrees.{keep_eval}

-- The world of the start.

-- a row in front, if there is one
abbrev with_row_if : Option MethodRow → List MethodRow → List MethodRow
with_row_if None rows = rows
with_row_if (Some r) rows = r ∷ rows

-- Each code of the start is as it should be, since the start has none.
module _ (so : Code → Type 0) where
  row_if_is : (t : Bool) (x : Bytes) (n : Native) (rest : List MethodRow) → RowsAre so rest → RowsAre so (with_row_if (row_if t x n) rest)
  row_if_is true x n rest h = (tt, h)
  row_if_is false x n rest h = h

  rows_here : (c : ℕ) (rows : List (Place × Bytes × Native)) → RowsAre so (filter_map (row_here c) rows)
  rows_here c [] = tt
  rows_here c (r ∷ rows) = row_if_is (is_rows_of c r.0) r.1 r.2 _ (rows_here c rows)

  class_rows_here : (c : ℕ) (rows : List (Place × Bytes × Native)) → RowsAre so (filter_map (class_row_here c) rows)
  class_rows_here c [] = tt
  class_rows_here c (r ∷ rows) = row_if_is (is_class_rows_of c r.0) r.1 r.2 _ (class_rows_here c rows)

  abbrev EachIs : Objects → Type 0
  EachIs [] = Unit {0}
  EachIs (o ∷ store) = ClassIs so (class_in o.kind) × EachIs store

  each_at : (store : Objects) → EachIs store → (n : ℕ) → ClassIs so (class_at store n)
  each_at [] h n = (tt, tt)
  each_at (o ∷ store) h zero = h.0
  each_at (o ∷ store) h (suc n) = each_at store h.1 n

  strings_are : (xs ys : List Bytes) → EachIs (map new_string xs ++ map new_string ys)
  strings_are [] [] = tt
  strings_are [] (y ∷ ys) = ((tt, tt), strings_are [] ys)
  strings_are (x ∷ xs) ys = ((tt, tt), strings_are xs ys)

  classes_are : (n : ℕ) (cs : List StartClass) (rest : Objects) → EachIs rest → EachIs (start_objects n cs ++ rest)
  classes_are n [] rest h = h
  classes_are n (c ∷ cs) rest h = ((rows_here n native_rows, class_rows_here n native_rows), classes_are (suc n) cs rest h)

-- the objects behind the classes
abbrev others : Program → Objects
others p =
    new_object (plain object_class) ∷
    new_object (elements (numbers_from 38 p.folders)) ∷
    new_object (elements []) ∷
    new_object (elements (numbers_from (38 + length p.folders) p.words)) ∷
    new_string p.file ∷
    (map new_string p.folders ++ map new_string p.words)

module _ (so : Code → Type 0) (p : Program) where
  others_are : EachIs so (others p)
  others_are = ((tt, tt), ((tt, tt), ((tt, tt), ((tt, tt), ((tt, tt), strings_are so p.folders p.words)))))

  start_is : EachCode so (start_store p)
  start_is n = each_at so (start_store p) (classes_are so 0 start_classes (others p) others_are) n

pub start_stored : (p : Program) → IsStored (start_world p)
start_stored p = record {
  graph = start_graph p;
  object = refl;
  there = omega arith;
  other = refl;
  rows = start_is (CodeStored (start_store p)) p;
  closures = tt;
}

pub start_housed : (told : Telling) (p : Program) → WorldHoused told (start_world p)
start_housed told p = record { rows = start_is (CodeHoused told) p; closures = tt }

-- Programs.

module _ (asked : Asked) (files : Files) (are : ArePlaced files) (held : asked.is → AreHoused asked.told files) (prelude : Tree) (placed : IsPlaced (at_home file) prelude) (housed : asked.is → IsHoused (asked.told (source_of [] None prelude)) (file_sight prelude) prelude) (p : Program) where
  program_keeps : Keeps (nothing asked) (at_home file) (program_run files prelude p)
  program_keeps =
      let k : Known = nothing asked in
      keep_charge k (at_home file) (start_cells p) _
      (keep_then k (at_home file) _ _ (keep_code k (at_home file) files are held (eval files 0) (keep_eval asked files are held 0) top_frame 0 [] None prelude placed housed) (λ v.
      keep_changing k (at_home file) (with_turns p.turns) _ (λ w q s. moves_same asked w (with_turns p.turns w) refl refl refl s)
      (keep_load_ruby k (at_home file) files are held (eval files p.turns) (keep_eval asked files are held p.turns) top_frame 0 p.file)))

  program_out : GoodOut asked (at_home file) (start_world p) (program_run files prelude p (start_world p))
  program_out = program_keeps.by (start_world p) tt (good_of asked (start_world p) (start_stored p) (λ g. start_housed asked.told p))

pub program_stored : (files : Files) → ArePlaced files → (prelude : Tree) → IsPlaced (at_home file) prelude → (p : Program) → IsStored (world_of (program_run files prelude p (start_world p)))
program_stored files are prelude placed p = stored_of unasked (world_of (program_run files prelude p (start_world p))) (program_out unasked files are (λ g. absurd g) prelude placed (λ g. absurd g) p).good

pub program_housed : (told : Telling) (files : Files) → ArePlaced files → AreHoused told files → (prelude : Tree) → IsPlaced (at_home file) prelude → IsHoused (told (source_of [] None prelude)) (file_sight prelude) prelude → (p : Program) → WorldHoused told (world_of (program_run files prelude p (start_world p)))
program_housed told files are held prelude placed housed p =
    housed_of (asked_by told) (world_of (program_run files prelude p (start_world p))) (program_out (asked_by told) files are (λ g. held) prelude placed (λ g. housed) p).good tt

as_program : (o : Outcome) → EndsOutside o → PlacedOut (at_home file) o → EndsAsProgram o
as_program (Done v w) e h = tt
as_program (Raise v w) e h = tt
as_program (Break t v w) e h = e
as_program (Next v w) e h = false≢true h
as_program (Return n v w) e h = e
as_program (Retry w) e h = false≢true h
as_program (Spent w) e h = tt
as_program (Full w) e h = tt

pub program_as : (files : Files) → ArePlaced files → (prelude : Tree) → IsPlaced (at_home file) prelude → (p : Program) → EndsAsProgram (program_run files prelude p (start_world p))
program_as files are prelude placed p = as_program (program_run files prelude p (start_world p)) (program_ends files prelude p) (program_out unasked files are (λ g. absurd g) prelude placed (λ g. absurd g) p).placed
