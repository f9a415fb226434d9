-- What the files of a source tree and the prelude are read as is housed, so that each frame of a plain run is in sight of its tree.
use Rattle.std.proofs.Common.{◌≡◌, ℕ, refl, subst, List, [], Option, None}
use Rattle.bs_outside.specs.SourceTree.{SourceTree, bytes_at}
use Rattle.ruby_tree.specs.Names.{Bytes}
use Rattle.ruby_tree.specs.Tree.{Tree}
use Rattle.ruby_tree.specs.Placement.{at_home, file}
use Rattle.ruby_meaning.specs.Locals.{locals_of}
use Rattle.ruby_meaning.specs.World.{World, Frame, Run, world_of}
use Rattle.ruby_meaning.specs.Steps.{stand}
use Rattle.ruby_meaning.specs.Calls.{all_nil, with_environment, next_environment}
use Rattle.ruby_meaning.specs.Files.{Files, RubyFile, no_ruby, ruby_fault, ruby_tree}
use Rattle.ruby_meaning.specs.FilesOf.{DataReader, IsRubyFile, not_there, has_fault, has_tree, files_of}
use Rattle.ruby_meaning.specs.Loads.{file_body, file_code, file_frame}
use Rattle.ruby_meaning.specs.Prelude.{prelude_text}
use Rattle.ruby_meaning.specs.PlainRun.{Program, IsPrelude, is_read, is_unread, prelude_of_text, program_run, top_frame, start_world}
use Rattle.ruby_meaning.specs.Evaluation.{run, evaluate}
use Rattle.ruby_meaning.specs.Levels.{file_sight, untold, IsHoused}
use Rattle.ruby_meaning.specs.Stored.{IsStored}
use Rattle.ruby_meaning.specs.Housed.{WorldHoused, StandsFrom, InPlace, StaysHoused, AreHoused}
use Rattle.ruby_meaning.proofs.OneAnswer.{files_are}
use Rattle.ruby_meaning.proofs.StoredTrees.{run_houses, evaluate_houses}
use Rattle.ruby_meaning.proofs.StoredPrograms.{start_stored, start_housed, program_housed}
use Rattle.ruby_meaning.proofs.PlacedFiles.{files_of_placed, prelude_of_text_is_read, prelude_of_text_placed}
use Rattle.ruby_meaning.proofs.PlacedFrames.{file_in_place}
use Rattle.ruby_meaning.proofs.StandingWorlds.{stands_same}
use Rattle.tree_laws.proofs.LocalsHeld.{housed}

-- the tree of a file, if it has one, is housed
abbrev FileHoused : RubyFile → Type 0
FileHoused no_ruby = Unit {0}
FileHoused (ruby_fault line) = Unit {0}
FileHoused (ruby_tree t) = IsHoused None (file_sight t) t

file_housed : {contents : Option Bytes} {r : RubyFile} → IsRubyFile contents r → FileHoused r
file_housed not_there = tt
file_housed (has_fault h) = tt
file_housed (has_tree {f = f} {t = t} h) = housed f t h

pub files_housed : (source : SourceTree) (files : Files) → ((path : Bytes) → IsRubyFile (bytes_at source path) (files.ruby path)) → AreHoused untold files
files_housed source files are path load t same = subst FileHoused same (file_housed (are path))

pub prelude_housed : (t : Tree) → IsPrelude t → IsHoused None (file_sight t) t
prelude_housed t (is_read h) = housed prelude_text t h
prelude_housed t (is_unread h) = tt

module _ (reader : DataReader) (source : SourceTree) where
  files_of_housed : AreHoused untold (files_of reader source)
  files_of_housed = files_housed source (files_of reader source) (files_are reader source).ruby

  pub plain_step : (fuel : ℕ) (b : Tree → Frame → Run) → StaysHoused untold b → StaysHoused untold (run (files_of reader source) fuel b)
  plain_step = run_houses untold (files_of reader source) (files_of_placed reader source) files_of_housed

  pub plain_stays : StaysHoused untold (evaluate (files_of reader source))
  plain_stays = evaluate_houses untold (files_of reader source) (files_of_placed reader source) files_of_housed

  pub plain_housed : (p : Program) → WorldHoused untold (world_of (program_run (files_of reader source) prelude_of_text p (start_world p)))
  plain_housed = program_housed untold (files_of reader source) (files_of_placed reader source) files_of_housed prelude_of_text prelude_of_text_placed (prelude_housed prelude_of_text prelude_of_text_is_read)

  -- a file of the tree begins in place
  pub file_begins : (path : Bytes) (load : Option ℕ) (t : Tree) (outside : Option (Bytes × ℕ)) (running calling : List ℕ) (w : World) → IsStored w → WorldHoused untold w → (files_of reader source).ruby path ≡ ruby_tree t →
      InPlace untold (at_home file) (file_sight t) (file_body t) (file_frame (file_code path load t) (next_environment w) outside running calling) (with_environment None (all_nil (locals_of [] t)) w)
  file_begins path load t outside running calling w stored held is = file_in_place untold path load t outside running calling w stored held (files_of_placed reader source path t is) (files_housed source (files_of reader source) (files_are reader source).ruby path 0 t is)

-- The prelude begins in place, whatever cells are used by then.
pub prelude_begins : (p : Program) (cells : ℕ) →
    InPlace untold (at_home file) (file_sight prelude_of_text) (file_body prelude_of_text) (file_frame (file_code [] None prelude_of_text) 0 (stand top_frame 0) [] []) (with_environment None (all_nil (locals_of [] prelude_of_text)) (record (start_world p) { cells = cells }))
prelude_begins p cells =
    let w : World = record (start_world p) { cells = cells } in
    let h : StandsFrom untold (start_world p) w = stands_same untold (start_world p) (start_stored p) (start_housed untold p) w refl refl refl in
    file_in_place untold [] None prelude_of_text (stand top_frame 0) [] [] w h.stored h.housed prelude_of_text_placed (prelude_housed prelude_of_text prelude_of_text_is_read)
