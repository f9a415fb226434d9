-- Each code that stands in a world that a plain run reaches is one of the unit of its file.
use Rattle.std.proofs.Common.{refl, ◌≡◌, ℕ, subst, List, [], length, Option, Some, None}
use Rattle.std.specs.Prelude.{nat_eq, slice_get}
use Rattle.std.specs.List.{IsDistinct}
use Rattle.bs_outside.specs.SourceTree.{SourceTree, bytes_at}
use Rattle.ruby_tree.specs.Names.{Bytes}
use Rattle.ruby_tree.specs.Tree.{SourcePosition, Tree, at, class, module_named, Other}
use Rattle.ruby_tree.specs.Placement.{Around}
use Rattle.ruby_meaning.specs.Value.{Code, written}
use Rattle.ruby_meaning.specs.Store.{Place, Found, find_in}
use Rattle.ruby_meaning.specs.World.{Closure, World, Frame, Run, world_of}
use Rattle.ruby_meaning.specs.Files.{Files, RubyFile, no_ruby, ruby_fault, ruby_tree}
use Rattle.ruby_meaning.specs.FilesOf.{DataReader, IsRubyFile, not_there, has_fault, has_tree, files_of}
use Rattle.ruby_meaning.specs.Prelude.{prelude_text}
use Rattle.ruby_meaning.specs.PlainRun.{Program, IsPrelude, is_read, is_unread, prelude_of_text, program_run, start_world}
use Rattle.ruby_meaning.specs.Evaluation.{run, evaluate}
use Rattle.ruby_meaning.specs.Levels.{Scopes, file_sight, IsHoused}
use Rattle.ruby_meaning.specs.Levels.{Sight, body_sight, Told}
use Rattle.ruby_meaning.specs.Housed.{InPlace}
use Rattle.compile_laws.specs.Calling.{opened_frame}
use Rattle.ruby_meaning.specs.InSight.{HaveNames}
use Rattle.ruby_meaning.specs.Stored.{IsStored}
use Rattle.ruby_meaning.specs.Housed.{source_of, WorldHoused, StaysHoused, AreHoused}
use Rattle.ruby_meaning.proofs.OneAnswer.{files_are}
use Rattle.ruby_meaning.proofs.PlacedFiles.{files_of_placed, prelude_of_text_is_read, prelude_of_text_placed}
use Rattle.ruby_meaning.proofs.PlacedFrames.{found_stands, closure_stands}
use Rattle.ruby_meaning.proofs.StoredTrees.{run_houses, evaluate_houses}
use Rattle.ruby_meaning.proofs.StoredPrograms.{program_housed}
use Rattle.tree_laws.proofs.Apart.{places_apart}
use Rattle.tree_laws.proofs.LocalsHeld.{housed}
use Rattle.tree_laws.proofs.TextsFormed.{text_formed}
use Rattle.compile_laws.specs.Told.{told_by, IsOfItsFile}
use Rattle.compile_laws.proofs.ToldPrograms.{IsKept, files_found, prelude_found, method_found, block_found}

abbrev FileKept : RubyFile → Type 0
FileKept no_ruby = Unit {0}
FileKept (ruby_fault line) = Unit {0}
FileKept (ruby_tree t) = IsKept t

file_kept : {contents : Option Bytes} {r : RubyFile} → IsRubyFile contents r → FileKept r
file_kept not_there = tt
file_kept (has_fault h) = tt
file_kept (has_tree {f = f} {t = t} h) = record { formed = text_formed f t h; housed = housed f t h; apart = places_apart f t h }

none_twice : IsDistinct nat_eq []
unfolding IsDistinct
none_twice = tt

prelude_kept : (t : Tree) → IsPrelude t → IsKept t
prelude_kept t (is_read h) = record { formed = text_formed prelude_text t h; housed = housed prelude_text t h; apart = places_apart prelude_text t h }
prelude_kept t (is_unread h) = record { formed = tt; housed = tt; apart = none_twice }

module _ (source : SourceTree) (files : Files) (prelude : Tree) (are : (path : Bytes) → IsRubyFile (bytes_at source path) (files.ruby path)) (is : IsPrelude prelude) where
  fine : (path : Bytes) (t : Tree) → files.ruby path ≡ ruby_tree t → IsKept t
  fine path t e = subst FileKept e (file_kept (are path))

  pub files_told : AreHoused (told_by files prelude) files
  files_told = files_found files prelude fine (prelude_kept prelude is)

  pub prelude_told : IsHoused (told_by files prelude (source_of [] None prelude)) (file_sight prelude) prelude
  prelude_told = prelude_found files prelude fine (prelude_kept prelude is)

  module _ (w : World) (stored : IsStored w) (held : WorldHoused (told_by files prelude) w) where
    pub method_of_file : (x : Bytes) (ps : List Place) (f : Found) (code : Code) → find_in w.objects x ps ≡ Some f → f.body ≡ written code → IsOfItsFile files prelude [] code
    method_of_file x ps f code e b = method_found files prelude fine (prelude_kept prelude is) code (found_stands (told_by files prelude) w stored held x ps f code e b).1

    pub block_of_file : (i : ℕ) (d : Closure) → slice_get w.closures i ≡ Some d → (scopes : Scopes) × IsOfItsFile files prelude scopes d.code × HaveNames (length w.environments) scopes w.environments (Some d.environment)
    block_of_file i d e =
        let k = (closure_stands (told_by files prelude) w stored held i d e).1 in
        (k.0.scopes, block_found files prelude fine (prelude_kept prelude is) k.0 w.environments d k.1, k.1.scopes)

  -- the code of the body that a class or a module opens where it is in place
  opened_of_file : (frame : Frame) (line k : ℕ) (a : Tree) (z : World) → IsHoused (told_by files prelude frame.code.source) (body_sight a) a × Told (told_by files prelude frame.code.source) (body_sight a) a →
      IsOfItsFile files prelude [] (opened_frame frame line a k z).code
  opened_of_file frame line k a z h = method_found files prelude fine (prelude_kept prelude is) (opened_frame frame line a k z).code (record { seen = refl; locals = refl; housed = h.0; told_body = h.1 })

  pub class_of_file : (c : Around) (s : Sight) (o : SourcePosition) (v : Other) (x : Bytes) (a : Tree) (frame : Frame) (w : World) → InPlace (told_by files prelude) c s (at o (class v x a)) frame w → (line k : ℕ) (z : World) →
      IsOfItsFile files prelude [] (opened_frame frame line a k z).code
  class_of_file c s o v x a frame w h line k z = opened_of_file frame line k a z h.housed.1

  pub module_of_file : (c : Around) (s : Sight) (o : SourcePosition) (x : Bytes) (a : Tree) (frame : Frame) (w : World) → InPlace (told_by files prelude) c s (at o (module_named x a)) frame w → (line k : ℕ) (z : World) →
      IsOfItsFile files prelude [] (opened_frame frame line a k z).code
  module_of_file c s o x a frame w h line k z = opened_of_file frame line k a z h.housed

module _ (reader : DataReader) (source : SourceTree) where
  pub run_told : (fuel : ℕ) (b : Tree → Frame → Run) → StaysHoused (told_by (files_of reader source) prelude_of_text) b → StaysHoused (told_by (files_of reader source) prelude_of_text) (run (files_of reader source) fuel b)
  run_told = run_houses (told_by (files_of reader source) prelude_of_text) (files_of reader source) (files_of_placed reader source) (files_told source (files_of reader source) prelude_of_text (files_are reader source).ruby prelude_of_text_is_read)

  pub evaluate_told : StaysHoused (told_by (files_of reader source) prelude_of_text) (evaluate (files_of reader source))
  evaluate_told = evaluate_houses (told_by (files_of reader source) prelude_of_text) (files_of reader source) (files_of_placed reader source) (files_told source (files_of reader source) prelude_of_text (files_are reader source).ruby prelude_of_text_is_read)

  pub plain_told : (p : Program) → WorldHoused (told_by (files_of reader source) prelude_of_text) (world_of (program_run (files_of reader source) prelude_of_text p (start_world p)))
  plain_told = program_housed (told_by (files_of reader source) prelude_of_text) (files_of reader source) (files_of_placed reader source) (files_told source (files_of reader source) prelude_of_text (files_are reader source).ruby prelude_of_text_is_read)
      prelude_of_text prelude_of_text_placed (prelude_told source (files_of reader source) prelude_of_text (files_are reader source).ruby prelude_of_text_is_read)
