-- The frames of calls in a world that a run reaches begin.
use Rattle.std.proofs.Common.{◌≡◌, ℕ, List, [], Some, slice_get}
use Rattle.bs_outside.specs.SourceTree.{SourceTree, bytes_at}
use Rattle.ruby_tree.specs.Names.{Bytes}
use Rattle.ruby_tree.specs.Tree.{Tree}
use Rattle.ruby_meaning.specs.Value.{Value, Code, written}
use Rattle.ruby_meaning.specs.Store.{Place, Found, find_in}
use Rattle.ruby_meaning.specs.World.{Given, Closure, World, Frame}
use Rattle.ruby_meaning.specs.Files.{Files}
use Rattle.ruby_meaning.specs.FilesOf.{IsRubyFile}
use Rattle.ruby_meaning.specs.PlainRun.{IsPrelude}
use Rattle.ruby_meaning.specs.Stored.{IsStored}
use Rattle.ruby_meaning.specs.Housed.{WorldHoused}
use Rattle.compile_laws.specs.Calling.{called_frame, method_world, yielded_frame, block_world}
use Rattle.compile_laws.specs.Found.{tables}
use Rattle.compile_laws.specs.Told.{told_by, IsOfItsFile, BeginsInItsFile}
use Rattle.compile_laws.proofs.FramesBegin.{method_begins, block_begins}
use Rattle.compile_laws.proofs.ToldRuns.{method_of_file, block_of_file}

pub method_of_run_begins : (source : SourceTree) (files : Files) (prelude : Tree) → ((path : Bytes) → IsRubyFile (bytes_at source path) (files.ruby path)) → IsPrelude prelude → (w : World) → IsStored w → WorldHoused (told_by files prelude) w → (x : Bytes) (ps : List Place) (f : Found) (code : Code) → find_in w.objects x ps ≡ Some f → f.body ≡ written code → (frame : Frame) (line : ℕ) (self : Value) (name : Bytes) (place : Place) (vs : List Value) (given : Given) (turns : ℕ) → BeginsInItsFile files prelude code (called_frame frame line code self name place vs given turns w) (method_world code vs given turns w)
method_of_run_begins source files prelude fine is w stored held x ps f code found body frame line self name place vs given turns =
    let k : IsOfItsFile files prelude [] code = method_of_file source files prelude fine is w stored held x ps f code found body in
    record { has = k.has; begins = method_begins (tables code.source.path k.has.tree) k.has.sequence.inner frame line code self name place vs given turns w k.stands }

pub block_of_run_begins : (source : SourceTree) (files : Files) (prelude : Tree) → ((path : Bytes) → IsRubyFile (bytes_at source path) (files.ruby path)) → IsPrelude prelude → (w : World) → IsStored w → WorldHoused (told_by files prelude) w → (i : ℕ) (d : Closure) → slice_get w.closures i ≡ Some d → (frame : Frame) (line n : ℕ) (vs : List Value) (turns : ℕ) → BeginsInItsFile files prelude d.code (yielded_frame frame line d n vs turns w) (block_world d vs turns w)
block_of_run_begins source files prelude fine is w stored held i d e frame line n vs turns =
    let k = block_of_file source files prelude fine is w stored held i d e in
    record { has = k.1.has; begins = block_begins (tables d.code.source.path k.1.has.tree) k.1.has.sequence.inner k.0 frame line n vs d turns w k.1.stands k.2 }
