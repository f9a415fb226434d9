-- What the files of a source tree and the prelude are read as is placed, so that a plain run is one of placed trees.
use Rattle.std.proofs.Common.{refl, sym, subst, Option}
use Rattle.bs_outside.specs.SourceTree.{SourceTree, bytes_at}
use Rattle.ruby_tree.specs.Names.{Bytes}
use Rattle.ruby_tree.specs.Tree.{Tree}
use Rattle.ruby_tree.specs.Placement.{at_home, file}
use Rattle.reference_laws.specs.Placed.{IsPlaced}
use Rattle.reference_laws.proofs.Sites.{placed_tree}
use Rattle.ruby_meaning.specs.World.{world_of}
use Rattle.ruby_meaning.specs.Files.{Files, RubyFile, no_ruby, ruby_fault, ruby_tree}
use Rattle.ruby_meaning.specs.FilesOf.{DataReader, IsRubyFile, not_there, has_fault, has_tree, files_of}
use Rattle.ruby_meaning.specs.PlainRun.{Program, IsPrelude, is_read, is_unread, prelude_of_text, program_run, start_world}
use Rattle.ruby_meaning.specs.Prelude.{prelude_text}
use Rattle.ruby_meaning.specs.Stored.{IsStored, ArePlaced, EndsAsProgram}
use Rattle.ruby_meaning.proofs.WordRows.{prelude_of_text_is}
use Rattle.ruby_meaning.proofs.OneAnswer.{files_are, is_prelude}
use Rattle.ruby_meaning.proofs.StoredPrograms.{program_stored, program_as}

-- the tree of a file, if it has one, is placed
abbrev FilePlaced : RubyFile → Type 0
FilePlaced no_ruby = Unit {0}
FilePlaced (ruby_fault line) = Unit {0}
FilePlaced (ruby_tree t) = IsPlaced (at_home file) t

file_placed : {contents : Option Bytes} {r : RubyFile} → IsRubyFile contents r → FilePlaced r
file_placed not_there = tt
file_placed (has_fault h) = tt
file_placed (has_tree {f = f} {t = t} h) = placed_tree f t h

pub files_placed : (source : SourceTree) (files : Files) → ((path : Bytes) → IsRubyFile (bytes_at source path) (files.ruby path)) → ArePlaced files
files_placed source files are path t same = subst FilePlaced same (file_placed (are path))

pub prelude_placed : (t : Tree) → IsPrelude t → IsPlaced (at_home file) t
prelude_placed t (is_read h) = placed_tree prelude_text t h
prelude_placed t (is_unread h) = (refl, tt)

pub files_of_placed : (reader : DataReader) (source : SourceTree) → ArePlaced (files_of reader source)
files_of_placed reader source = files_placed source (files_of reader source) (files_are reader source).ruby

pub prelude_of_text_is_read : IsPrelude prelude_of_text
prelude_of_text_is_read = subst IsPrelude (sym prelude_of_text_is) is_prelude

pub prelude_of_text_placed : IsPlaced (at_home file) prelude_of_text
prelude_of_text_placed = prelude_placed prelude_of_text prelude_of_text_is_read

module _ (reader : DataReader) (source : SourceTree) (p : Program) where
  pub plain_as : EndsAsProgram (program_run (files_of reader source) prelude_of_text p (start_world p))
  plain_as = program_as (files_of reader source) (files_of_placed reader source) prelude_of_text prelude_of_text_placed p

  pub plain_stored : IsStored (world_of (program_run (files_of reader source) prelude_of_text p (start_world p)))
  plain_stored = program_stored (files_of reader source) (files_of_placed reader source) prelude_of_text prelude_of_text_placed p
