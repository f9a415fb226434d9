-- The files of a source tree: as a relation by the grammar of Ruby, and as a function of the tree and of how data is read.
use Rattle.std.specs.Prelude.{◌≡◌, ℕ, Option, Some, None, is_some, Result, Ok, Err}
use Rattle.bs_outside.specs.SourceTree.{SourceTree, bytes_at}
use Rattle.msgpack_codec.specs.declared.value.DataKind.{DataKind}
use Rattle.msgpack_codec.specs.declared.value.Value.{Value}
use Rattle.ruby_tree.specs.Names.{Bytes}
use Rattle.ruby_tree.specs.Tree.{Tree}
use Rattle.ruby_tree.specs.Reading.{Reads}
use Rattle.reference_parser.specs.HasFault.{HasFault}
use Rattle.reference_parser.specs.ReadingOf.{Reading, tree, fault, reading_of}
use Rattle.ruby_meaning.specs.Files.{Files, RubyFile, no_ruby, ruby_fault, ruby_tree, DataFile, no_data_file, data_fault, data_value}

-- Data.

-- what the bytes of a data file of a kind are read as: its value, or the line of its fault
abbrev pub DataReader : Type 0
DataReader = DataKind → Bytes → Result Value ℕ

-- the same as a relation, which need not read each text, nor in one way
abbrev pub ReadsData : Type 1
ReadsData = DataKind → Bytes → Result Value ℕ → Type 0

-- data files are read by this function
abbrev pub reads_by : DataReader → ReadsData
reads_by reader kind f r = reader kind f ≡ r

abbrev pub as_data_file : Result Value ℕ → DataFile
as_data_file (Ok v) = data_value v
as_data_file (Err line) = data_fault line

abbrev pub data_file_of : (Bytes → Result Value ℕ) → Option Bytes → DataFile
data_file_of read None = no_data_file
data_file_of read (Some f) = as_data_file (read f)

-- What a data file with these contents is read as.
pub data IsDataFile (reads : Bytes → Result Value ℕ → Type 0) : Option Bytes → DataFile → Type 0 where
  no_data : IsDataFile reads None no_data_file
  has_data : {f : Bytes} {r : Result Value ℕ} → reads f r → IsDataFile reads (Some f) (as_data_file r)

-- Ruby.

abbrev pub as_ruby_file : Reading → RubyFile
as_ruby_file (tree t) = ruby_tree t
as_ruby_file (fault line) = ruby_fault line

abbrev pub ruby_file_of : Option Bytes → RubyFile
ruby_file_of None = no_ruby
ruby_file_of (Some f) = as_ruby_file (reading_of f)

-- What a Ruby file with these contents is read as.
pub data IsRubyFile : Option Bytes → RubyFile → Type 0 where
  not_there : IsRubyFile None no_ruby
  has_fault : {f : Bytes} {line : ℕ} → HasFault f line → IsRubyFile (Some f) (ruby_fault line)
  has_tree : {f : Bytes} {t : Tree} → Reads f t → IsRubyFile (Some f) (ruby_tree t)

-- The files.

-- The files are those of the tree, whose data files are read so.
pub record AreFilesOf (reads_data : ReadsData) (source : SourceTree) (files : Files) : Type 0 where
  pub found : (path : Bytes) → files.is_file path ≡ is_some (bytes_at source path)
  pub ruby : (path : Bytes) → IsRubyFile (bytes_at source path) (files.ruby path)
  pub data_files : (kind : DataKind) (path : Bytes) → IsDataFile (reads_data kind) (bytes_at source path) (files.datum kind path)

-- the files of the tree
abbrev pub files_of : DataReader → SourceTree → Files
files_of reader source = record {
  is_file = λ path. is_some (bytes_at source path);
  ruby = λ path. ruby_file_of (bytes_at source path);
  datum = λ kind path. data_file_of (reader kind) (bytes_at source path);
}
