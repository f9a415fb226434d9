-- The bodies of the files of a run and of its prelude, each where its file's program has its sequence; and the codes that are found so.
use Rattle.std.specs.Prelude.{◌≡◌, ℕ, cond, nat_eq, Option, Some, None}
use Rattle.ruby_lexer.specs.Bytes.{same}
use Rattle.ruby_tree.specs.Tree.{Tree}
use Rattle.iseq_types.specs.declared.sequences.SeqKind.{SeqKind}
use Rattle.iseq_types.specs.declared.sequences.SeqKind.TheVariants as kinds
use Rattle.ruby_meaning.specs.Value.{Source, Code}
use Rattle.ruby_meaning.specs.Locals.{place_of}
use Rattle.ruby_meaning.specs.Sequences.{places, sequence_number}
use Rattle.ruby_meaning.specs.Files.{Files, RubyFile, no_ruby, ruby_fault, ruby_tree}
use Rattle.ruby_meaning.specs.World.{World, Frame}
use Rattle.ruby_meaning.specs.Levels.{Scopes, Sight, BodyTable, Telling}
use Rattle.compile_table.specs.Sequences.{Compiled, sequence_at}
use Rattle.compile_laws.specs.Begins.{Begins, IsCodeAt}
use Rattle.compile_laws.specs.Found.{IsBodyKind, IsOfProgram, tables}

-- what a sequence of this kind tells, if it is one of a body
abbrev pub told_in : SeqKind → Sight → Tree → Option (Sight × Tree)
told_in kinds.File s t = Some (s, t)
told_in kinds.Method s t = Some (s, t)
told_in kinds.Class s t = Some (s, t)
told_in kinds.Block s t = Some (s, t)
told_in kinds.Rescue s t = None
told_in kinds.Ensure s t = None

-- what it tells of this place: where its tree begins there
abbrev pub told_of : Compiled → ℕ → Option (Sight × Tree)
told_of c n = cond (nat_eq (place_of c.tree) n) (told_in c.kind c.inner.sight c.tree) None

-- the bodies of a file with this tree by the places at which they begin, where the source has its places
abbrev pub bodies_of_tree : Source → Tree → BodyTable
bodies_of_tree source t n = cond (same source.places (places t)) (told_of (sequence_at source.path t (sequence_number (places t) n)) n) None

abbrev pub bodies_of_file : Source → RubyFile → BodyTable
bodies_of_file source no_ruby = λ n. None
bodies_of_file source (ruby_fault line) = λ n. None
bodies_of_file source (ruby_tree t) = bodies_of_tree source t

-- the prelude has no load
abbrev pub bodies_of : Files → Tree → Source → Option ℕ → BodyTable
bodies_of files prelude source None = bodies_of_tree source prelude
bodies_of files prelude source (Some load) = bodies_of_file source (files.ruby source.path)

abbrev pub told_by : Files → Tree → Telling
told_by files prelude source = Some (bodies_of files prelude source source.load)

-- What stands here is of this tree: of the prelude, or of what its file is read as.
abbrev pub IsTreeOf : Files → Tree → Source → Option ℕ → Tree → Type 0
IsTreeOf files prelude source None t = t ≡ prelude
IsTreeOf files prelude source (Some load) t = files.ruby source.path ≡ ruby_tree t

-- The body of the code is that of a sequence of its file's program, by whose number the tables of the program have the two.
pub record HasSequence (files : Files) (prelude : Tree) (code : Code) : Type 0 where
  pub tree : Tree
  pub of_file : IsTreeOf files prelude code.source code.source.load tree
  pub sequence : Compiled
  pub of_program : IsOfProgram code.source.path tree sequence
  pub of_body : IsBodyKind sequence.kind
  pub body : sequence.tree ≡ code.body

-- The code is one of the unit of its file, whose tables have all that is in it: it stands where its sequence does, and its locals before those of these
-- scopes.
pub record IsOfItsFile (files : Files) (prelude : Tree) (scopes : Scopes) (code : Code) : Type 0 where
  pub has : HasSequence files prelude code
  pub stands : IsCodeAt (tables code.source.path has.tree) has.sequence.inner scopes code

-- A frame and a world in which the body of the code begins, by the tables of its file: where its sequence does.
pub record BeginsInItsFile (files : Files) (prelude : Tree) (code : Code) (frame : Frame) (w : World) : Type 0 where
  pub has : HasSequence files prelude code
  pub begins : Begins (tables code.source.path has.tree) has.sequence.inner code.body frame w
