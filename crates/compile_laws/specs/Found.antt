-- Tables that have the sequences of a program under their numbers, and bodies of which all that they have is found.
use Rattle.std.specs.Prelude.{◌≡◌, ℕ, false, List, [], Option, None, ⊤}
use Rattle.ruby_tree.specs.Names.{Bytes}
use Rattle.ruby_tree.specs.Tree.{Tree}
use Rattle.iseq_types.specs.declared.sequences.SeqKind.{SeqKind}
use Rattle.iseq_types.specs.declared.sequences.SeqKind.TheVariants as kinds
use Rattle.ruby_meaning.specs.Locals.{place_of, first_line_of, locals_of}
use Rattle.ruby_meaning.specs.Sequences.{places}
use Rattle.ruby_meaning.specs.Levels.{Sight, file_sight, body_sight, block_sight}
use Rattle.ruby_meaning.specs.Value.{Code}
use Rattle.ruby_meaning.specs.World.{World, Frame}
use Rattle.ruby_meaning.specs.Calls.{all_nil, with_environment, next_environment}
use Rattle.ruby_meaning.specs.Loads.{file_code, file_frame}
use Rattle.code_meaning.specs.Code.{Routine}
use Rattle.code_meaning.specs.Frames.{Tables}
use Rattle.compile_table.specs.Shapes.{Where, in_rescue, in_ensure}
use Rattle.compile_table.specs.Sequences.{in_file, in_body, in_block, Compiled, routine_of, sequence_at, routines, bodies}
use Rattle.compile_laws.specs.Finds.{body_routine, FindsBody}

-- the sequence of a file, a method, a class, a module or a block, and no part of a body
abbrev pub IsBodyKind : SeqKind → Type 0
IsBodyKind kinds.File = ⊤
IsBodyKind kinds.Method = ⊤
IsBodyKind kinds.Class = ⊤
IsBodyKind kinds.Block = ⊤
IsBodyKind kinds.Rescue = ⊥
IsBodyKind kinds.Ensure = ⊥

-- What is in sight in a sequence of the file with this tree: by its kind and its own tree, and by what is in sight in the sequence around it.
abbrev pub sight_in : Tree → SeqKind → Sight → Tree → Sight
sight_in t kinds.File around u = file_sight t
sight_in t kinds.Method around u = body_sight u
sight_in t kinds.Class around u = body_sight u
sight_in t kinds.Block around u = block_sight around u
sight_in t kinds.Rescue around u = around
sight_in t kinds.Ensure around u = around

-- Where the nodes of a sequence of the file stand: by its kind and its own tree, and by where the sequence around it stands.
abbrev pub where_in : Bytes → Tree → SeqKind → Where → Tree → Where
where_in path t kinds.File around u = in_file path t
where_in path t kinds.Method around u = in_body around u
where_in path t kinds.Class around u = in_body around u
where_in path t kinds.Block around u = in_block around u
where_in path t kinds.Rescue around u = in_rescue around u
where_in path t kinds.Ensure around u = in_ensure around u

-- The sequence is that of its tree, a body, which stands in no loop and in no clauses of its own and is the body in sight there; and the tables
-- have all that the body has.
pub record IsFoundBody (seqs : ℕ → Routine) (bodies : ℕ → Tree) (c : Compiled) : Type 0 where
  pub routine : routine_of c ≡ body_routine c.inner c.kind c.body.name c.tree
  pub no_loop : c.inner.loop ≡ false
  pub no_clause : c.inner.clause ≡ false
  pub first : c.inner.first ≡ first_line_of c.tree
  pub in_sight : c.inner.sight.body ≡ c.tree
  pub finds : FindsBody seqs bodies c.inner c.tree

-- The sequence stands in the tables of a program under its number; its nodes stand in this file, and see what its kind and the sequence around it
-- let them see. If it is a body, its nodes stand where the two say, and the tables have all that it has.
pub record IsOfProgram (path : Bytes) (t : Tree) (c : Compiled) : Type 0 where
  pub numbered : sequence_at path t c.inner.number ≡ c
  pub place : place_of c.tree ≡ c.place
  pub in_file : c.inner.path ≡ path
  pub in_places : c.inner.places ≡ places t
  pub sees : c.inner.sight ≡ sight_in t c.kind (sequence_at path t c.parent).inner.sight c.tree
  pub stands : IsBodyKind c.kind → c.inner ≡ where_in path t c.kind (sequence_at path t c.parent).inner c.tree
  pub body : IsBodyKind c.kind → IsFoundBody (routines path t) (bodies path t) c

-- The tables of a program.
abbrev pub tables : Bytes → Tree → Tables
tables path t = record { seqs = routines path t; bodies = bodies path t }

-- The frame in which the body of a file begins in this world, and the world with the environment of that frame.
abbrev pub entry_frame : Bytes → Option ℕ → Tree → Option (Bytes × ℕ) → List ℕ → List ℕ → World → Frame
entry_frame path load t outside inside calling w = file_frame (file_code path load t) (next_environment w) outside inside calling

abbrev pub entry_world : Tree → World → World
entry_world t w = with_environment None (all_nil (locals_of [] t)) w

-- The code of this body in this file: it sees these locals around it, and has those of the body.
pub record IsCodeOf (path : Bytes) (places : List ℕ) (seen : List Bytes) (t : Tree) (code : Code) : Type 0 where
  pub body : code.body ≡ t
  pub in_file : code.source.path ≡ path
  pub in_places : code.source.places ≡ places
  pub sees : code.seen ≡ seen
  pub locals : code.locals ≡ locals_of code.seen code.body
