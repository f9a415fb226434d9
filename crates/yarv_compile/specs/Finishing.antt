-- The sequences of a file as they are compiled.
use Rattle.std.specs.Prelude.{◌≡◌, ℕ, Bool, false, List, [], ◌∷◌, length, map, drop}
use Rattle.bs_outside.specs.declared.text.Text.{Text}
use Rattle.ruby_tree.specs.Names.{Bytes}
use Rattle.ruby_tree.specs.Tree.{Tree}
use Rattle.iseq_types.specs.declared.sequences.SeqKind.{SeqKind}
use Rattle.iseq_types.specs.declared.sequences.SeqKind.TheVariants as kinds
use Rattle.iseq_types.specs.declared.sequences.Sequence.{Sequence}
use Rattle.iseq_types.specs.declared.sequences.IndexRow.{IndexRow}
use Rattle.iseq_types.specs.declared.sequences.Unit.{Unit as CompiledUnit}
use Rattle.ruby_meaning.specs.Locals.{place_of, first_line_of, params_of}
use Rattle.ruby_meaning.specs.Sequences.{sequence_number}
use Rattle.ruby_meaning.specs.Levels.{Sight, file_sight, body_sight, block_sight}
use Rattle.ruby_meaning.specs.Loads.{file_body}
use Rattle.code_writer.specs.declared.writer.Code.{Code}
use Rattle.code_meaning.specs.Code.{lines_of, rows_of}
use Rattle.compile_table.specs.Shapes.{Where, shape}
use Rattle.compile_table.specs.Sequences.{Compiled, count_required, has_rest, has_block, entries_of, depth_in}
use Rattle.local_scopes.specs.Opened.{Open, sight, innermost_names}
use Rattle.code_emitter.specs.Children.{Child}
use Rattle.yarv_compile.specs.declared.places.SourceFile.{SourceFile}
use Rattle.yarv_compile.specs.declared.units.Finished.{Finished}

-- ---- where sequences stand

-- The nodes of a sequence of the file, in a loop of it or not, within which this is in sight. In which sequence, and whether in the clauses
-- of a rescue part, makes no difference to their code.
abbrev pub standing : SourceFile → List Open → Bool → ℕ → Where
standing f open_bodies loop first = record {
  loop = loop;
  clause = false;
  number = 0;
  first = first;
  sight = sight open_bodies;
  path = f.path.now;
  places = f.numbers.now;
}

-- what is in sight within a sequence of a kind
abbrev pub sight_within : SeqKind → Sight → Tree → Sight
sight_within kinds.Rescue around t = around
sight_within kinds.Ensure around t = around
sight_within kinds.Block around t = block_sight around t
sight_within kinds.File around t = body_sight t
sight_within kinds.Method around t = body_sight t
sight_within kinds.Class around t = body_sight t

-- the bodies that are open around a sequence of a kind
abbrev pub without_inner : SeqKind → List Open → List Open
without_inner kinds.Rescue os = os
without_inner kinds.Ensure os = os
without_inner kinds.Block os = drop 1 os
without_inner kinds.File os = drop 1 os
without_inner kinds.Method os = drop 1 os
without_inner kinds.Class os = drop 1 os

-- a part stays in the loop that it stands in
abbrev pub loop_within : SeqKind → Bool → Bool
loop_within kinds.Rescue loop = loop
loop_within kinds.Ensure loop = loop
loop_within kinds.Block loop = false
loop_within kinds.File loop = false
loop_within kinds.Method loop = false
loop_within kinds.Class loop = false

-- A place in the sequence of this number in the file, where this is in sight, of a file whose sequences have the numbers that the file's have.
pub record IsWithin (f : SourceFile) (around : Sight) (n : ℕ) (l : Where) : Type 0 where
  pub sight : l.sight ≡ around
  pub path : l.path ≡ f.path.now
  pub parent : l.number ≡ n
  pub numbers : (p : ℕ) → sequence_number l.places p ≡ sequence_number f.numbers.now p

-- ---- sequences of code that was written

abbrev pub body_with : Bytes → List Bytes → Tree → Code → List ℕ → Sequence
body_with name locals t code entries = record {
  name = name;
  first_line = first_line_of t;
  locals = locals;
  required = count_required (params_of t);
  entries = entries;
  rest = has_rest (params_of t);
  block = has_block (params_of t);
  rows = code.rows;
  code = code.lines;
}

abbrev pub part_with : Tree → Code → Sequence
part_with t code = record {
  name = [];
  first_line = first_line_of t;
  locals = [];
  required = 0;
  entries = [];
  rest = false;
  block = false;
  rows = code.rows;
  code = code.lines;
}

abbrev pub sequence_with : SeqKind → Bytes → List Bytes → Tree → Code → List ℕ → Sequence
sequence_with kinds.Rescue name locals t code entries = part_with t code
sequence_with kinds.Ensure name locals t code entries = part_with t code
sequence_with kinds.Block name locals t code entries = body_with name locals t code entries
sequence_with kinds.File name locals t code entries = body_with name locals t code entries
sequence_with kinds.Method name locals t code entries = body_with name locals t code entries
sequence_with kinds.Class name locals t code entries = body_with name locals t code entries

-- the code of a tree, where its nodes stand so
abbrev pub code_at : ℕ → Where → Tree → Code
code_at depth l t = record { lines = lines_of depth 0 (shape l t); rows = rows_of depth 0 (shape l t) }

-- ---- sequences that are compiled

-- what is kept of a sequence
abbrev pub finished_of : Compiled → Finished
finished_of c = record { place = c.place; kind = c.kind; parent = c.parent; body = c.body }

-- a sequence in the file, within which these bodies are open
abbrev pub finished_at : SourceFile → List Open → ℕ → Where → Child → Finished
finished_at f open_bodies parent l c = record {
  place = place_of c.tree;
  kind = c.kind;
  parent = parent;
  body = sequence_with c.kind c.name (innermost_names (sight open_bodies).scopes) c.tree (code_at (depth_in c.kind) l c.tree) (entries_of l (params_of c.tree));
}

abbrev pub finished_child : SourceFile → List Open → ℕ → Child → Finished
finished_child f open_bodies parent c = finished_at f open_bodies parent (standing f open_bodies (loop_within c.kind c.loop) (first_line_of c.tree)) c

-- the file's own sequence
abbrev pub finished_own : SourceFile → List Open → Tree → Finished
finished_own f open_bodies t = record {
  place = 0;
  kind = kinds.File;
  parent = 0;
  body = body_with [] (innermost_names (sight open_bodies).scopes) (file_body t) (code_at 0 (standing f open_bodies false 1) (file_body t)) [];
}

-- where the nodes of a file stand
abbrev pub in_own : SourceFile → Tree → Where
in_own f t = record {
  loop = false;
  clause = false;
  number = 0;
  first = 1;
  sight = file_sight t;
  path = f.path.now;
  places = f.numbers.now;
}

abbrev pub finished_file : SourceFile → Tree → Finished
finished_file f t = record {
  place = 0;
  kind = kinds.File;
  parent = 0;
  body = body_with [] (innermost_names (file_sight t).scopes) (file_body t) (code_at 0 (in_own f t) (file_body t)) [];
}

-- ---- a unit

abbrev pub row_of : Finished → IndexRow
row_of c = record { kind = c.kind; parent = c.parent; locals = length c.body.locals }

abbrev pub unit_from : Bytes → List Finished → CompiledUnit
unit_from path cs = record { path = path; rows = map row_of cs; bodies = map (λ c. c.body) cs }
