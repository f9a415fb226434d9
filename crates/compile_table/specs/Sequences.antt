-- The sequences of a program, and its unit.
use Rattle.std.specs.Prelude.{ℕ, suc, ◌+◌, nat_le, Bool, true, false, cond, List, [], ◌∷◌, ◌++◌, length, map, get_or}
use Rattle.ruby_tree.specs.Names.{Bytes}
use Rattle.ruby_tree.specs.Tree.{Tree, at, Form, joined, array, hash, range, constant_path, assign, assign_all, assign_attribute, assign_index, operate_attribute, or_attribute, and_attribute, operate_index, or_index, and_index, send, safe_send, yield, super, bare_super, statements, both, either, negated, if_else, while_loop, case_of, case_tests, return_with, break_with, next_with, rescue, ensure, rescue_sequence, ensure_sequence, method, class, module_named, body, Trees, no_more, more, Other, without, with, Pairs, no_pair, pair, Pieces, no_piece, plain_piece, code_piece, Whens, no_when, when, Rescues, no_clause, clause, Params, no_param, required, optional, rest_param, block_param}
use Rattle.iseq_types.specs.declared.sequences.SeqKind.{SeqKind}
use Rattle.iseq_types.specs.declared.sequences.SeqKind.TheVariants as kinds
use Rattle.iseq_types.specs.declared.sequences.Sequence.{Sequence}
use Rattle.iseq_types.specs.declared.sequences.IndexRow.{IndexRow}
use Rattle.iseq_types.specs.declared.sequences.Unit.{Unit as CompiledUnit}
use Rattle.ruby_meaning.specs.Locals.{place_of, first_line_of, params_of, locals_of}
use Rattle.ruby_meaning.specs.Sequences.{places}
use Rattle.ruby_meaning.specs.Loads.{file_body}
use Rattle.ruby_meaning.specs.Levels.{file_sight, body_sight, block_sight}
use Rattle.code_meaning.specs.Code.{Routine, finish, lines_of, rows_of}
use Rattle.compile_table.specs.Shapes.{Where, looped, number_of, in_rescue, in_ensure, shape}

-- ---- where the nodes of a body stand

-- in a file, whose sequence is the first
abbrev pub in_file : Bytes → Tree → Where
in_file path t = record { loop = false; clause = false; number = 0; first = 1; sight = file_sight t; path = path; places = places t }

-- in the body of a method, a class or a module
abbrev pub in_body : Where → Tree → Where
in_body l t = record l { loop = false; clause = false; number = number_of l t; first = first_line_of t; sight = body_sight t }

-- in the body of a block
abbrev pub in_block : Where → Tree → Where
in_block l t = record l { loop = false; clause = false; number = number_of l t; first = first_line_of t; sight = block_sight l.sight t }

-- ---- parameters

abbrev pub count_required : Params → ℕ
count_required no_param = 0
count_required (required x ps) = suc (count_required ps)
count_required (optional x t ps) = count_required ps
count_required (rest_param x ps) = count_required ps
count_required (block_param x ps) = count_required ps

abbrev pub has_optional : Params → Bool
has_optional no_param = false
has_optional (required x ps) = has_optional ps
has_optional (optional x t ps) = true
has_optional (rest_param x ps) = has_optional ps
has_optional (block_param x ps) = has_optional ps

abbrev pub has_rest : Params → Bool
has_rest no_param = false
has_rest (required x ps) = has_rest ps
has_rest (optional x t ps) = has_rest ps
has_rest (rest_param x ps) = true
has_rest (block_param x ps) = has_rest ps

abbrev pub has_block : Params → Bool
has_block no_param = false
has_block (required x ps) = has_block ps
has_block (optional x t ps) = has_block ps
has_block (rest_param x ps) = has_block ps
has_block (block_param x ps) = true

-- Where a body begins of which the code for these parameters stands at a place: with none of the optional ones given, with one, up to all.
abbrev pub entries_from : Where → ℕ → Params → List ℕ
entries_from l p no_param = p ∷ []
entries_from l p (required x ps) = entries_from l p ps
entries_from l p (optional x t ps) = p ∷ entries_from l (finish p (shape l t) + 1) ps
entries_from l p (rest_param x ps) = entries_from l p ps
entries_from l p (block_param x ps) = entries_from l p ps

-- none where no parameter may be left out
abbrev pub entries_of : Where → Params → List ℕ
entries_of l ps = cond (has_optional ps) (entries_from l 0 ps) []

-- ---- a sequence

-- a rescue part begins with the exception on its stack
abbrev pub depth_in : SeqKind → ℕ
depth_in kinds.File = 0
depth_in kinds.Method = 0
depth_in kinds.Class = 0
depth_in kinds.Block = 0
depth_in kinds.Rescue = 1
depth_in kinds.Ensure = 0

-- the sequence of a file, a method, a class, a module or a block: its name, what it sees of the locals around it, and its body
abbrev pub body_sequence : Where → Bytes → Tree → Sequence
body_sequence l name t = record {
  name = name;
  first_line = first_line_of t;
  locals = locals_of l.sight.seen t;
  required = count_required (params_of t);
  entries = entries_of l (params_of t);
  rest = has_rest (params_of t);
  block = has_block (params_of t);
  rows = rows_of 0 0 (shape l t);
  code = lines_of 0 0 (shape l t);
}

-- the sequence of a rescue or an ensure part, which has no locals of its own
abbrev pub part_sequence : Where → SeqKind → Tree → Sequence
part_sequence l kind t = record {
  name = [];
  first_line = first_line_of t;
  locals = [];
  required = 0;
  entries = [];
  rest = false;
  block = false;
  rows = rows_of (depth_in kind) 0 (shape l t);
  code = lines_of (depth_in kind) 0 (shape l t);
}

-- A sequence of a program: the place of its first token, its kind, the number of the sequence around it, its body, where its nodes stand, and
-- the tree that it is of.
pub record Compiled : Type 0 where
  pub place : ℕ
  pub kind : SeqKind
  pub parent : ℕ
  pub body : Sequence
  pub inner : Where
  pub tree : Tree

-- a body that stands where l says, and whose nodes stand where inner says
abbrev pub compiled_body : Where → Where → SeqKind → Bytes → Tree → Compiled
compiled_body l inner kind name t = record { place = place_of t; kind = kind; parent = l.number; body = body_sequence inner name t; inner = inner; tree = t }

abbrev pub compiled_part : Where → Where → SeqKind → Tree → Compiled
compiled_part l inner kind t = record { place = place_of t; kind = kind; parent = l.number; body = part_sequence inner kind t; inner = inner; tree = t }

-- ---- the sequences of a tree

abbrev mutual
  -- the sequences that stand in a tree
  pub sequences : Where → Tree → List Compiled
  sequences l (at s f) = form_sequences l f

  pub form_sequences : Where → Form → List Compiled
  form_sequences l (joined ps) = pieces_sequences l ps
  form_sequences l (array ts ks) = trees_sequences l ts
  form_sequences l (hash ps) = pairs_sequences l ps
  form_sequences l (range a c e) = sequences l a ++ sequences l c
  form_sequences l (constant_path o top xs) = other_sequences l o
  form_sequences l (assign t g) = sequences l t
  form_sequences l (assign_all ts gs) = trees_sequences l ts
  form_sequences l (assign_attribute a t m) = sequences l a ++ sequences l t
  form_sequences l (assign_index a i t) = sequences l a ++ (sequences l i ++ sequences l t)
  form_sequences l (operate_attribute a x t f m n) = sequences l a ++ sequences l t
  form_sequences l (or_attribute a x t m) = sequences l a ++ sequences l t
  form_sequences l (and_attribute a x t m) = sequences l a ++ sequences l t
  form_sequences l (operate_index a i t f n) = sequences l a ++ (sequences l i ++ sequences l t)
  form_sequences l (or_index a i t) = sequences l a ++ (sequences l i ++ sequences l t)
  form_sequences l (and_index a i t) = sequences l a ++ (sequences l i ++ sequences l t)
  form_sequences l (send o ts ks v x bare t) = other_sequences l o ++ (trees_sequences l ts ++ (other_sequences l v ++ block_sequences l t))
  form_sequences l (safe_send a ts ks v x t) = sequences l a ++ (trees_sequences l ts ++ (other_sequences l v ++ block_sequences l t))
  form_sequences l (yield ts ks) = trees_sequences l ts
  form_sequences l (super ts ks v t) = trees_sequences l ts ++ (other_sequences l v ++ block_sequences l t)
  form_sequences l (bare_super t) = block_sequences l t
  form_sequences l (statements ts) = trees_sequences l ts
  form_sequences l (both a c) = sequences l a ++ sequences l c
  form_sequences l (either a c) = sequences l a ++ sequences l c
  form_sequences l (negated a) = sequences l a
  form_sequences l (if_else c a o) = sequences l c ++ (sequences l a ++ other_sequences l o)
  form_sequences l (while_loop a c u f) = sequences (looped l) a ++ sequences l c
  form_sequences l (case_of a ws o) = sequences l a ++ (whens_sequences l ws ++ other_sequences l o)
  form_sequences l (case_tests ws o) = whens_sequences l ws ++ other_sequences l o
  form_sequences l (return_with ts) = trees_sequences l ts
  form_sequences l (break_with ts) = trees_sequences l ts
  form_sequences l (next_with ts) = trees_sequences l ts
  form_sequences l (rescue a o c) = sequences l a ++ (other_sequences l o ++ (compiled_part l (in_rescue l c) kinds.Rescue c ∷ sequences (in_rescue l c) c))
  form_sequences l (ensure a c) = sequences l a ++ (compiled_part l (in_ensure l c) kinds.Ensure c ∷ sequences (in_ensure l c) c)
  form_sequences l (rescue_sequence cs) = clauses_sequences l cs
  form_sequences l (ensure_sequence a) = sequences l a
  form_sequences l (method x t f) = compiled_body l (in_body l t) kinds.Method x t ∷ sequences (in_body l t) t
  form_sequences l (class o x t) = other_sequences l o ++ (compiled_body l (in_body l t) kinds.Class x t ∷ sequences (in_body l t) t)
  form_sequences l (module_named x t) = compiled_body l (in_body l t) kinds.Class x t ∷ sequences (in_body l t) t
  form_sequences l (body ps t) = params_sequences l ps ++ sequences l t
  form_sequences l f = []

  -- a literal block, and those in it
  pub block_sequences : Where → Other → List Compiled
  block_sequences l without = []
  block_sequences l (with t) = compiled_body l (in_block l t) kinds.Block [] t ∷ sequences (in_block l t) t

  pub trees_sequences : Where → Trees → List Compiled
  trees_sequences l no_more = []
  trees_sequences l (more t ts) = sequences l t ++ trees_sequences l ts

  pub other_sequences : Where → Other → List Compiled
  other_sequences l without = []
  other_sequences l (with t) = sequences l t

  pub pairs_sequences : Where → Pairs → List Compiled
  pairs_sequences l no_pair = []
  pairs_sequences l (pair t u ps) = sequences l t ++ (sequences l u ++ pairs_sequences l ps)

  pub pieces_sequences : Where → Pieces → List Compiled
  pieces_sequences l no_piece = []
  pieces_sequences l (plain_piece x ps) = pieces_sequences l ps
  pieces_sequences l (code_piece t ps) = sequences l t ++ pieces_sequences l ps

  pub whens_sequences : Where → Whens → List Compiled
  whens_sequences l no_when = []
  whens_sequences l (when ts t ws) = trees_sequences l ts ++ (sequences l t ++ whens_sequences l ws)

  pub clauses_sequences : Where → Rescues → List Compiled
  clauses_sequences l no_clause = []
  clauses_sequences l (clause ts x t cs) = trees_sequences l ts ++ (sequences l t ++ clauses_sequences l cs)

  pub params_sequences : Where → Params → List Compiled
  params_sequences l no_param = []
  params_sequences l (required x ps) = params_sequences l ps
  params_sequences l (optional x t ps) = sequences l t ++ params_sequences l ps
  params_sequences l (rest_param x ps) = params_sequences l ps
  params_sequences l (block_param x ps) = params_sequences l ps

-- ---- in the order of their places

abbrev pub among : Compiled → List Compiled → List Compiled
among c [] = c ∷ []
among c (d ∷ ds) = cond (nat_le c.place d.place) (c ∷ (d ∷ ds)) (d ∷ among c ds)

abbrev pub by_places : List Compiled → List Compiled
by_places [] = []
by_places (c ∷ cs) = among c (by_places cs)

-- the file's own sequence
abbrev pub compiled_file : Bytes → Tree → Compiled
compiled_file path t = record {
  place = 0;
  kind = kinds.File;
  parent = 0;
  body = body_sequence (in_file path t) [] (file_body t);
  inner = in_file path t;
  tree = file_body t;
}

-- The sequences of a program in the order of their numbers: the file's own, and those that stand in it by their places.
abbrev pub sequences_of : Bytes → Tree → List Compiled
sequences_of path t = compiled_file path t ∷ by_places (sequences (in_file path t) t)

abbrev pub routine_of : Compiled → Routine
routine_of c = record { kind = c.kind; body = c.body }

abbrev pub index_row : Compiled → IndexRow
index_row c = record { kind = c.kind; parent = c.parent; locals = length c.body.locals }

abbrev pub unit_with : Bytes → List Compiled → CompiledUnit
unit_with path cs = record { path = path; rows = map index_row cs; bodies = map (λ c. c.body) cs }

-- The unit of a program's tree.
unfoldable pub unit_of : Bytes → Tree → CompiledUnit
unit_of path t = unit_with path (sequences_of path t)

-- ---- found by their numbers

-- the sequence of a program that has a number, or else the file's own
unfoldable pub sequence_at : Bytes → Tree → ℕ → Compiled
sequence_at path t n = get_or (sequences_of path t) n (compiled_file path t)

-- The sequences of a program by their numbers, as they run, and their trees.
abbrev pub routines : Bytes → Tree → ℕ → Routine
routines path t n = routine_of (sequence_at path t n)

abbrev pub bodies : Bytes → Tree → ℕ → Tree
bodies path t n = (sequence_at path t n).tree
