-- What is found by the numbers of sequences: the rescue and ensure parts of a tree, and the blocks, methods and classes in it.
use Rattle.std.specs.Prelude.{◌≡◌, ℕ, zero, suc, ◌+◌, true, List, ⊤}
use Rattle.ruby_tree.specs.Names.{Bytes}
use Rattle.ruby_tree.specs.Tree.{Tree, at, Form, nil_value, true_value, false_value, integer, symbol, text, self_value, file_name, folder_name, line_number, local, instance, global, joined, array, hash, range, constant_path, assign, assign_all, assign_attribute, assign_index, operate_attribute, or_attribute, and_attribute, operate_index, or_index, and_index, send, safe_send, yield, super, bare_super, bare_raise, statements, both, either, negated, if_else, while_loop, case_of, case_tests, return_with, break_with, next_with, retry, rescue, ensure, rescue_sequence, ensure_sequence, method, class, module_named, body, Trees, no_more, more, Other, without, with, Pairs, no_pair, pair, Pieces, no_piece, plain_piece, code_piece, Whens, no_when, when, Rescues, no_clause, clause, Params, no_param, required, optional, rest_param, block_param}
use Rattle.iseq_types.specs.declared.sequences.SeqKind.{SeqKind}
use Rattle.iseq_types.specs.declared.sequences.SeqKind.TheVariants as kinds
use Rattle.ruby_meaning.specs.Locals.{params_of, names_of_params}
use Rattle.ruby_meaning.specs.World.{Frame}
use Rattle.ruby_meaning.specs.Levels.{Held, AllHeld, GoalHeld, GoalsHeld, NameHeld}
use Rattle.code_meaning.specs.Code.{Routine, finish}
use Rattle.compile_table.specs.Shapes.{Where, looped, number_of, in_rescue, in_ensure, shape}
use Rattle.compile_table.specs.Sequences.{body_sequence, part_sequence}

-- a sequence of this kind, as it runs
abbrev pub body_routine : Where → SeqKind → Bytes → Tree → Routine
body_routine l kind name t = record { kind = kind; body = body_sequence l name t }

abbrev pub part_routine : Where → SeqKind → Tree → Routine
part_routine l kind t = record { kind = kind; body = part_sequence l kind t }

module _ (seqs : ℕ → Routine) (bodies : ℕ → Tree) where
  -- a call with a block value has no literal block
  abbrev pub FindsBlock : Where → Other → Other → Type 0
  FindsBlock l without v = ⊤
  FindsBlock l (with t) without = bodies (number_of l t) ≡ t
  FindsBlock l (with t) (with u) = ⊥

  abbrev mutual
    pub Finds : Where → Tree → Type 0
    Finds l (at s f) = FindsForm l f

    pub FindsForm : Where → Form → Type 0
    FindsForm l nil_value = ⊤
    FindsForm l true_value = ⊤
    FindsForm l false_value = ⊤
    FindsForm l (integer i) = ⊤
    FindsForm l (symbol x) = ⊤
    FindsForm l (text x) = ⊤
    FindsForm l self_value = ⊤
    FindsForm l file_name = ⊤
    FindsForm l folder_name = ⊤
    FindsForm l line_number = ⊤
    FindsForm l (local x) = Held l.sight x
    FindsForm l (instance x) = ⊤
    FindsForm l (global x) = ⊤
    FindsForm l (joined ps) = FindsPieces l ps
    FindsForm l (array ts ks) = FindsTrees l ts
    FindsForm l (hash ps) = FindsPairs l ps
    FindsForm l (range a c e) = Finds l a × Finds l c
    FindsForm l (constant_path o top xs) = FindsOther l o
    FindsForm l (assign t g) = Finds l t × GoalHeld l.sight g
    FindsForm l (assign_all ts gs) = FindsTrees l ts × GoalsHeld l.sight gs
    FindsForm l (assign_attribute a t m) = Finds l a × Finds l t
    FindsForm l (assign_index a i t) = Finds l a × Finds l i × Finds l t
    FindsForm l (operate_attribute a x t f m n) = Finds l a × Finds l t
    FindsForm l (or_attribute a x t m) = Finds l a × Finds l t
    FindsForm l (and_attribute a x t m) = Finds l a × Finds l t
    FindsForm l (operate_index a i t f n) = Finds l a × Finds l i × Finds l t
    FindsForm l (or_index a i t) = Finds l a × Finds l i × Finds l t
    FindsForm l (and_index a i t) = Finds l a × Finds l i × Finds l t
    FindsForm l (send o ts ks v x bare t) = FindsOther l o × FindsTrees l ts × FindsOther l v × FindsBlock l t v
    FindsForm l (safe_send a ts ks v x t) = Finds l a × FindsTrees l ts × FindsOther l v × FindsBlock l t v
    FindsForm l (yield ts ks) = FindsTrees l ts
    FindsForm l (super ts ks v t) = FindsTrees l ts × FindsOther l v × FindsBlock l t v
    FindsForm l (bare_super t) = AllHeld l.sight (names_of_params (params_of l.sight.body)) × FindsBlock l t without
    FindsForm l bare_raise = l.clause ≡ true
    FindsForm l (statements ts) = FindsTrees l ts
    FindsForm l (both a c) = Finds l a × Finds l c
    FindsForm l (either a c) = Finds l a × Finds l c
    FindsForm l (negated a) = Finds l a
    FindsForm l (if_else c a o) = Finds l c × Finds l a × FindsOther l o
    FindsForm l (while_loop a c u first) = Finds (looped l) a × Finds l c
    FindsForm l (case_of a ws o) = Finds l a × FindsWhens l ws × FindsOther l o
    FindsForm l (case_tests ws o) = FindsWhens l ws × FindsOther l o
    FindsForm l (return_with ts) = FindsTrees l ts
    FindsForm l (break_with ts) = FindsTrees l ts
    FindsForm l (next_with ts) = FindsTrees l ts
    FindsForm l retry = ⊤
    FindsForm l (rescue a o c) = Finds l a × FindsOther l o × (seqs (number_of l c) ≡ part_routine (in_rescue l c) kinds.Rescue c) × FindsRescue (in_rescue l c) c
    FindsForm l (ensure a c) = Finds l a × (seqs (number_of l c) ≡ part_routine (in_ensure l c) kinds.Ensure c) × FindsEnsure (in_ensure l c) c
    FindsForm l (method x t f) = bodies (number_of l t) ≡ t
    FindsForm l (class o x t) = FindsOther l o × (bodies (number_of l t) ≡ t)
    FindsForm l (module_named x t) = bodies (number_of l t) ≡ t
    FindsForm l f = ⊥

    pub FindsTrees : Where → Trees → Type 0
    FindsTrees l no_more = ⊤
    FindsTrees l (more t ts) = Finds l t × FindsTrees l ts

    pub FindsOther : Where → Other → Type 0
    FindsOther l without = ⊤
    FindsOther l (with t) = Finds l t

    pub FindsPairs : Where → Pairs → Type 0
    FindsPairs l no_pair = ⊤
    FindsPairs l (pair t u ps) = Finds l t × Finds l u × FindsPairs l ps

    pub FindsPieces : Where → Pieces → Type 0
    FindsPieces l no_piece = ⊤
    FindsPieces l (plain_piece x ps) = FindsPieces l ps
    FindsPieces l (code_piece t ps) = Finds l t × FindsPieces l ps

    pub FindsWhens : Where → Whens → Type 0
    FindsWhens l no_when = ⊤
    FindsWhens l (when ts t ws) = FindsTrees l ts × Finds l t × FindsWhens l ws

    -- the rescue and the ensure part of a tree
    pub FindsRescue : Where → Tree → Type 0
    FindsRescue l (at s f) = FindsRescueForm l f

    pub FindsRescueForm : Where → Form → Type 0
    FindsRescueForm l (rescue_sequence cs) = FindsClauses l cs
    FindsRescueForm l f = ⊥

    pub FindsEnsure : Where → Tree → Type 0
    FindsEnsure l (at s f) = FindsEnsureForm l f

    pub FindsEnsureForm : Where → Form → Type 0
    FindsEnsureForm l (ensure_sequence a) = Finds l a
    FindsEnsureForm l f = ⊥

    pub FindsClauses : Where → Rescues → Type 0
    FindsClauses l no_clause = ⊤
    FindsClauses l (clause ts x t cs) = FindsTrees l ts × NameHeld l.sight x × Finds l t × FindsClauses l cs

    pub FindsParams : Where → Params → Type 0
    FindsParams l no_param = ⊤
    FindsParams l (required x ps) = FindsParams l ps
    FindsParams l (optional x t ps) = Held l.sight x × Finds l t × FindsParams l ps
    FindsParams l (rest_param x ps) = FindsParams l ps
    FindsParams l (block_param x ps) = FindsParams l ps

  -- all that a body has is found
  abbrev pub FindsBodyForm : Where → Form → Type 0
  FindsBodyForm l (body ps t) = FindsParams l ps × Finds l t
  FindsBodyForm l f = ⊥

  abbrev pub FindsBody : Where → Tree → Type 0
  FindsBody l (at s f) = FindsBodyForm l f

-- A frame runs code that stands here: the first line of the sequence, and of its file the path and the places of the sequences, and the body.
pub record Stands (first : ℕ) (path : Bytes) (places : List ℕ) (body : Tree) (frame : Frame) : Type 0 where
  pub of_first : frame.first ≡ first
  pub of_path : frame.code.source.path ≡ path
  pub of_places : frame.code.source.places ≡ places
  pub of_body : frame.code.body ≡ body

abbrev pub StandsIn : Where → Frame → Type 0
StandsIn l frame = Stands l.first l.path l.places l.sight.body frame

-- where a body begins whose parameters stand at a place and of which so many optional ones are given
abbrev pub entry : Where → ℕ → Params → ℕ → ℕ
entry l p no_param k = p
entry l p (required x ps) k = entry l p ps k
entry l p (optional x t ps) zero = p
entry l p (optional x t ps) (suc k) = entry l (finish p (shape l t) + 1) ps k
entry l p (rest_param x ps) k = entry l p ps k
entry l p (block_param x ps) k = entry l p ps k

abbrev pub start_in : Where → Form → ℕ → ℕ
start_in l (body ps t) k = entry l 0 ps k
start_in l f k = 0

abbrev pub start_of : Where → Tree → ℕ → ℕ
start_of l (at s f) k = start_in l f k
