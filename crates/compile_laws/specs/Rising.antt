-- The rescue parts of a body, in the order in which they begin.
use Rattle.std.specs.Prelude.{ℕ, ◌<◌, List, ⊤}
use Rattle.ruby_tree.specs.Tree.{SourcePosition, Tree, at, Form, joined, array, hash, range, constant_path, assign, assign_all, assign_attribute, assign_index, operate_attribute, or_attribute, and_attribute, operate_index, or_index, and_index, send, safe_send, yield, super, statements, both, either, negated, if_else, while_loop, case_of, case_tests, return_with, break_with, next_with, rescue, ensure, rescue_sequence, ensure_sequence, class, body, Trees, no_more, more, Other, without, with, Pairs, no_pair, pair, Pieces, no_piece, plain_piece, code_piece, Whens, no_when, when, Rescues, no_clause, clause, Params, no_param, required, optional, rest_param, block_param}
use Rattle.ruby_meaning.specs.Locals.{place_of}
use Rattle.ruby_meaning.specs.Sequences.{sequence_number}

-- The tree is protected by these clauses, or it begins with such a tree, perhaps within a rescue around it.
pub data Protects (c : Tree) : Tree → Type 0 where
  direct : (s : SourcePosition) (a : Tree) (o : Other) → Protects c (at s (rescue a o c))
  ensured : (s : SourcePosition) (a : Tree) → Protects c (at s (ensure a c))
  inner : (s : SourcePosition) (a : Tree) (o : Other) (d : Tree) → Protects c a → Protects c (at s (rescue a o d))
  first : (s : SourcePosition) (t : Tree) (ts : Trees) → Protects c t → Protects c (at s (statements (more t ts)))

module _ (places : List ℕ) where
  abbrev mutual
    -- In the sequence that a tree belongs to, the clauses of each rescue part have a greater number than those in what it protects.
    pub Rises : Tree → Type 0
    Rises (at s f) = FormRises f

    pub FormRises : Form → Type 0
    FormRises (joined ps) = PiecesRise ps
    FormRises (array ts ks) = TreesRise ts
    FormRises (hash ps) = PairsRise ps
    FormRises (range a c e) = Rises a × Rises c
    FormRises (constant_path o top xs) = OtherRises o
    FormRises (assign t g) = Rises t
    FormRises (assign_all ts gs) = TreesRise ts
    FormRises (assign_attribute a t m) = Rises a × Rises t
    FormRises (assign_index a i t) = Rises a × Rises i × Rises t
    FormRises (operate_attribute a x t f m n) = Rises a × Rises t
    FormRises (or_attribute a x t m) = Rises a × Rises t
    FormRises (and_attribute a x t m) = Rises a × Rises t
    FormRises (operate_index a i t f n) = Rises a × Rises i × Rises t
    FormRises (or_index a i t) = Rises a × Rises i × Rises t
    FormRises (and_index a i t) = Rises a × Rises i × Rises t
    FormRises (send o ts ks v x bare t) = OtherRises o × TreesRise ts × OtherRises v
    FormRises (safe_send a ts ks v x t) = Rises a × TreesRise ts × OtherRises v
    FormRises (yield ts ks) = TreesRise ts
    FormRises (super ts ks v t) = TreesRise ts × OtherRises v
    FormRises (statements ts) = TreesRise ts
    FormRises (both a c) = Rises a × Rises c
    FormRises (either a c) = Rises a × Rises c
    FormRises (negated a) = Rises a
    FormRises (if_else c a o) = Rises c × Rises a × OtherRises o
    FormRises (while_loop a c u f) = Rises a × Rises c
    FormRises (case_of a ws o) = Rises a × WhensRise ws × OtherRises o
    FormRises (case_tests ws o) = WhensRise ws × OtherRises o
    FormRises (return_with ts) = TreesRise ts
    FormRises (break_with ts) = TreesRise ts
    FormRises (next_with ts) = TreesRise ts
    FormRises (rescue a o c) = Rises a × OtherRises o × ((d : Tree) → Protects d a → sequence_number places (place_of d) < sequence_number places (place_of c))
    FormRises (ensure a c) = Rises a
    FormRises (rescue_sequence cs) = ClausesRise cs
    FormRises (ensure_sequence a) = Rises a
    FormRises (class o x t) = OtherRises o
    FormRises (body ps t) = ParamsRise ps × Rises t
    FormRises f = ⊤

    pub TreesRise : Trees → Type 0
    TreesRise no_more = ⊤
    TreesRise (more t ts) = Rises t × TreesRise ts

    pub OtherRises : Other → Type 0
    OtherRises without = ⊤
    OtherRises (with t) = Rises t

    pub PairsRise : Pairs → Type 0
    PairsRise no_pair = ⊤
    PairsRise (pair t u ps) = Rises t × Rises u × PairsRise ps

    pub PiecesRise : Pieces → Type 0
    PiecesRise no_piece = ⊤
    PiecesRise (plain_piece x ps) = PiecesRise ps
    PiecesRise (code_piece t ps) = Rises t × PiecesRise ps

    pub WhensRise : Whens → Type 0
    WhensRise no_when = ⊤
    WhensRise (when ts t ws) = TreesRise ts × Rises t × WhensRise ws

    pub ClausesRise : Rescues → Type 0
    ClausesRise no_clause = ⊤
    ClausesRise (clause ts x t cs) = TreesRise ts × Rises t × ClausesRise cs

    pub ParamsRise : Params → Type 0
    ParamsRise no_param = ⊤
    ParamsRise (required x ps) = ParamsRise ps
    ParamsRise (optional x t ps) = Rises t × ParamsRise ps
    ParamsRise (rest_param x ps) = ParamsRise ps
    ParamsRise (block_param x ps) = ParamsRise ps
