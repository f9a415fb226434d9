-- How the sequences of a tree nest: one that stands within another begins behind it.
use Rattle.std.specs.Prelude.{◌≡◌, ℕ, ◌<◌, Bool, true, false, List, ◌++◌, ⊤}
use Rattle.std.specs.List.{AllByRecursion}
use Rattle.ruby_tree.specs.Tree.{Tree, at, Form, joined, array, hash, range, constant_path, assign, assign_all, assign_attribute, assign_index, operate_attribute, or_attribute, and_attribute, operate_index, or_index, and_index, send, safe_send, yield, super, bare_super, statements, both, either, negated, if_else, while_loop, case_of, case_tests, return_with, break_with, next_with, rescue, ensure, rescue_sequence, ensure_sequence, method, class, module_named, body, Trees, no_more, more, Other, without, with, Pairs, no_pair, pair, Pieces, no_piece, plain_piece, code_piece, Whens, no_when, when, Rescues, no_clause, clause, Params, no_param, required, optional, rest_param, block_param}
use Rattle.ruby_meaning.specs.Locals.{place_of}
use Rattle.ruby_meaning.specs.Sequences.{places, clauses_places, params_places}

-- all the places are behind this one
abbrev pub Behind : ℕ → List ℕ → Type 0
Behind p qs = AllByRecursion (λ q. p < q) qs

-- all the places are before this one
abbrev pub Before : ℕ → List ℕ → Type 0
Before p qs = AllByRecursion (λ q. q < p) qs

abbrev pub begins_form : Form → Bool
begins_form (rescue_sequence cs) = true
begins_form (ensure_sequence a) = true
begins_form (body ps a) = true
begins_form f = false

-- the node begins a sequence
abbrev pub Begins : Tree → Type 0
Begins (at s f) = begins_form f ≡ true

abbrev mutual
  -- Each block and each body of a method, a class or a module begins a sequence, and all sequences within one begin behind it. So it is with
  -- rescue and ensure parts, and all sequences in what these protect begin before them.
  pub Nested : Tree → Type 0
  Nested (at s f) = FormNested s.place f

  pub FormNested : ℕ → Form → Type 0
  FormNested p (joined ps) = PiecesNested ps
  FormNested p (array ts ks) = TreesNested ts
  FormNested p (hash ps) = PairsNested ps
  FormNested p (range a b e) = Nested a × Nested b
  FormNested p (constant_path v b ns) = OtherNested v
  FormNested p (assign v g) = Nested v
  FormNested p (assign_all vs gs) = TreesNested vs
  FormNested p (assign_attribute a v n) = Nested a × Nested v
  FormNested p (assign_index a i v) = Nested a × (Nested i × Nested v)
  FormNested p (operate_attribute a n v o m l) = Nested a × Nested v
  FormNested p (or_attribute a n v m) = Nested a × Nested v
  FormNested p (and_attribute a n v m) = Nested a × Nested v
  FormNested p (operate_index a i v o l) = Nested a × (Nested i × Nested v)
  FormNested p (or_index a i v) = Nested a × (Nested i × Nested v)
  FormNested p (and_index a i v) = Nested a × (Nested i × Nested v)
  FormNested p (send a ts ks v n alone b) = OtherNested a × (TreesNested ts × (OtherNested v × BlockNested b))
  FormNested p (safe_send a ts ks v n b) = Nested a × (TreesNested ts × (OtherNested v × BlockNested b))
  FormNested p (yield ts ks) = TreesNested ts
  FormNested p (super ts ks v b) = TreesNested ts × (OtherNested v × BlockNested b)
  FormNested p (bare_super b) = BlockNested b
  FormNested p (statements ts) = TreesNested ts
  FormNested p (both a b) = Nested a × Nested b
  FormNested p (either a b) = Nested a × Nested b
  FormNested p (negated a) = Nested a
  FormNested p (if_else c a b) = Nested c × (Nested a × OtherNested b)
  FormNested p (while_loop a c u f) = Nested a × Nested c
  FormNested p (case_of a ws e) = Nested a × (WhensNested ws × OtherNested e)
  FormNested p (case_tests ws e) = WhensNested ws × OtherNested e
  FormNested p (return_with ts) = TreesNested ts
  FormNested p (break_with ts) = TreesNested ts
  FormNested p (next_with ts) = TreesNested ts
  FormNested p (rescue a e c) = (Nested a × (OtherNested e × Nested c)) × (Begins c × Before (place_of c) (places a))
  FormNested p (ensure a c) = (Nested a × Nested c) × (Begins c × Before (place_of c) (places a))
  FormNested p (rescue_sequence cs) = ClausesNested cs × Behind p (clauses_places cs)
  FormNested p (ensure_sequence a) = Nested a × Behind p (places a)
  FormNested p (method n a s) = Nested a × Begins a
  FormNested p (class v n a) = OtherNested v × (Nested a × Begins a)
  FormNested p (module_named n a) = Nested a × Begins a
  FormNested p (body ps a) = (ParamsNested ps × Nested a) × Behind p (params_places ps ++ places a)
  FormNested p f = ⊤

  -- a block that a call has
  pub BlockNested : Other → Type 0
  BlockNested without = ⊤
  BlockNested (with t) = Nested t × Begins t

  pub TreesNested : Trees → Type 0
  TreesNested no_more = ⊤
  TreesNested (more t ts) = Nested t × TreesNested ts

  pub OtherNested : Other → Type 0
  OtherNested without = ⊤
  OtherNested (with t) = Nested t

  pub PairsNested : Pairs → Type 0
  PairsNested no_pair = ⊤
  PairsNested (pair k v ps) = Nested k × (Nested v × PairsNested ps)

  pub PiecesNested : Pieces → Type 0
  PiecesNested no_piece = ⊤
  PiecesNested (plain_piece x ps) = PiecesNested ps
  PiecesNested (code_piece t ps) = Nested t × PiecesNested ps

  pub WhensNested : Whens → Type 0
  WhensNested no_when = ⊤
  WhensNested (when ts t ws) = TreesNested ts × (Nested t × WhensNested ws)

  pub ClausesNested : Rescues → Type 0
  ClausesNested no_clause = ⊤
  ClausesNested (clause ts x t cs) = TreesNested ts × (Nested t × ClausesNested cs)

  pub ParamsNested : Params → Type 0
  ParamsNested no_param = ⊤
  ParamsNested (required x ps) = ParamsNested ps
  ParamsNested (optional x t ps) = Nested t × ParamsNested ps
  ParamsNested (rest_param x ps) = ParamsNested ps
  ParamsNested (block_param x ps) = ParamsNested ps
