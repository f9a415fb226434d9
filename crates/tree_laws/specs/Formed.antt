-- Trees as the grammar makes them: which forms stand where, and what the lists and the parameters in them are.
use Rattle.std.specs.Prelude.{◌≡◌, ℕ, zero, suc, ◌≤◌, ◌<◌, Bool, true, false, List, length, All, ⊤}
use Rattle.std.specs.List.{IsDistinct}
use Rattle.ruby_lexer.specs.Bytes.{same}
use Rattle.ruby_tree.specs.Tree.{Tree, at, Form, joined, array, hash, range, constant_path, assign, assign_all, assign_attribute, assign_index, operate_attribute, or_attribute, and_attribute, operate_index, or_index, and_index, send, safe_send, yield, super, bare_super, bare_raise, statements, both, either, negated, if_else, while_loop, case_of, case_tests, return_with, break_with, next_with, retry, rescue, ensure, rescue_sequence, ensure_sequence, method, class, module_named, body, Trees, no_more, more, Other, without, with, Pairs, no_pair, pair, Pieces, no_piece, plain_piece, code_piece, Whens, no_when, when, Rescues, no_clause, clause, Params, no_param, required, optional, rest_param, block_param}
use Rattle.ruby_meaning.specs.Locals.{params_of, names_of_params}

-- one of the trees has this place
abbrev pub HasTreeAt : Trees → ℕ → Type 0
HasTreeAt no_more k = ⊥
HasTreeAt (more t ts) zero = ⊤
HasTreeAt (more t ts) (suc k) = HasTreeAt ts k

-- The places of those that are spread are places of these arguments.
abbrev pub AreSpread : Trees → List ℕ → Type 0
AreSpread ts ks = All (HasTreeAt ts) ks

-- A call with a block value has no literal block.
abbrev pub HasOneBlock : Other → Other → Type 0
HasOneBlock without b = ⊤
HasOneBlock (with t) without = ⊤
HasOneBlock (with t) (with u) = ⊥

-- Required parameters stand first, then those that may be left out, then at most one that takes the rest, and last at most one that takes the
-- block; from the l-th kind on.
abbrev pub InOrder : ℕ → Params → Type 0
InOrder l no_param = ⊤
InOrder l (required x ps) = (l ≡ 0) × InOrder 0 ps
InOrder l (optional x t ps) = (l ≤ 1) × InOrder 1 ps
InOrder l (rest_param x ps) = (l ≤ 2) × InOrder 3 ps
InOrder l (block_param x ps) = ps ≡ no_param

abbrev mutual
  -- A tree, directly in the clauses of a rescue or not, in which each form stands in its place: a body as a method, a class, a module or a block,
  -- the clauses of a rescue and the part of an ensure as theirs, and `retry` and a raise of the same exception directly in clauses. No call has
  -- two blocks, what is spread is an argument, and each path has a name.
  pub IsFormed : Bool → Tree → Type 0
  IsFormed c (at s f) = FormFormed c f

  pub FormFormed : Bool → Form → Type 0
  FormFormed c (joined ps) = PiecesFormed c ps
  FormFormed c (array ts ks) = AreSpread ts ks × TreesFormed c ts
  FormFormed c (hash ps) = PairsFormed c ps
  FormFormed c (range a b e) = IsFormed c a × IsFormed c b
  FormFormed c (constant_path v b ns) = (0 < length ns) × OtherFormed c v
  FormFormed c (assign v g) = IsFormed c v
  FormFormed c (assign_all vs gs) = TreesFormed c vs
  FormFormed c (assign_attribute a v n) = IsFormed c a × IsFormed c v
  FormFormed c (assign_index a i v) = IsFormed c a × (IsFormed c i × IsFormed c v)
  FormFormed c (operate_attribute a n v o m l) = IsFormed c a × IsFormed c v
  FormFormed c (or_attribute a n v m) = IsFormed c a × IsFormed c v
  FormFormed c (and_attribute a n v m) = IsFormed c a × IsFormed c v
  FormFormed c (operate_index a i v o l) = IsFormed c a × (IsFormed c i × IsFormed c v)
  FormFormed c (or_index a i v) = IsFormed c a × (IsFormed c i × IsFormed c v)
  FormFormed c (and_index a i v) = IsFormed c a × (IsFormed c i × IsFormed c v)
  FormFormed c (send a ts ks v n alone b) = (AreSpread ts ks × HasOneBlock v b) × (OtherFormed c a × (TreesFormed c ts × (OtherFormed c v × BlockFormed b)))
  FormFormed c (safe_send a ts ks v n b) = (AreSpread ts ks × HasOneBlock v b) × (IsFormed c a × (TreesFormed c ts × (OtherFormed c v × BlockFormed b)))
  FormFormed c (yield ts ks) = AreSpread ts ks × TreesFormed c ts
  FormFormed c (super ts ks v b) = (AreSpread ts ks × HasOneBlock v b) × (TreesFormed c ts × (OtherFormed c v × BlockFormed b))
  FormFormed c (bare_super b) = BlockFormed b
  FormFormed c bare_raise = c ≡ true
  FormFormed c (statements ts) = TreesFormed c ts
  FormFormed c (both a b) = IsFormed c a × IsFormed c b
  FormFormed c (either a b) = IsFormed c a × IsFormed c b
  FormFormed c (negated a) = IsFormed c a
  FormFormed c (if_else t a b) = IsFormed c t × (IsFormed c a × OtherFormed c b)
  FormFormed c (while_loop a t u f) = IsFormed c a × IsFormed c t
  FormFormed c (case_of a ws e) = IsFormed c a × (WhensFormed c ws × OtherFormed c e)
  FormFormed c (case_tests ws e) = WhensFormed c ws × OtherFormed c e
  FormFormed c (return_with ts) = TreesFormed c ts
  FormFormed c (break_with ts) = TreesFormed c ts
  FormFormed c (next_with ts) = TreesFormed c ts
  FormFormed c retry = c ≡ true
  FormFormed c (rescue a e t) = IsFormed c a × (OtherFormed c e × IsRescuePart t)
  FormFormed c (ensure a t) = IsFormed c a × IsEnsurePart t
  FormFormed c (rescue_sequence cs) = ⊥
  FormFormed c (ensure_sequence a) = ⊥
  FormFormed c (method n a s) = IsBody a
  -- a class and a module have no parameters
  FormFormed c (class v n a) = OtherFormed c v × (IsBody a × (params_of a ≡ no_param))
  FormFormed c (module_named n a) = IsBody a × (params_of a ≡ no_param)
  FormFormed c (body ps a) = ⊥
  FormFormed c f = ⊤

  -- a body, whose parameters are in order and have distinct names
  pub IsBody : Tree → Type 0
  IsBody (at s f) = IsBodyForm f

  pub IsBodyForm : Form → Type 0
  IsBodyForm (body ps a) = (InOrder 0 ps × IsDistinct same (names_of_params ps)) × (ParamsFormed false ps × IsFormed false a)
  IsBodyForm f = ⊥

  -- the block of a call, if it has one
  pub BlockFormed : Other → Type 0
  BlockFormed without = ⊤
  BlockFormed (with t) = IsBody t

  -- the clauses of a rescue
  pub IsRescuePart : Tree → Type 0
  IsRescuePart (at s f) = IsRescueForm f

  pub IsRescueForm : Form → Type 0
  IsRescueForm (rescue_sequence cs) = ClausesFormed true cs
  IsRescueForm f = ⊥

  -- the part of an ensure
  pub IsEnsurePart : Tree → Type 0
  IsEnsurePart (at s f) = IsEnsureForm f

  pub IsEnsureForm : Form → Type 0
  IsEnsureForm (ensure_sequence a) = IsFormed false a
  IsEnsureForm f = ⊥

  pub TreesFormed : Bool → Trees → Type 0
  TreesFormed c no_more = ⊤
  TreesFormed c (more t ts) = IsFormed c t × TreesFormed c ts

  pub OtherFormed : Bool → Other → Type 0
  OtherFormed c without = ⊤
  OtherFormed c (with t) = IsFormed c t

  pub PairsFormed : Bool → Pairs → Type 0
  PairsFormed c no_pair = ⊤
  PairsFormed c (pair k v ps) = IsFormed c k × (IsFormed c v × PairsFormed c ps)

  pub PiecesFormed : Bool → Pieces → Type 0
  PiecesFormed c no_piece = ⊤
  PiecesFormed c (plain_piece x ps) = PiecesFormed c ps
  PiecesFormed c (code_piece t ps) = IsFormed c t × PiecesFormed c ps

  pub WhensFormed : Bool → Whens → Type 0
  WhensFormed c no_when = ⊤
  WhensFormed c (when ts t ws) = TreesFormed c ts × (IsFormed c t × WhensFormed c ws)

  pub ClausesFormed : Bool → Rescues → Type 0
  ClausesFormed c no_clause = ⊤
  ClausesFormed c (clause ts x t cs) = TreesFormed c ts × (IsFormed c t × ClausesFormed c cs)

  pub ParamsFormed : Bool → Params → Type 0
  ParamsFormed c no_param = ⊤
  ParamsFormed c (required x ps) = ParamsFormed c ps
  ParamsFormed c (optional x t ps) = IsFormed c t × ParamsFormed c ps
  ParamsFormed c (rest_param x ps) = ParamsFormed c ps
  ParamsFormed c (block_param x ps) = ParamsFormed c ps
