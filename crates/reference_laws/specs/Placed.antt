-- Trees in which each node stands where it may.
use Rattle.std.specs.Prelude.{◌≡◌, Bool, true, false, ⊤}
use Rattle.ruby_tree.specs.Tree.{Tree, at, Form, joined, array, hash, range, constant_path, assign, assign_all, assign_attribute, assign_index, operate_attribute, or_attribute, and_attribute, operate_index, or_index, and_index, send, safe_send, yield, super, bare_super, statements, both, either, negated, if_else, while_loop, case_of, case_tests, return_with, break_with, next_with, rescue, ensure, rescue_sequence, ensure_sequence, method, class, module_named, body, Trees, no_more, more, Other, without, with, Pairs, no_pair, pair, Pieces, no_piece, plain_piece, code_piece, Whens, no_when, when, Rescues, no_clause, clause, Params, no_param, required, optional, rest_param, block_param}
use Rattle.ruby_tree.specs.Placement.{Home, in_method, in_class, Around, in_loop, in_block, in_clause, outside_clause, at_home, are_required, is_fault}

-- whether each parameter of a body is a required one
abbrev pub all_required_in : Form → Bool
all_required_in (body ps a) = are_required ps
all_required_in f = true

abbrev pub all_required_of : Tree → Bool
all_required_of (at o f) = all_required_in f

-- the home that the body of a method is
abbrev pub home_of : Tree → Home
home_of t = in_method (all_required_of t)

abbrev mutual
  -- No node is a fault for by itself where it stands, nor is one within it: in a loop, a block or a method of its own, in a class, or in the
  -- clauses of a rescue.
  pub IsPlaced : Around → Tree → Type 0
  IsPlaced c (at o f) = (is_fault c f ≡ false) × FormPlaced c f

  pub FormPlaced : Around → Form → Type 0
  FormPlaced c (joined ps) = PiecesPlaced c ps
  FormPlaced c (array ts ks) = TreesPlaced c ts
  FormPlaced c (hash ps) = PairsPlaced c ps
  FormPlaced c (range a b e) = IsPlaced c a × IsPlaced c b
  FormPlaced c (constant_path v b ns) = OtherPlaced c v
  FormPlaced c (assign v g) = IsPlaced c v
  FormPlaced c (assign_all vs gs) = TreesPlaced c vs
  FormPlaced c (assign_attribute a v n) = IsPlaced c a × IsPlaced c v
  FormPlaced c (assign_index a i v) = IsPlaced c a × (IsPlaced c i × IsPlaced c v)
  FormPlaced c (operate_attribute a n v o m l) = IsPlaced c a × IsPlaced c v
  FormPlaced c (or_attribute a n v m) = IsPlaced c a × IsPlaced c v
  FormPlaced c (and_attribute a n v m) = IsPlaced c a × IsPlaced c v
  FormPlaced c (operate_index a i v o l) = IsPlaced c a × (IsPlaced c i × IsPlaced c v)
  FormPlaced c (or_index a i v) = IsPlaced c a × (IsPlaced c i × IsPlaced c v)
  FormPlaced c (and_index a i v) = IsPlaced c a × (IsPlaced c i × IsPlaced c v)
  FormPlaced c (send a ts ks v n alone b) = OtherPlaced c a × (TreesPlaced c ts × (OtherPlaced c v × OtherPlaced (in_block c) b))
  FormPlaced c (safe_send a ts ks v n b) = IsPlaced c a × (TreesPlaced c ts × (OtherPlaced c v × OtherPlaced (in_block c) b))
  FormPlaced c (yield ts ks) = TreesPlaced c ts
  FormPlaced c (super ts ks v b) = TreesPlaced c ts × (OtherPlaced c v × OtherPlaced (in_block c) b)
  FormPlaced c (bare_super b) = OtherPlaced (in_block c) b
  FormPlaced c (statements ts) = TreesPlaced c ts
  FormPlaced c (both a b) = IsPlaced c a × IsPlaced c b
  FormPlaced c (either a b) = IsPlaced c a × IsPlaced c b
  FormPlaced c (negated a) = IsPlaced c a
  FormPlaced c (if_else t a b) = IsPlaced c t × (IsPlaced c a × OtherPlaced c b)
  -- the condition of a loop is outside its body
  FormPlaced c (while_loop a t u f) = IsPlaced (in_loop c) a × IsPlaced c t
  FormPlaced c (case_of a ws e) = IsPlaced c a × (WhensPlaced c ws × OtherPlaced c e)
  FormPlaced c (case_tests ws e) = WhensPlaced c ws × OtherPlaced c e
  FormPlaced c (return_with ts) = TreesPlaced c ts
  FormPlaced c (break_with ts) = TreesPlaced c ts
  FormPlaced c (next_with ts) = TreesPlaced c ts
  -- the clauses alone may begin the rescue again
  FormPlaced c (rescue a e s) = IsPlaced c a × (OtherPlaced c e × IsPlaced (in_clause c) s)
  FormPlaced c (ensure a s) = IsPlaced c a × IsPlaced c s
  FormPlaced c (rescue_sequence cs) = ClausesPlaced c cs
  FormPlaced c (ensure_sequence a) = IsPlaced (outside_clause c) a
  FormPlaced c (method n a s) = IsPlaced (at_home (home_of a)) a
  FormPlaced c (class v n a) = OtherPlaced c v × IsPlaced (at_home in_class) a
  FormPlaced c (module_named n a) = IsPlaced (at_home in_class) a
  FormPlaced c (body ps a) = ParamsPlaced c ps × IsPlaced c a
  FormPlaced c f = ⊤

  pub TreesPlaced : Around → Trees → Type 0
  TreesPlaced c no_more = ⊤
  TreesPlaced c (more t ts) = IsPlaced c t × TreesPlaced c ts

  pub OtherPlaced : Around → Other → Type 0
  OtherPlaced c without = ⊤
  OtherPlaced c (with t) = IsPlaced c t

  pub PairsPlaced : Around → Pairs → Type 0
  PairsPlaced c no_pair = ⊤
  PairsPlaced c (pair k v ps) = IsPlaced c k × (IsPlaced c v × PairsPlaced c ps)

  pub PiecesPlaced : Around → Pieces → Type 0
  PiecesPlaced c no_piece = ⊤
  PiecesPlaced c (plain_piece x ps) = PiecesPlaced c ps
  PiecesPlaced c (code_piece t ps) = IsPlaced c t × PiecesPlaced c ps

  pub WhensPlaced : Around → Whens → Type 0
  WhensPlaced c no_when = ⊤
  WhensPlaced c (when ts t ws) = TreesPlaced c ts × (IsPlaced c t × WhensPlaced c ws)

  pub ClausesPlaced : Around → Rescues → Type 0
  ClausesPlaced c no_clause = ⊤
  ClausesPlaced c (clause ts x t cs) = TreesPlaced c ts × (IsPlaced c t × ClausesPlaced c cs)

  pub ParamsPlaced : Around → Params → Type 0
  ParamsPlaced c no_param = ⊤
  ParamsPlaced c (required x ps) = ParamsPlaced c ps
  ParamsPlaced c (optional x t ps) = IsPlaced c t × ParamsPlaced c ps
  ParamsPlaced c (rest_param x ps) = ParamsPlaced c ps
  ParamsPlaced c (block_param x ps) = ParamsPlaced c ps
