-- The faults of placement in a tree: what stands where it may not stand.
use Rattle.std.specs.Prelude.{Bool, true, false, not, ◌&&◌, ◌||◌, List, [], ◌∷◌, ◌++◌, if◌then◌else◌}
use Rattle.ruby_lexer.specs.Bytes.{Bytes, is_in}
use Rattle.ruby_tree.specs.Tree.{SourcePosition, Goal, to_constant, Tree, at, Form, joined, array, hash, range, constant_path, assign, assign_all, assign_attribute, assign_index, operate_attribute, or_attribute, and_attribute, operate_index, or_index, and_index, send, safe_send, yield, super, bare_super, statements, both, either, negated, if_else, while_loop, case_of, case_tests, return_with, break_with, next_with, retry, rescue, ensure, rescue_sequence, ensure_sequence, method, class, module_named, body, Trees, no_more, more, Other, without, with, Pairs, no_pair, pair, Pieces, no_piece, plain_piece, code_piece, Whens, no_when, when, Rescues, no_clause, clause, Params, no_param, required, optional, rest_param, block_param}

-- The innermost method, class or module around a place, or the file.
pub data Home : Type 0 where
  file : Home
  -- whether each parameter is a required one
  in_method : Bool → Home
  in_class : Home

-- What stands around a place: its home; whether a loop's body or a block of that home does, and whether a block does; and whether it is
-- directly in a rescue clause.
pub record Around : Type 0 where
  pub home : Home
  pub loop : Bool
  pub block : Bool
  pub clause : Bool

abbrev pub at_home : Home → Around
at_home h = record { home = h; loop = false; block = false; clause = false }

abbrev pub in_loop : Around → Around
in_loop c = record c { loop = true }

abbrev pub in_block : Around → Around
in_block c = record c { loop = true; block = true; clause = false }

abbrev pub in_clause : Around → Around
in_clause c = record c { clause = true }

abbrev pub outside_clause : Around → Around
outside_clause c = record c { clause = false }

abbrev pub is_method : Home → Bool
is_method (in_method r) = true
is_method _ = false

abbrev pub is_class : Home → Bool
is_class in_class = true
is_class _ = false

abbrev pub all_required : Home → Bool
all_required (in_method r) = r
all_required _ = true

abbrev pub are_required : Params → Bool
are_required no_param = true
are_required (required n ps) = are_required ps
are_required _ = false

abbrev pub names_of : Params → List Bytes
names_of no_param = []
names_of (required n ps) = n ∷ names_of ps
names_of (optional n t ps) = n ∷ names_of ps
names_of (rest_param n ps) = n ∷ names_of ps
names_of (block_param n ps) = n ∷ names_of ps

abbrev pub stands_twice : List Bytes → Bool
stands_twice [] = false
stands_twice (n ∷ ns) = is_in n ns || stands_twice ns

abbrev pub is_constant : Goal → Bool
is_constant (to_constant n) = true
is_constant _ = false

-- the node that begins at o is a fault where the test passes
abbrev pub fault_if : Bool → SourcePosition → List SourcePosition
fault_if b o = if b then o ∷ [] else []

-- What a node of this form is a fault for by itself. `break` and `next` stand in the body of a loop or in a block; `retry` directly in a
-- rescue clause; `return` in no class; `yield` and `super` in a method, `super` in no block, and a bare one only where all parameters are
-- required; no constant is set and no class or module stands in a method; and no parameter stands twice.
abbrev pub is_fault : Around → Form → Bool
is_fault c (break_with ts) = not c.loop
is_fault c (next_with ts) = not c.loop
is_fault c retry = not c.clause
is_fault c (return_with ts) = is_class c.home
is_fault c (yield ts ks) = not (is_method c.home)
is_fault c (super ts ks v b) = not (is_method c.home) || c.block
is_fault c (bare_super b) = not (is_method c.home) || c.block || not (all_required c.home)
is_fault c (assign v g) = is_constant g && is_method c.home
is_fault c (class s n a) = is_method c.home
is_fault c (module_named n a) = is_method c.home
is_fault c (body ps a) = stands_twice (names_of ps)
is_fault c _ = false

abbrev mutual
  -- where the faults of a tree begin
  pub faults : Around → Tree → List SourcePosition
  faults c (at o f) = fault_if (is_fault c f) o ++ form_faults c f

  pub form_faults : Around → Form → List SourcePosition
  form_faults c (joined ps) = pieces_faults c ps
  form_faults c (array ts ks) = trees_faults c ts
  form_faults c (hash ps) = pairs_faults c ps
  form_faults c (range a b e) = faults c a ++ faults c b
  form_faults c (constant_path v b ns) = other_faults c v
  form_faults c (assign v g) = faults c v
  form_faults c (assign_all vs gs) = trees_faults c vs
  form_faults c (assign_attribute a v n) = faults c a ++ faults c v
  form_faults c (assign_index a i v) = faults c a ++ faults c i ++ faults c v
  form_faults c (operate_attribute a n v o m l) = faults c a ++ faults c v
  form_faults c (or_attribute a n v m) = faults c a ++ faults c v
  form_faults c (and_attribute a n v m) = faults c a ++ faults c v
  form_faults c (operate_index a i v o l) = faults c a ++ faults c i ++ faults c v
  form_faults c (or_index a i v) = faults c a ++ faults c i ++ faults c v
  form_faults c (and_index a i v) = faults c a ++ faults c i ++ faults c v
  form_faults c (send a ts ks v n alone b) = other_faults c a ++ trees_faults c ts ++ other_faults c v ++ other_faults (in_block c) b
  form_faults c (safe_send a ts ks v n b) = faults c a ++ trees_faults c ts ++ other_faults c v ++ other_faults (in_block c) b
  form_faults c (yield ts ks) = trees_faults c ts
  form_faults c (super ts ks v b) = trees_faults c ts ++ other_faults c v ++ other_faults (in_block c) b
  form_faults c (bare_super b) = other_faults (in_block c) b
  form_faults c (statements ts) = trees_faults c ts
  form_faults c (both a b) = faults c a ++ faults c b
  form_faults c (either a b) = faults c a ++ faults c b
  form_faults c (negated a) = faults c a
  form_faults c (if_else t a b) = faults c t ++ faults c a ++ other_faults c b
  -- the condition of a loop is outside its body
  form_faults c (while_loop a t u f) = faults (in_loop c) a ++ faults c t
  form_faults c (case_of a ws e) = faults c a ++ whens_faults c ws ++ other_faults c e
  form_faults c (case_tests ws e) = whens_faults c ws ++ other_faults c e
  form_faults c (return_with ts) = trees_faults c ts
  form_faults c (break_with ts) = trees_faults c ts
  form_faults c (next_with ts) = trees_faults c ts
  form_faults c (rescue a e s) = faults c a ++ other_faults c e ++ faults c s
  form_faults c (ensure a s) = faults c a ++ faults c s
  form_faults c (rescue_sequence cs) = rescues_faults (in_clause c) cs
  form_faults c (ensure_sequence a) = faults (outside_clause c) a
  form_faults c (method n a s) = method_faults a
  form_faults c (class s n a) = other_faults c s ++ faults (at_home in_class) a
  form_faults c (module_named n a) = faults (at_home in_class) a
  form_faults c (body ps a) = params_faults c ps ++ faults c a
  form_faults c _ = []

  -- the body of a method, which is the home of its parameters too
  pub method_faults : Tree → List SourcePosition
  method_faults (at o f) = fault_if (is_fault (at_home file) f) o ++ body_faults f

  pub body_faults : Form → List SourcePosition
  body_faults (body ps a) = params_faults (at_home (in_method (are_required ps))) ps ++ faults (at_home (in_method (are_required ps))) a
  body_faults _ = []

  pub trees_faults : Around → Trees → List SourcePosition
  trees_faults c no_more = []
  trees_faults c (more t ts) = faults c t ++ trees_faults c ts

  pub other_faults : Around → Other → List SourcePosition
  other_faults c without = []
  other_faults c (with t) = faults c t

  pub pairs_faults : Around → Pairs → List SourcePosition
  pairs_faults c no_pair = []
  pairs_faults c (pair k v ps) = faults c k ++ faults c v ++ pairs_faults c ps

  pub pieces_faults : Around → Pieces → List SourcePosition
  pieces_faults c no_piece = []
  pieces_faults c (plain_piece f ps) = pieces_faults c ps
  pieces_faults c (code_piece t ps) = faults c t ++ pieces_faults c ps

  pub whens_faults : Around → Whens → List SourcePosition
  whens_faults c no_when = []
  whens_faults c (when ts t ws) = trees_faults c ts ++ faults c t ++ whens_faults c ws

  pub rescues_faults : Around → Rescues → List SourcePosition
  rescues_faults c no_clause = []
  rescues_faults c (clause ts x t cs) = trees_faults c ts ++ faults c t ++ rescues_faults c cs

  pub params_faults : Around → Params → List SourcePosition
  params_faults c no_param = []
  params_faults c (required n ps) = params_faults c ps
  params_faults c (optional n t ps) = faults c t ++ params_faults c ps
  params_faults c (rest_param n ps) = params_faults c ps
  params_faults c (block_param n ps) = params_faults c ps
