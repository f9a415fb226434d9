-- The sequences that stand directly in a tree, in the order in which a writer meets them that writes the tree's code from its end to its beginning.
use Rattle.std.specs.Prelude.{Bool, true, List, [], ◌∷◌, ◌++◌}
use Rattle.ruby_tree.specs.Names.{Bytes}
use Rattle.ruby_tree.specs.Tree.{Tree, at, Form, joined, array, hash, range, constant_path, assign, assign_all, assign_attribute, assign_index, operate_attribute, or_attribute, and_attribute, operate_index, or_index, and_index, send, safe_send, yield, super, bare_super, statements, both, either, negated, if_else, while_loop, case_of, case_tests, return_with, break_with, next_with, rescue, ensure, rescue_sequence, ensure_sequence, method, class, module_named, body, Trees, no_more, more, Other, without, with, Pairs, no_pair, pair, Pieces, no_piece, plain_piece, code_piece, Whens, no_when, when, Rescues, no_clause, clause, Params, no_param, required, optional, rest_param, block_param}
use Rattle.iseq_types.specs.declared.sequences.SeqKind.{SeqKind}
use Rattle.iseq_types.specs.declared.sequences.SeqKind.TheVariants as kinds

-- A sequence that stands directly in another one: its kind, the name of its body or none, whether it stands in a loop of the sequence around it,
-- and its tree.
pub record Child : Type 0 where
  pub kind : SeqKind
  pub name : Bytes
  pub loop : Bool
  pub tree : Tree

abbrev pub child : SeqKind → Bytes → Bool → Tree → Child
child kind name loop t = record { kind = kind; name = name; loop = loop; tree = t }

abbrev mutual
  -- those in a tree that stands in a loop or not, without those within them
  pub direct : Bool → Tree → List Child
  direct loop (at s f) = form_direct loop f

  pub form_direct : Bool → Form → List Child
  form_direct loop (joined ps) = pieces_direct loop ps
  form_direct loop (array ts ks) = trees_direct loop ts
  form_direct loop (hash ps) = pairs_direct loop ps
  form_direct loop (range a c e) = direct loop c ++ direct loop a
  form_direct loop (constant_path o top xs) = other_direct loop o
  form_direct loop (assign t g) = direct loop t
  form_direct loop (assign_all ts gs) = trees_direct loop ts
  form_direct loop (assign_attribute a t m) = direct loop t ++ direct loop a
  form_direct loop (assign_index a i t) = direct loop t ++ (direct loop i ++ direct loop a)
  form_direct loop (operate_attribute a x t f m n) = direct loop t ++ direct loop a
  form_direct loop (or_attribute a x t m) = direct loop t ++ direct loop a
  form_direct loop (and_attribute a x t m) = direct loop t ++ direct loop a
  form_direct loop (operate_index a i t f n) = direct loop t ++ (direct loop i ++ direct loop a)
  form_direct loop (or_index a i t) = direct loop t ++ (direct loop i ++ direct loop a)
  form_direct loop (and_index a i t) = direct loop t ++ (direct loop i ++ direct loop a)
  form_direct loop (send o ts ks v x bare t) = block_direct loop t ++ (other_direct loop v ++ (trees_direct loop ts ++ other_direct loop o))
  form_direct loop (safe_send a ts ks v x t) = block_direct loop t ++ (other_direct loop v ++ (trees_direct loop ts ++ direct loop a))
  form_direct loop (yield ts ks) = trees_direct loop ts
  form_direct loop (super ts ks v t) = block_direct loop t ++ (other_direct loop v ++ trees_direct loop ts)
  form_direct loop (bare_super t) = block_direct loop t
  form_direct loop (statements ts) = trees_direct loop ts
  form_direct loop (both a c) = direct loop c ++ direct loop a
  form_direct loop (either a c) = direct loop c ++ direct loop a
  form_direct loop (negated a) = direct loop a
  form_direct loop (if_else c a o) = other_direct loop o ++ (direct loop a ++ direct loop c)
  form_direct loop (while_loop a c u f) = direct loop c ++ direct true a
  form_direct loop (case_of a ws o) = whens_direct loop ws ++ (other_direct loop o ++ (patterns_direct loop ws ++ direct loop a))
  form_direct loop (case_tests ws o) = whens_direct loop ws ++ (other_direct loop o ++ patterns_direct loop ws)
  form_direct loop (return_with ts) = trees_direct loop ts
  form_direct loop (break_with ts) = trees_direct loop ts
  form_direct loop (next_with ts) = trees_direct loop ts
  form_direct loop (rescue a o c) = other_direct loop o ++ (child kinds.Rescue [] loop c ∷ direct loop a)
  form_direct loop (ensure a c) = child kinds.Ensure [] loop c ∷ direct loop a
  form_direct loop (rescue_sequence cs) = clauses_direct loop cs ++ classes_direct loop cs
  form_direct loop (ensure_sequence a) = direct loop a
  form_direct loop (method x t f) = child kinds.Method x loop t ∷ []
  form_direct loop (class o x t) = child kinds.Class x loop t ∷ other_direct loop o
  form_direct loop (module_named x t) = child kinds.Class x loop t ∷ []
  form_direct loop (body ps t) = direct loop t ++ params_direct loop ps
  form_direct loop f = []

  -- a literal block
  pub block_direct : Bool → Other → List Child
  block_direct loop without = []
  block_direct loop (with t) = child kinds.Block [] loop t ∷ []

  pub trees_direct : Bool → Trees → List Child
  trees_direct loop no_more = []
  trees_direct loop (more t ts) = trees_direct loop ts ++ direct loop t

  pub other_direct : Bool → Other → List Child
  other_direct loop without = []
  other_direct loop (with t) = direct loop t

  pub pairs_direct : Bool → Pairs → List Child
  pairs_direct loop no_pair = []
  pairs_direct loop (pair t u ps) = pairs_direct loop ps ++ (direct loop u ++ direct loop t)

  pub pieces_direct : Bool → Pieces → List Child
  pieces_direct loop no_piece = []
  pieces_direct loop (plain_piece x ps) = pieces_direct loop ps
  pieces_direct loop (code_piece t ps) = pieces_direct loop ps ++ direct loop t

  -- the bodies of a case
  pub whens_direct : Bool → Whens → List Child
  whens_direct loop no_when = []
  whens_direct loop (when ts t ws) = whens_direct loop ws ++ direct loop t

  -- what a case compares with
  pub patterns_direct : Bool → Whens → List Child
  patterns_direct loop no_when = []
  patterns_direct loop (when ts t ws) = patterns_direct loop ws ++ trees_direct loop ts

  -- the bodies of clauses
  pub clauses_direct : Bool → Rescues → List Child
  clauses_direct loop no_clause = []
  clauses_direct loop (clause ts x t cs) = clauses_direct loop cs ++ direct loop t

  -- the classes of clauses
  pub classes_direct : Bool → Rescues → List Child
  classes_direct loop no_clause = []
  classes_direct loop (clause ts x t cs) = classes_direct loop cs ++ trees_direct loop ts

  pub params_direct : Bool → Params → List Child
  params_direct loop no_param = []
  params_direct loop (required x ps) = params_direct loop ps
  params_direct loop (optional x t ps) = params_direct loop ps ++ direct loop t
  params_direct loop (rest_param x ps) = params_direct loop ps
  params_direct loop (block_param x ps) = params_direct loop ps
