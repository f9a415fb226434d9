-- How many nodes stand between the root of a tree and its deepest leaf, both of them counted. Parameters, clauses and targets are no nodes.
use Rattle.std.specs.Prelude.{ℕ, suc, max}
use Rattle.ruby_tree.specs.Tree.{Tree, at, Form, joined, array, hash, range, constant_path, assign, assign_all, assign_attribute, assign_index, operate_attribute, or_attribute, and_attribute, operate_index, or_index, and_index, send, safe_send, yield, super, bare_super, statements, both, either, negated, if_else, while_loop, case_of, case_tests, return_with, break_with, next_with, rescue, ensure, rescue_sequence, ensure_sequence, method, class, module_named, body, Trees, no_more, more, Other, without, with, Pairs, no_pair, pair, Pieces, no_piece, plain_piece, code_piece, Whens, no_when, when, Rescues, no_clause, clause, Params, no_param, required, optional, rest_param, block_param}

abbrev mutual
  pub depth : Tree → ℕ
  depth (at o f) = suc (form_depth f)

  pub form_depth : Form → ℕ
  form_depth (joined ps) = pieces_depth ps
  form_depth (array ts ks) = trees_depth ts
  form_depth (hash ps) = pairs_depth ps
  form_depth (range a b e) = max (depth a) (depth b)
  form_depth (constant_path v b ns) = other_depth v
  form_depth (assign v g) = depth v
  form_depth (assign_all vs gs) = trees_depth vs
  form_depth (assign_attribute a v n) = max (depth a) (depth v)
  form_depth (assign_index a i v) = max (depth a) (max (depth i) (depth v))
  form_depth (operate_attribute a n v o m l) = max (depth a) (depth v)
  form_depth (or_attribute a n v m) = max (depth a) (depth v)
  form_depth (and_attribute a n v m) = max (depth a) (depth v)
  form_depth (operate_index a i v o l) = max (depth a) (max (depth i) (depth v))
  form_depth (or_index a i v) = max (depth a) (max (depth i) (depth v))
  form_depth (and_index a i v) = max (depth a) (max (depth i) (depth v))
  form_depth (send a ts ks v n alone b) = max (other_depth a) (max (trees_depth ts) (max (other_depth v) (other_depth b)))
  form_depth (safe_send a ts ks v n b) = max (depth a) (max (trees_depth ts) (max (other_depth v) (other_depth b)))
  form_depth (yield ts ks) = trees_depth ts
  form_depth (super ts ks v b) = max (trees_depth ts) (max (other_depth v) (other_depth b))
  form_depth (bare_super b) = other_depth b
  form_depth (statements ts) = trees_depth ts
  form_depth (both a b) = max (depth a) (depth b)
  form_depth (either a b) = max (depth a) (depth b)
  form_depth (negated a) = depth a
  form_depth (if_else c a b) = max (depth c) (max (depth a) (other_depth b))
  form_depth (while_loop a c u f) = max (depth a) (depth c)
  form_depth (case_of a ws e) = max (depth a) (max (whens_depth ws) (other_depth e))
  form_depth (case_tests ws e) = max (whens_depth ws) (other_depth e)
  form_depth (return_with ts) = trees_depth ts
  form_depth (break_with ts) = trees_depth ts
  form_depth (next_with ts) = trees_depth ts
  form_depth (rescue a e c) = max (depth a) (max (other_depth e) (depth c))
  form_depth (ensure a c) = max (depth a) (depth c)
  form_depth (rescue_sequence cs) = rescues_depth cs
  form_depth (ensure_sequence a) = depth a
  form_depth (method n a s) = depth a
  form_depth (class c n a) = max (other_depth c) (depth a)
  form_depth (module_named n a) = depth a
  form_depth (body ps a) = max (params_depth ps) (depth a)
  form_depth _ = 0

  pub trees_depth : Trees → ℕ
  trees_depth no_more = 0
  trees_depth (more t ts) = max (depth t) (trees_depth ts)

  pub other_depth : Other → ℕ
  other_depth without = 0
  other_depth (with t) = depth t

  pub pairs_depth : Pairs → ℕ
  pairs_depth no_pair = 0
  pairs_depth (pair k v ps) = max (depth k) (max (depth v) (pairs_depth ps))

  pub pieces_depth : Pieces → ℕ
  pieces_depth no_piece = 0
  pieces_depth (plain_piece f ps) = pieces_depth ps
  pieces_depth (code_piece t ps) = max (depth t) (pieces_depth ps)

  pub whens_depth : Whens → ℕ
  whens_depth no_when = 0
  whens_depth (when ts t ws) = max (trees_depth ts) (max (depth t) (whens_depth ws))

  pub rescues_depth : Rescues → ℕ
  rescues_depth no_clause = 0
  rescues_depth (clause ts x t cs) = max (trees_depth ts) (max (depth t) (rescues_depth cs))

  pub params_depth : Params → ℕ
  params_depth no_param = 0
  params_depth (required n ps) = params_depth ps
  params_depth (optional n t ps) = max (depth t) (params_depth ps)
  params_depth (rest_param n ps) = params_depth ps
  params_depth (block_param n ps) = params_depth ps
