-- A node begins where its first token does, so its line is that of its place. A tree without faults is placed. What is known of the parts of a tree is
-- known of the tree.
use Rattle.std.proofs.Common.{◌≡◌, ℕ, Bool, true, false, ◌&&◌, List, [], ◌∷◌, ◌++◌, refl, sym, subst, if◌then◌else◌, Option, Some, None, codes}
use Rattle.ruby_lexer.specs.Bytes.{Bytes, same}
use Rattle.ruby_lexer.specs.Pieces.{Kind, Parts, Tok, tok, Toks}
use Rattle.ruby_lexer.specs.Pieces as token
use Rattle.ruby_tree.specs.Tree.{SourcePosition, Goal, to_local, to_instance, to_global, to_constant, Tree, at, joined, array, hash, range, constant_path, assign, assign_all, assign_attribute, assign_index, operate_attribute, or_attribute, and_attribute, operate_index, or_index, and_index, send, safe_send, yield, super, bare_super, bare_raise, statements, both, either, negated, if_else, while_loop, case_of, case_tests, return_with, break_with, next_with, retry, rescue, ensure, rescue_sequence, ensure_sequence, method, class, module_named, body, Trees, no_more, more, Other, without, with, Pairs, no_pair, pair, Pieces, no_piece, plain_piece, code_piece, Whens, no_when, when, Rescues, no_clause, clause, Params, no_param, required, optional, rest_param, block_param}
use Rattle.ruby_tree.specs.Rules.{Scope, next, front, position, nowhere, goal_at}
use Rattle.ruby_tree.specs.Build.{Given, one, alone, or_empty, read_form, call_form, sent, bare_form, path_with, symbol_block, rescued, texts_at, symbols_at}
use Rattle.ruby_tree.specs.Placement.{Around, in_loop, in_block, in_clause, outside_clause, at_home, in_class, in_method, are_required, fault_if, faults, trees_faults, other_faults, pairs_faults, pieces_faults, whens_faults, rescues_faults, params_faults}
use Rattle.reference_laws.specs.Placed.{IsPlaced, TreesPlaced, OtherPlaced, PairsPlaced, PiecesPlaced, WhensPlaced, ClausesPlaced, ParamsPlaced}

module _ (L : ℕ → ℕ) where
  abbrev mutual
    -- the line of each token is that of its place, within literals too
    pub LinedAll : Toks → Type 0
    LinedAll token.none = Unit {0}
    LinedAll (token.more t ts) = LinedOne t × LinedAll ts

    pub LinedOne : Tok → Type 0
    LinedOne (tok k from to line b) = (line ≡ L from) × LinedKind k

    pub LinedKind : Kind → Type 0
    LinedKind (token.literal ps) = LinedParts ps
    LinedKind _ = Unit {0}

    pub LinedParts : Parts → Type 0
    LinedParts token.ends = Unit {0}
    LinedParts (token.plain f ps) = LinedParts ps
    LinedParts (token.code ts ps) = LinedAll ts × LinedParts ps

  pub record Lined (w : Toks) : Type 0 where
    pub holds : LinedAll w

  pub past : {w : Toks} → Lined w → Lined (next w)
  past {w = token.none} e = e
  past {w = token.more t ts} e = record { holds = e.holds.1 }

  abbrev LinedFront : Option Kind → Type 0
  LinedFront None = Unit {0}
  LinedFront (Some k) = LinedKind k

  lined_front : (w : Toks) → LinedAll w → LinedFront (front w)
  lined_front token.none h = tt
  lined_front (token.more (tok k from to line b) ts) h = h.0.1

  pub lined_literal : (w : Toks) (ps : Parts) → front w ≡ Some (token.literal ps) → Lined w → LinedParts ps
  lined_literal w ps h e = subst LinedFront h (lined_front w e.holds)

  -- the line of a position is that of its place
  pub record Sits (o : SourcePosition) : Type 0 where
    pub line : o.first ≡ L o.place

  pub spot_sits : (w : Toks) (k : Kind) → front w ≡ Some k → Lined w → Sits (position w)
  spot_sits token.none k h e = absurd cc
  spot_sits (token.more (tok j from to line b) ts) k h e = record { line = e.holds.0.0 }

  pub goal_sits : (source : Bytes) (w : Toks) (g : Goal) → goal_at source w ≡ Some g → Lined w → Sits (position w)
  goal_sits source token.none g h e = absurd cc
  goal_sits source (token.more (tok j from to line b) ts) g h e = record { line = e.holds.0.0 }

  pub data AllSit : List SourcePosition → Type 0 where
    nothing : AllSit []
    also : {o : SourcePosition} {os : List SourcePosition} → Sits o → AllSit os → AllSit (o ∷ os)

  infixl 10 ◌⊕◌
  ◌⊕◌ : {os ps : List SourcePosition} → AllSit os → AllSit ps → AllSit (os ++ ps)
  nothing ⊕ k = k
  (also o h) ⊕ k = also o (h ⊕ k)

  fault_sits : (b : Bool) {o : SourcePosition} → Sits o → AllSit (fault_if b o)
  fault_sits true s = also s nothing
  fault_sits false s = nothing

  none_sits : {os : List SourcePosition} → os ≡ [] → AllSit os
  none_sits e = subst AllSit (sym e) nothing

  -- No fault in several parts is none in each, nor at the node itself.
  front_none : (xs ys : List SourcePosition) → xs ++ ys ≡ [] → xs ≡ []
  front_none [] ys h = refl
  front_none (x ∷ xs) ys h = absurd cc

  back_none : (xs ys : List SourcePosition) → xs ++ ys ≡ [] → ys ≡ []
  back_none [] ys h = h
  back_none (x ∷ xs) ys h = absurd cc

  two : {P Q : Type 0} {xs ys : List SourcePosition} → (xs ≡ [] → P) → (ys ≡ [] → Q) → xs ++ ys ≡ [] → P × Q
  two {P} {Q} {xs} {ys} p q h = (p (front_none xs ys h), q (back_none xs ys h))

  three : {P Q R : Type 0} {xs ys zs : List SourcePosition} → (xs ≡ [] → P) → (ys ≡ [] → Q) → (zs ≡ [] → R) → xs ++ ys ++ zs ≡ [] → P × (Q × R)
  three {P} {Q} {R} {xs} {ys} {zs} p q r h = (p (front_none xs ys (front_none (xs ++ ys) zs h)), (q (back_none xs ys (front_none (xs ++ ys) zs h)), r (back_none (xs ++ ys) zs h)))

  four : {P Q R S : Type 0} {xs ys zs us : List SourcePosition} → (xs ≡ [] → P) → (ys ≡ [] → Q) → (zs ≡ [] → R) → (us ≡ [] → S) → xs ++ ys ++ zs ++ us ≡ [] → P × (Q × (R × S))
  four {P} {Q} {R} {S} {xs} {ys} {zs} {us} p q r s h =
      let fst : xs ++ ys ++ zs ≡ [] = front_none (xs ++ ys ++ zs) us h in
      (p (front_none xs ys (front_none (xs ++ ys) zs fst)), (q (back_none xs ys (front_none (xs ++ ys) zs fst)), (r (back_none (xs ++ ys) zs fst), s (back_none (xs ++ ys ++ zs) us h))))

  no_fault : (b : Bool) (o : SourcePosition) → fault_if b o ≡ [] → b ≡ false
  no_fault true o h = absurd cc
  no_fault false o h = refl

  own : {P : Type 0} {b : Bool} {xs : List SourcePosition} (o : SourcePosition) → (xs ≡ [] → P) → fault_if b o ++ xs ≡ [] → (b ≡ false) × P
  own {P} {b} {xs} o p h = (no_fault b o (front_none (fault_if b o) xs h), p (back_none (fault_if b o) xs h))

  -- The faults of a part, whatever stands around it, and where it has none how it is placed.
  pub record GoodTree (t : Tree) : Type 0 where
    pub all : (c : Around) → AllSit (faults c t)
    pub placed : (c : Around) → faults c t ≡ [] → IsPlaced c t

  pub record GoodTrees (ts : Trees) : Type 0 where
    pub all : (c : Around) → AllSit (trees_faults c ts)
    pub placed : (c : Around) → trees_faults c ts ≡ [] → TreesPlaced c ts

  pub record GoodOther (v : Other) : Type 0 where
    pub all : (c : Around) → AllSit (other_faults c v)
    pub placed : (c : Around) → other_faults c v ≡ [] → OtherPlaced c v

  pub record GoodPairs (ps : Pairs) : Type 0 where
    pub all : (c : Around) → AllSit (pairs_faults c ps)
    pub placed : (c : Around) → pairs_faults c ps ≡ [] → PairsPlaced c ps

  pub record GoodPieces (ps : Pieces) : Type 0 where
    pub all : (c : Around) → AllSit (pieces_faults c ps)
    pub placed : (c : Around) → pieces_faults c ps ≡ [] → PiecesPlaced c ps

  pub record GoodWhens (ws : Whens) : Type 0 where
    pub all : (c : Around) → AllSit (whens_faults c ws)
    pub placed : (c : Around) → whens_faults c ws ≡ [] → WhensPlaced c ws

  pub record GoodRescues (cs : Rescues) : Type 0 where
    pub all : (c : Around) → AllSit (rescues_faults c cs)
    pub placed : (c : Around) → rescues_faults c cs ≡ [] → ClausesPlaced c cs

  pub record GoodParams (ps : Params) : Type 0 where
    pub all : (c : Around) → AllSit (params_faults c ps)
    pub placed : (c : Around) → params_faults c ps ≡ [] → ParamsPlaced c ps

  pub record GoodGiven (g : Given) : Type 0 where
    pub trees : GoodTrees g.trees
    pub value : GoodOther g.value
    pub block : GoodOther g.block

  -- a node without faults within
  pub quiet : {t : Tree} → ((c : Around) → faults c t ≡ []) → ((c : Around) → IsPlaced c t) → GoodTree t
  quiet h p = record { all = λ c. none_sits (h c); placed = λ c k. p c }

  pub good_none : GoodTrees no_more
  good_none = record { all = λ c. nothing; placed = λ c h. tt }

  pub good_more : {t : Tree} {ts : Trees} → GoodTree t → GoodTrees ts → GoodTrees (more t ts)
  good_more a b = record { all = λ c. a.all c ⊕ b.all c; placed = λ c k. two (a.placed c) (b.placed c) k }

  pub good_one : {t : Tree} → GoodTree t → GoodTrees (one t)
  good_one a = good_more a good_none

  pub good_without : GoodOther without
  good_without = record { all = λ c. nothing; placed = λ c h. tt }

  pub good_with : {t : Tree} → GoodTree t → GoodOther (with t)
  good_with a = record { all = λ c. a.all c; placed = λ c k. a.placed c k }

  pub good_no_pair : GoodPairs no_pair
  good_no_pair = record { all = λ c. nothing; placed = λ c h. tt }

  pub good_pair : {k v : Tree} {ps : Pairs} → GoodTree k → GoodTree v → GoodPairs ps → GoodPairs (pair k v ps)
  good_pair a b h = record { all = λ c. a.all c ⊕ b.all c ⊕ h.all c; placed = λ c k. three (a.placed c) (b.placed c) (h.placed c) k }

  pub good_no_piece : GoodPieces no_piece
  good_no_piece = record { all = λ c. nothing; placed = λ c h. tt }

  pub good_plain : {f : Bytes} {ps : Pieces} → GoodPieces ps → GoodPieces (plain_piece f ps)
  good_plain h = record { all = λ c. h.all c; placed = λ c k. h.placed c k }

  pub good_code : {t : Tree} {ps : Pieces} → GoodTree t → GoodPieces ps → GoodPieces (code_piece t ps)
  good_code a h = record { all = λ c. a.all c ⊕ h.all c; placed = λ c k. two (a.placed c) (h.placed c) k }

  pub good_no_when : GoodWhens no_when
  good_no_when = record { all = λ c. nothing; placed = λ c h. tt }

  pub good_when : {ts : Trees} {t : Tree} {ws : Whens} → GoodTrees ts → GoodTree t → GoodWhens ws → GoodWhens (when ts t ws)
  good_when a b h = record { all = λ c. a.all c ⊕ b.all c ⊕ h.all c; placed = λ c k. three (a.placed c) (b.placed c) (h.placed c) k }

  pub good_no_clause : GoodRescues no_clause
  good_no_clause = record { all = λ c. nothing; placed = λ c h. tt }

  pub good_clause : {ts : Trees} {x : Option Bytes} {t : Tree} {cs : Rescues} → GoodTrees ts → GoodTree t → GoodRescues cs → GoodRescues (clause ts x t cs)
  good_clause a b h = record { all = λ c. a.all c ⊕ b.all c ⊕ h.all c; placed = λ c k. three (a.placed c) (b.placed c) (h.placed c) k }

  pub good_no_param : GoodParams no_param
  good_no_param = record { all = λ c. nothing; placed = λ c h. tt }

  pub good_required : {n : Bytes} {ps : Params} → GoodParams ps → GoodParams (required n ps)
  good_required h = record { all = λ c. h.all c; placed = λ c k. h.placed c k }

  pub good_optional : {n : Bytes} {t : Tree} {ps : Params} → GoodTree t → GoodParams ps → GoodParams (optional n t ps)
  good_optional a h = record { all = λ c. a.all c ⊕ h.all c; placed = λ c k. two (a.placed c) (h.placed c) k }

  pub good_rest : {n : Bytes} {ps : Params} → GoodParams ps → GoodParams (rest_param n ps)
  good_rest h = record { all = λ c. h.all c; placed = λ c k. h.placed c k }

  pub good_block : {n : Bytes} {ps : Params} → GoodParams ps → GoodParams (block_param n ps)
  good_block h = record { all = λ c. h.all c; placed = λ c k. h.placed c k }

  -- nodes of several parts
  module _ {o : SourcePosition} where
    pub good_joined : {ps : Pieces} → GoodPieces ps → GoodTree (at o (joined ps))
    good_joined h = record { all = λ c. h.all c; placed = λ c k. (refl, h.placed c k) }

    pub good_array : {ts : Trees} {ks : List ℕ} → GoodTrees ts → GoodTree (at o (array ts ks))
    good_array h = record { all = λ c. h.all c; placed = λ c k. (refl, h.placed c k) }

    pub good_hash : {ps : Pairs} → GoodPairs ps → GoodTree (at o (hash ps))
    good_hash h = record { all = λ c. h.all c; placed = λ c k. (refl, h.placed c k) }

    pub good_range : {a b : Tree} {e : Bool} → GoodTree a → GoodTree b → GoodTree (at o (range a b e))
    good_range a b = record { all = λ c. a.all c ⊕ b.all c; placed = λ c k. (refl, two (a.placed c) (b.placed c) k) }

    pub good_path : {v : Other} {b : Bool} {ns : List Bytes} → GoodOther v → GoodTree (at o (constant_path v b ns))
    good_path v = record { all = λ c. v.all c; placed = λ c k. (refl, v.placed c k) }

    pub good_assign : {v : Tree} {g : Goal} → Sits o → GoodTree v → GoodTree (at o (assign v g))
    good_assign s v = record { all = λ c. fault_sits _ s ⊕ v.all c; placed = λ c k. own o (v.placed c) k }

    pub good_assign_all : {vs : Trees} {gs : List Goal} → GoodTrees vs → GoodTree (at o (assign_all vs gs))
    good_assign_all v = record { all = λ c. v.all c; placed = λ c k. (refl, v.placed c k) }

    pub good_assign_attribute : {a v : Tree} {n : Bytes} → GoodTree a → GoodTree v → GoodTree (at o (assign_attribute a v n))
    good_assign_attribute a v = record { all = λ c. a.all c ⊕ v.all c; placed = λ c k. (refl, two (a.placed c) (v.placed c) k) }

    pub good_assign_index : {a i v : Tree} → GoodTree a → GoodTree i → GoodTree v → GoodTree (at o (assign_index a i v))
    good_assign_index a i v = record { all = λ c. a.all c ⊕ i.all c ⊕ v.all c; placed = λ c k. (refl, three (a.placed c) (i.placed c) (v.placed c) k) }

    pub good_operate_attribute : {a v : Tree} {n p m : Bytes} {l : ℕ} → GoodTree a → GoodTree v → GoodTree (at o (operate_attribute a n v p m l))
    good_operate_attribute a v = record { all = λ c. a.all c ⊕ v.all c; placed = λ c k. (refl, two (a.placed c) (v.placed c) k) }

    pub good_or_attribute : {a v : Tree} {n m : Bytes} → GoodTree a → GoodTree v → GoodTree (at o (or_attribute a n v m))
    good_or_attribute a v = record { all = λ c. a.all c ⊕ v.all c; placed = λ c k. (refl, two (a.placed c) (v.placed c) k) }

    pub good_and_attribute : {a v : Tree} {n m : Bytes} → GoodTree a → GoodTree v → GoodTree (at o (and_attribute a n v m))
    good_and_attribute a v = record { all = λ c. a.all c ⊕ v.all c; placed = λ c k. (refl, two (a.placed c) (v.placed c) k) }

    pub good_operate_index : {a i v : Tree} {p : Bytes} {l : ℕ} → GoodTree a → GoodTree i → GoodTree v → GoodTree (at o (operate_index a i v p l))
    good_operate_index a i v = record { all = λ c. a.all c ⊕ i.all c ⊕ v.all c; placed = λ c k. (refl, three (a.placed c) (i.placed c) (v.placed c) k) }

    pub good_or_index : {a i v : Tree} → GoodTree a → GoodTree i → GoodTree v → GoodTree (at o (or_index a i v))
    good_or_index a i v = record { all = λ c. a.all c ⊕ i.all c ⊕ v.all c; placed = λ c k. (refl, three (a.placed c) (i.placed c) (v.placed c) k) }

    pub good_and_index : {a i v : Tree} → GoodTree a → GoodTree i → GoodTree v → GoodTree (at o (and_index a i v))
    good_and_index a i v = record { all = λ c. a.all c ⊕ i.all c ⊕ v.all c; placed = λ c k. (refl, three (a.placed c) (i.placed c) (v.placed c) k) }

    pub good_send : {a v b : Other} {ts : Trees} {ks : List ℕ} {n : Bytes} {l : Bool} → GoodOther a → GoodTrees ts → GoodOther v → GoodOther b → GoodTree (at o (send a ts ks v n l b))
    good_send a ts v b = record { all = λ c. a.all c ⊕ ts.all c ⊕ v.all c ⊕ b.all (in_block c); placed = λ c k. (refl, four (a.placed c) (ts.placed c) (v.placed c) (b.placed (in_block c)) k) }

    pub good_safe_send : {a : Tree} {v b : Other} {ts : Trees} {ks : List ℕ} {n : Bytes} → GoodTree a → GoodTrees ts → GoodOther v → GoodOther b → GoodTree (at o (safe_send a ts ks v n b))
    good_safe_send a ts v b = record { all = λ c. a.all c ⊕ ts.all c ⊕ v.all c ⊕ b.all (in_block c); placed = λ c k. (refl, four (a.placed c) (ts.placed c) (v.placed c) (b.placed (in_block c)) k) }

    pub good_yield : {ts : Trees} {ks : List ℕ} → Sits o → GoodTrees ts → GoodTree (at o (yield ts ks))
    good_yield s ts = record { all = λ c. fault_sits _ s ⊕ ts.all c; placed = λ c k. own o (ts.placed c) k }

    pub good_super : {ts : Trees} {ks : List ℕ} {v b : Other} → Sits o → GoodTrees ts → GoodOther v → GoodOther b → GoodTree (at o (super ts ks v b))
    good_super s ts v b = record { all = λ c. fault_sits _ s ⊕ (ts.all c ⊕ v.all c ⊕ b.all (in_block c)); placed = λ c k. own o (three (ts.placed c) (v.placed c) (b.placed (in_block c))) k }

    pub good_bare_super : {b : Other} → Sits o → GoodOther b → GoodTree (at o (bare_super b))
    good_bare_super s b = record { all = λ c. fault_sits _ s ⊕ b.all (in_block c); placed = λ c k. own o (b.placed (in_block c)) k }

    pub good_statements : {ts : Trees} → GoodTrees ts → GoodTree (at o (statements ts))
    good_statements ts = record { all = λ c. ts.all c; placed = λ c k. (refl, ts.placed c k) }

    pub good_both : {a b : Tree} → GoodTree a → GoodTree b → GoodTree (at o (both a b))
    good_both a b = record { all = λ c. a.all c ⊕ b.all c; placed = λ c k. (refl, two (a.placed c) (b.placed c) k) }

    pub good_either : {a b : Tree} → GoodTree a → GoodTree b → GoodTree (at o (either a b))
    good_either a b = record { all = λ c. a.all c ⊕ b.all c; placed = λ c k. (refl, two (a.placed c) (b.placed c) k) }

    pub good_negated : {a : Tree} → GoodTree a → GoodTree (at o (negated a))
    good_negated a = record { all = λ c. a.all c; placed = λ c k. (refl, a.placed c k) }

    pub good_if : {t a : Tree} {b : Other} → GoodTree t → GoodTree a → GoodOther b → GoodTree (at o (if_else t a b))
    good_if t a b = record { all = λ c. t.all c ⊕ a.all c ⊕ b.all c; placed = λ c k. (refl, three (t.placed c) (a.placed c) (b.placed c) k) }

    pub good_while : {a t : Tree} {u f : Bool} → GoodTree a → GoodTree t → GoodTree (at o (while_loop a t u f))
    good_while a t = record { all = λ c. a.all (in_loop c) ⊕ t.all c; placed = λ c k. (refl, two (a.placed (in_loop c)) (t.placed c) k) }

    pub good_case : {a : Tree} {ws : Whens} {e : Other} → GoodTree a → GoodWhens ws → GoodOther e → GoodTree (at o (case_of a ws e))
    good_case a ws e = record { all = λ c. a.all c ⊕ ws.all c ⊕ e.all c; placed = λ c k. (refl, three (a.placed c) (ws.placed c) (e.placed c) k) }

    pub good_tests : {ws : Whens} {e : Other} → GoodWhens ws → GoodOther e → GoodTree (at o (case_tests ws e))
    good_tests ws e = record { all = λ c. ws.all c ⊕ e.all c; placed = λ c k. (refl, two (ws.placed c) (e.placed c) k) }

    pub good_return : {ts : Trees} → Sits o → GoodTrees ts → GoodTree (at o (return_with ts))
    good_return s ts = record { all = λ c. fault_sits _ s ⊕ ts.all c; placed = λ c k. own o (ts.placed c) k }

    pub good_break : {ts : Trees} → Sits o → GoodTrees ts → GoodTree (at o (break_with ts))
    good_break s ts = record { all = λ c. fault_sits _ s ⊕ ts.all c; placed = λ c k. own o (ts.placed c) k }

    pub good_next : {ts : Trees} → Sits o → GoodTrees ts → GoodTree (at o (next_with ts))
    good_next s ts = record { all = λ c. fault_sits _ s ⊕ ts.all c; placed = λ c k. own o (ts.placed c) k }

    pub good_retry : Sits o → GoodTree (at o retry)
    good_retry s = record { all = λ c. fault_sits _ s ⊕ nothing; placed = λ c k. own {xs = []} o (λ k. tt) k }

    -- the clauses are placed as what may begin the rescue again
    pub good_rescue : {p : SourcePosition} {a : Tree} {e : Other} {cs : Rescues} → GoodTree a → GoodOther e → GoodRescues cs → GoodTree (at o (rescue a e (at p (rescue_sequence cs))))
    good_rescue {cs = cs} a e s = record {
      all = λ c. a.all c ⊕ e.all c ⊕ s.all (in_clause c);
      placed = λ c h.
          let clauses : rescues_faults (in_clause c) cs ≡ [] → (false ≡ false) × ClausesPlaced (in_clause c) cs = λ k. (refl, s.placed (in_clause c) k) in
          (refl, three (a.placed c) (e.placed c) clauses h);
    }

    pub good_ensure : {a s : Tree} → GoodTree a → GoodTree s → GoodTree (at o (ensure a s))
    good_ensure a s = record { all = λ c. a.all c ⊕ s.all c; placed = λ c k. (refl, two (a.placed c) (s.placed c) k) }

    pub good_ensure_sequence : {a : Tree} → GoodTree a → GoodTree (at o (ensure_sequence a))
    good_ensure_sequence a = record { all = λ c. a.all (outside_clause c); placed = λ c k. (refl, a.placed (outside_clause c) k) }

    pub good_body : {ps : Params} {a : Tree} → Sits o → GoodParams ps → GoodTree a → GoodTree (at o (body ps a))
    good_body s ps a = record { all = λ c. fault_sits _ s ⊕ (ps.all c ⊕ a.all c); placed = λ c k. own o (two (ps.placed c) (a.placed c)) k }

    pub good_method : {p : SourcePosition} {ps : Params} {a : Tree} {n : Bytes} {b : Bool} → Sits p → GoodParams ps → GoodTree a → GoodTree (at o (method n (at p (body ps a)) b))
    good_method {p = p} {ps = ps} s h a = record {
      all = λ c. fault_sits _ s ⊕ (h.all (at_home (in_method (are_required ps))) ⊕ a.all (at_home (in_method (are_required ps))));
      placed = λ c k. (refl, own p (two (h.placed (at_home (in_method (are_required ps)))) (a.placed (at_home (in_method (are_required ps))))) k);
    }

    pub good_class : {s : Other} {n : Bytes} {a : Tree} → Sits o → GoodOther s → GoodTree a → GoodTree (at o (class s n a))
    good_class s v a = record { all = λ c. fault_sits _ s ⊕ (v.all c ⊕ a.all (at_home in_class)); placed = λ c k. own o (two (v.placed c) (a.placed (at_home in_class))) k }

    pub good_module : {n : Bytes} {a : Tree} → Sits o → GoodTree a → GoodTree (at o (module_named n a))
    good_module s a = record { all = λ c. fault_sits _ s ⊕ a.all (at_home in_class); placed = λ c k. own o (a.placed (at_home in_class)) k }

  -- what the grammar makes of its parts
  pub good_alone : (w : Toks) {t : Tree} → GoodTree t → GoodTree (alone w t)
  good_alone w a = good_statements (good_one a)

  pub good_empty : GoodTree (at nowhere (statements no_more))
  good_empty = good_statements good_none

  pub good_or_empty : {v : Other} → GoodOther v → GoodTree (or_empty v)
  good_or_empty {v = without} h = good_empty
  good_or_empty {v = with t} h = record { all = λ c. h.all c; placed = λ c k. h.placed c k }

  pub good_read : (o : SourcePosition) (g : Goal) → GoodTree (at o (read_form g))
  good_read o (to_local x) = quiet (λ c. refl) (λ c. (refl, tt))
  good_read o (to_instance x) = quiet (λ c. refl) (λ c. (refl, tt))
  good_read o (to_global x) = quiet (λ c. refl) (λ c. (refl, tt))
  good_read o (to_constant x) = quiet (λ c. refl) (λ c. (refl, tt))

  pub good_sent : {o : SourcePosition} {a : Tree} {m : Bytes} {ts : Trees} → GoodTree a → GoodTrees ts → GoodTree (sent o a m ts)
  good_sent a ts = good_send (good_with a) ts good_without good_without

  pub good_call : (k : Bool) (m : Bytes) {o : SourcePosition} {a : Tree} {g : Given} {b : Other} → GoodTree a → GoodGiven g → GoodOther b → GoodTree (at o (call_form k a g m b))
  good_call false m a g b = good_send (good_with a) g.trees g.value b
  good_call true m a g b = good_safe_send a g.trees g.value b

  bare_by : (b : Bool) (o : SourcePosition) (x : Bytes) → GoodTree (at o (if b then bare_raise else send without no_more [] without x true without))
  bare_by true o x = quiet (λ c. refl) (λ c. (refl, tt))
  bare_by false o x = quiet (λ c. refl) (λ c. (refl, (tt, (tt, (tt, tt)))))

  pub good_bare : (o : SourcePosition) (s : Scope) (x : Bytes) → GoodTree (at o (bare_form s x))
  good_bare o s x = bare_by (s.clause && same x (codes "raise")) o x

  pub good_longer : (w : Toks) (a : Tree) (x : Bytes) → GoodTree a → GoodTree (path_with w a x)
  good_longer w (at o (constant_path v b xs)) x h = record { all = λ c. h.all c; placed = λ c k. h.placed c k }
  good_longer w a x h = good_path (good_with h)

  pub good_symbol_block : (w : Toks) (m : Bytes) → GoodTree (symbol_block w m)
  good_symbol_block w m = quiet (λ c. refl) (λ c. (refl, (tt, (refl, ((refl, ((refl, tt), (tt, (tt, tt)))), tt)))))

  pub good_rescued : (w v : Toks) {a b : Tree} → GoodTree a → GoodTree b → GoodTree (rescued w v a b)
  good_rescued w v a b = good_rescue (good_alone w a) good_without (good_clause {x = None} good_none (good_alone (next v) b) good_no_clause)

  pub good_texts : (o : SourcePosition) (fs : List Bytes) → GoodTrees (texts_at o fs)
  good_texts o [] = good_none
  good_texts o (f ∷ fs) = good_more (quiet (λ c. refl) (λ c. (refl, tt))) (good_texts o fs)

  pub good_symbols : (o : SourcePosition) (fs : List Bytes) → GoodTrees (symbols_at o fs)
  good_symbols o [] = good_none
  good_symbols o (f ∷ fs) = good_more (quiet (λ c. refl) (λ c. (refl, tt))) (good_symbols o fs)

  -- a part of which that is known, and the tokens behind it
  pub record Got (G : Type 0) (r : Toks) : Type 0 where
    pub part : G
    pub rest : Lined r

  pub got : {G : Type 0} {r : Toks} → G → Lined r → Got G r
  got p e = record { part = p; rest = e }
