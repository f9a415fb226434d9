-- The names that are gathered of a body: all that its tree sets, and up to any place none but those.
use Rattle.std.proofs.Common.{◌≡◌, ◌∙◌, ℕ, Bool, true, false, cond, nat_eq, nat_le, ◌||◌, List, [], ◌∷◌, ◌++◌, Option, Some, None, refl, sym, ap, arith}
use Rattle.std.specs.Prelude.{⊤}
use Rattle.std.proofs.lemmas.List.Folds.{list_any-append}
use Rattle.std.proofs.lemmas.Bool.{eq-eqb, eqb-true}
use Rattle.std.proofs.lemmas.Bool.Decides.{Decides-eqb}
use Rattle.std.proofs.lemmas.Slice.Eq.{slice_eq-Decides}
use Rattle.ruby_lexer.specs.Bytes.{Bytes, same, is_in}
use Rattle.ruby_tree.specs.Tree.{Goal, to_local, to_instance, to_global, to_constant, Tree, at, Form, nil_value, true_value, false_value, integer, symbol, text, self_value, file_name, folder_name, line_number, local, instance, global, joined, array, hash, range, constant_path, assign, assign_all, assign_attribute, assign_index, operate_attribute, or_attribute, and_attribute, operate_index, or_index, and_index, send, safe_send, yield, super, bare_super, bare_raise, statements, both, either, negated, if_else, while_loop, case_of, case_tests, return_with, break_with, next_with, retry, rescue, ensure, rescue_sequence, ensure_sequence, method, class, module_named, body, Trees, no_more, more, Other, without, with, Pairs, no_pair, pair, Pieces, no_piece, plain_piece, code_piece, Whens, no_when, when, Rescues, no_clause, clause, Params, no_param, required, optional, rest_param, block_param}
use Rattle.ruby_meaning.specs.Locals.{place_of, place_of_other, Gathered, so_far, reached, names_in, Gather, with_local, at_block, in_two, by_place, by_places, of_goal, of_goals, of_name, of_block, of_tree, of_form, of_trees, of_other, of_pairs, of_pieces, of_whens, of_clauses, of_params}
use Rattle.ruby_meaning.specs.Sequences.{places, form_places, trees_places, other_places, pairs_places, pieces_places, whens_places, clauses_places, params_places}
use Rattle.ruby_meaning.specs.Levels.{Sight, is_held, Held, GoalHeld, GoalsHeld, NameHeld}
use Rattle.tree_laws.proofs.Spots.{zero_false, on}
use Rattle.tree_laws.proofs.Known.{Absent, Shaped, FormShaped, TreesShaped, OtherShaped, BlockShaped, PairsShaped, PiecesShaped, WhensShaped, ClausesShaped, ParamsShaped, BlockKnown, Known, FormKnown, TreesKnown, OtherKnown, PairsKnown, PiecesKnown, WhensKnown, ClausesKnown, ParamsKnown}

pub same_is : (f g : Bytes) → same f g ≡ true → f ≡ g
same_is f g h = (slice_eq-Decides Decides-eqb f g (same f g) refl).0 h

pub itself : (f : Bytes) → same f f ≡ true
itself f = (slice_eq-Decides Decides-eqb f f (same f f) refl).1 refl

pub or_left : (a b : Bool) → a ≡ true → (a || b) ≡ true
or_left a b h = ap (λ x. x || b) h

pub or_right : (a b : Bool) → b ≡ true → (a || b) ≡ true
or_right true b h = refl
or_right false b h = h

-- one of the two holds
pub one_holds : {P : Type 0} (a b : Bool) → (a ≡ true → P) → (b ≡ true → P) → (a || b) ≡ true → P
one_holds true b l r h = l refl
one_holds false b l r h = r h

-- each of the names is held
abbrev pub NamesHeld : Sight → List Bytes → Type 0
NamesHeld c xs = (x : Bytes) → is_in x xs ≡ true → Held c x

pub held_same : (c : Sight) (x y : Bytes) → Held c x → same y x ≡ true → Held c y
held_same c x y h e = ap (λ z. is_held z c.scopes) (same_is y x e) ∙ h

pub held_both : (c : Sight) (xs ys : List Bytes) → NamesHeld c xs → NamesHeld c ys → NamesHeld c (xs ++ ys)
held_both c xs ys h i x e = one_holds (is_in x xs) (is_in x ys) (h x) (i x) (sym (list_any-append (same x) xs ys) ∙ e)

-- a name that is set
added : (x y : Bytes) (xs : List Bytes) (b : Bool) → is_in y xs ≡ true → is_in y (cond b xs (xs ++ x ∷ [])) ≡ true
added x y xs true e = e
added x y xs false e = list_any-append (same y) xs (x ∷ []) ∙ or_left (is_in y xs) (is_in y (x ∷ [])) e

there : (x : Bytes) (xs : List Bytes) (b : Bool) → is_in x xs ≡ b → is_in x (cond b xs (xs ++ x ∷ [])) ≡ true
there x xs true e = e
there x xs false e = list_any-append (same x) xs (x ∷ []) ∙ or_right (is_in x xs) (is_in x (x ∷ [])) (or_left (same x x) false (itself x))

set_held : (c : Sight) (x : Bytes) (xs : List Bytes) (b : Bool) → Held c x → NamesHeld c xs → NamesHeld c (cond b xs (xs ++ x ∷ []))
set_held c x xs true k h = h
set_held c x xs false k h = held_both c xs (x ∷ []) h (λ y e. one_holds (same y x) false (held_same c x y k) (λ i. absurd cc) e)

-- What is gathered by f behind the names xs, where no block is: the names ys, and all that is known.
pub record Run (c : Sight) (f : Gather) (K : Type 0) (xs : List Bytes) : Type 0 where
  pub names : List Bytes
  pub is : f (so_far xs) ≡ so_far names
  pub kept : (x : Bytes) → is_in x xs ≡ true → is_in x names ≡ true
  pub known : NamesHeld c names → K

-- The same for any names; and what g gathers up to another place is known, too.
pub record Part (c : Sight) (f g : Gather) (K : Type 0) : Type 0 where
  pub runs : (xs : List Bytes) → Run c f K xs
  pub within : K → (all : Gathered) → NamesHeld c (names_in all) → NamesHeld c (names_in (g all))

module _ {c : Sight} where
  none : Part c (λ all. all) (λ all. all) ⊤
  none = record { runs = λ xs. record { names = xs; is = refl; kept = λ x e. e; known = λ h. tt }; within = λ k all h. h }

  runs_on : {f i : Gather} {K L : Type 0} {xs : List Bytes} (a : Run c f K xs) → Run c i L a.names → Run c (in_two f i) (K × L) xs
  runs_on {i = i} a b = record { names = b.names; is = ap i a.is ∙ b.is; kept = λ x e. b.kept x (a.kept x e); known = λ h. (a.known (λ x e. h x (b.kept x e)), b.known h) }

  infixr 10 ◌⊕◌
  ◌⊕◌ : {f g i j : Gather} {K L : Type 0} → Part c f g K → Part c i j L → Part c (in_two f i) (in_two g j) (K × L)
  ◌⊕◌ {g = g} a b = record { runs = λ xs. let m = a.runs xs in runs_on m (b.runs m.names); within = λ k all h. b.within k.1 (g all) (a.within k.0 all h) }

  turned : {f g : Gather} {K L : Type 0} → (K → L) → (L → K) → Part c f g K → Part c f g L
  turned to from a =
      record { runs = λ xs. let m = a.runs xs in record { names = m.names; is = m.is; kept = m.kept; known = λ h. to (m.known h) }; within = λ k all h. a.within (from k) all h }

  chosen : {f g i j : Gather} {K : Type 0} (b : Bool) → Part c f g K → Part c i j K → Part c (cond b f i) (cond b g j) K
  chosen true a d = a
  chosen false a d = d

  two : {f g i j : Gather} {K L : Type 0} (p q : ℕ) → Part c f g K → Part c i j L → Part c (by_place p f q i) (by_place p g q j) (K × L)
  two p q a b = chosen (nat_le p q) (a ⊕ b) (turned (λ k. (k.1, k.0)) (λ k. (k.1, k.0)) (b ⊕ a))

  three : {f1 g1 f2 g2 f3 g3 : Gather} {K L M : Type 0} (p q r : ℕ) → Part c f1 g1 K → Part c f2 g2 L → Part c f3 g3 M → Part c (by_places p f1 q f2 r f3) (by_places p g1 q g2 r g3) (K × (L × M))
  three p q r a b d =
      chosen (nat_le p q) (chosen (nat_le q r) (a ⊕ (b ⊕ d)) (chosen (nat_le p r) (turned (λ k. (k.0, (k.1.1, k.1.0))) (λ k. (k.0, (k.1.1, k.1.0))) (a ⊕ (d ⊕ b))) (turned (λ k. (k.1.0, (k.1.1, k.0))) (λ k. (k.1.1, (k.0, k.1.0))) (d ⊕ (a ⊕ b)))))
      (chosen (nat_le p r) (turned (λ k. (k.1.0, (k.0, k.1.1))) (λ k. (k.1.0, (k.0, k.1.1))) (b ⊕ (a ⊕ d))) (chosen (nat_le q r) (turned (λ k. (k.1.1, (k.0, k.1.0))) (λ k. (k.1.0, (k.1.1, k.0))) (b ⊕ (d ⊕ a))) (turned (λ k. (k.1.1, (k.1.0, k.0))) (λ k. (k.1.1, (k.1.0, k.0))) (d ⊕ (b ⊕ a)))))

  name_part : (x : Bytes) → Part c (with_local x) (with_local x) (Held c x)
  name_part x = record { runs = runs; within = within }
    where
      runs : (xs : List Bytes) → Run c (with_local x) (Held c x) xs
      runs xs = record { names = cond (is_in x xs) xs (xs ++ x ∷ []); is = refl; kept = λ y e. added x y xs (is_in x xs) e; known = λ h. h x (there x xs (is_in x xs) refl) }

      within : Held c x → (all : Gathered) → NamesHeld c (names_in all) → NamesHeld c (names_in (with_local x all))
      within k (so_far xs) h = set_held c x xs (is_in x xs) k h
      within k (reached xs) h = h

  goal_part : (g : Goal) → Part c (of_goal g) (of_goal g) (GoalHeld c g)
  goal_part (to_local x) = name_part x
  goal_part (to_instance x) = none
  goal_part (to_global x) = none
  goal_part (to_constant x) = none

  goals_part : (gs : List Goal) → Part c (of_goals gs) (of_goals gs) (GoalsHeld c gs)
  goals_part [] = none
  goals_part (g ∷ gs) = goal_part g ⊕ goals_part gs

  optional_part : (x : Option Bytes) → Part c (of_name x) (of_name x) (NameHeld c x)
  optional_part None = none
  optional_part (Some x) = name_part x

turned_about : (p r : ℕ) (b : Bool) → nat_eq r p ≡ b → nat_eq p r ≡ false → b ≡ false
turned_about p r true e h = sym (eq-eqb p r (sym (eqb-true r p e))) ∙ h
turned_about p r false e h = refl

module _ (c : Sight) (top q : ℕ) where
  infixr 10 ◌⊗◌
  ◌⊗◌ : {xs ys : List ℕ} {f g i j : Gather} {K L : Type 0} → (Absent top xs → Part c f g K) → (Absent top ys → Part c i j L) → Absent top (xs ++ ys) → Part c (in_two f i) (in_two g j) (K × L)
  ◌⊗◌ {xs} {ys} a b h = a (record { holds = omega (arith, on top xs ys, h.holds) }) ⊕ b (record { holds = omega (arith, on top xs ys, h.holds) })

  first : {xs : List ℕ} (ys : List ℕ) → Absent top (xs ++ ys) → Absent top xs
  first {xs} ys h = record { holds = omega (arith, on top xs ys, h.holds) }

  rest : (xs : List ℕ) {ys : List ℕ} → Absent top (xs ++ ys) → Absent top ys
  rest xs {ys} h = record { holds = omega (arith, on top xs ys, h.holds) }

  block_runs : (b : Bool) → b ≡ false → {K : Type 0} → K → (xs : List Bytes) → Run c (at_block b) K xs
  block_runs true e k xs = absurd cc
  block_runs false e k xs = record { names = xs; is = refl; kept = λ x e. e; known = λ h. k }

  block_within : (b : Bool) (all : Gathered) → NamesHeld c (names_in all) → NamesHeld c (names_in (at_block b all))
  block_within true (so_far xs) h = h
  block_within true (reached xs) h = h
  block_within false (so_far xs) h = h
  block_within false (reached xs) h = h

  block_part : (b : Other) → BlockShaped b → Absent top (other_places b) → Part c (of_block top b) (of_block q b) (BlockKnown top b)
  block_part without s h = none
  block_part (with (at o (body ps a))) s h =
      record {
        runs = block_runs (nat_eq o.place top) (turned_about top o.place (nat_eq o.place top) refl (zero_false (nat_eq top o.place) (omega (arith, h.holds)))) h;
        within = λ k. block_within (nat_eq o.place q);
      }
  block_part (with (at o f)) s h = absurd cc

  mutual
    pub tree_part : (t : Tree) → Shaped t → Absent top (places t) → Part c (of_tree top t) (of_tree q t) (Known top c t)
    tree_part (at s f) l h = form_part s.place f l h

    form_part : (p : ℕ) (f : Form) → FormShaped f → Absent top (form_places p f) → Part c (of_form top f) (of_form q f) (FormKnown top c f)
    form_part p nil_value l h = none
    form_part p true_value l h = none
    form_part p false_value l h = none
    form_part p (integer i) l h = none
    form_part p (symbol x) l h = none
    form_part p (text x) l h = none
    form_part p self_value l h = none
    form_part p file_name l h = none
    form_part p folder_name l h = none
    form_part p line_number l h = none
    form_part p (local x) l h = none
    form_part p (instance x) l h = none
    form_part p (global x) l h = none
    form_part p (joined ps) l h = pieces_part ps l h
    form_part p (array ts ks) l h = trees_part ts l h
    form_part p (hash ps) l h = pairs_part ps l h
    form_part p (range a b e) l h = (tree_part a l.0 ⊗ tree_part b l.1) h
    form_part p (constant_path v b ns) l h = other_part v l h
    form_part p (assign v g) l h = goal_part g ⊕ tree_part v l.1 h
    form_part p (assign_all vs gs) l h = goals_part gs ⊕ trees_part vs l.1 h
    form_part p (assign_attribute a v n) l h = (tree_part a l.0 ⊗ tree_part v l.1) h
    form_part p (assign_index a i v) l h = (tree_part a l.0 ⊗ (tree_part i l.1.0 ⊗ tree_part v l.1.1)) h
    form_part p (operate_attribute a n v o m e) l h = (tree_part a l.0 ⊗ tree_part v l.1) h
    form_part p (or_attribute a n v m) l h = (tree_part a l.0 ⊗ tree_part v l.1) h
    form_part p (and_attribute a n v m) l h = (tree_part a l.0 ⊗ tree_part v l.1) h
    form_part p (operate_index a i v o e) l h = (tree_part a l.0 ⊗ (tree_part i l.1.0 ⊗ tree_part v l.1.1)) h
    form_part p (or_index a i v) l h = (tree_part a l.0 ⊗ (tree_part i l.1.0 ⊗ tree_part v l.1.1)) h
    form_part p (and_index a i v) l h = (tree_part a l.0 ⊗ (tree_part i l.1.0 ⊗ tree_part v l.1.1)) h
    form_part p (send a ts ks v n alone b) l h = (other_part a l.0 ⊗ (trees_part ts l.1.0 ⊗ (other_part v l.1.1.0 ⊗ block_part b l.1.1.1))) h
    form_part p (safe_send a ts ks v n b) l h = (tree_part a l.0 ⊗ (trees_part ts l.1.0 ⊗ (other_part v l.1.1.0 ⊗ block_part b l.1.1.1))) h
    form_part p (yield ts ks) l h = trees_part ts l h
    form_part p (super ts ks v b) l h = (trees_part ts l.0 ⊗ (other_part v l.1.0 ⊗ block_part b l.1.1)) h
    form_part p (bare_super b) l h = block_part b l h
    form_part p bare_raise l h = none
    form_part p (statements ts) l h = trees_part ts l h
    form_part p (both a b) l h = (tree_part a l.0 ⊗ tree_part b l.1) h
    form_part p (either a b) l h = (tree_part a l.0 ⊗ tree_part b l.1) h
    form_part p (negated a) l h = tree_part a l h
    form_part p (if_else t a b) l h =
        let others = places a ++ other_places b in let i = rest (places t) h in
        three (place_of t) (place_of a) (place_of_other b) (tree_part t l.0 (first others h)) (tree_part a l.1.0 (first (other_places b) i)) (other_part b l.1.1 (rest (places a) i))
    form_part p (while_loop a t u e) l h = two (place_of a) (place_of t) (tree_part a l.0 (first (places t) h)) (tree_part t l.1 (rest (places a) h))
    form_part p (case_of a ws e) l h = (tree_part a l.0 ⊗ (whens_part ws l.1.0 ⊗ other_part e l.1.1)) h
    form_part p (case_tests ws e) l h = (whens_part ws l.0 ⊗ other_part e l.1) h
    form_part p (return_with ts) l h = trees_part ts l h
    form_part p (break_with ts) l h = trees_part ts l h
    form_part p (next_with ts) l h = trees_part ts l h
    form_part p retry l h = none
    form_part p (rescue a e t) l h =
        let others = other_places e ++ places t in let i = rest (places a) h in
        turned (λ k. (k.0, (k.1.1, k.1.0))) (λ k. (k.0, (k.1.1, k.1.0)))
        (three (place_of a) (place_of t) (place_of_other e) (tree_part a l.0 (first others h)) (tree_part t l.1.1 (rest (other_places e) i)) (other_part e l.1.0 (first (places t) i)))
    form_part p (ensure a t) l h = (tree_part a l.0 ⊗ tree_part t l.1) h
    form_part p (rescue_sequence cs) l h = clauses_part cs l (rest (p ∷ []) h)
    form_part p (ensure_sequence a) l h = tree_part a l (rest (p ∷ []) h)
    form_part p (method n a s) l h = turned (λ k. h) (λ k. tt) none
    form_part p (class v n a) l h = turned (λ k. (k, rest (other_places v) h)) (λ k. k.0) (other_part v l.0 (first (places a) h))
    form_part p (module_named n a) l h = turned (λ k. h) (λ k. tt) none
    form_part p (body ps a) l h = (params_part ps l.0 ⊗ tree_part a l.1) (rest (p ∷ []) h)

    trees_part : (ts : Trees) → TreesShaped ts → Absent top (trees_places ts) → Part c (of_trees top ts) (of_trees q ts) (TreesKnown top c ts)
    trees_part no_more l h = none
    trees_part (more t ts) l h = (tree_part t l.0 ⊗ trees_part ts l.1) h

    other_part : (b : Other) → OtherShaped b → Absent top (other_places b) → Part c (of_other top b) (of_other q b) (OtherKnown top c b)
    other_part without l h = none
    other_part (with t) l h = tree_part t l h

    pairs_part : (ps : Pairs) → PairsShaped ps → Absent top (pairs_places ps) → Part c (of_pairs top ps) (of_pairs q ps) (PairsKnown top c ps)
    pairs_part no_pair l h = none
    pairs_part (pair k v ps) l h = (tree_part k l.0 ⊗ (tree_part v l.1.0 ⊗ pairs_part ps l.1.1)) h

    pieces_part : (ps : Pieces) → PiecesShaped ps → Absent top (pieces_places ps) → Part c (of_pieces top ps) (of_pieces q ps) (PiecesKnown top c ps)
    pieces_part no_piece l h = none
    pieces_part (plain_piece x ps) l h = pieces_part ps l h
    pieces_part (code_piece t ps) l h = (tree_part t l.0 ⊗ pieces_part ps l.1) h

    whens_part : (ws : Whens) → WhensShaped ws → Absent top (whens_places ws) → Part c (of_whens top ws) (of_whens q ws) (WhensKnown top c ws)
    whens_part no_when l h = none
    whens_part (when ts t ws) l h = (trees_part ts l.0 ⊗ (tree_part t l.1.0 ⊗ whens_part ws l.1.1)) h

    clauses_part : (cs : Rescues) → ClausesShaped cs → Absent top (clauses_places cs) → Part c (of_clauses top cs) (of_clauses q cs) (ClausesKnown top c cs)
    clauses_part no_clause l h = none
    clauses_part (clause ts x t cs) l h = (trees_part ts l.0 ⊗ (λ i. optional_part x ⊕ (tree_part t l.1.1.0 ⊗ clauses_part cs l.1.1.1) i)) h

    params_part : (ps : Params) → ParamsShaped ps → Absent top (params_places ps) → Part c (of_params top ps) (of_params q ps) (ParamsKnown top c ps)
    params_part no_param l h = none
    params_part (required x ps) l h = name_part x ⊕ params_part ps l.1 h
    params_part (optional x t ps) l h = name_part x ⊕ (tree_part t l.1.0 ⊗ params_part ps l.1.1) h
    params_part (rest_param x ps) l h = name_part x ⊕ params_part ps l.1 h
    params_part (block_param x ps) l h = name_part x ⊕ params_part ps l.1 h
