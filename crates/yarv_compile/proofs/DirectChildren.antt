-- The sequences of a tree are those that stand directly in it, and those within these.
use Rattle.std.proofs.Common.{◌≡◌, refl, sym, ap, ap₂, ◌∙◌, subst, List, [], ◌∷◌, ◌++◌}
use Rattle.std.specs.Prelude.{IsPermutation}
use Rattle.std.proofs.lemmas.List.{append_assoc, append-nil}
use Rattle.std.proofs.lemmas.List.Sorted.{IsPermutation-refl, IsPermutation-cons}
use Rattle.ruby_tree.specs.Tree.{Tree, at, Form, nil_value, true_value, false_value, integer, symbol, text, self_value, file_name, folder_name, line_number, local, instance, global, joined, array, hash, range, constant_path, assign, assign_all, assign_attribute, assign_index, operate_attribute, or_attribute, and_attribute, operate_index, or_index, and_index, send, safe_send, yield, super, bare_super, bare_raise, statements, both, either, negated, if_else, while_loop, case_of, case_tests, return_with, break_with, next_with, retry, rescue, ensure, rescue_sequence, ensure_sequence, method, class, module_named, body, Trees, no_more, more, Other, without, with, Pairs, no_pair, pair, Pieces, no_piece, plain_piece, code_piece, Whens, no_when, when, Rescues, no_clause, clause, Params, no_param, required, optional, rest_param, block_param}
use Rattle.iseq_types.specs.declared.sequences.SeqKind.TheVariants as kinds
use Rattle.compile_table.specs.Shapes.{Where, looped}
use Rattle.compile_table.specs.Sequences.{Compiled, sequences, form_sequences, block_sequences, trees_sequences, other_sequences, pairs_sequences, pieces_sequences, whens_sequences, clauses_sequences, params_sequences}
use Rattle.code_emitter.specs.Children.{Child, child, direct, form_direct, block_direct, trees_direct, other_direct, pairs_direct, pieces_direct, whens_direct, patterns_direct, clauses_direct, classes_direct, params_direct}
use Rattle.yarv_compile.specs.Children.{inner_of, compiled_child, under, all_under}
use Rattle.yarv_compile.proofs.Reordered.{◌▸◌, of_same, joined as beside, turned, mixed, parted}

all_under_both : (l : Where) (cs ds : List Child) → all_under l (cs ++ ds) ≡ all_under l cs ++ all_under l ds
all_under_both l [] ds = refl
all_under_both l (c ∷ cs) ds = ap (λ es. under l c ++ es) (all_under_both l cs ds) ∙ sym (append_assoc (under l c) (all_under l cs) (all_under l ds))

-- these children, and those within them, are these sequences
record Make (l : Where) (cs : List Child) (es : List Compiled) : Type 0 where
  same : IsPermutation (all_under l cs) es

none : {l : Where} → Make l [] []
none = record { same = IsPermutation-refl [] }

-- one part behind another
infixr 10 ◌⊕◌
◌⊕◌ : {l : Where} {cs ds : List Child} {es fs : List Compiled} → Make l cs es → Make l ds fs → Make l (cs ++ ds) (es ++ fs)
◌⊕◌ {l} {cs} {ds} a b = record { same = of_same (all_under_both l cs ds) ▸ beside a.same b.same }

-- The children of the second part stand before those of the first.
two : {l : Where} {cs ds : List Child} {es fs : List Compiled} → Make l cs es → Make l ds fs → Make l (ds ++ cs) (es ++ fs)
two {l} {cs} {ds} a b = record { same = of_same (all_under_both l ds cs) ▸ turned a.same b.same }

again : {l : Where} {cs ds : List Child} {es : List Compiled} → cs ≡ ds → Make l cs es → Make l ds es
again {l} {es = es} e a = subst (λ xs. Make l xs es) e a

three : {l : Where} {vs bs cs : List Child} {es fs gs : List Compiled} → Make l vs es → Make l bs fs → Make l cs gs → Make l (cs ++ (bs ++ vs)) (es ++ (fs ++ gs))
three {l} {vs} {bs} {cs} a b c = again (append_assoc cs bs vs) (two a (two b c))

four : {l : Where} {vs bs cs ds : List Child} {es fs gs hs : List Compiled} → Make l vs es → Make l bs fs → Make l cs gs → Make l ds hs → Make l (ds ++ (cs ++ (bs ++ vs))) (es ++ (fs ++ (gs ++ hs)))
four {l} {vs} {bs} {cs} {ds} a b c d = again (append_assoc ds cs (bs ++ vs)) (again (append_assoc (ds ++ cs) bs vs) (two a (two b (two c d))))

-- a child alone
alone : (l : Where) (c : Child) → Make l (c ∷ []) (under l c)
alone l c = record { same = of_same (append-nil (under l c)) }

-- in a loop the same children, for which it has been noted
same_looped : (l : Where) (cs : List Child) → all_under (looped l) cs ≡ all_under l cs
same_looped l [] = refl
same_looped l (c ∷ cs) = ap (λ es. under l c ++ es) (same_looped l cs)

of_loop : {l : Where} {cs : List Child} {es : List Compiled} → Make (looped l) cs es → Make l cs es
of_loop {l} {cs} {es} a = record { same = subst (λ xs. IsPermutation xs es) (same_looped l cs) a.same }

-- bodies, whose tests stand behind all of them
one_more : {l : Where} (ws ts ps ss : List Child) {es fs gs : List Compiled} → Make l ss es → Make l ts fs → Make l (ws ++ ps) gs → Make l ((ws ++ ts) ++ (ps ++ ss)) (es ++ (fs ++ gs))
one_more {l} ws ts ps ss s t w = record {
  same = let W = all_under l ws in let T = all_under l ts in let P = all_under l ps in let S = all_under l ss in
      of_same (all_under_both l (ws ++ ts) (ps ++ ss) ∙ ap₂ (λ (xs ys : List Compiled). xs ++ ys) (all_under_both l ws ts) (all_under_both l ps ss))
      ▸ (mixed W T P S ▸ beside s.same (beside t.same (of_same (sym (all_under_both l ws ps)) ▸ w.same)));
}

-- bodies, the part behind `else`, the tests and the value
cases : {l : Where} (ws os ps vs : List Child) {es fs gs : List Compiled} → Make l vs es → Make l (ws ++ ps) fs → Make l os gs → Make l (ws ++ (os ++ (ps ++ vs))) (es ++ (fs ++ gs))
cases {l} ws os ps vs a w o = record {
  same = let W = all_under l ws in let O = all_under l os in let P = all_under l ps in let A = all_under l vs in
      of_same (all_under_both l ws (os ++ (ps ++ vs)) ∙ ap (λ xs. W ++ xs) (all_under_both l os (ps ++ vs) ∙ ap (λ xs. O ++ xs) (all_under_both l ps vs)))
      ▸ (parted W O P A ▸ beside a.same (beside (of_same (sym (all_under_both l ws ps)) ▸ w.same) o.same));
}

-- without the value
tests : {l : Where} (ws os ps : List Child) {fs gs : List Compiled} → Make l (ws ++ ps) fs → Make l os gs → Make l (ws ++ (os ++ ps)) (fs ++ gs)
tests {l} ws os ps w o = again (ap (λ xs. ws ++ (os ++ xs)) (append-nil ps)) (cases ws os ps [] none w o)

mutual
  tree_makes : (l : Where) (t : Tree) → Make l (direct l.loop t) (sequences l t)
  tree_makes l (at s f) = form_makes l f

  form_makes : (l : Where) (f : Form) → Make l (form_direct l.loop f) (form_sequences l f)
  form_makes l nil_value = none
  form_makes l true_value = none
  form_makes l false_value = none
  form_makes l (integer i) = none
  form_makes l (symbol x) = none
  form_makes l (text x) = none
  form_makes l self_value = none
  form_makes l file_name = none
  form_makes l folder_name = none
  form_makes l line_number = none
  form_makes l (local x) = none
  form_makes l (instance x) = none
  form_makes l (global x) = none
  form_makes l (joined ps) = pieces_make l ps
  form_makes l (array ts ks) = trees_make l ts
  form_makes l (hash ps) = pairs_make l ps
  form_makes l (range a c e) = two (tree_makes l a) (tree_makes l c)
  form_makes l (constant_path o top xs) = other_makes l o
  form_makes l (assign t g) = tree_makes l t
  form_makes l (assign_all ts gs) = trees_make l ts
  form_makes l (assign_attribute a t m) = two (tree_makes l a) (tree_makes l t)
  form_makes l (assign_index a i t) = three (tree_makes l a) (tree_makes l i) (tree_makes l t)
  form_makes l (operate_attribute a x t f m n) = two (tree_makes l a) (tree_makes l t)
  form_makes l (or_attribute a x t m) = two (tree_makes l a) (tree_makes l t)
  form_makes l (and_attribute a x t m) = two (tree_makes l a) (tree_makes l t)
  form_makes l (operate_index a i t f n) = three (tree_makes l a) (tree_makes l i) (tree_makes l t)
  form_makes l (or_index a i t) = three (tree_makes l a) (tree_makes l i) (tree_makes l t)
  form_makes l (and_index a i t) = three (tree_makes l a) (tree_makes l i) (tree_makes l t)
  form_makes l (send o ts ks v x bare t) = four (other_makes l o) (trees_make l ts) (other_makes l v) (block_makes l t)
  form_makes l (safe_send a ts ks v x t) = four (tree_makes l a) (trees_make l ts) (other_makes l v) (block_makes l t)
  form_makes l (yield ts ks) = trees_make l ts
  form_makes l (super ts ks v t) = three (trees_make l ts) (other_makes l v) (block_makes l t)
  form_makes l (bare_super t) = block_makes l t
  form_makes l bare_raise = none
  form_makes l (statements ts) = trees_make l ts
  form_makes l (both a c) = two (tree_makes l a) (tree_makes l c)
  form_makes l (either a c) = two (tree_makes l a) (tree_makes l c)
  form_makes l (negated a) = tree_makes l a
  form_makes l (if_else c a o) = three (tree_makes l c) (tree_makes l a) (other_makes l o)
  form_makes l (while_loop a c u f) = two (of_loop (tree_makes (looped l) a)) (tree_makes l c)
  form_makes l (case_of a ws o) = cases (whens_direct l.loop ws) (other_direct l.loop o) (patterns_direct l.loop ws) (direct l.loop a) (tree_makes l a) (whens_make l ws) (other_makes l o)
  form_makes l (case_tests ws o) = tests (whens_direct l.loop ws) (other_direct l.loop o) (patterns_direct l.loop ws) (whens_make l ws) (other_makes l o)
  form_makes l (return_with ts) = trees_make l ts
  form_makes l (break_with ts) = trees_make l ts
  form_makes l (next_with ts) = trees_make l ts
  form_makes l retry = none
  form_makes l (rescue a o c) = again (append_assoc (other_direct l.loop o) (child kinds.Rescue [] l.loop c ∷ []) (direct l.loop a)) (two (tree_makes l a) (other_makes l o ⊕ alone l (child kinds.Rescue [] l.loop c)))
  form_makes l (ensure a c) = two (tree_makes l a) (alone l (child kinds.Ensure [] l.loop c))
  form_makes l (rescue_sequence cs) = clauses_make l cs
  form_makes l (ensure_sequence a) = tree_makes l a
  form_makes l (method x t f) = alone l (child kinds.Method x l.loop t)
  form_makes l (class o x t) = two (other_makes l o) (alone l (child kinds.Class x l.loop t))
  form_makes l (module_named x t) = alone l (child kinds.Class x l.loop t)
  form_makes l (body ps t) = two (params_make l ps) (tree_makes l t)

  block_makes : (l : Where) (o : Other) → Make l (block_direct l.loop o) (block_sequences l o)
  block_makes l without = none
  block_makes l (with t) = alone l (child kinds.Block [] l.loop t)

  trees_make : (l : Where) (ts : Trees) → Make l (trees_direct l.loop ts) (trees_sequences l ts)
  trees_make l no_more = none
  trees_make l (more t ts) = two (tree_makes l t) (trees_make l ts)

  other_makes : (l : Where) (o : Other) → Make l (other_direct l.loop o) (other_sequences l o)
  other_makes l without = none
  other_makes l (with t) = tree_makes l t

  pairs_make : (l : Where) (ps : Pairs) → Make l (pairs_direct l.loop ps) (pairs_sequences l ps)
  pairs_make l no_pair = none
  pairs_make l (pair t u ps) = three (tree_makes l t) (tree_makes l u) (pairs_make l ps)

  pieces_make : (l : Where) (ps : Pieces) → Make l (pieces_direct l.loop ps) (pieces_sequences l ps)
  pieces_make l no_piece = none
  pieces_make l (plain_piece x ps) = pieces_make l ps
  pieces_make l (code_piece t ps) = two (tree_makes l t) (pieces_make l ps)

  whens_make : (l : Where) (ws : Whens) → Make l (whens_direct l.loop ws ++ patterns_direct l.loop ws) (whens_sequences l ws)
  whens_make l no_when = none
  whens_make l (when ts t ws) = one_more (whens_direct l.loop ws) (direct l.loop t) (patterns_direct l.loop ws) (trees_direct l.loop ts) (trees_make l ts) (tree_makes l t) (whens_make l ws)

  clauses_make : (l : Where) (cs : Rescues) → Make l (clauses_direct l.loop cs ++ classes_direct l.loop cs) (clauses_sequences l cs)
  clauses_make l no_clause = none
  clauses_make l (clause ts x t cs) = one_more (clauses_direct l.loop cs) (direct l.loop t) (classes_direct l.loop cs) (trees_direct l.loop ts) (trees_make l ts) (tree_makes l t) (clauses_make l cs)

  params_make : (l : Where) (ps : Params) → Make l (params_direct l.loop ps) (params_sequences l ps)
  params_make l no_param = none
  params_make l (required x ps) = params_make l ps
  params_make l (optional x t ps) = two (tree_makes l t) (params_make l ps)
  params_make l (rest_param x ps) = params_make l ps
  params_make l (block_param x ps) = params_make l ps

pub children_are_sequences : (l : Where) (t : Tree) → IsPermutation (all_under l (direct l.loop t)) (sequences l t)
children_are_sequences l t = (tree_makes l t).same

pub child_is_under : (l : Where) (c : Child) → IsPermutation (compiled_child l c ∷ all_under (inner_of l c) (direct (inner_of l c).loop c.tree)) (under l c)
child_is_under l c =
    let inner = inner_of l c in
    IsPermutation-cons (compiled_child l c) (all_under inner (direct inner.loop c.tree)) (sequences inner c.tree) (children_are_sequences inner c.tree)
