-- Sets of texts.
use Rattle.std.proofs.Common.{◌≡◌, ℕ, ◌+◌, ◌<◌, Bool, true, false, cond, ◌||◌, List, [], ◌∷◌, ◌++◌, length, take, get_or, refl, sym, ap, ◌∙◌}
use Rattle.std.specs.List.{list_any}
use Rattle.std.specs.Ordering.{nat_cmp, eq_by_cmp}
use Rattle.std.specs.Cmp.{eq_by_cmp_equiv}
use Rattle.std.specs.Cmp.Lexicographic.{slice_cmp, nat_list_cmp_total, texts_ties}
use Rattle.std.specs.FinSet.{contains, insert, from_list, from_list_push, contains-insert, contains-from_list, same_set, slice_cmp-IsAntisymmetric, nat_cmp-IsAntisymmetric}
use Rattle.std.proofs.lemmas.List.{take_more}
use Rattle.bs_outside.specs.Paths.{same_bytes}

or_is_cond : (a b : Bool) → cond a true b ≡ (a || b)
or_is_cond true b = refl
or_is_cond false b = refl

-- one text more among the keys is one more in the set
pub set_more : (keys next : List (List ℕ)) (texts : List (List ℕ)) (i : ℕ) (text key : List ℕ) → i < length texts → text ≡ get_or texts i text → key ≡ text
    → ((q : List ℕ) → list_any (eq_by_cmp (slice_cmp nat_cmp) q) next ≡ cond (eq_by_cmp (slice_cmp nat_cmp) key q) true (list_any (eq_by_cmp (slice_cmp nat_cmp) q) keys))
    → from_list {R = slice_cmp nat_cmp} keys ≡ from_list (take i texts) → from_list {R = slice_cmp nat_cmp} next ≡ from_list (take (i + 1) texts)
set_more keys next texts i text key lt is same updates before =
    let more : from_list {R = slice_cmp nat_cmp} (take (i + 1) texts) ≡ insert (from_list (take i texts)) text =
    ap from_list (take_more texts i text lt ∙ ap (λ t. take i texts ++ t ∷ []) (sym is)) ∙ from_list_push nat_list_cmp_total (slice_cmp-IsAntisymmetric nat_cmp-IsAntisymmetric) (take i texts) text in
    let put : from_list {R = slice_cmp nat_cmp} next ≡ insert (from_list keys) text =
    same_set nat_list_cmp_total (slice_cmp-IsAntisymmetric nat_cmp-IsAntisymmetric) _ _ (λ q.
    contains-from_list nat_list_cmp_total next q ∙ updates q ∙ ap (λ k. cond (eq_by_cmp (slice_cmp nat_cmp) k q) true (list_any (eq_by_cmp (slice_cmp nat_cmp) q) keys)) same ∙ or_is_cond (eq_by_cmp (slice_cmp nat_cmp) text q) _
    ∙ ap (λ b. b || list_any (eq_by_cmp (slice_cmp nat_cmp) q) keys) ((eq_by_cmp_equiv nat_list_cmp_total).symm text q)
    ∙ sym (contains-insert nat_list_cmp_total (from_list keys) text q ∙ ap (λ b. eq_by_cmp (slice_cmp nat_cmp) q text || b) (contains-from_list nat_list_cmp_total keys q))) in
    put ∙ ap (λ s. insert s text) before ∙ sym more

any_ties : (texts : List (List ℕ)) (q : List ℕ) → list_any (eq_by_cmp (slice_cmp nat_cmp) q) texts ≡ list_any (same_bytes q) texts
any_ties [] q = refl
any_ties (t ∷ ts) q = ap (λ b. b || list_any (eq_by_cmp (slice_cmp nat_cmp) q) ts) (sym (texts_ties q t)) ∙ ap (λ b. same_bytes q t || b) (any_ties ts q)

-- the set of a list has what the list has
pub contains_any : (texts : List (List ℕ)) (q : List ℕ) → contains (from_list {R = slice_cmp nat_cmp} texts) q ≡ list_any (same_bytes q) texts
contains_any texts q = contains-from_list nat_list_cmp_total texts q ∙ any_ties texts q

pub contains_key : (keys : List (List ℕ)) (q : List ℕ) → contains (from_list {R = slice_cmp nat_cmp} keys) q ≡ list_any (eq_by_cmp (slice_cmp nat_cmp) q) keys
contains_key keys q = contains-from_list nat_list_cmp_total keys q
