-- The environments outward of a sequence, as a list.
use Rattle.std.proofs.Common.{◌≡◌, ℕ, zero, suc, ◌<◌, List, [], ◌∷◌, length, Option, Some, None, true, false, IsTrue, refl, sym, ap, ◌∙◌, subst, arith}
use Rattle.std.specs.Prelude.{◌↔◌, slice_get, unwrap_or, option_map}
use Rattle.std.proofs.lemmas.Option.{same_Some}
use Rattle.iseq_types.specs.declared.sequences.IndexRow.{IndexRow}
use Rattle.iseq_types.specs.declared.sequences.SeqKind.{SeqKind}
use Rattle.iseq_types.specs.declared.sequences.SeqKind.TheVariants.{File, Method, Class, Block, Rescue, Ensure}
use Rattle.iseq_types.specs.Index.{Outward, own, stands_in, around, HasLocal, IsChild, has_environment, AreIndexRows, homes_by, homes_at, homes_within, homes_of}
use Rattle.iseq_types.specs.Sound.{locals_of}
use Rattle.iseq_types.proofs.Outward.{parent_below}

-- the list of a row, where the parent's lists agree
by_same : (kind : SeqKind) (id : ℕ) (a b : List ℕ) → ((kind ≡ File → ⊥) → a ≡ b) → homes_by kind id a ≡ homes_by kind id b
by_same File id a b same = refl
by_same Method id a b same = refl
by_same Class id a b same = refl
by_same Block id a b same = ap (λ homes. id ∷ homes) (same (λ e. cc e))
by_same Rescue id a b same = same (λ e. cc e)
by_same Ensure id a b same = same (λ e. cc e)

at_same : (rows : List IndexRow) (id : ℕ) (a b : ℕ → List ℕ) → ((row : IndexRow) → slice_get rows id ≡ Some row → (row.kind ≡ File → ⊥) → a row.parent ≡ b row.parent) → (found : Option IndexRow) → slice_get rows id ≡ found → homes_at found id a ≡ homes_at found id b
at_same rows id a b same None e = refl
at_same rows id a b same (Some row) e = by_same row.kind id (a row.parent) (b row.parent) (same row e)

-- any number of steps that is large enough gives the same
within_same : (rows : List IndexRow) → AreIndexRows rows → (n m id : ℕ) → id < n → id < m → homes_within n rows id ≡ homes_within m rows id
within_same rows index zero m id l k = absurd (omega (arith, l))
within_same rows index (suc n) zero id l k = absurd (omega (arith, k))
within_same rows index (suc n) (suc m) id l k =
    at_same rows id (homes_within n rows) (homes_within m rows) (λ row e other. let low = parent_below rows id row index e other in within_same rows index n m row.parent (omega (arith, low, l)) (omega (arith, low, k))) (slice_get rows id) refl

-- the list of a sequence, by its row
pub homes_step : (rows : List IndexRow) (id : ℕ) (row : IndexRow) → AreIndexRows rows → slice_get rows id ≡ Some row → homes_of rows id ≡ homes_by row.kind id (homes_of rows row.parent)
unfolding homes_of
homes_step rows id row index e =
    ap (λ found. homes_at found id (homes_within id rows)) e
    ∙ by_same row.kind id (homes_within id rows row.parent) (homes_within (suc row.parent) rows row.parent) (λ other. let low = parent_below rows id row index e other in within_same rows index id (suc row.parent) row.parent low (omega arith))

pub homes_child : (rows : List IndexRow) (parent id : ℕ) (kind : SeqKind) → AreIndexRows rows → IsChild rows parent kind id → homes_of rows id ≡ homes_by kind id (homes_of rows parent)
homes_child rows parent id kind index c =
    homes_step rows id c.0 index c.1 ∙ (ap (λ k. homes_by k id (homes_of rows c.0.parent)) c.2 ∙ ap (λ p. homes_by kind id (homes_of rows p)) c.3)

-- no row is behind the list
homes_none : (rows : List IndexRow) (id : ℕ) → slice_get rows id ≡ None → homes_of rows id ≡ []
unfolding homes_of
homes_none rows id e = ap (λ found. homes_at found id (homes_within id rows)) e

own_first : (kind : SeqKind) (id : ℕ) (others : List ℕ) → IsTrue (has_environment kind) → slice_get (homes_by kind id others) 0 ≡ Some id
own_first File id others e = refl
own_first Method id others e = refl
own_first Class id others e = refl
own_first Block id others e = refl
own_first Rescue id others e = absurd cc
own_first Ensure id others e = absurd cc

part_same : (kind : SeqKind) (id : ℕ) (others : List ℕ) → has_environment kind ≡ false → homes_by kind id others ≡ others
part_same File id others e = absurd cc
part_same Method id others e = absurd cc
part_same Class id others e = absurd cc
part_same Block id others e = absurd cc
part_same Rescue id others e = refl
part_same Ensure id others e = refl

pub home_at : (rows : List IndexRow) (id level home : ℕ) → AreIndexRows rows → Outward rows id level home → slice_get (homes_of rows id) level ≡ Some home
home_at rows _ _ _ index (own id row e env) =
    ap (λ homes. slice_get homes 0) (homes_step rows id row index e) ∙ own_first row.kind id (homes_of rows row.parent) env
home_at rows _ _ _ index (stands_in id row level home e no_env out) =
    ap (λ homes. slice_get homes level) (homes_step rows id row index e ∙ part_same row.kind id (homes_of rows row.parent) no_env) ∙ home_at rows row.parent level home index out
home_at rows _ _ _ index (around id row level home e block out) =
    ap (λ homes. slice_get homes (suc level)) (homes_step rows id row index e ∙ ap (λ kind. homes_by kind id (homes_of rows row.parent)) block) ∙ home_at rows row.parent level home index out

own_at : (rows : List IndexRow) (id home : ℕ) (row : IndexRow) → slice_get rows id ≡ Some row → has_environment row.kind ≡ true → Some id ≡ Some home → Outward rows id 0 home
own_at rows id home row e env at = subst (λ n. Outward rows id 0 n) (same_Some id home at) (own id row e env)

-- the environment at a level of a row's list, where those of the parent's are outward of the parent
outward_by : (rows : List IndexRow) (id level home : ℕ) (row : IndexRow) (others : List ℕ) → slice_get rows id ≡ Some row → (kind : SeqKind) → row.kind ≡ kind → ((kind ≡ File → ⊥) → (inner : ℕ) → slice_get others inner ≡ Some home → Outward rows row.parent inner home) → slice_get (homes_by kind id others) level ≡ Some home → Outward rows id level home
outward_by rows id level home row others e Rescue is outer at = stands_in id row level home e (ap has_environment is) (outer (λ k. cc k) level at)
outward_by rows id level home row others e Ensure is outer at = stands_in id row level home e (ap has_environment is) (outer (λ k. cc k) level at)
outward_by rows id (suc level) home row others e Block is outer at = around id row level home e is (outer (λ k. cc k) level at)
outward_by rows id zero home row others e Block is outer at = own_at rows id home row e (ap has_environment is) at
outward_by rows id zero home row others e File is outer at = own_at rows id home row e (ap has_environment is) at
outward_by rows id zero home row others e Method is outer at = own_at rows id home row e (ap has_environment is) at
outward_by rows id zero home row others e Class is outer at = own_at rows id home row e (ap has_environment is) at
outward_by rows id (suc level) home row others e File is outer at = absurd (cc at)
outward_by rows id (suc level) home row others e Method is outer at = absurd (cc at)
outward_by rows id (suc level) home row others e Class is outer at = absurd (cc at)

none_at : (level home : ℕ) → slice_get [] level ≡ Some home → ⊥
none_at level home h = cc h

out_by_row : (rows : List IndexRow) → AreIndexRows rows → (id level home : ℕ) → ((row : IndexRow) → slice_get rows id ≡ Some row → (row.kind ≡ File → ⊥) → (inner : ℕ) → slice_get (homes_of rows row.parent) inner ≡ Some home → Outward rows row.parent inner home) → (found : Option IndexRow) → slice_get rows id ≡ found → slice_get (homes_of rows id) level ≡ Some home → Outward rows id level home
out_by_row rows index id level home outer None e at =
    absurd (none_at level home (sym (ap (λ homes. slice_get homes level) (homes_none rows id e)) ∙ at))
out_by_row rows index id level home outer (Some row) e at =
    outward_by rows id level home row (homes_of rows row.parent) e row.kind refl (outer row e) (sym (ap (λ homes. slice_get homes level) (homes_step rows id row index e)) ∙ at)

out_at : (rows : List IndexRow) → AreIndexRows rows → (n id level home : ℕ) → id < n → slice_get (homes_of rows id) level ≡ Some home → Outward rows id level home
out_at rows index zero id level home l at = absurd (omega (arith, l))
out_at rows index (suc n) id level home l at =
    out_by_row rows index id level home (λ row e other inner in'. let low = parent_below rows id row index e other in out_at rows index n row.parent inner home (omega (arith, low, l)) in') (slice_get rows id) refl at

pub outward_list : (rows : List IndexRow) (id level home : ℕ) → AreIndexRows rows → Outward rows id level home ↔ (slice_get (homes_of rows id) level ≡ Some home)
outward_list rows id level home index = (home_at rows id level home index, out_at rows index (suc id) id level home (omega arith))

pub locals_read : (rows : List IndexRow) (home : ℕ) (row : IndexRow) → slice_get rows home ≡ Some row → locals_of rows home ≡ row.locals
locals_read rows home row e = ap (λ found. unwrap_or (option_map (λ (row : IndexRow). row.locals) found) 0) e

pub local_list : (rows : List IndexRow) (id slot level : ℕ) → AreIndexRows rows → HasLocal rows id slot level ↔ ((home : ℕ) × (slice_get (homes_of rows id) level ≡ Some home) × (slot < locals_of rows home))
local_list rows id slot level index = (
  λ l. (l.0, home_at rows id level l.0 index l.2, let e = locals_read rows l.0 l.1 l.3 in omega (arith, e, l.4)),
  λ h. by_row h (slice_get rows h.0) refl,
)
  where
    by_row : (h : (home : ℕ) × (slice_get (homes_of rows id) level ≡ Some home) × (slot < locals_of rows home)) → (found : Option IndexRow) → slice_get rows h.0 ≡ found → HasLocal rows id slot level
    by_row h None e = absurd (let none = ap (λ found. unwrap_or (option_map (λ (row : IndexRow). row.locals) found) 0) e in omega (arith, none, h.2))
    by_row h (Some row) e = (h.0, row, out_at rows index (suc id) id level h.0 (omega arith) h.1, e, let n = locals_read rows h.0 row e in omega (arith, n, h.2))

pub homes_file : (rows : List IndexRow) → AreIndexRows rows → homes_of rows 0 ≡ 0 ∷ []
homes_file rows index = by_row (slice_get rows 0) refl
  where
    by_row : (found : Option IndexRow) → slice_get rows 0 ≡ found → homes_of rows 0 ≡ 0 ∷ []
    by_row None e = absurd (no_first rows index.some e)
      where
        no_first : (rows : List IndexRow) → 0 < length rows → slice_get rows 0 ≡ None → ⊥
        no_first [] l e = omega (arith, l)
        no_first (row ∷ rows) l e = cc e
    by_row (Some row) e = homes_step rows 0 row index e ∙ ap (λ kind. homes_by kind 0 (homes_of rows row.parent)) ((index.each 0 row e).file.1 refl)
