-- The list of the environments that sequences run in: one more, and the way outward.
use Rattle.std.proofs.Common.{◌≡◌, ℕ, zero, suc, ◌+◌, ◌-◌, ◌<◌, ◌≤◌, List, [], ◌∷◌, ◌++◌, length, get_or, drop, Some, refl, sym, ap, ◌∙◌, subst, arith, ⊎_elim}
use Rattle.std.specs.Prelude.{◌⊎◌, ◌↔◌, IsTrue, nat_lt, slice_get}
use Rattle.std.proofs.lemmas.List.{length-drop, drop-drop, get_or_append_left, get_or_push, length_push}
use Rattle.std.proofs.lemmas.Bool.{cases_lt, lt-ltb, ltb-true}
use Rattle.std.proofs.lemmas.Option.{same_Some, slice_get_within, slice_get-get_or, get_or_from_slice_get}
use Rattle.iseq_types.specs.declared.environments.Home.{Home}
use Rattle.iseq_types.specs.declared.sequences.IndexRow.{IndexRow}
use Rattle.iseq_types.specs.declared.sequences.SeqKind.{SeqKind}
use Rattle.iseq_types.specs.declared.sequences.SeqKind.TheVariants.{File, Method, Class, Block, Rescue, Ensure}
use Rattle.iseq_types.specs.Homes.{AreFirstHomes, IsHome, IsOnWay}
use Rattle.iseq_types.specs.Index.{AreIndexRows, HasLocal, homes_by, homes_of}
use Rattle.iseq_types.specs.Sound.{locals_of}
use Rattle.iseq_types.proofs.Homes.{homes_step, local_list, locals_read}

-- where a jump leads, no more environments lie around
pub jump_less : (rows : List IndexRow) (id : ℕ) (home other : Home) → IsHome rows id home → IsHome rows home.jump other → (other.around ≤ home.around) × (0 < home.around → other.around < home.around)
jump_less rows id home other h o =
    let e : length (homes_of rows home.jump) ≡ length (homes_of rows id) - h.far.0 = ap length h.far.1 ∙ length-drop h.far.0 (homes_of rows id) in
    (omega (arith, e, h.long, o.long), λ some. let more = h.far.2 some in omega (arith, e, h.long, o.long, more))

-- ---- the environment of one sequence more

pub root_home : (rows : List IndexRow) (id : ℕ) (row : IndexRow) → AreIndexRows rows → slice_get rows id ≡ Some row → (row.kind ≡ File) ⊎ ((row.kind ≡ Method) ⊎ (row.kind ≡ Class)) → IsHome rows id (record { of = id; around = 0; outer = id; jump = id })
root_home rows id row index e kind =
    let others = homes_of rows row.parent in
    let step : homes_of rows id ≡ homes_by row.kind id others = homes_step rows id row index e in
    let by : SeqKind → List ℕ = λ k. homes_by k id others in
    let alone : homes_of rows id ≡ id ∷ [] = step ∙ ⊎_elim (λ is. ap by is) (λ k. ⊎_elim (λ is. ap by is) (λ is. ap by is) k) kind in
    record {
      first = ap (λ (homes : List ℕ). slice_get homes 0) alone;
      long = ap length alone;
      within = omega arith;
      small = omega arith;
      outer = omega arith;
      next = λ l. absurd (omega (arith, l));
      jump = omega arith;
      far = (0, refl, λ l. absurd (omega (arith, l)));
    }

pub part_home : (rows : List IndexRow) (id : ℕ) (row : IndexRow) (home : Home) → AreIndexRows rows → slice_get rows id ≡ Some row → (row.kind ≡ Rescue) ⊎ (row.kind ≡ Ensure) → row.parent < id → IsHome rows row.parent home → IsHome rows id home
part_home rows id row home index e kind low h =
    let others = homes_of rows row.parent in
    let by : SeqKind → List ℕ = λ k. homes_by k id others in
    let same : homes_of rows id ≡ others = homes_step rows id row index e ∙ ⊎_elim (λ is. ap by is) (λ is. ap by is) kind in
    record {
      first = ap (λ (homes : List ℕ). slice_get homes 0) same ∙ h.first;
      long = ap length same ∙ h.long;
      within = omega (arith, h.within, low);
      small = omega (arith, h.small, low);
      outer = omega (arith, h.outer, low);
      next = λ l. h.next l ∙ ap (drop 1) (sym same);
      jump = omega (arith, h.jump, low);
      far = (h.far.0, h.far.1 ∙ ap (drop h.far.0) (sym same), h.far.2);
    }

block_home : (rows : List IndexRow) (id : ℕ) (row : IndexRow) (home : Home) (jump steps : ℕ) → AreIndexRows rows → slice_get rows id ≡ Some row → row.kind ≡ Block → IsHome rows row.parent home → row.parent < id → jump ≤ row.parent → homes_of rows jump ≡ drop steps (homes_of rows row.parent) → IsHome rows id (record { of = id; around = home.around + 1; outer = row.parent; jump = jump })
block_home rows id row home jump steps index e block h low near leads =
    let others = homes_of rows row.parent in
    let more : homes_of rows id ≡ id ∷ others = homes_step rows id row index e ∙ ap (λ k. homes_by k id others) block in
    record {
      first = ap (λ (homes : List ℕ). slice_get homes 0) more;
      long = omega (arith, ap length more, h.long);
      within = omega arith;
      small = omega (arith, h.small, low);
      outer = omega (arith, low);
      next = λ l. sym (ap (drop 1) more);
      jump = omega (arith, near, low);
      far = (suc steps, leads ∙ sym (ap (drop (suc steps)) more), λ l. omega arith);
    }

pub block_steps : (rows : List IndexRow) (id : ℕ) (row : IndexRow) (home : Home) → AreIndexRows rows → slice_get rows id ≡ Some row → row.kind ≡ Block → IsHome rows row.parent home → row.parent < id → IsHome rows id (record { of = id; around = home.around + 1; outer = row.parent; jump = row.parent })
block_steps rows id row home index e block h low =
    block_home rows id row home row.parent 0 index e block h low (omega arith) refl

pub block_jumps : (rows : List IndexRow) (id : ℕ) (row : IndexRow) (home near : Home) → AreIndexRows rows → slice_get rows id ≡ Some row → row.kind ≡ Block → IsHome rows row.parent home → row.parent < id → IsHome rows home.jump near → IsHome rows id (record { of = id; around = home.around + 1; outer = row.parent; jump = near.jump })
block_jumps rows id row home near index e block h low n =
    block_home rows id row home near.jump (h.far.0 + n.far.0) index e block h low (omega (arith, h.jump, n.jump)) (n.far.1 ∙ (ap (drop n.far.0) h.far.1 ∙ drop-drop n.far.0 h.far.0 (homes_of rows row.parent)))

-- one home more
pub homes_more : (rows : List IndexRow) (homes : List Home) (home : Home) → AreFirstHomes rows homes → IsHome rows (length homes) home → AreFirstHomes rows (homes ++ home ∷ [])
homes_more rows homes home first is k x e =
    ⊎_elim (λ l. first k x (slice_get-get_or homes k x l ∙ ap Some (sym (get_or_append_left homes (home ∷ []) x k l) ∙ get_or_from_slice_get (homes ++ home ∷ []) k x x e))) (λ ge.
    let l = slice_get_within (homes ++ home ∷ []) k x e in
    let same : length homes ≡ k = omega (arith, l, ge, length_push homes home) in
    let here : home ≡ x = sym (get_or_push homes home x k same) ∙ get_or_from_slice_get (homes ++ home ∷ []) k x x e in
    subst (λ (n : ℕ). IsHome rows n x) same (subst (λ (y : Home). IsHome rows (length homes) y) here is)) (cases_lt k (length homes))

-- ---- the way outward

slice_drop : (xs : List ℕ) (steps k : ℕ) → slice_get (drop steps xs) k ≡ slice_get xs (steps + k)
slice_drop xs zero k = let e : k ≡ 0 + k = omega arith in ap (slice_get xs) e
slice_drop [] (suc steps) k = refl
slice_drop (x ∷ xs) (suc steps) k =
    let e : suc (steps + k) ≡ suc steps + k = omega arith in slice_drop xs steps k ∙ ap (slice_get (x ∷ xs)) e

pub way_begins : (rows : List IndexRow) (id level : ℕ) (home : Home) → id < length rows → IsHome rows id home → level ≤ home.around → IsOnWay rows id level (home.around - level) home
way_begins rows id level home l is near =
    let back : home.around - (home.around - level) ≡ level = omega (arith, near) in
    record { at = id; below = l; is = is; before = omega arith; same = ap (slice_get (homes_of rows id)) back }

way_goes : (rows : List IndexRow) (id level target : ℕ) (home other : Home) (to steps : ℕ) → (w : IsOnWay rows id level target home) → IsHome rows to other → target ≤ other.around → to ≤ w.at → homes_of rows to ≡ drop steps (homes_of rows w.at) → IsOnWay rows id level target other
way_goes rows id level target home other to steps w is before low leads =
    let e : length (homes_of rows to) ≡ length (homes_of rows w.at) - steps = ap length leads ∙ length-drop steps (homes_of rows w.at) in
    let k : steps + (other.around - target) ≡ home.around - target = omega (arith, e, is.long, w.is.long, before) in
    record {
      at = to;
      below = omega (arith, low, w.below);
      is = is;
      before = before;
      same = ap (λ (homes : List ℕ). slice_get homes (other.around - target)) leads ∙ (slice_drop (homes_of rows w.at) steps (other.around - target) ∙ (ap (slice_get (homes_of rows w.at)) k ∙ w.same));
    }

pub way_jumps : (rows : List IndexRow) (id level target : ℕ) (home other : Home) → (w : IsOnWay rows id level target home) → IsHome rows home.jump other → target ≤ other.around → IsOnWay rows id level target other
way_jumps rows id level target home other w is before =
    way_goes rows id level target home other home.jump w.is.far.0 w is before w.is.jump w.is.far.1

outer_less : (rows : List IndexRow) (id : ℕ) (home other : Home) → IsHome rows id home → IsHome rows home.outer other → 0 < home.around → other.around + 1 ≡ home.around
outer_less rows id home other h o some =
    omega (arith, ap length (h.next some) ∙ length-drop 1 (homes_of rows id), h.long, o.long, some)

pub way_steps : (rows : List IndexRow) (id level target : ℕ) (home other : Home) → (w : IsOnWay rows id level target home) → IsHome rows home.outer other → target < home.around → IsOnWay rows id level target other
way_steps rows id level target home other w is before =
    let some : 0 < home.around = omega (arith, before) in
    let less = outer_less rows w.at home other w.is is some in
    way_goes rows id level target home other home.outer 1 w is (omega (arith, less, before)) w.is.outer (w.is.next some)

pub way_jumps_less : (rows : List IndexRow) (id level target : ℕ) (home other : Home) → (w : IsOnWay rows id level target home) → IsHome rows home.jump other → target < home.around → other.around < home.around
way_jumps_less rows id level target home other w is before =
    (jump_less rows w.at home other w.is is).1 (omega (arith, before))

pub way_steps_less : (rows : List IndexRow) (id level target : ℕ) (home other : Home) → (w : IsOnWay rows id level target home) → IsHome rows home.outer other → target < home.around → other.around < home.around
way_steps_less rows id level target home other w is before =
    let less = outer_less rows w.at home other w.is is (omega (arith, before)) in omega (arith, less)

pub way_of_below : (rows : List IndexRow) (id level target : ℕ) (home : Home) → (w : IsOnWay rows id level target home) → home.of < length rows
way_of_below rows id level target home w = omega (arith, w.is.within, w.below)

pub way_ends : (rows : List IndexRow) (id slot level target : ℕ) (home : Home) (d : IndexRow) → AreIndexRows rows → IsOnWay rows id level target home → home.around ≤ target → IsTrue (nat_lt slot (get_or rows home.of d).locals) ↔ HasLocal rows id slot level
way_ends rows id slot level target home d index w there =
    let none : home.around - target ≡ 0 = omega (arith, there) in
    let at : slice_get (homes_of rows id) level ≡ Some home.of = sym w.same ∙ (ap (slice_get (homes_of rows w.at)) none ∙ w.is.first) in
    let list = local_list rows id slot level index in
    let row = get_or rows home.of d in
    let read = locals_read rows home.of row (slice_get-get_or rows home.of d (way_of_below rows id level target home w)) in (
      λ yes. let l : slot < row.locals = ltb-true slot row.locals yes in list.1 (home.of, at, omega (arith, l, read)),
      λ l. let h = list.0 l in let same : h.0 ≡ home.of = same_Some h.0 home.of (sym h.1 ∙ at) in let less = subst (λ (n : ℕ). slot < locals_of rows n) same h.2 in lt-ltb slot row.locals (omega (arith, less, read)),
    )

pub too_far : (rows : List IndexRow) (id slot level : ℕ) (home : Home) → AreIndexRows rows → IsHome rows id home → home.around < level → HasLocal rows id slot level → ⊥
too_far rows id slot level home index is far l =
    let h = (local_list rows id slot level index).0 l in
    let low = slice_get_within (homes_of rows id) level h.0 h.1 in
    omega (arith, low, is.long, far)

-- what the code reads of the list
pub home_read : (rows : List IndexRow) (homes seen : List Home) (k : ℕ) (home : Home) → AreFirstHomes rows homes → seen ≡ homes → slice_get seen k ≡ Some home → IsHome rows k home
home_read rows homes seen k home first same e = first k home (ap (λ (xs : List Home). slice_get xs k) (sym same) ∙ e)
