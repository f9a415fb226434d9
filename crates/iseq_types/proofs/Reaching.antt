-- What one step of the search for depths keeps.
use Rattle.std.proofs.Common.{◌≡◌, ◌≢◌, ℕ, zero, suc, ◌+◌, ◌*◌, ◌^◌, ◌<◌, ◌≤◌, List, [], ◌∷◌, ◌++◌, length, get_or, Option, Some, None, refl, sym, ap, ◌∙◌, subst, arith, ⊎_elim, inl, inr}
use Rattle.std.specs.Prelude.{◌⊎◌, slice_get, slice_set, Contains}
use Rattle.std.proofs.lemmas.Bool.{cases_eq}
use Rattle.std.proofs.lemmas.List.{length-set, length_push}
use Rattle.std.proofs.lemmas.List.Elements.{Contains-append_left, Contains-push, Contains-push_cases}
use Rattle.std.proofs.lemmas.Option.{same_Some, slice_get-get_or}
use Rattle.iseq_types.specs.declared.sequences.Sequence.{Sequence}
use Rattle.iseq_types.specs.declared.sequences.Line.{Line}
use Rattle.iseq_types.specs.declared.depths.Depths.{Depths}
use Rattle.iseq_types.specs.Instructions.{depth_after}
use Rattle.iseq_types.specs.Ways.{Way}
use Rattle.iseq_types.specs.Sound.{HasOneDepth}
use Rattle.iseq_types.specs.Depths.{DepthAt, open_of, Reaches, Clashes, Leads, SoFar, Grows}

at-set_same : (found : List (Option ℕ)) (place depth : ℕ) → place < length found → DepthAt (slice_set found place (Some depth)) place depth
at-set_same [] place depth l = absurd (omega (arith, l))
at-set_same (x ∷ found) zero depth l = refl
at-set_same (x ∷ found) (suc place) depth l = at-set_same found place depth (omega (arith, l))

at-set_other : (found : List (Option ℕ)) (place other : ℕ) (x : Option ℕ) → other ≢ place → slice_get (slice_set found place x) other ≡ slice_get found other
at-set_other [] place other x apart = refl
at-set_other (y ∷ found) zero zero x apart = absurd (apart refl)
at-set_other (y ∷ found) zero (suc other) x apart = refl
at-set_other (y ∷ found) (suc place) zero x apart = refl
at-set_other (y ∷ found) (suc place) (suc other) x apart = at-set_other found place other x (λ e. apart (ap suc e))

open-set : (found : List (Option ℕ)) (place depth : ℕ) → slice_get found place ≡ Some None → open_of found ≡ suc (open_of (slice_set found place (Some depth)))
open-set [] place depth e = absurd (cc e)
open-set (None ∷ found) zero depth e = refl
open-set (Some known ∷ found) zero depth e = absurd (cc e)
open-set (None ∷ found) (suc place) depth e = ap suc (open-set found place depth e)
open-set (Some known ∷ found) (suc place) depth e = open-set found place depth e

pub open-le : (found : List (Option ℕ)) → open_of found ≤ length found
open-le [] = omega arith
open-le (None ∷ found) = let h = open-le found in omega (arith, h)
open-le (Some depth ∷ found) = let h = open-le found in omega (arith, h)

pub one_depth_at : (found : List (Option ℕ)) (place depth other : ℕ) → DepthAt found place depth → DepthAt found place other → depth ≡ other
one_depth_at found place depth other a b = same_Some depth other (same_Some (Some depth) (Some other) (sym a ∙ b))

-- a depth that is set, or was there
set_cases : (found : List (Option ℕ)) (place depth other known : ℕ) → place < length found → DepthAt (slice_set found place (Some depth)) other known → ((other ≡ place) × (known ≡ depth)) ⊎ DepthAt found other known
set_cases found place depth other known l at =
    ⊎_elim
    (λ same. inl (same, one_depth_at (slice_set found place (Some depth)) place known depth (subst (λ n. DepthAt (slice_set found place (Some depth)) n known) same at) (at-set_same found place depth l)))
    (λ apart. inr (sym (at-set_other found place other (Some depth) apart) ∙ at))
    (cases_eq other place)

set_keeps : (found : List (Option ℕ)) (place depth other known : ℕ) → slice_get found place ≡ Some None → DepthAt found other known → DepthAt (slice_set found place (Some depth)) other known
set_keeps found place depth other known none at =
    at-set_other found place other (Some depth) (λ same. let e : slice_get found place ≡ Some (Some known) = ap (slice_get found) (sym same) ∙ at in cc (e, none)) ∙ at

pub Grows-none : (depths : Depths) → Grows depths depths
Grows-none depths = record { same = refl; kept = λ place depth at. at; less = omega arith; fewer = omega arith }

pub Grows-more : (a b c : Depths) → Grows a b → Grows b c → Grows a c
Grows-more a b c f g = record {
  same = g.same ∙ f.same;
  kept = λ place depth at. g.kept place depth (f.kept place depth at);
  less = omega (arith, f.less, g.less);
  fewer = omega (arith, f.fewer, g.fewer);
}

Leads-grows : (seq : Sequence) (old new : Depths) (place depth : ℕ) (line : Line) → Grows old new → Leads seq old.found place depth line → Leads seq new.found place depth line
Leads-grows seq old new place depth line g h = record {
  enough = h.enough;
  next = λ goes below. g.kept (place + 1) (depth_after line.instr depth) (h.next goes below);
  jump = λ target is. g.kept target (depth_after line.instr depth) (h.jump target is);
}

-- the search after a way led to a place
pub record IsReached (seq : Sequence) (rest : List ℕ) (old new : Depths) (place depth : ℕ) : Type 0 where
  pub so_far : SoFar seq rest new
  pub grows : Grows old new
  pub there : DepthAt new.found place depth

abbrev after_set : Depths → ℕ → ℕ → Depths
after_set old place depth = record { kind = old.kind; found = slice_set old.found place (Some depth); waiting = old.waiting ++ place ∷ [] }

Grows-set : (old : Depths) (place depth : ℕ) → slice_get old.found place ≡ Some None → Grows old (after_set old place depth)
Grows-set old place depth none =
    let o = open-set old.found place depth none in
    let n = length_push old.waiting place in
    record {
      same = refl;
      kept = λ other known at. set_keeps old.found place depth other known none at;
      less = omega (arith, o);
      fewer = omega (arith, o, n);
    }

SoFar-set : (seq : Sequence) (rest : List ℕ) (old : Depths) (place depth : ℕ) → SoFar seq rest old → place < length seq.code → Way seq old.kind place depth → depth + open_of old.found * 2 ^ 64 ≤ (length seq.code + 1) * 2 ^ 64 → slice_get old.found place ≡ Some None → SoFar seq rest (after_set old place depth)
SoFar-set seq rest old place depth s within way room none =
    let o = open-set old.found place depth none in
    let l : place < length old.found = omega (arith, within, s.long) in
    let g = Grows-set old place depth none in
    record {
      long = length-set old.found place (Some depth) ∙ s.long;
      fits = s.fits;
      small = λ other known at. ⊎_elim (λ e. let k = e.1 in omega (arith, k, room, o)) (λ was. let m = s.small other known was in omega (arith, m, o)) (set_cases old.found place depth other known l at);
      ways = λ other known at. ⊎_elim (λ e. subst (λ n. Way seq old.kind n known) (sym e.0) (subst (λ n. Way seq old.kind place n) (sym e.1) way)) (λ was. s.ways other known was) (set_cases old.found place depth other known l at);
      within = λ other waits. ⊎_elim (λ w. s.within other w) (λ e. subst (λ n. n < length seq.code) e within) (Contains-push_cases old.waiting place other waits);
      followed = λ other known line at is. ⊎_elim
          (λ e. inl (subst (λ n. Contains (old.waiting ++ place ∷ []) n) (sym e.0) (Contains-push old.waiting place)))
          (λ was. ⊎_elim
          (λ waits. inl (Contains-append_left old.waiting (place ∷ []) other waits))
          (λ r. inr (⊎_elim (λ in_rest. inl in_rest) (λ leads. inr (Leads-grows seq old (after_set old place depth) other known line g leads)) r))
          (s.followed other known line was is))
          (set_cases old.found place depth other known l at);
    }

pub reached : (seq : Sequence) (rest : List ℕ) (old new : Depths) (place depth : ℕ) → SoFar seq rest old → place < length seq.code → Way seq old.kind place depth → depth + open_of old.found * 2 ^ 64 ≤ (length seq.code + 1) * 2 ^ 64 → Reaches old new place depth → IsReached seq rest old new place depth
reached seq rest old new place depth s within way room r =
    ⊎_elim
    (λ was. subst (λ (d : Depths). IsReached seq rest old d place depth) (sym was.1) (record { so_far = s; grows = Grows-none old; there = was.0 }))
    (λ set. subst (λ (d : Depths). IsReached seq rest old d place depth) (sym set.1) (record {
      so_far = SoFar-set seq rest old place depth s within way room set.0;
      grows = Grows-set old place depth set.0;
      there = at-set_same old.found place depth (omega (arith, within, s.long));
    }))
    r

-- a clash is two ways with two depths
pub clash : (seq : Sequence) (rest : List ℕ) (old : Depths) (place depth : ℕ) → SoFar seq rest old → place < length seq.code → Way seq old.kind place depth → Clashes old.found place depth → HasOneDepth seq old.kind → ⊥
clash seq rest old place depth s within way c one = c.2 (one place c.0 depth within (s.ways place c.0 c.1) way)

-- a depth that a body begins with leaves room
pub seed_room : (seq : Sequence) (rest : List ℕ) (old : Depths) (depth : ℕ) → SoFar seq rest old → depth ≤ 2 ^ 64 → depth + open_of old.found * 2 ^ 64 ≤ (length seq.code + 1) * 2 ^ 64
seed_room seq rest old depth s small = let o = open-le old.found in omega (arith, o, s.long, small)

-- what the code reads
pub depth_found : (found items : List (Option ℕ)) (place depth : ℕ) → items ≡ found → place < length found → get_or items place None ≡ Some depth → DepthAt found place depth
depth_found found items place depth e l is =
    slice_get-get_or found place None l ∙ ap Some (ap (λ xs. get_or xs place None) (sym e) ∙ is)

pub none_found : (found items : List (Option ℕ)) (place : ℕ) → items ≡ found → place < length found → get_or items place None ≡ None → slice_get found place ≡ Some None
none_found found items place e l is =
    slice_get-get_or found place None l ∙ ap Some (ap (λ xs. get_or xs place None) (sym e) ∙ is)

pub line_found : (code items : List Line) (place : ℕ) (line : Line) → items ≡ code → place < length code → line ≡ get_or items place line → slice_get code place ≡ Some line
line_found code items place line e l is =
    slice_get-get_or code place line l ∙ ap Some (ap (λ xs. get_or xs place line) (sym e) ∙ sym is)
