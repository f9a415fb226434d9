-- The search for depths as a whole: how it begins, one place looked at, and how it ends.
use Rattle.std.proofs.Common.{◌≡◌, ℕ, zero, suc, ◌+◌, ◌^◌, ◌<◌, List, [], ◌∷◌, ◌++◌, length, replicate, None, All, sym, ap, ◌∙◌, subst, arith, ⊎_elim, inl, inr}
use Rattle.std.specs.Prelude.{Contains}
use Rattle.std.proofs.lemmas.List.{length-replicate}
use Rattle.std.proofs.lemmas.List.Elements.{Contains-push, Contains-push_cases, Contains-append_left, All-weaker}
use Rattle.iseq_types.specs.declared.sequences.Sequence.{Sequence}
use Rattle.iseq_types.specs.declared.sequences.SeqKind.{SeqKind}
use Rattle.iseq_types.specs.declared.sequences.CatchRow.{CatchRow}
use Rattle.iseq_types.specs.declared.depths.Depths.{Depths}
use Rattle.iseq_types.specs.Ways.{Way, start_depth}
use Rattle.iseq_types.specs.Depths.{DepthAt, SoFar, Grows, HasRow, FindsStart, FindsEntries, FindsRows, FindsNext, IsTable}

none-replicate : (n place depth : ℕ) → DepthAt (replicate n None) place depth → ⊥
none-replicate zero place depth e = cc e
none-replicate (suc n) zero depth e = cc e
none-replicate (suc n) (suc place) depth e = none-replicate n place depth e

pub SoFar-none : (seq : Sequence) (kind : SeqKind) (places : ℕ) → places ≡ length seq.code → places < 2 ^ 64 → SoFar seq [] (record { kind = kind; found = replicate places None; waiting = [] })
SoFar-none seq kind places e fits = record {
  long = length-replicate places None ∙ e;
  fits = omega (arith, e, fits);
  small = λ place depth at. absurd (none-replicate places place depth at);
  ways = λ place depth at. absurd (none-replicate places place depth at);
  within = λ place waits. absurd (let l = waits.1 in omega (arith, l));
  followed = λ place depth line at is. absurd (none-replicate places place depth at);
}

-- the search, with all ways found that a body begins
pub record IsSearch (seq : Sequence) (kind : SeqKind) (depths : Depths) : Type 0 where
  pub so_far : SoFar seq [] depths
  pub same : depths.kind ≡ kind
  pub first : DepthAt depths.found 0 (start_depth kind)
  pub entries : All (λ entry. DepthAt depths.found entry 0) seq.entries
  pub rows : All (HasRow depths.found) seq.rows

abbrev EntryAt : Depths → ℕ → Type 0
EntryAt depths entry = DepthAt depths.found entry 0

entries_grow : (old new : Depths) (entries : List ℕ) → Grows old new → All (EntryAt old) entries → All (EntryAt new) entries
entries_grow old new entries g all = All-weaker (EntryAt old) (EntryAt new) (λ entry at. g.kept entry 0 at) entries all

rows_grow : (old new : Depths) (rows : List CatchRow) → Grows old new → All (HasRow old.found) rows → All (HasRow new.found) rows
rows_grow old new rows g all = All-weaker (HasRow old.found) (HasRow new.found) (λ row h. record {
  cont = g.kept row.cont (row.sp + 1) h.cont;
  from = λ kind. g.kept row.from row.sp (h.from kind);
}) rows all

pub search_begins : (seq : Sequence) (kind : SeqKind) (none start entered all : Depths) → none.kind ≡ kind → FindsStart seq none start → FindsEntries seq seq.entries start entered → FindsRows seq seq.rows entered all → IsSearch seq kind all
search_begins seq kind none start entered all e f g h = record {
  so_far = h.so_far;
  same = h.grows.same ∙ g.grows.same ∙ f.grows.same ∙ e;
  first = subst (λ k. DepthAt all.found 0 (start_depth k)) e (h.grows.kept 0 (start_depth none.kind) (g.grows.kept 0 (start_depth none.kind) f.there));
  entries = entries_grow entered all seq.entries h.grows g.there;
  rows = h.there;
}

-- the place that waited last is looked at
pub popped : (seq : Sequence) (kind : SeqKind) (old new : Depths) (place : ℕ) → IsSearch seq kind old → old.waiting ≡ new.waiting ++ place ∷ [] → new ≡ record { kind = old.kind; found = old.found; waiting = new.waiting } → (place < length seq.code) × SoFar seq (place ∷ []) new
popped seq kind old new place s e same = (
  s.so_far.within place (subst (λ w. Contains w place) (sym e) (Contains-push new.waiting place)),
  subst (λ (d : Depths). SoFar seq (place ∷ []) d) (sym same) (record {
    long = s.so_far.long;
    fits = s.so_far.fits;
    small = s.so_far.small;
    ways = s.so_far.ways;
    within = λ other waits. s.so_far.within other (subst (λ w. Contains w other) (sym e) (Contains-append_left new.waiting (place ∷ []) other waits));
    followed = λ other depth line at is. ⊎_elim
        (λ waits. ⊎_elim (λ w. inl w) (λ here. inr (inl (0, omega arith, here))) (Contains-push_cases new.waiting place other (subst (λ w. Contains w other) e waits)))
        (λ r. ⊎_elim (λ none. absurd (let l = none.1 in omega (arith, l))) (λ led. inr (inr led)) r)
        (s.so_far.followed other depth line at is);
  }),
)

pub search_goes_on : (seq : Sequence) (kind : SeqKind) (old mid new : Depths) → mid ≡ record { kind = old.kind; found = old.found; waiting = mid.waiting } → IsSearch seq kind old → FindsNext seq mid new → IsSearch seq kind new
search_goes_on seq kind old mid new e s f =
    let found : mid.found ≡ old.found = ap (λ (d : Depths). d.found) e in
    record {
      so_far = f.so_far;
      same = f.grows.same ∙ ap (λ (d : Depths). d.kind) e ∙ s.same;
      first = f.grows.kept 0 (start_depth kind) (subst (λ t. DepthAt t 0 (start_depth kind)) (sym found) s.first);
      entries = entries_grow mid new seq.entries f.grows (subst (λ t. All (λ entry. DepthAt t entry 0) seq.entries) (sym found) s.entries);
      rows = rows_grow mid new seq.rows f.grows (subst (λ t. All (HasRow t) seq.rows) (sym found) s.rows);
    }

pub search_ends : (seq : Sequence) (kind : SeqKind) (depths : Depths) → IsSearch seq kind depths → depths.waiting ≡ [] → IsTable seq kind depths.found
search_ends seq kind depths s none = record {
  long = s.so_far.long;
  ways = λ place depth at. subst (λ k. Way seq k place depth) s.same (s.so_far.ways place depth at);
  covers = record {
    first = s.first;
    entries = s.entries;
    rows = s.rows;
    leads = λ place depth line at is. ⊎_elim
        (λ waits. absurd (let l = (subst (λ w. Contains w place) none waits).1 in omega (arith, l)))
        (λ r. ⊎_elim (λ rest. absurd (let l = rest.1 in omega (arith, l))) (λ led. led) r)
        (s.so_far.followed place depth line at is);
  };
}
