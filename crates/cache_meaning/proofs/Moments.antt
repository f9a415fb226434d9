-- Each moment fits where the start fits and every prefix of every item does.
use Rattle.std.proofs.Common.{◌≡◌, inl, inr, Bool, true, false, ℕ, List, [], ◌∷◌, ◌++◌, length, Option, Some, None, if◌then◌else◌, refl, sym, subst, arith}
use Rattle.std.proofs.lemmas.List.{take_all}
use Rattle.std.specs.List.{AllByRecursion}
use Rattle.bs_outside.specs.Cache.{CacheItem, Cache, same_name, or_else, last_of, MayHold}
use Rattle.bs_outside.specs.History.{History, Since}
use Rattle.bs_outside.specs.SourceTree.{SourceTree}
use Rattle.bs_outside.specs.declared.names.CacheName.{CacheName}
use Rattle.bs_outside.specs.declared.names.Loaded.{Loaded}
use Rattle.bs_outside.proofs.Since.{all-one_of, all-mixed}
use Rattle.atomic_files.proofs.LookUps.{same_name-true}
use Rattle.cache_meaning.specs.Fits.{Fits, IsWhole, AnswerFits, CacheFits, PrefixesFit, AllPrefixesFit, AreToldApart, FitsAt, EachMomentFits}
use Rattle.cache_meaning.proofs.Prefixes.{whole_fits}

or_else-fits : (tree : SourceTree) (name : CacheName) (a b : Option (List ℕ)) → AnswerFits tree name a → AnswerFits tree name b → AnswerFits tree name (or_else a b)
or_else-fits tree name None b fits_a fits_b = fits_b
or_else-fits tree name (Some bytes) b fits_a fits_b = fits_a

if-fits : (tree : SourceTree) (name : CacheName) (t : Bool) (bytes : List ℕ) → (t ≡ true → Fits tree name bytes) → AnswerFits tree name (if t then Some bytes else None)
if-fits tree name true bytes fits = fits refl
if-fits tree name false bytes fits = tt

item-fits : (tree : SourceTree) (name : CacheName) (item : CacheItem) → PrefixesFit tree item → AnswerFits tree name (if same_name item.0 name then Some item.1 else None)
item-fits tree name item fits =
    if-fits tree name (same_name item.0 name) item.1
    (λ same. subst (λ (n : CacheName). Fits tree n item.1) (same_name-true item.0 name same)
    (subst (Fits tree item.0) (take_all (length item.1) item.1 (omega arith)) (fits (length item.1))))

last-fits : (tree : SourceTree) (name : CacheName) (past : List CacheItem) → AllPrefixesFit tree past → AnswerFits tree name (last_of past name)
last-fits tree name [] all = tt
last-fits tree name (item ∷ items) all = or_else-fits tree name (last_of items name) _ (last-fits tree name items all.1) (item-fits tree name item all.0)

held-fits : (tree : SourceTree) (name : CacheName) (start : Cache) (past : List CacheItem) (held : Option (List ℕ)) → CacheFits tree start → AllPrefixesFit tree past → MayHold start past name held → AnswerFits tree name held
held-fits tree name start past held at_start all (inl was) = subst (AnswerFits tree name) (sym was) (at_start name)
held-fits tree name start past held at_start all (inr torn) =
    subst (AnswerFits tree name) (sym torn.3) (all-one_of (PrefixesFit tree) past (name, torn.0) all torn.2 torn.1)

pub fits_at : (tree : SourceTree) (start : Cache) (past : List CacheItem) → CacheFits tree start → AllPrefixesFit tree past → FitsAt tree start past
fits_at tree start past at_start all = record {
  now = λ name. or_else-fits tree name (last_of past name) (start name) (last-fits tree name past all) (at_start name);
  crash = λ cache crash name. held-fits tree name start past (cache name) at_start all (crash name);
}

all-front : (P : CacheItem → Type 0) (front rest : List CacheItem) → AllByRecursion P (front ++ rest) → AllByRecursion P front
all-front P [] rest all = tt
all-front P (item ∷ front) rest all = (all.0, all-front P front rest all.1)

pub all-append : (P : CacheItem → Type 0) (xs ys : List CacheItem) → AllByRecursion P xs → AllByRecursion P ys → AllByRecursion P (xs ++ ys)
all-append P [] ys all more = more
all-append P (x ∷ xs) ys all more = (all.0, all-append P xs ys all.1 more)

pub each_moment : (tree : SourceTree) (start : Cache) (entry exit : List CacheItem) → CacheFits tree start → AllPrefixesFit tree exit → EachMomentFits tree start entry exit
each_moment tree start entry exit at_start all moment is =
    fits_at tree start moment at_start (all-front (PrefixesFit tree) moment is.0.0 (subst (AllPrefixesFit tree) (sym is.0.1) all))

all_whole_fit : (tree : SourceTree) (items : List CacheItem) → AreToldApart tree → AllByRecursion (IsWhole tree) items → AllPrefixesFit tree items
all_whole_fit tree [] apart whole = tt
all_whole_fit tree (item ∷ items) apart whole = (whole_fits tree item apart whole.0, all_whole_fit tree items apart whole.1)

-- calls whose own items are whole keep it
pub since_fits : (tree : SourceTree) (old new : History) (own : List CacheItem) (loads : List (CacheName × Loaded)) → AreToldApart tree → AllByRecursion (IsWhole tree) old.guests → AllByRecursion (IsWhole tree) own
    → AllPrefixesFit tree old.past → Since old new own loads → AllPrefixesFit tree new.past
since_fits tree old new own loads apart theirs ours so_far since =
    subst (AllPrefixesFit tree) (sym since.past)
    (all-append (PrefixesFit tree) old.past since.joined so_far
    (all_whole_fit tree since.joined apart (all-mixed (IsWhole tree) theirs ours since.mixes)))
