-- A fetch and its note, in the words of a run with the cache.
use Rattle.std.proofs.Common.{◌≡◌, inl, inr, Bool, true, false, ℕ, List, [], ◌∷◌, ◌++◌, map, Option, Some, None, IfSome, refl, sym, ◌∙◌, ap, subst, append-nil}
use Rattle.std.specs.Option.{option_to_list}
use Rattle.bs_outside.specs.History.{History}
use Rattle.bs_outside.specs.SourceTree.{SourceTree}
use Rattle.bs_outside.specs.Told.{added, AddsPrefix}
use Rattle.bs_outside.proofs.Owing.{added-nil, none_came}
use Rattle.cache_key.specs.declared.events.Event.{Event}
use Rattle.cache_meaning.specs.Entry.{file_at}
use Rattle.cache_meaning.specs.Fits.{IsTrusted}
use Rattle.cache_meaning.specs.Visits.{Visit, note_of, event_at, HasBegun}
use Rattle.compile_cache.specs.Fetching.{HasFetched, IsTrustedFor}
use Rattle.compile_cache.specs.declared.mode.CacheUse.{CacheUse}
use Rattle.compile_cache.specs.declared.mode.CacheUse.TheVariants.{On, Off}
use Rattle.compile_cache.proofs.Files.{at_path}
use Rattle.bootsnap_top.specs.CachedRun.{noted_of, is_noted, notes_with, IsCachedRun, IsPartOfVisit, IsPartOfRun}

pub nothing_added : (told : Option (List ℕ)) → told ≡ added told []
nothing_added told = sym (added-nil told)

some_event : {a b : Event} → a ∷ [] ≡ b ∷ [] → a ≡ b
some_event is = cc

-- what is noted of the one event is what is noted of the visits
note_is : (m : SourceTree) (path : List ℕ) (visits : List Visit) (event : Option Event) (asked : Bool) → map (λ (v : Visit). v.version) visits ≡ file_at m path → option_to_list event ≡ map event_at visits
    → noted_of asked event path ≡ notes_with asked visits
note_is m path visits event false versions events = refl
note_is m path [] None true versions events = refl
note_is m path [] (Some e) true versions events = absurd cc
note_is m path (v ∷ []) None true versions events = absurd cc
note_is m path (v ∷ []) (Some e) true versions events =
    let at = at_path m path v.version (sym versions) in
    (λ i. note_of (some_event events i) (sym at.path_is i)) ∙ sym (append-nil (note_of (event_at v) v.version.path))
note_is m path (v ∷ w ∷ visits) None true versions events = absurd cc
note_is m path (v ∷ w ∷ visits) (Some e) true versions events = absurd cc

module _ (m : SourceTree) (path : List ℕ) (old new : History) (before after : ℕ) (reads_before reads_after : Option (List (List ℕ))) (event : Option Event) (asked : Bool) (notes_before notes_after : Option (List ℕ))
    (fetched : HasFetched m path old new before after reads_before reads_after event) where
  pub same_note : noted_of asked event path ≡ notes_with asked fetched.visits
  same_note = note_is m path fetched.visits event asked fetched.visited.versions fetched.events

  pub ran_noted : notes_after ≡ added notes_before (noted_of asked event path) → IsCachedRun (file_at m path) (notes_with asked) old new before after reads_before reads_after notes_before notes_after
  ran_noted noted = record { visits = fetched.visits; visited = fetched.visited; reads = fetched.reads; noted = noted ∙ ap (added notes_before) same_note }

  pub part_noted : AddsPrefix notes_before notes_after (noted_of asked event path) → IsPartOfVisit (file_at m path) (notes_with asked) old new before after reads_before reads_after notes_before notes_after
  part_noted noted = inr (record { visits = fetched.visits; visited = fetched.visited; reads = fetched.reads; noted = subst (AddsPrefix notes_before notes_after) same_note noted })

-- ---- in the words of the clauses

pub ran_in : (tells : Bool) (o : Option SourceTree) (path : List ℕ) (old new : History) (before after : ℕ) (reads_before reads_after : Option (List (List ℕ))) (event : Option Event) (asked : Bool) (notes_before notes_after : Option (List ℕ))
    → IfSome o (λ m. IsTrusted tells m old → HasFetched m path old new before after reads_before reads_after event) → notes_after ≡ added notes_before (noted_of asked event path)
    → IfSome o (λ m. IsTrusted tells m old → IsCachedRun (file_at m path) (notes_with asked) old new before after reads_before reads_after notes_before notes_after)
ran_in tells None path old new before after reads_before reads_after event asked notes_before notes_after fetched noted = tt
ran_in tells (Some m) path old new before after reads_before reads_after event asked notes_before notes_after fetched noted =
    λ trusted. ran_noted m path old new before after reads_before reads_after event asked notes_before notes_after (fetched trusted) noted

pub part_in : (tells : Bool) (o : Option SourceTree) (path : List ℕ) (old new : History) (before after : ℕ) (reads_before reads_after : Option (List (List ℕ))) (event : Option Event) (asked : Bool) (notes_before notes_after : Option (List ℕ))
    → IfSome o (λ m. IsTrusted tells m old → HasFetched m path old new before after reads_before reads_after event) → AddsPrefix notes_before notes_after (noted_of asked event path)
    → IfSome o (λ m. IsTrusted tells m old → IsPartOfVisit (file_at m path) (notes_with asked) old new before after reads_before reads_after notes_before notes_after)
part_in tells None path old new before after reads_before reads_after event asked notes_before notes_after fetched noted = tt
part_in tells (Some m) path old new before after reads_before reads_after event asked notes_before notes_after fetched noted =
    λ trusted. part_noted m path old new before after reads_before reads_after event asked notes_before notes_after (fetched trusted) noted

-- the fetch itself was cut off
pub begun_in : (tells : Bool) (o : Option SourceTree) (path : List ℕ) (old new : History) (before after : ℕ) (reads_before reads_after : Option (List (List ℕ))) (asked : Bool) (notes : Option (List ℕ))
    → IfSome o (λ m. IsTrusted tells m old → HasBegun (file_at m path) old new reads_before reads_after)
    → IfSome o (λ m. IsTrusted tells m old → IsPartOfVisit (file_at m path) (notes_with asked) old new before after reads_before reads_after notes notes)
begun_in tells None path old new before after reads_before reads_after asked notes begun = tt
begun_in tells (Some m) path old new before after reads_before reads_after asked notes begun = λ trusted. inl (begun trusted, refl)

-- a whole visit, whatever was written behind it
pub whole_run_in : (tells : Bool) (o : Option SourceTree) (path : List ℕ) (notes : List Visit → List ℕ) (old new : History) (before after : ℕ) (reads_before reads_after : Option (List (List ℕ))) (notes_before notes_after : Option (List ℕ)) (nothing_written : Type 0)
    → IfSome o (λ m. IsTrusted tells m old → IsCachedRun (file_at m path) notes old new before after reads_before reads_after notes_before notes_after)
    → IfSome o (λ m. IsTrusted tells m old → IsPartOfRun (file_at m path) notes old new before after reads_before reads_after notes_before notes_after nothing_written)
whole_run_in tells None path notes old new before after reads_before reads_after notes_before notes_after nothing_written ran = tt
whole_run_in tells (Some m) path notes old new before after reads_before reads_after notes_before notes_after nothing_written ran = λ trusted. inr (ran trusted)

-- a part of a visit, behind which nothing was written
pub part_run_in : (tells : Bool) (o : Option SourceTree) (path : List ℕ) (notes : List Visit → List ℕ) (old new : History) (before after : ℕ) (reads_before reads_after : Option (List (List ℕ))) (notes_before notes_after : Option (List ℕ)) (nothing_written : Type 0)
    → nothing_written → IfSome o (λ m. IsTrusted tells m old → IsPartOfVisit (file_at m path) notes old new before after reads_before reads_after notes_before notes_after)
    → IfSome o (λ m. IsTrusted tells m old → IsPartOfRun (file_at m path) notes old new before after reads_before reads_after notes_before notes_after nothing_written)
part_run_in tells None path notes old new before after reads_before reads_after notes_before notes_after nothing_written nothing part = tt
part_run_in tells (Some m) path notes old new before after reads_before reads_after notes_before notes_after nothing_written nothing part = λ trusted. inl (part trusted, nothing)

-- what was not begun is a part
pub nothing_in : (use_ : CacheUse) (tells : Bool) (o : Option SourceTree) (h : History) (told : Option (List ℕ)) (all : SourceTree → List ℕ) → IfSome o (λ m. IsTrustedFor use_ tells m h → AddsPrefix told told (all m))
nothing_in use_ tells None h told all = tt
nothing_in use_ tells (Some m) h told all = λ trusted. none_came told (all m)

-- ---- nothing is noted

pub nothing_noted : (use_ : CacheUse) (asked : Bool) (event : Option Event) (path : List ℕ) → is_noted use_ asked ≡ false → (use_ ≡ Off → event ≡ None) → noted_of asked event path ≡ []
nothing_noted On asked event path silent off = ap (λ (b : Bool). noted_of b event path) silent
nothing_noted Off true event path silent off = ap (λ (e : Option Event). noted_of true e path) (off refl)
nothing_noted Off false event path silent off = refl

no_items : (came rest : List ℕ) → came ++ rest ≡ [] → came ≡ []
no_items [] rest is = refl
no_items (item ∷ came) rest is = absurd cc

pub prefix_of_nothing : (before after : Option (List ℕ)) (all : List ℕ) → all ≡ [] → AddsPrefix before after all → after ≡ before
prefix_of_nothing before after all is prefix =
    prefix.owes.told ∙ ap (added before) (no_items prefix.owes.came prefix.rest (prefix.owes.split ∙ is)) ∙ added-nil before
