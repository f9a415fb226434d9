-- One file after its load.
use Rattle.std.proofs.Common.{◌≡◌, inl, inr, Bool, ℕ, ◌≤◌, ◌<◌, ◌^◌, List, [], ◌∷◌, length, drop, map, Option, Some, None, IsTrue, IfSome, IfNone, refl, sym, ◌∙◌, ap, subst, arith, length-drop}
use Rattle.std.proofs.lemmas.List.{append-nil}
use Rattle.std.specs.FinMap as map
use Rattle.std.specs.List.{flat_map}
use Rattle.std.specs.Option.{option_to_list, option_map}
use Rattle.bs_outside.specs.Cache.{CacheItem, last_of}
use Rattle.bs_outside.specs.History.{History, Since, loaded_of}
use Rattle.bs_outside.specs.SourceTree.{SourceTree}
use Rattle.bs_outside.specs.Told.{added, AddsPrefix}
use Rattle.bs_outside.specs.declared.names.CacheKind.TheVariants.{Iseq}
use Rattle.bs_outside.specs.declared.names.CacheName.{CacheName}
use Rattle.bs_outside.specs.declared.names.Loaded.{Loaded}
use Rattle.bs_outside.specs.declared.names.Loaded.TheVariants as loaded
use Rattle.bs_outside.specs.declared.trees.Item.{Item}
use Rattle.bs_outside.specs.declared.trees.Item.TheVariants as found
use Rattle.bs_outside.specs.declared.trees.Stat.{Stat}
use Rattle.bs_outside.proofs.Since.{since-nothing, since-then}
use Rattle.bs_outside.proofs.Owing.{none_came, added-nil}
use Rattle.cache_key.specs.Key.{cache_name_of}
use Rattle.cache_key.specs.Event.{event_of_bytes, event_of_answer}
use Rattle.cache_key.specs.declared.events.Event.{Event}
use Rattle.cache_key.specs.declared.events.Event.TheVariants.{Miss, Hit, Stale, Revalidated}
use Rattle.cache_key.proofs.EventLemmas.{hit_says}
use Rattle.iseq_types.specs.declared.sequences.Unit.{Unit as CompiledUnit}
use Rattle.iseq_dump.specs.Dump.{Spells}
use Rattle.iseq_dump.proofs.Units.{same_unit}
use Rattle.cache_meaning.specs.SmallUnit.{unit_of}
use Rattle.cache_meaning.specs.Payload.{dump_of}
use Rattle.cache_meaning.specs.Entry.{Version, version_of_found, file_at, IsFileOf, stat_of, items_of}
use Rattle.cache_meaning.specs.Fits.{Matches, AnswerFits, Fits, IsTrusted}
use Rattle.cache_meaning.specs.LeftOut.{IsPart, none, IsAllBut, PutsAllBut}
use Rattle.cache_meaning.specs.Visits.{Visit, load_of, event_at, unless_hit, reads_at, items_at, HasBegun, LeavesWhole}
use Rattle.cache_meaning.proofs.LeftOut.{part-nothing, all_but-nothing, all_but-then, put_nothing}
use Rattle.cache_meaning.proofs.Moments.{fits_at}
use Rattle.cache_meaning.proofs.Trust.{trusted_then}
use Rattle.cache_meaning.proofs.SmallSound.{sound_by}
use Rattle.cache_meaning.proofs.SmallDumps.{spelled_by}
use Rattle.compile_cache.specs.Fetching.{got_of_found, got_of, event_with, IsStatOf, Answers, Stands, HasLooked, IsUnitIn, HoldsUnit, HasHit, HasFetched, IsSource, PutsSource, PutsSourcePart}
use Rattle.compile_cache.specs.declared.fetched.FetchResult.{FetchResult}
use Rattle.compile_cache.specs.declared.fetched.FetchResult.TheVariants as got
use Rattle.compile_cache.proofs.Files.{AtPath, at_path, some_is, gone_no_file, unit_got}

-- ---- the file of a stat

stat_found : (path : List ℕ) (o : Option Item) (stat : Stat) → stat ∷ [] ≡ map stat_of (version_of_found path o) → (v : Version) × (version_of_found path o ≡ v ∷ []) × (stat ≡ stat_of v)
stat_found path None stat is = absurd cc
stat_found path (Some (found.Dir mtime)) stat is = absurd cc
stat_found path (Some (found.File contents mtime)) stat is = (record { path = path; mtime = mtime; contents = contents }, refl, cc)

pub stat_file : (tree : SourceTree) (path : List ℕ) (stat : Stat) → IsStatOf tree path (Some stat) → (v : Version) × (file_at tree path ≡ v ∷ []) × (stat ≡ stat_of v)
stat_file tree path stat is = stat_found path (map.get tree path) stat is

-- ---- the event of an answer

-- a fault of the shelf is a miss, as nothing is
pub event_answered : (image : Option (List ℕ)) (answer : Loaded) (stat : Stat) (digest : Option ℕ) → Answers image answer → event_of_answer answer stat digest ≡ event_of_answer (loaded_of image) stat digest
event_answered None answer stat digest (inl is) = ap (λ (a : Loaded). event_of_answer a stat digest) is
event_answered None answer stat digest (inr is) = ap (λ (a : Loaded). event_of_answer a stat digest) is
event_answered (Some bytes) answer stat digest is = ap (λ (a : Loaded). event_of_answer a stat digest) is

-- what a hit found
found_hit : (image : Option (List ℕ)) (stat : Stat) → event_of_answer (loaded_of image) stat None ≡ Hit → (bytes : List ℕ) × (image ≡ Some bytes) × (event_of_bytes bytes stat None ≡ Hit)
found_hit None stat is = absurd cc
found_hit (Some bytes) stat is = (bytes, refl, is)

unit_payload : (o : Option CompiledUnit) (payload : List ℕ) → option_map dump_of o ≡ Some payload → (u : CompiledUnit) × (o ≡ Some u) × (dump_of u ≡ payload)
unit_payload None payload is = absurd cc
unit_payload (Some u) payload is = (u, refl, some_is is)

short_rest : (bytes : List ℕ) → length bytes < 2 ^ 64 → length (drop 64 bytes) < 2 ^ 64
short_rest bytes short = omega (arith, length-drop 64 bytes)

-- bytes that fit and hit are the entry of the file's unit
pub hit_unit : (tree : SourceTree) (v : Version) (bytes : List ℕ) → IsFileOf tree v → Fits tree (cache_name_of Iseq v.path) bytes → event_of_bytes bytes (stat_of v) None ≡ Hit → length bytes < 2 ^ 64
    → (u : CompiledUnit) × (unit_of v.path v.contents ≡ Some u) × IsUnitIn bytes u
hit_unit tree v bytes file fits hit short =
    let says = hit_says bytes (stat_of v) None hit in
    let matches : Matches v bytes = record { form = says.0.form; size = says.0.size_is; same = inl says.1 } in
    let unit = unit_payload (unit_of v.path v.contents) (drop 64 bytes) (fits refl v file refl matches) in
    let small : length (dump_of unit.0) < 2 ^ 64 = subst (λ (l : List ℕ). length l < 2 ^ 64) (sym unit.2) (short_rest bytes short) in
    (unit.0, unit.1, (subst (Spells unit.0) unit.2 (spelled_by v.path v.contents unit.0 unit.1 small), sound_by v.path v.contents unit.0 unit.1))

-- ---- what is known after the look

module _ (tells : Bool) (tree : SourceTree) (path : List ℕ) (stat : Stat) (old mid : History) (name : CacheName) (image : Option (List ℕ)) (event : Event)
    (v : Version) (here : file_at tree path ≡ v ∷ []) (stat_is : stat ≡ stat_of v)
    (trusted : IsTrusted tells tree old) (named : name ≡ cache_name_of Iseq path)
    (looked : HasLooked name old mid image) (event_is : event ≡ event_of_answer (loaded_of image) stat None) where
  at : AtPath tree path v
  at = at_path tree path v here

  abbrev pub visit : Visit
  visit = record { version = v; answer = looked.answer }

  pub source : IsSource tree path name stat v
  source = record { file = here; name_is = named; stat_is = stat_is }

  since : Since old mid [] (load_of visit ∷ [])
  since = subst (λ (n : CacheName). Since old mid [] ((n, looked.answer) ∷ [])) (named ∙ ap (cache_name_of Iseq) (sym at.path_is)) looked.since

  at_visit : event_at visit ≡ event
  at_visit = ap (λ (s : Stat). event_of_answer looked.answer s None) (sym stat_is) ∙ event_answered image looked.answer stat None looked.answered ∙ sym event_is

  versions : map (λ (w : Visit). w.version) (visit ∷ []) ≡ file_at tree path
  versions = sym here

  still : IsTrusted tells tree mid
  still = trusted_then tells tree old mid [] (load_of visit ∷ []) trusted tt since

  -- what was found fits
  fits : (bytes : List ℕ) → image ≡ Some bytes → Fits tree name bytes
  fits bytes is =
      subst (AnswerFits tree name) (subst (Stands mid name) is looked.stands) ((fits_at tree (last_of mid.start) mid.past still.start still.past).now name)

  -- and a hit holds the source's unit
  pub holds : event ≡ Hit → IfSome image (λ bytes. length bytes < 2 ^ 64) → (u : CompiledUnit) × (unit_of path v.contents ≡ Some u) × HoldsUnit event image u
  holds is short =
      let hit = found_hit image stat (sym event_is ∙ is) in
      let small : length hit.0 < 2 ^ 64 = subst (λ (o : Option (List ℕ)). IfSome o (λ bytes. length bytes < 2 ^ 64)) hit.1 short in
      let named_so : name ≡ cache_name_of Iseq v.path = named ∙ ap (cache_name_of Iseq) (sym at.path_is) in
      let fits_v : Fits tree (cache_name_of Iseq v.path) hit.0 = subst (λ (n : CacheName). Fits tree n hit.0) named_so (fits hit.0 hit.1) in
      let hits_v : event_of_bytes hit.0 (stat_of v) None ≡ Hit = subst (λ (s : Stat). event_of_bytes hit.0 s None ≡ Hit) stat_is hit.2 in
      let unit = hit_unit tree v hit.0 at.file fits_v hits_v small in
      (unit.0, ap (λ (p : List ℕ). unit_of p v.contents) (sym at.path_is) ∙ unit.1, (is, hit.0, hit.1, unit.2))

  due_is : flat_map items_at (visit ∷ []) ≡ unless_hit event (items_of Iseq v)
  due_is = append-nil (items_at visit) ∙ ap (λ (e : Event). unless_hit e (items_of Iseq v)) at_visit

  reads_due : flat_map reads_at (visit ∷ []) ≡ unless_hit event (path ∷ [])
  reads_due = append-nil (reads_at visit) ∙ (λ i. unless_hit (at_visit i) (at.path_is i ∷ []))

  -- what was put of the source, after the look
  pub left_whole : (new : History) → PutsSourcePart tree path name stat event mid new → LeavesWhole tree old new
  left_whole new puts =
      let put = puts v source in
      record {
        put = put.put;
        loads = load_of visit ∷ [];
        since = since-then old mid new [] put.put (load_of visit ∷ []) [] since put.since;
        whole = put.whole;
      }

  pub begun : (new : History) (before after : Option (List (List ℕ))) → PutsSourcePart tree path name stat event mid new → AddsPrefix before after (unless_hit event (path ∷ [])) → HasBegun (file_at tree path) old new before after
  begun new before after puts reads =
      let put = puts v source in
      record {
        visits = visit ∷ [];
        some = inr versions;
        put = put.put;
        since = since-then old mid new [] put.put (load_of visit ∷ []) [] since put.since;
        part = subst (IsPart put.put) (sym due_is) put.part;
        reads = subst (AddsPrefix before after) (sym reads_due) reads;
      }

  pub fetched : (new : History) (faults between after : ℕ) (reads_before reads_after : Option (List (List ℕ))) (answered : Option Event) → faults ≤ between → between ≤ after
      → PutsSource tree path name stat event mid new between after → reads_after ≡ added reads_before (unless_hit event (path ∷ [])) → answered ≡ Some event
      → HasFetched tree path old new faults after reads_before reads_after answered
  fetched new faults between after reads_before reads_after answered later latest puts reads is =
      let put = puts v source in
      record {
        visits = visit ∷ [];
        visited = record {
          versions = versions;
          put = put.0;
          since = since-then old mid new [] put.0 (load_of visit ∷ []) [] since put.1;
          but = subst (λ (full : List CacheItem). IsAllBut faults after full put.0) (sym due_is) (all_but-then faults between after [] _ [] put.0 latest (all_but-nothing faults between later) put.2);
        };
        events = ap option_to_list is ∙ ap (λ (e : Event). e ∷ []) (sym at_visit);
        reads = reads ∙ ap (added reads_before) (sym reads_due);
      }

-- ---- in the words of the clauses

pub begun_not_looked : (tells : Bool) (o : Option SourceTree) (path : List ℕ) (stat : Stat) (old mid : History) (reads : Option (List (List ℕ))) → (IsTrue tells → Since old mid [] [])
    → IfSome o (λ m. IsTrusted tells m old → IsStatOf m path (Some stat) → HasBegun (file_at m path) old mid reads reads)
begun_not_looked tells None path stat old mid reads nothing = tt
begun_not_looked tells (Some m) path stat old mid reads nothing =
    λ trusted there. record { visits = []; some = inl refl; put = []; since = nothing trusted.told; part = none; reads = none_came reads [] }

-- nothing is put after the look
nothing_put : (tree : SourceTree) (path : List ℕ) (name : CacheName) (event : Event) (stat : Stat) (h : History) → PutsSourcePart tree path name stat event h h
nothing_put tree path name event stat h v there = record { put = []; since = since-nothing h; part = part-nothing (unless_hit event (items_of Iseq v)); whole = tt }

pub begun_looked : (tells : Bool) (o : Option SourceTree) (path : List ℕ) (stat : Stat) (old mid : History) (name : CacheName) (image : Option (List ℕ)) (event : Event) (reads : Option (List (List ℕ)))
    → name ≡ cache_name_of Iseq path → (IsTrue tells → HasLooked name old mid image) → event ≡ event_of_answer (loaded_of image) stat None
    → IfSome o (λ m. IsTrusted tells m old → IsStatOf m path (Some stat) → HasBegun (file_at m path) old mid reads reads)
begun_looked tells None path stat old mid name image event reads named looked is = tt
begun_looked tells (Some m) path stat old mid name image event reads named looked is =
    λ trusted there.
    let file = stat_file m path stat there in
    begun tells m path stat old mid name image event file.0 file.1 file.2 trusted named (looked trusted.told) is mid reads reads (nothing_put m path name event stat mid) (none_came reads _)

-- a hit whose unit was taken
pub fetched_hit : (tells : Bool) (o : Option SourceTree) (path : List ℕ) (stat : Stat) (old mid : History) (name : CacheName) (image : Option (List ℕ)) (event : Event) (u : CompiledUnit) (before after : ℕ) (reads : Option (List (List ℕ)))
    → name ≡ cache_name_of Iseq path → (IsTrue tells → HasLooked name old mid image) → event ≡ event_of_answer (loaded_of image) stat None → before ≤ after
    → HoldsUnit event image u → (event ≡ Hit → IfSome image (λ bytes. length bytes < 2 ^ 64))
    → IfSome o (λ m. IsTrusted tells m old → IsStatOf m path (Some stat) → HasFetched m path old mid before after reads reads (Some event) × (got.Whole u ≡ got_of m path))
fetched_hit tells None path stat old mid name image event u before after reads named looked is later holds_u short = tt
fetched_hit tells (Some m) path stat old mid name image event u before after reads named looked is later holds_u short =
    λ trusted there.
    let file = stat_file m path stat there in
    let look = looked trusted.told in
    let hit : event ≡ Hit = holds_u.0 in
    let its = holds tells m path stat old mid name image event file.0 file.1 file.2 trusted named look is hit (short hit) in
    let same_bytes : holds_u.1 ≡ its.2.1 = some_is (sym holds_u.2 ∙ its.2.2) in
    let same : u ≡ its.0 = same_unit u its.0 (drop 64 its.2.1) (subst (λ (b : List ℕ). Spells u (drop 64 b)) same_bytes holds_u.3.0) its.2.3.0 in
    let at = at_path m path file.0 file.1 in
    let none_due : (unless_hit event (path ∷ [])) ≡ [] = ap (λ (e : Event). unless_hit e (path ∷ [])) hit in (
      fetched tells m path stat old mid name image event file.0 file.1 file.2 trusted named look is mid before after after reads reads (Some event) later (omega arith)
          (λ v source. subst (λ (e : Event). PutsAllBut mid mid after after (unless_hit e (items_of Iseq v))) (sym hit) (put_nothing mid after))
          (sym (added-nil reads) ∙ ap (added reads) (sym none_due)) refl,
      ap got.Whole same ∙ unit_got path file.0.contents its.0 its.1 ∙ ap (got_of_found path) (sym at.bytes_is),
    )

-- ---- after the source was compiled anew

anew : (answered : Option Event) (event : Event) (g : FetchResult) (tree : SourceTree) (path : List ℕ) (v : Version) → file_at tree path ≡ v ∷ [] → g ≡ got_of tree path → answered ≡ event_with event g → answered ≡ Some event
anew answered event (got.Whole u) tree path v here is answer = answer
anew answered event (got.Fault line) tree path v here is answer = answer
anew answered event got.NotYet tree path v here is answer = answer
anew answered event got.Gone tree path v here is answer = let none = gone_no_file tree path (sym is) in absurd cc

-- where the image held no unit, its event was no hit
no_hit : (tells : Bool) (tree : SourceTree) (path : List ℕ) (stat : Stat) (old mid : History) (name : CacheName) (image : Option (List ℕ)) (event : Event) → IsTrusted tells tree old → IsStatOf tree path (Some stat) → name ≡ cache_name_of Iseq path
    → HasLooked name old mid image → event ≡ event_of_answer (loaded_of image) stat None → (event ≡ Hit → IfSome image (λ bytes. length bytes < 2 ^ 64)) → ((u : CompiledUnit) → HoldsUnit event image u → ⊥) → event ≡ Hit → ⊥
no_hit tells tree path stat old mid name image event trusted there named looked is short holds_none hit =
    let file = stat_file tree path stat there in
    let its = holds tells tree path stat old mid name image event file.0 file.1 file.2 trusted named looked is hit (short hit) in
    holds_none its.0 its.2

due_unless : (event : Event) (path : List ℕ) → (event ≡ Hit → ⊥) → unless_hit event (path ∷ []) ≡ path ∷ []
due_unless Hit path not = absurd (not refl)
due_unless Miss path not = refl
due_unless Stale path not = refl
due_unless Revalidated path not = refl

pub none_in : {A : Type 0} (o : Option A) (P : Type 0) → ((a : A) → o ≡ Some a → ⊥) → IfNone o P → P
none_in None P not what = what
none_in (Some a) P not what = absurd (not a refl)

event_says : (event : Event) (g : FetchResult) → event_with event g ≡ Some Hit → event ≡ Hit
event_says event (got.Whole u) is = cc
event_says event (got.Fault line) is = cc
event_says event got.NotYet is = cc
event_says event got.Gone is = absurd cc

part_of_none : {kept : List CacheItem} → IsPart kept [] → kept ≡ []
part_of_none none = refl

some_one : {A : Type 0} {a b : A} → Some a ≡ Some b → a ≡ b
some_one is = cc

pub some_in : {A : Type 0} (o : Option A) (P : A → Type 0) (a : A) → o ≡ Some a → IfSome o P → P a
some_in None P a is what = absurd cc
some_in (Some b) P a is what = subst P (some_one is) what

-- what is known before the source is compiled anew
pub record Before (tells : Bool) (path : List ℕ) (stat : Stat) (old mid : History) (name : CacheName) (image : Option (List ℕ)) (event : Event) : Type 0 where
  pub named : name ≡ cache_name_of Iseq path
  pub looked : IsTrue tells → HasLooked name old mid image
  pub event_is : event ≡ event_of_answer (loaded_of image) stat None
  pub short : event ≡ Hit → IfSome image (λ bytes. length bytes < 2 ^ 64)
  pub no_unit : (u : CompiledUnit) → HoldsUnit event image u → ⊥

module _ (tells : Bool) (path : List ℕ) (stat : Stat) (old mid new : History) (name : CacheName) (image : Option (List ℕ)) (event : Event) (b : Before tells path stat old mid name image event) where
  pub fetched_anew : (o : Option SourceTree) (before between after : ℕ) (reads_before reads_after : Option (List (List ℕ))) (g given : FetchResult) (answered : Option Event) → before ≤ between → between ≤ after → given ≡ g
      → IfSome o (λ m. g ≡ got_of m path) → (IsTrue tells → IfSome o (λ m. PutsSource m path name stat event mid new between after)) → reads_after ≡ added reads_before (path ∷ []) → answered ≡ event_with event g
      → IfSome o (λ m. IsTrusted tells m old → IsStatOf m path (Some stat) → HasFetched m path old new before after reads_before reads_after answered × (given ≡ got_of m path))
  fetched_anew None before between after reads_before reads_after g given answered later latest same is puts reads answer = tt
  fetched_anew (Some m) before between after reads_before reads_after g given answered later latest same is puts reads answer =
      λ trusted there.
      let file = stat_file m path stat there in
      let look = b.looked trusted.told in
      let not = no_hit tells m path stat old mid name image event trusted there b.named look b.event_is b.short b.no_unit in (
        fetched tells m path stat old mid name image event file.0 file.1 file.2 trusted b.named look b.event_is new before between after reads_before reads_after answered later latest (puts trusted.told)
            (reads ∙ ap (added reads_before) (sym (due_unless event path not))) (anew answered event g m path file.0 file.1 is answer),
        same ∙ is,
      )

  pub whole_anew : (o : Option SourceTree) → (IsTrue tells → IfSome o (λ m. PutsSourcePart m path name stat event mid new))
      → IfSome o (λ m. IsTrusted tells m old → IsStatOf m path (Some stat) → LeavesWhole m old new)
  whole_anew None puts = tt
  whole_anew (Some m) puts =
      λ trusted there.
      let file = stat_file m path stat there in
      left_whole tells m path stat old mid name image event file.0 file.1 file.2 trusted b.named (b.looked trusted.told) b.event_is new (puts trusted.told)

  pub begun_anew : (o : Option SourceTree) (reads_before reads_after : Option (List (List ℕ))) → (IsTrue tells → IfSome o (λ m. PutsSourcePart m path name stat event mid new)) → AddsPrefix reads_before reads_after (path ∷ [])
      → IfSome o (λ m. IsTrusted tells m old → IsStatOf m path (Some stat) → HasBegun (file_at m path) old new reads_before reads_after)
  begun_anew None reads_before reads_after puts reads = tt
  begun_anew (Some m) reads_before reads_after puts reads =
      λ trusted there.
      let file = stat_file m path stat there in
      let look = b.looked trusted.told in
      let not = no_hit tells m path stat old mid name image event trusted there b.named look b.event_is b.short b.no_unit in
      begun tells m path stat old mid name image event file.0 file.1 file.2 trusted b.named look b.event_is new reads_before reads_after (puts trusted.told)
      (subst (AddsPrefix reads_before reads_after) (sym (due_unless event path not)) reads)

  -- a hit whose bytes hold no unit
  pub hit_anew : (o : Option SourceTree) (between after : ℕ) (reads_before reads_after : Option (List (List ℕ))) (g given : FetchResult) (answered : Option Event) → IsTrue tells → given ≡ g
      → IfSome o (λ m. g ≡ got_of m path) → IfSome o (λ m. PutsSource m path name stat event mid new between after) → reads_after ≡ added reads_before (path ∷ []) → answered ≡ event_with event g
      → IfSome o (λ m. IsStatOf m path (Some stat) → answered ≡ Some Hit → HasHit m path old new reads_before reads_after given)
  hit_anew None between after reads_before reads_after g given answered told same is puts reads answer = tt
  hit_anew (Some m) between after reads_before reads_after g given answered told same is puts reads answer =
      λ there says.
      let file = stat_file m path stat there in
      let hit : event ≡ Hit = event_says event g (sym answer ∙ says) in
      let look = b.looked told in
      let its = found_hit image stat (sym b.event_is ∙ hit) in
      let put = puts file.0 (record { file = file.1; name_is = b.named; stat_is = file.2 }) in
      let nothing : PutsAllBut mid new between after [] = subst (λ (e : Event). PutsAllBut mid new between after (unless_hit e (items_of Iseq file.0))) hit put in
      let answer_is : look.answer ≡ loaded.Found its.0 = subst (λ (i : Option (List ℕ)). Answers i look.answer) its.1 look.answered in
      record {
        bytes = its.0;
        since = subst (λ (own : List CacheItem). Since old new own ((cache_name_of Iseq path, loaded.Found its.0) ∷ [])) (part_of_none nothing.2.part)
            (since-then old mid new [] nothing.0 _ [] (subst (λ (l : CacheName × Loaded). Since old mid [] (l ∷ [])) (λ i. (b.named i, answer_is i)) look.since) nothing.1);
        taken = inr ((λ u unit. b.no_unit u (hit, its.0, its.1, unit)), same ∙ is, reads);
      }
