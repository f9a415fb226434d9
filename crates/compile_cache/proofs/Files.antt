-- The file at a path, and what is published of it.
use Rattle.std.proofs.Common.{◌≡◌, inl, inr, ℕ, List, [], ◌∷◌, Option, Some, None, IfSome, refl, sym, ◌∙◌, ap, subst}
use Rattle.std.specs.FinMap as map
use Rattle.std.specs.Option.{option_map}
use Rattle.std.specs.List.{AllByRecursion}
use Rattle.bs_outside.specs.Cache.{CacheItem}
use Rattle.bs_outside.specs.History.{History}
use Rattle.bs_outside.specs.SourceTree.{SourceTree, bytes_at, bytes_of_found}
use Rattle.bs_outside.specs.declared.names.CacheKind.TheVariants.{Iseq}
use Rattle.bs_outside.specs.declared.names.CacheName.{CacheName}
use Rattle.bs_outside.specs.declared.trees.Item.{Item}
use Rattle.bs_outside.specs.declared.trees.Item.TheVariants as found
use Rattle.bs_outside.specs.declared.trees.Stat.{Stat}
use Rattle.bs_outside.proofs.Since.{since-nothing}
use Rattle.cache_key.specs.Key.{FitsKey, cache_name_of}
use Rattle.cache_key.specs.declared.events.Event.{Event}
use Rattle.cache_key.specs.declared.events.Event.TheVariants.{Miss, Hit, Stale, Revalidated}
use Rattle.iseq_types.specs.declared.sequences.Unit.{Unit as CompiledUnit}
use Rattle.reference_parser.specs.ReadingOf.{Reading, reading_of}
use Rattle.reference_parser.specs.ReadingOf as reading
use Rattle.small_form.specs.SmallForm.{small_of}
use Rattle.small_form.specs.declared.tree.SmallFile.{SmallFile}
use Rattle.cache_meaning.specs.SmallUnit.{unit_of_program, unit_by, unit_of}
use Rattle.cache_meaning.specs.Payload.{payload_of, dump_of}
use Rattle.cache_meaning.specs.Entry.{Version, version_of_found, file_at, IsFileOf, stat_of, numbers_with, numbers_of, items_with, items_of}
use Rattle.cache_meaning.specs.Fits.{IsWhole}
use Rattle.cache_meaning.specs.LeftOut.{IsPart, PutsAllBut, PutsPart}
use Rattle.cache_meaning.specs.Visits.{unless_hit}
use Rattle.cache_meaning.proofs.LeftOut.{part-nothing, part-each}
use Rattle.cache_meaning.proofs.SmallUnits.{dumped_by}
use Rattle.iseq_dump.specs.Dump.{CanBeDumped}
use Rattle.compile_cache.specs.Fetching.{got_of_small, got_by, got_of_found, got_of, payload_in, items_with_name, due, IsSource, PutsNothingOrFits, PutsSource, PutsSourcePart}
use Rattle.compile_cache.specs.declared.fetched.FetchResult.{FetchResult}
use Rattle.compile_cache.specs.declared.fetched.FetchResult.TheVariants as got

pub some_is : {a b : List ℕ} → Some a ≡ Some b → a ≡ b
some_is is = cc

-- what stands at the path of a file
pub record AtPath (tree : SourceTree) (path : List ℕ) (v : Version) : Type 0 where
  pub path_is : v.path ≡ path
  pub bytes_is : bytes_at tree path ≡ Some v.contents
  pub file : IsFileOf tree v

at_found : (path : List ℕ) (o : Option Item) (v : Version) → version_of_found path o ≡ v ∷ [] → (v.path ≡ path) × (bytes_of_found o ≡ Some v.contents) × (o ≡ Some (found.File v.contents v.mtime))
at_found path None v is = absurd cc
at_found path (Some (found.Dir mtime)) v is = absurd cc
at_found path (Some (found.File contents mtime)) v is =
    let same : record { path = path; mtime = mtime; contents = contents } ≡ v = cc in
    (sym (ap (λ (w : Version). w.path) same), ap (λ (w : Version). Some w.contents) same, ap (λ (w : Version). Some (found.File w.contents w.mtime)) same)

pub at_path : (tree : SourceTree) (path : List ℕ) (v : Version) → file_at tree path ≡ v ∷ [] → AtPath tree path v
at_path tree path v is =
    let parts = at_found path (map.get tree path) v is in
    record { path_is = parts.0; bytes_is = parts.1; file = ap (map.get tree) parts.0 ∙ parts.2 }

gone_found : (path : List ℕ) (o : Option Item) → bytes_of_found o ≡ None → version_of_found path o ≡ []
gone_found path None is = refl
gone_found path (Some (found.Dir mtime)) is = refl
gone_found path (Some (found.File contents mtime)) is = absurd cc

none_found : (path : List ℕ) (o : Option Item) → version_of_found path o ≡ [] → bytes_of_found o ≡ None
none_found path None is = refl
none_found path (Some (found.Dir mtime)) is = refl
none_found path (Some (found.File contents mtime)) is = absurd cc

small_not_gone : (path : List ℕ) (o : Option SmallFile) → got_of_small path o ≡ got.Gone → ⊥
small_not_gone path None is = absurd cc
small_not_gone path (Some file) is = absurd cc

read_not_gone : (path : List ℕ) (r : Reading) → got_by path r ≡ got.Gone → ⊥
read_not_gone path (reading.fault line) is = absurd cc
read_not_gone path (reading.tree t) is = small_not_gone path (small_of t) is

gone_bytes : (path : List ℕ) (o : Option (List ℕ)) → got_of_found path o ≡ got.Gone → o ≡ None
gone_bytes path None is = refl
gone_bytes path (Some contents) is = absurd (read_not_gone path (reading_of contents) is)

-- nothing is got exactly where no file stands
pub gone_no_file : (tree : SourceTree) (path : List ℕ) → got_of tree path ≡ got.Gone → file_at tree path ≡ []
gone_no_file tree path is = gone_found path (map.get tree path) (gone_bytes path (bytes_at tree path) is)

pub no_file_gone : (tree : SourceTree) (path : List ℕ) → file_at tree path ≡ [] → got_of tree path ≡ got.Gone
no_file_gone tree path is = ap (got_of_found path) (none_found path (map.get tree path) is)

payload_small : (path : List ℕ) (o : Option SmallFile) → payload_in (got_of_small path o) ≡ option_map dump_of (option_map (unit_of_program path) o)
payload_small path None = refl
payload_small path (Some file) = refl

payload_by : (path : List ℕ) (r : Reading) → payload_in (got_by path r) ≡ option_map dump_of (unit_by path r)
payload_by path (reading.fault line) = refl
payload_by path (reading.tree t) = payload_small path (small_of t)

-- the payload of what a text comes to is that of its unit
payload_with : (path contents : List ℕ) → payload_in (got_of_found path (Some contents)) ≡ option_map dump_of (unit_of path contents)
unfolding unit_of
payload_with path contents = payload_by path (reading_of contents)

same_items : (v : Version) (o : Option (List ℕ)) → items_with_name (cache_name_of Iseq v.path) (stat_of v) v.contents o ≡ items_with Iseq v o
same_items v None = refl
same_items v (Some payload) = refl

-- what is published of what was compiled is what is published of the source
pub due_is : (tree : SourceTree) (path : List ℕ) (name : CacheName) (event : Event) (stat : Stat) (contents : List ℕ) (g : FetchResult) (v : Version)
    → IsSource tree path name stat v → bytes_at tree path ≡ Some contents → g ≡ got_of_found path (Some contents)
    → due name event stat contents g ≡ unless_hit event (items_of Iseq v)
due_is tree path name event stat contents g v source bytes is =
    let at = at_path tree path v source.file in
    let same : contents ≡ v.contents = cc in
    let named : name ≡ cache_name_of Iseq v.path = source.name_is ∙ ap (cache_name_of Iseq) (sym at.path_is) in
    let payload : payload_in g ≡ payload_of Iseq v.path v.contents =
    ap payload_in is ∙ payload_with path contents ∙ (λ i. option_map dump_of (unit_of (sym at.path_is i) (same i))) in
    (λ i. unless_hit event (items_with_name (named i) (source.stat_is i) (same i) (payload i))) ∙ ap (unless_hit event) (same_items v (payload_of Iseq v.path v.contents))

-- each item of a source is whole where its numbers have 64 bits
whole_with : (tree : SourceTree) (v : Version) (o : Option (List ℕ)) → o ≡ payload_of Iseq v.path v.contents → IsFileOf tree v → ((payload : List ℕ) → o ≡ Some payload → FitsKey (numbers_of v payload)) → AllByRecursion (IsWhole tree) (items_with Iseq v o)
whole_with tree v None is file fits = tt
whole_with tree v (Some payload) is file fits =
    (record { version = v; file = file; named = refl; entry = record { payload = payload; of_source = sym is; fits = fits payload refl; whole = refl } }, tt)

all_unless : (P : CacheItem → Type 0) (event : Event) (items : List CacheItem) → AllByRecursion P items → AllByRecursion P (unless_hit event items)
all_unless P Hit items all = tt
all_unless P Miss items all = all
all_unless P Stale items all = all
all_unless P Revalidated items all = all

pub items_whole : (tree : SourceTree) (path : List ℕ) (name : CacheName) (event : Event) (stat : Stat) (contents : List ℕ) (g : FetchResult) (v : Version)
    → IsSource tree path name stat v → bytes_at tree path ≡ Some contents → g ≡ got_of_found path (Some contents)
    → (payload : List ℕ) → payload_in g ≡ Some payload → FitsKey (numbers_with stat contents payload) → AllByRecursion (IsWhole tree) (unless_hit event (items_of Iseq v))
items_whole tree path name event stat contents g v source bytes is payload has fits =
    let at = at_path tree path v source.file in
    let same : contents ≡ v.contents = cc in
    let of_source : payload_of Iseq v.path v.contents ≡ Some payload =
    (λ i. option_map dump_of (unit_of (at.path_is i) (sym same i))) ∙ sym (payload_with path contents) ∙ ap payload_in (sym is) ∙ has in
    let fits_v : FitsKey (numbers_of v payload) = subst (λ (s : Stat). FitsKey (numbers_with s v.contents payload)) source.stat_is (subst (λ (c : List ℕ). FitsKey (numbers_with stat c payload)) same fits) in
    all_unless (IsWhole tree) event (items_of Iseq v)
    (whole_with tree v (payload_of Iseq v.path v.contents) refl at.file (λ p of. subst (λ (q : List ℕ). FitsKey (numbers_of v q)) (some_is (sym of_source ∙ of)) fits_v))

-- ---- in the words of the clauses

pub puts_source : (tree : SourceTree) (path : List ℕ) (name : CacheName) (event : Event) (stat : Stat) (contents : List ℕ) (g : FetchResult) (old new : History) (before after : ℕ)
    → bytes_at tree path ≡ Some contents → g ≡ got_of_found path (Some contents) → PutsAllBut old new before after (due name event stat contents g) → PutsSource tree path name stat event old new before after
puts_source tree path name event stat contents g old new before after bytes is puts v source =
    subst (λ (items : List CacheItem). PutsAllBut old new before after items) (due_is tree path name event stat contents g v source bytes is) puts

-- no file is there
pub puts_no_source : (tree : SourceTree) (path : List ℕ) (name : CacheName) (event : Event) (stat : Stat) (old new : History) (before after : ℕ)
    → bytes_at tree path ≡ None → PutsSource tree path name stat event old new before after
puts_no_source tree path name event stat old new before after none v source = let at = at_path tree path v source.file in absurd cc

pub part_nothing : (tree : SourceTree) (path : List ℕ) (name : CacheName) (event : Event) (stat : Stat) (h : History) → PutsSourcePart tree path name stat event h h
part_nothing tree path name event stat h v source = record { put = []; since = since-nothing h; part = part-nothing (unless_hit event (items_of Iseq v)); whole = tt }

pub part_source : (tree : SourceTree) (path : List ℕ) (name : CacheName) (event : Event) (stat : Stat) (contents : List ℕ) (g : FetchResult) (old new : History)
    → bytes_at tree path ≡ Some contents → g ≡ got_of_found path (Some contents) → PutsPart old new (due name event stat contents g) → PutsNothingOrFits old new stat contents g
    → PutsSourcePart tree path name stat event old new
part_source tree path name event stat contents g old new bytes is puts (inl nothing) v source =
    record { put = []; since = nothing; part = part-nothing (unless_hit event (items_of Iseq v)); whole = tt }
part_source tree path name event stat contents g old new bytes is puts (inr fits) v source =
    let part : IsPart puts.0 (unless_hit event (items_of Iseq v)) = subst (IsPart puts.0) (due_is tree path name event stat contents g v source bytes is) puts.2 in
    record { put = puts.0; since = puts.1; part = part; whole = part-each (IsWhole tree) part (items_whole tree path name event stat contents g v source bytes is fits.0 fits.1 fits.2) }

pub all_but_part : {old new : History} {before after : ℕ} {full : List CacheItem} → PutsAllBut old new before after full → PutsPart old new full
all_but_part puts = (puts.0, puts.1, puts.2.part)

small_unit : (path : List ℕ) (o : Option SmallFile) (u : CompiledUnit) → got.Whole u ≡ got_of_small path o → option_map (unit_of_program path) o ≡ Some u
small_unit path None u is = absurd cc
small_unit path (Some file) u is = cc

read_unit : (path : List ℕ) (r : Reading) (u : CompiledUnit) → got.Whole u ≡ got_by path r → unit_by path r ≡ Some u
read_unit path (reading.fault line) u is = absurd cc
read_unit path (reading.tree t) u is = small_unit path (small_of t) u is

-- the unit of what a text comes to is the text's
pub got_unit : (path contents : List ℕ) (u : CompiledUnit) → got.Whole u ≡ got_of_found path (Some contents) → unit_of path contents ≡ Some u
unfolding unit_of
got_unit path contents u is = read_unit path (reading_of contents) u is

unit_small : (path : List ℕ) (o : Option SmallFile) (u : CompiledUnit) → option_map (unit_of_program path) o ≡ Some u → got.Whole u ≡ got_of_small path o
unit_small path None u is = absurd cc
unit_small path (Some file) u is = cc

unit_read : (path : List ℕ) (r : Reading) (u : CompiledUnit) → unit_by path r ≡ Some u → got.Whole u ≡ got_by path r
unit_read path (reading.fault line) u is = absurd cc
unit_read path (reading.tree t) u is = unit_small path (small_of t) u is

-- and a text that has a unit comes to it
pub unit_got : (path contents : List ℕ) (u : CompiledUnit) → unit_of path contents ≡ Some u → got.Whole u ≡ got_of_found path (Some contents)
unfolding unit_of
unit_got path contents u is = unit_read path (reading_of contents) u is

-- what was compiled can be dumped
pub dumped : (path contents : List ℕ) (u : CompiledUnit) → got.Whole u ≡ got_of_found path (Some contents) → CanBeDumped u
dumped path contents u is = dumped_by path contents u (got_unit path contents u is)

pub part_nothing_in : (o : Option SourceTree) (path : List ℕ) (name : CacheName) (event : Event) (stat : Stat) (h : History) → IfSome o (λ m. PutsSourcePart m path name stat event h h)
part_nothing_in None path name event stat h = tt
part_nothing_in (Some m) path name event stat h = part_nothing m path name event stat h

pub part_source_in : (o : Option SourceTree) (path : List ℕ) (name : CacheName) (event : Event) (stat : Stat) (read : Option (List ℕ)) (contents taken : List ℕ) (g : FetchResult) (old new : History)
    → IfSome o (λ m. read ≡ bytes_at m path) → read ≡ Some contents → taken ≡ contents → g ≡ got_of_found path (Some taken) → PutsPart old new (due name event stat taken g) → PutsNothingOrFits old new stat taken g
    → IfSome o (λ m. PutsSourcePart m path name stat event old new)
part_source_in None path name event stat read contents taken g old new bytes found same is puts fits = tt
part_source_in (Some m) path name event stat read contents taken g old new bytes found same is puts fits =
    part_source m path name event stat taken g old new (sym bytes ∙ found ∙ ap Some (sym same)) is puts fits

pub puts_source_in : (o : Option SourceTree) (path : List ℕ) (name : CacheName) (event : Event) (stat : Stat) (read : Option (List ℕ)) (contents taken : List ℕ) (g : FetchResult) (old new : History) (before after : ℕ)
    → IfSome o (λ m. read ≡ bytes_at m path) → read ≡ Some contents → taken ≡ contents → g ≡ got_of_found path (Some taken) → PutsAllBut old new before after (due name event stat taken g)
    → IfSome o (λ m. PutsSource m path name stat event old new before after)
puts_source_in None path name event stat read contents taken g old new before after bytes found same is puts = tt
puts_source_in (Some m) path name event stat read contents taken g old new before after bytes found same is puts =
    puts_source m path name event stat taken g old new before after (sym bytes ∙ found ∙ ap Some (sym same)) is puts
