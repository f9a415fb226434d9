-- What a store's changes come to.
use Rattle.std.proofs.Common.{◌≡◌, ℕ, ◌+◌, ◌-◌, ◌^◌, ◌<◌, ◌≤◌, Bool, true, false, cond, ◌&&◌, nat_le, nat_lt, is_some, Option, None, IfSome, List, [], ◌∷◌, length, refl, sym, ap, subst, ◌∙◌, arith}
use Rattle.std.specs.List.{AllByRecursion}
use Rattle.std.specs.List.Sorted.{IsStrictlySortedBy}
use Rattle.std.specs.Ordering.{nat_cmp, eq_by_cmp, match_ordering}
use Rattle.std.specs.declared.cmp.Ordering.{Ordering}
use Rattle.std.specs.declared.cmp.Ordering.TheVariants.{Less, Equal, Greater}
use Rattle.std.specs.Cmp.{eq_by_cmp_equiv}
use Rattle.std.specs.Cmp.Lexicographic.{slice_cmp, nat_list_cmp_total}
use Rattle.std.specs.FinMap.{insert, remove, len, from_sorted, get-remove, len-remove, len-entries, same_map, slice_cmp-IsAntisymmetric, nat_cmp-IsAntisymmetric}
use Rattle.std.specs.Map.{lookup, keys_of, remove_entry}
use Rattle.std.specs.BTreeMap.{is_at, insert_entry}
use Rattle.std.proofs.lemmas.Bool.Decides.{nat_tests}
use Rattle.bs_outside.specs.Paths.{IsNormalPath}
use Rattle.bs_outside.proofs.TextMaps.{get_is_lookup, entries_are}
use Rattle.path_meaning.specs.declared.scans.RootScan.{RootScan}
use Rattle.path_meaning.specs.StoreFile.{IsScan, Store, IsStoreEntry, CanBeKept, few_names, names_in, as_item, may_keep, store_with}
use Rattle.load_path_cache.specs.Kept.{IsShort, HoldsStore}

-- an entry less in the index is one less in the map
pub remove_is_remove : {X : Type 0} (es fs : List (List ℕ × X)) (root : List ℕ) → IsStrictlySortedBy (slice_cmp nat_cmp) (keys_of es) → IsStrictlySortedBy (slice_cmp nat_cmp) (keys_of fs)
    → ((q : List ℕ) → lookup (is_at (slice_cmp nat_cmp q)) fs ≡ cond (is_at (slice_cmp nat_cmp root) q) None (lookup (is_at (slice_cmp nat_cmp q)) es))
    → from_sorted {R = slice_cmp nat_cmp} fs ≡ remove (from_sorted es) root
remove_is_remove es fs root h k e = same_map nat_list_cmp_total (slice_cmp-IsAntisymmetric nat_cmp-IsAntisymmetric) _ _ (λ q.
    get_is_lookup fs q k ∙ e q ∙ ap (λ b. cond b None (lookup (is_at (slice_cmp nat_cmp q)) es)) ((eq_by_cmp_equiv nat_list_cmp_total).symm root q)
    ∙ sym (get-remove nat_list_cmp_total (from_sorted es) root q ∙ ap (cond (eq_by_cmp (slice_cmp nat_cmp) q root) None) (get_is_lookup es q h)))

-- how many entries other roots have
pub others_are : {X : Type 0} (es : List (List ℕ × X)) (root : List ℕ) → IsStrictlySortedBy (slice_cmp nat_cmp) (keys_of es)
    → len (remove (from_sorted {R = slice_cmp nat_cmp} es) root) ≡ cond (is_some (lookup (is_at (slice_cmp nat_cmp root)) es)) (length es - 1) (length es)
others_are {X} es root h =
    let count : len (from_sorted {R = slice_cmp nat_cmp} es) ≡ length es = len-entries (from_sorted es) ∙ ap length (entries_are es h) in
    len-remove nat_list_cmp_total (from_sorted es) root
    ∙ ap (λ (o : Option X). cond (is_some o) (len (from_sorted {R = slice_cmp nat_cmp} es) - 1) (len (from_sorted {R = slice_cmp nat_cmp} es))) (get_is_lookup es root h)
    ∙ ap (λ n. cond (is_some (lookup (is_at (slice_cmp nat_cmp root)) es)) (n - 1) n) count

pub all_removed : {X : Type 0} (P : List ℕ × X → Type 0) (test : List ℕ → Bool) (es : List (List ℕ × X)) → AllByRecursion P es → AllByRecursion P (remove_entry test es)
all_removed P test [] h = tt
all_removed {X} P test (e ∷ es) h = by (test e.0) (all_removed P test es h.1)
  where
    by : (b : Bool) → AllByRecursion P (remove_entry test es) → AllByRecursion P (cond b es (e ∷ remove_entry test es))
    by true rest = h.1
    by false rest = (h.0, rest)

pub all_inserted : {X : Type 0} (P : List ℕ × X → Type 0) (es : List (List ℕ × X)) (k : List ℕ) (v : X) → AllByRecursion P es → P (k, v) → ((e : List ℕ × X) → P e → P (e.0, v))
    → AllByRecursion P (insert_entry (slice_cmp nat_cmp) es k v)
all_inserted P [] k v h p same = (p, tt)
all_inserted {X} P (e ∷ es) k v h p same = by (slice_cmp nat_cmp k e.0) (all_inserted P es k v h.1 p same)
  where
    by : (o : Ordering) → AllByRecursion P (insert_entry (slice_cmp nat_cmp) es k v) → AllByRecursion P (match_ordering o ((k, v) ∷ e ∷ es) ((e.0, v) ∷ es) (e ∷ insert_entry (slice_cmp nat_cmp) es k v))
    by Less rest = (p, h)
    by Equal rest = (same e h.0, h.1)
    by Greater rest = (h.0, rest)

others_few : (b : Bool) (n m : ℕ) → m ≡ cond b (n - 1) n → m < 16777216 → n ≤ 16777216
others_few true n m e h = omega arith
others_few false n m e h = omega arith

one_more : (b : Bool) (n m : ℕ) → m ≡ n + cond b 0 1 → n ≤ 16777216 → m < 2 ^ 32
one_more true n m e h = omega arith
one_more false n m e h = omega arith

-- what a store holds after an entry was put into it
pub holds_more : (es fs : List (List ℕ × RootScan)) (root : List ℕ) (item : RootScan) (old : Option RootScan) → HoldsStore es → IsStoreEntry (root, item) → IsShort item
    → len (remove (from_sorted {R = slice_cmp nat_cmp} es) root) < 16777216 → IsStrictlySortedBy (slice_cmp nat_cmp) (keys_of fs) → fs ≡ insert_entry (slice_cmp nat_cmp) es root item
    → length fs ≡ length es + cond (is_some old) 0 1 → HoldsStore fs
holds_more es fs root item old h entry short few sorted e n = record {
  sorted = sorted;
  items = subst (AllByRecursion IsStoreEntry) (sym e) (all_inserted IsStoreEntry es root item h.items entry (λ e p. record { root = p.root; scan = entry.scan }));
  short = subst (AllByRecursion (λ e. IsShort e.1)) (sym e) (all_inserted (λ e. IsShort e.1) es root item h.short short (λ e p. short));
  few = one_more (is_some old) (length es) (length fs) n (others_few (is_some (lookup (is_at (slice_cmp nat_cmp root)) es)) (length es) _ (others_are es root h.sorted) few);
}

left_few : (b : Bool) (n m : ℕ) → m + cond b 1 0 ≡ n → n < 2 ^ 32 → m < 2 ^ 32
left_few true n m e h = omega arith
left_few false n m e h = omega arith

-- what a store holds after an entry was taken out of it
pub holds_less : (es fs : List (List ℕ × RootScan)) (test : List ℕ → Bool) (gone : Option RootScan) → HoldsStore es → IsStrictlySortedBy (slice_cmp nat_cmp) (keys_of fs) → fs ≡ remove_entry test es
    → length fs + cond (is_some gone) 1 0 ≡ length es → HoldsStore fs
holds_less es fs test gone h sorted e n = record {
  sorted = sorted;
  items = subst (AllByRecursion IsStoreEntry) (sym e) (all_removed IsStoreEntry test es h.items);
  short = subst (AllByRecursion (λ e. IsShort e.1)) (sym e) (all_removed (λ e. IsShort e.1) test es h.short);
  few = left_few (is_some gone) (length es) (length fs) n h.few;
}

-- no entries
pub holds_none : (es : List (List ℕ × RootScan)) → es ≡ [] → IsStrictlySortedBy (slice_cmp nat_cmp) (keys_of es) → HoldsStore es
holds_none es e sorted = record { sorted = sorted; items = subst (AllByRecursion IsStoreEntry) (sym e) tt; short = subst (AllByRecursion (λ e. IsShort e.1)) (sym e) tt; few = subst (λ (l : List (List ℕ × RootScan)). length l < 2 ^ 32) (sym e) (omega arith) }

first_true : (a b : Bool) → (a && b) ≡ true → a ≡ true
first_true true b e = refl
first_true false b e = e

second_true : (a b : Bool) → (a && b) ≡ true → b ≡ true
second_true true b e = e
second_true false b e = let none : false ≡ true = e in cc

at_most : (n m : ℕ) → nat_le n m ≡ true → n ≤ m
at_most n m e = grind (arith, nat_tests)

below : (n m : ℕ) → nat_lt n m ≡ true → n < m
below n m e = grind (arith, nat_tests)

all_short : (names : List (List ℕ)) → AllByRecursion (λ name. length name ≤ 1024) names → AllByRecursion (λ name. length name < 2 ^ 32) names
all_short [] h = tt
all_short (name ∷ names) h = ((let short : length name ≤ 1024 = h.0 in omega arith), all_short names h.1)

-- a scan that may be kept has few and short names
pub item_short : (scan : RootScan) (stable : Bool) → CanBeKept scan → few_names scan ≡ true → IsShort (as_item scan stable)
item_short scan stable can few =
    let few : length scan.files + length scan.dirs ≤ 1048576 = at_most (names_in scan) 1048576 few in
    record { files = omega arith; dirs = omega arith; file_names = all_short scan.files can.files_short; dir_names = all_short scan.dirs can.dirs_short }

time_kept : (stable : Bool) (latest : Option ℕ) → IfSome latest (λ time. time < 2 ^ 63) → IfSome (cond stable None latest) (λ time. time < 2 ^ 63)
time_kept true latest h = tt
time_kept false latest h = h

pub item_scan : (scan : RootScan) (stable : Bool) → IsScan scan → IsScan (as_item scan stable)
item_scan scan stable is = record { time = time_kept stable scan.latest is.time; files = is.files; ruby = is.ruby; dirs = is.dirs }

pub few_of_kept : (a b c : Bool) → (a && (b && c)) ≡ true → b ≡ true
few_of_kept a b c e = first_true b c (second_true a (b && c) e)

pub room_of_kept : (a b : Bool) (n m : ℕ) → (a && (b && nat_lt n m)) ≡ true → n < m
room_of_kept a b n m e = below n m (second_true b _ (second_true a _ e))

-- what is put is an entry of a store
pub entry_of : (root path : List ℕ) (scan item : RootScan) (stable : Bool) → IsNormalPath root → CanBeKept scan → path ≡ root → item ≡ as_item scan stable → IsStoreEntry (path, item)
entry_of root path scan item stable normal can e i = record { root = subst IsNormalPath (sym e) normal; scan = subst IsScan (sym i) (item_scan scan stable can.scan_is) }

pub short_of : (store : Store) (root : List ℕ) (scan item : RootScan) (stable : Bool) → CanBeKept scan → may_keep store root scan ≡ true → item ≡ as_item scan stable → IsShort item
short_of store root scan item stable can kept i = subst IsShort (sym i) (item_short scan stable can (few_of_kept (is_some scan.latest) (few_names scan) _ kept))

pub room_of : (store : Store) (root path : List ℕ) (scan : RootScan) → may_keep store root scan ≡ true → path ≡ root → len (remove store path) < 16777216
room_of store root path scan kept e =
    subst (λ p. len (remove store p) < 16777216) (sym e) (room_of_kept (is_some scan.latest) (few_names scan) (len (remove store root)) 16777216 kept)

pub stored : (store new : Store) (root path : List ℕ) (scan item : RootScan) (stable : Bool) → may_keep store root scan ≡ true → path ≡ root → item ≡ as_item scan stable → new ≡ insert store path item
    → new ≡ store_with store root scan stable
stored store new root path scan item stable kept e i n =
    n ∙ ap (λ p. insert store p item) e ∙ ap (insert store root) i ∙ sym (ap (λ b. cond b (insert store root (as_item scan stable)) (remove store root)) kept)

pub not_stored : (store new : Store) (root : List ℕ) (scan : RootScan) (stable : Bool) → may_keep store root scan ≡ false → new ≡ remove store root → new ≡ store_with store root scan stable
not_stored store new root scan stable kept n = n ∙ sym (ap (λ b. cond b (insert store root (as_item scan stable)) (remove store root)) kept)
