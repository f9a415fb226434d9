-- What a shelf in memory tells after a call.
use Rattle.std.proofs.Common.{◌≡◌, inl, inr, Bool, true, false, ◌==◌, ◌^◌, nat_lt, ℕ, zero, suc, ◌+◌, List, [], ◌∷◌, ◌++◌, length, take, map, get_or, set, if◌then◌else◌, refl, sym, subst}
use Rattle.std.proofs.lemmas.List.{append-nil}
use Rattle.std.specs.List.{AllByRecursion}
use Rattle.bs_outside.specs.Cache.{CacheItem, IsOneOf}
use Rattle.bs_outside.specs.History.{History, Mixes, none, guest, mine, Since, IsLast}
use Rattle.bs_outside.specs.declared.names.CacheName.{CacheName}
use Rattle.bs_outside.specs.declared.names.Loaded.{Loaded}
use Rattle.bs_outside.proofs.Since.{since-then}
use Rattle.mem_shelf.specs.Keeping.{GuestItem, item_of, Keeping, history_of, due_at, due, arrived, ArrivesPartly, RenamesPartly, loaded, begun, appended, renamed}
use Rattle.mem_shelf.proofs.Partly.{all_arrived}

-- what was due is guests'
one_of-more : (xs : List CacheItem) (item : CacheItem) (items : List CacheItem) → AllByRecursion (λ x. IsOneOf x items) xs → AllByRecursion (λ x. IsOneOf x (item ∷ items)) xs
one_of-more [] item items all = tt
one_of-more (x ∷ xs) item items all = (inr all.0, one_of-more xs item items all.1)

if_one : (t : Bool) (other : CacheItem) (guests found : List CacheItem) → AllByRecursion (λ x. IsOneOf x (other ∷ guests)) found → AllByRecursion (λ x. IsOneOf x (other ∷ guests)) (if t then other ∷ found else found)
if_one true other guests found rest = (inl refl, rest)
if_one false other guests found rest = rest

due_at_guests : (call : ℕ) (guests : List GuestItem) → AllByRecursion (λ x. IsOneOf x (map item_of guests)) (due_at call guests)
due_at_guests call [] = tt
due_at_guests call (other ∷ guests) = if_one (other.0 == call) (item_of other) (map item_of guests) (due_at call guests) (one_of-more (due_at call guests) (item_of other) (map item_of guests) (due_at_guests call guests))

due_guests : (kept : Keeping) → AllByRecursion (λ x. IsOneOf x (map item_of kept.guests)) (due kept)
due_guests kept = go (nat_lt (kept.calls + 1) (2 ^ 64))
  where
    go : (t : Bool) → AllByRecursion (λ x. IsOneOf x (map item_of kept.guests)) (if t then due_at (kept.calls + 1) kept.guests else [])
    go true = due_at_guests (kept.calls + 1) kept.guests
    go false = tt

all-take : (P : CacheItem → Type 0) (n : ℕ) (xs : List CacheItem) → AllByRecursion P xs → AllByRecursion P (take n xs)
all-take P zero xs all = tt
all-take P (suc n) [] all = tt
all-take P (suc n) (x ∷ xs) all = (all.0, all-take P n xs all.1)

all_guests : (guests : List CacheItem) (n : ℕ) (items : List CacheItem) → AllByRecursion (λ x. IsOneOf x guests) items → Mixes guests n items [] []
all_guests guests n [] all = none
all_guests guests n (item ∷ items) all = guest item all.0 (all_guests guests (suc n) items all.1)

-- guests' items joined, loads were made, and temporaries changed
since_joined : (old : History) (items : List CacheItem) (loads_made : List (CacheName × Loaded)) (temps : ℕ → List ℕ) → AllByRecursion (λ x. IsOneOf x old.guests) items
    → Since old (record old { past = old.past ++ items; loads = old.loads ++ loads_made; temps = temps }) [] loads_made
since_joined old items loads_made temps all = record {
  start = refl;
  guests = refl;
  joined = items;
  past = refl;
  places = [];
  placed = sym (append-nil old.own);
  mixes = all_guests old.guests (length old.past) items all;
  loads = refl;
}

-- the same where no load was made
since_guests : (old : History) (items : List CacheItem) (temps : ℕ → List ℕ) → AllByRecursion (λ x. IsOneOf x old.guests) items → Since old (record old { past = old.past ++ items; temps = temps }) [] []
since_guests old items temps all = record {
  start = refl;
  guests = refl;
  joined = items;
  past = refl;
  places = [];
  placed = sym (append-nil old.own);
  mixes = all_guests old.guests (length old.past) items all;
  loads = sym (append-nil old.loads);
}

pub tells_partly : (old new : Keeping) → ArrivesPartly old new → Since (history_of old) (history_of new) [] []
tells_partly old new partly =
    subst (λ (k : Keeping). Since (history_of old) (history_of k) [] []) (sym partly.1)
    (since_guests (history_of old) (take partly.0 (due old)) (history_of old).temps (all-take (λ x. IsOneOf x (map item_of old.guests)) partly.0 (due old) (due_guests old)))

pub tells_arrived : (old new : Keeping) → new ≡ arrived old → Since (history_of old) (history_of new) [] []
tells_arrived old new is = tells_partly old new (all_arrived old new is)

pub tells_loaded : (old new : Keeping) (name : CacheName) (answer : Loaded) → new ≡ loaded old name answer → Since (history_of old) (history_of new) [] ((name, answer) ∷ [])
tells_loaded old new name answer is =
    subst (λ (k : Keeping). Since (history_of old) (history_of k) [] ((name, answer) ∷ [])) (sym is)
    (since_joined (history_of old) (due old) ((name, answer) ∷ []) (history_of old).temps (due_guests old))

pub tells_begun : (old new : Keeping) → new ≡ begun old → Since (history_of old) (history_of new) [] []
tells_begun old new is =
    subst (λ (k : Keeping). Since (history_of old) (history_of k) [] []) (sym is) (since_guests (history_of old) (due old) (history_of (begun old)).temps (due_guests old))

pub tells_appended : (old new : Keeping) (temp : ℕ) (bytes : List ℕ) → new ≡ appended old temp bytes → Since (history_of old) (history_of new) [] []
tells_appended old new temp bytes is =
    subst (λ (k : Keeping). Since (history_of old) (history_of k) [] []) (sym is) (since_guests (history_of old) (due old) (history_of (appended old temp bytes)).temps (due_guests old))

-- the own item joins last
pub tells_renamed : (old new : Keeping) (temp : ℕ) (name : CacheName) → new ≡ renamed old temp name
    → Since (history_of old) (history_of new) ((name, get_or old.temps temp []) ∷ []) [] × IsLast (name, get_or old.temps temp []) new.past
tells_renamed old new temp name is =
    let item : CacheItem = (name, get_or old.temps temp []) in
    let here = history_of (arrived old) in
    let there = history_of (renamed old temp name) in
    let put : Since here there (item ∷ []) [] = record {
      start = refl;
      guests = refl;
      joined = item ∷ [];
      past = refl;
      places = length here.past ∷ [];
      placed = refl;
      mixes = mine item none;
      loads = sym (append-nil old.loads);
    } in
    let both : Since (history_of old) there (item ∷ []) [] = since-then (history_of old) here there [] (item ∷ []) [] [] (tells_arrived old (arrived old) refl) put in
    subst (λ (k : Keeping). Since (history_of old) (history_of k) (item ∷ []) [] × IsLast item k.past) (sym is) (both, (here.past, refl))

-- whatever the temporaries were
pub tells_renamed_partly : (old new : Keeping) (temp : ℕ) → RenamesPartly temp old new → Since (history_of old) (history_of new) [] []
tells_renamed_partly old new temp partly =
    let since = tells_partly (record old { temps = set old.temps temp partly.0 }) new partly.1 in
    record { start = since.start; guests = since.guests; joined = since.joined; past = since.past; places = since.places; placed = since.placed; mixes = since.mixes; loads = since.loads }
