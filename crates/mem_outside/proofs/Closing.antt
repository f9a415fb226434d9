use Rattle.std.proofs.Common.{◌≡◌, ℕ, ◌^◌, ◌<◌, Bool, true, false, cond, not, ◌&&◌, ◌||◌, nat_lt, Option, Some, None, IfSome, IsSome, ◌⊎◌, inl, inr, List, [], ◌∷◌, ◌++◌, length, map, refl, sym, ◌∙◌, ap, append_assoc, arith}
use Rattle.std.specs.Ordering.{nat_cmp, eq_by_cmp}
use Rattle.std.specs.Cmp.Lexicographic.{slice_cmp, nat_list_cmp_total, texts_ties, same_text}
use Rattle.std.specs.FinMap.{get, find, contains_key, contains_key-keys, get-from_entries, keys, insert, get-insert, empty, get-empty}
use Rattle.std.specs.List.{list_all, list_any}
use Rattle.std.proofs.lemmas.Bool.Decides.{nat_tests}
use Rattle.std.proofs.lemmas.Bool.{false≢true}
use Rattle.bs_outside.specs.Paths.{is_normal_path, same_bytes, parent_of}
use Rattle.bs_outside.specs.SourceTree.{SourceTree, IsSourceTree, time_of, is_folder}
use Rattle.bs_outside.specs.declared.trees.Item.{Item}
use Rattle.mem_outside.specs.TreeLists.{map_of, is_entry, are_entries, has_place, is_closed, is_tree_list, IsTimely}

pub no_length : {A : Type 0} (xs : List A) → length xs ≡ 0 → xs ≡ []
no_length [] e = refl
no_length (x ∷ xs) e = absurd (omega arith)

-- the paths so far have a place
pub closed_step : (p : List ℕ → Bool) (left next : List (List ℕ × Item)) (e : List ℕ × Item) → left ≡ e ∷ next → p e.0 ≡ true → list_all p (map (λ e. e.0) next) ≡ list_all p (map (λ e. e.0) left)
closed_step p left next e l h = rw (l, h) refl

pub closed_stop : (p : List ℕ → Bool) (left next : List (List ℕ × Item)) (e : List ℕ × Item) → left ≡ e ∷ next → p e.0 ≡ false → false ≡ list_all p (map (λ e. e.0) left)
closed_stop p left next e l h = rw (l, h) refl

first_true : (a b : Bool) → (a && b) ≡ true → a ≡ true
first_true true b e = refl
first_true false b e = e

second_true : (a b : Bool) → (a && b) ≡ true → b ≡ true
second_true true b e = e
second_true false b e = let no : false ≡ true = e in cc

below_limit : (n m : ℕ) → nat_lt n m ≡ true → n < m
below_limit n m e = grind (arith, nat_tests)

pub timely : (path : List ℕ) (item : Item) → is_entry (path, item) ≡ true → time_of item < 2 ^ 63
timely path item e = below_limit (time_of item) (2 ^ 63) (second_true (is_normal_path path) _ e)

-- no entry is late
pub timely_none : (tree : SourceTree) → tree ≡ empty → IsTimely tree
timely_none tree e q = rw (e, get-empty) tt

timely_either : (here : Bool) (item : Item) (found : Option Item) → time_of item < 2 ^ 63 → IfSome found (λ f. time_of f < 2 ^ 63) → IfSome (cond here (Some item) found) (λ f. time_of f < 2 ^ 63)
timely_either true item found t f = t
timely_either false item found t f = f

-- an entry more, whose time is below the limit
pub timely_insert : (tree next : SourceTree) (path : List ℕ) (item : Item) → next ≡ insert tree path item → IsTimely tree → time_of item < 2 ^ 63 → IsTimely next
timely_insert tree next path item n h t q = rw (n, get-insert nat_list_cmp_total tree path item q) (timely_either (eq_by_cmp (slice_cmp nat_cmp) q path) item (get tree q) t (h q))

-- what was taken from the back of the list, and the map of it
pub record Taken (rest items : List (List ℕ × Item)) (files : SourceTree) : Type 0 where
  pub done : List (List ℕ × Item)
  pub split : rest ++ done ≡ items
  pub files_are : files ≡ map_of done
  pub good : are_entries done ≡ true

pub taken_none : (items : List (List ℕ × Item)) (files : SourceTree) → files ≡ map_of [] → items ++ [] ≡ items → Taken items items files
taken_none items files e a = record { done = []; split = a; files_are = e; good = refl }

both_true : (a b : Bool) → a ≡ true → b ≡ true → (a && b) ≡ true
both_true true b e f = f
both_true false b e f = e

three_true : (a b c : Bool) → (a && b) ≡ true → c ≡ true → (a && (b && c)) ≡ true
three_true true b c e f = both_true b c e f
three_true false b c e f = e

three_false : (a b c : Bool) → (a && b) ≡ false → (a && (b && c)) ≡ false
three_false true true c e = let no : true ≡ false = e in cc
three_false true false c e = refl
three_false false b c e = refl

-- one entry more
pub taken_more : (rest left items : List (List ℕ × Item)) (files next : SourceTree) (path : List ℕ) (item : Item) → Taken rest items files → rest ≡ left ++ (path, item) ∷ []
    → (is_entry (path, item) && not (contains_key files path)) ≡ true → next ≡ insert files path item → Taken left items next
taken_more rest left items files next path item t r fresh n = record {
  done = (path, item) ∷ t.done;
  split = sym (append_assoc left ((path, item) ∷ []) t.done) ∙ ap (λ l. l ++ t.done) (sym r) ∙ t.split;
  files_are = rw (n, t.files_are) refl;
  good = three_true (is_entry (path, item)) (not (contains_key (map_of t.done) path)) (are_entries t.done) (rw t.files_are at fresh) t.good;
}

and_false : (a b c : Bool) → c ≡ false → (a && (b && c)) ≡ false
and_false true true c e = e
and_false true false c e = refl
and_false false b c e = refl

not_entries : (front done : List (List ℕ × Item)) → are_entries done ≡ false → are_entries (front ++ done) ≡ false
not_entries [] done e = e
not_entries (f ∷ fs) done e = and_false (is_entry f) (not (contains_key (map_of (fs ++ done)) f.0)) (are_entries (fs ++ done)) (not_entries fs done e)

-- an item that is no new entry ends it
pub taken_stop : (rest left items : List (List ℕ × Item)) (files : SourceTree) (path : List ℕ) (item : Item) → Taken rest items files → rest ≡ left ++ (path, item) ∷ []
    → (is_entry (path, item) && not (contains_key files path)) ≡ false → false ≡ is_tree_list items
taken_stop rest left items files path item t r fresh =
    let whole : left ++ ((path, item) ∷ t.done) ≡ items = sym (append_assoc left ((path, item) ∷ []) t.done) ∙ ap (λ l. l ++ t.done) (sym r) ∙ t.split in
    let bad : are_entries ((path, item) ∷ t.done) ≡ false = three_false (is_entry (path, item)) (not (contains_key (map_of t.done) path)) (are_entries t.done) (rw t.files_are at fresh) in
    rw (rw whole at (not_entries left ((path, item) ∷ t.done) bad)) refl

-- all was taken
pub taken_all : (rest items : List (List ℕ × Item)) (files : SourceTree) → Taken rest items files → rest ≡ [] → (files ≡ map_of items) × (are_entries items ≡ true)
taken_all rest items files t r =
    let whole : t.done ≡ items = rw r at t.split in
    (t.files_are ∙ ap map_of whole, ap are_entries (sym whole) ∙ t.good)

found_first : (f : List ℕ × Item) (path : List ℕ) (later : Option Item) (here : Bool) → eq_by_cmp (slice_cmp nat_cmp) path f.0 ≡ here → is_entry f ≡ true
    → IfSome later (λ found. (is_normal_path path ≡ true) × (time_of found < 2 ^ 63)) → IfSome (cond here (Some f.1) later) (λ found. (is_normal_path path ≡ true) × (time_of found < 2 ^ 63))
found_first f path later true e entry l =
    let same : path ≡ f.0 = same_text path f.0 (sym (texts_ties path f.0 ∙ e)) in
    (rw same (first_true (is_normal_path f.0) _ entry), timely f.0 f.1 entry)
found_first f path later false e entry l = l

found_entry : (items : List (List ℕ × Item)) (path : List ℕ) → are_entries items ≡ true → IfSome (find (slice_cmp nat_cmp) path items) (λ found. (is_normal_path path ≡ true) × (time_of found < 2 ^ 63))
found_entry [] path e = tt
found_entry (f ∷ fs) path e =
    let entry : is_entry f ≡ true = first_true (is_entry f) _ e in
    let rest : are_entries fs ≡ true = second_true (not (contains_key (map_of fs) f.0)) _ (second_true (is_entry f) _ e) in
    found_first f path (find (slice_cmp nat_cmp) path fs) (eq_by_cmp (slice_cmp nat_cmp) path f.0) refl entry (found_entry fs path rest)

holds_first : (p : List ℕ → Bool) (path first : List ℕ) (paths : List (List ℕ)) (here : Bool) → eq_by_cmp (slice_cmp nat_cmp) path first ≡ here → list_all p (first ∷ paths) ≡ true
    → (list_any (eq_by_cmp (slice_cmp nat_cmp) path) paths ≡ true → p path ≡ true) → (here || list_any (eq_by_cmp (slice_cmp nat_cmp) path) paths) ≡ true → p path ≡ true
holds_first p path first paths true e all later any = rw (same_text path first (sym (texts_ties path first ∙ e))) (first_true (p first) _ all)
holds_first p path first paths false e all later any = later any

holds_of_any : (p : List ℕ → Bool) (path : List ℕ) (paths : List (List ℕ)) → list_all p paths ≡ true → list_any (eq_by_cmp (slice_cmp nat_cmp) path) paths ≡ true → p path ≡ true
holds_of_any p path [] all any = let no : false ≡ true = any in cc
holds_of_any p path (first ∷ paths) all any = holds_first p path first paths (eq_by_cmp (slice_cmp nat_cmp) path first) refl all (holds_of_any p path paths (second_true (p first) _ all)) any

split_or : (a b : Bool) (path : List ℕ) → same_bytes path (47 ∷ []) ≡ a → (a || b) ≡ true → (path ≡ 47 ∷ []) ⊎ (b ≡ true)
split_or true b path e h = inl (same_text path (47 ∷ []) (sym e))
split_or false b path e h = inr h

one_of : (path : List ℕ) (tree : SourceTree) → (same_bytes path (47 ∷ []) || is_folder (get tree (parent_of path))) ≡ true → (path ≡ 47 ∷ []) ⊎ (is_folder (get tree (parent_of path)) ≡ true)
one_of path tree e = split_or (same_bytes path (47 ∷ [])) (is_folder (get tree (parent_of path))) path refl e

normal_of_found : (found : Option Item) (path : List ℕ) → IfSome found (λ item. (is_normal_path path ≡ true) × (time_of item < 2 ^ 63)) → IsSome found → is_normal_path path ≡ true
normal_of_found None path f h = absurd (false≢true h)
normal_of_found (Some item) path f h = f.0

time_of_found : (found : Option Item) (path : List ℕ) → IfSome found (λ item. (is_normal_path path ≡ true) × (time_of item < 2 ^ 63)) → IfSome found (λ item. time_of item < 2 ^ 63)
time_of_found None path f = tt
time_of_found (Some item) path f = f.1

-- such a list makes a source tree
pub source_tree : (items : List (List ℕ × Item)) → are_entries items ≡ true → is_closed (map_of items) ≡ true → IsSourceTree (map_of items)
source_tree items good closed =
    let at : (path : List ℕ) → get (map_of items) path ≡ find (slice_cmp nat_cmp) path items = λ path. get-from_entries nat_list_cmp_total items path in
    record {
      paths = λ path h. normal_of_found (get (map_of items) path) path (rw (at path) (found_entry items path good)) h;
      root = first_true _ _ closed;
      parents = λ path h. one_of path (map_of items) (holds_of_any (has_place (map_of items)) path (keys (map_of items)) (second_true _ _ closed) (sym (contains_key-keys (map_of items) path) ∙ h));
      times = λ path. time_of_found (get (map_of items) path) path (rw (at path) (found_entry items path good));
    }

pub taken_tree : (items : List (List ℕ × Item)) (files : SourceTree) → Taken [] items files → is_closed files ≡ true → IsSourceTree files
taken_tree items files t closed =
    let all = taken_all [] items files t refl in
    rw all.0 (source_tree items all.1 (rw all.0 at closed))
