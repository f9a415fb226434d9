-- How the latest time of a root's folders is found, folder by folder.
use Rattle.std.proofs.Common.{◌≡◌, ℕ, zero, suc, ◌+◌, ◌≤◌, ◌<◌, max, Option, Some, None, IfSome, List, [], ◌∷◌, ◌++◌, length, take, drop, map, get_or, refl, sym, ap, subst, ◌∙◌, append_assoc, arith}
use Rattle.std.specs.FinMap.{get}
use Rattle.std.proofs.Math.Seq.{drop-cons}
use Rattle.std.proofs.lemmas.List.{take_more}
use Rattle.bs_outside.specs.SourceTree.{SourceTree, stem_of}
use Rattle.bs_outside.specs.Told.{added, AddsPrefix}
use Rattle.bs_outside.proofs.Owing.{none_came}
use Rattle.path_meaning.specs.Scan.{folder_time, later, latest_of, folder_paths}

abbrev pub latest_from : SourceTree → List ℕ → Option ℕ → List (List ℕ) → Option ℕ
latest_from m root base [] = base
latest_from m root base (f ∷ fs) = later (folder_time (get m (stem_of root ++ f))) (latest_from m root base fs)

from_root : (m : SourceTree) (root : List ℕ) (fs : List (List ℕ)) → latest_from m root (folder_time (get m root)) fs ≡ latest_of m root fs
from_root m root [] = refl
from_root m root (f ∷ fs) = ap (later (folder_time (get m (stem_of root ++ f)))) (from_root m root fs)

max_swap : (a b c : ℕ) → max a (max b c) ≡ max b (max a c)
max_swap a b c = omega arith

later_swap : (a b c : Option ℕ) → later a (later b c) ≡ later b (later a c)
later_swap None None c = refl
later_swap None (Some b) None = refl
later_swap None (Some b) (Some c) = refl
later_swap (Some a) None None = refl
later_swap (Some a) None (Some c) = refl
later_swap (Some a) (Some b) None = refl
later_swap (Some a) (Some b) (Some c) = ap Some (max_swap a b c)

into_base : (m : SourceTree) (root : List ℕ) (t base : Option ℕ) (fs : List (List ℕ)) → later t (latest_from m root base fs) ≡ latest_from m root (later t base) fs
into_base m root t base [] = refl
into_base m root t base (f ∷ fs) =
    later_swap t (folder_time (get m (stem_of root ++ f))) (latest_from m root base fs) ∙ ap (later (folder_time (get m (stem_of root ++ f)))) (into_base m root t base fs)

drop_none : {A : Type 0} (xs : List A) → drop 0 xs ≡ xs
drop_none [] = refl
drop_none (x ∷ xs) = refl

drop_all : {A : Type 0} (xs : List A) (i : ℕ) → length xs ≤ i → drop i xs ≡ []
drop_all [] zero h = refl
drop_all [] (suc i) h = refl
drop_all (x ∷ xs) zero h = absurd (omega arith)
drop_all (x ∷ xs) (suc i) h = drop_all xs i (omega arith)

-- what is still to be reckoned of the latest time, where this is the latest so far
abbrev pub Goes : Option SourceTree → List ℕ → List (List ℕ) → ℕ → ℕ → Type 0
Goes told root dirs latest i = IfSome told (λ m. latest_from m root (Some latest) (drop i dirs) ≡ latest_of m root dirs)

pub looks_begin : (told : Option SourceTree) (root : List ℕ) (dirs : List (List ℕ)) (latest : ℕ) → IfSome told (λ m. Some latest ≡ folder_time (get m root)) → Goes told root dirs latest 0
looks_begin None root dirs latest h = tt
looks_begin (Some m) root dirs latest h = ap (latest_from m root (Some latest)) (drop_none dirs) ∙ ap (λ b. latest_from m root b dirs) h ∙ from_root m root dirs

later_none : (t : Option ℕ) → later t None ≡ None
later_none None = refl
later_none (Some a) = refl

from_none : (m : SourceTree) (root : List ℕ) (fs : List (List ℕ)) → latest_from m root None fs ≡ None
from_none m root [] = refl
from_none m root (f ∷ fs) = ap (later (folder_time (get m (stem_of root ++ f)))) (from_none m root fs) ∙ later_none (folder_time (get m (stem_of root ++ f)))

pub looks_nowhere : (told : Option SourceTree) (root : List ℕ) (dirs : List (List ℕ)) → IfSome told (λ m. None ≡ folder_time (get m root)) → IfSome told (λ m. None ≡ latest_of m root dirs)
looks_nowhere None root dirs h = tt
looks_nowhere (Some m) root dirs h = sym (from_none m root dirs) ∙ ap (λ b. latest_from m root b dirs) h ∙ from_root m root dirs

split_at : (dirs : List (List ℕ)) (i : ℕ) (dir : List ℕ) → i < length dirs → dir ≡ get_or dirs i dir → drop i dirs ≡ dir ∷ drop (i + 1) dirs
split_at dirs i dir lt is =
    let more : suc i ≡ i + 1 = omega arith in
    drop-cons dirs i dir lt ∙ ap (λ d. d ∷ drop (suc i) dirs) (sym is) ∙ ap (λ n. dir ∷ drop n dirs) more

pub looks_on : (told : Option SourceTree) (root : List ℕ) (dirs : List (List ℕ)) (i : ℕ) (dir path : List ℕ) (latest time next : ℕ) → i < length dirs → dir ≡ get_or dirs i dir → path ≡ stem_of root ++ dir → next ≡ max latest time
    → IfSome told (λ m. Some time ≡ folder_time (get m path)) → Goes told root dirs latest i → Goes told root dirs next (i + 1)
looks_on None root dirs i dir path latest time next lt is p n h inv = tt
looks_on (Some m) root dirs i dir path latest time next lt is p n h inv =
    let turned : next ≡ max time latest = omega arith in
    ap (λ k. latest_from m root (Some k) (drop (i + 1) dirs)) turned
    ∙ sym (into_base m root (Some time) (Some latest) (drop (i + 1) dirs))
    ∙ ap (λ t. later t (latest_from m root (Some latest) (drop (i + 1) dirs))) (h ∙ ap (λ q. folder_time (get m q)) p)
    ∙ sym (ap (latest_from m root (Some latest)) (split_at dirs i dir lt is)) ∙ inv

pub looks_missing : (told : Option SourceTree) (root : List ℕ) (dirs : List (List ℕ)) (i : ℕ) (dir path : List ℕ) (latest : ℕ) → i < length dirs → dir ≡ get_or dirs i dir → path ≡ stem_of root ++ dir
    → IfSome told (λ m. None ≡ folder_time (get m path)) → Goes told root dirs latest i → IfSome told (λ m. None ≡ latest_of m root dirs)
looks_missing None root dirs i dir path latest lt is p h inv = tt
looks_missing (Some m) root dirs i dir path latest lt is p h inv =
    ap (λ t. later t (latest_from m root (Some latest) (drop (i + 1) dirs))) (h ∙ ap (λ q. folder_time (get m q)) p)
    ∙ sym (ap (latest_from m root (Some latest)) (split_at dirs i dir lt is)) ∙ inv

pub looks_end : (told : Option SourceTree) (root : List ℕ) (dirs : List (List ℕ)) (i latest : ℕ) → length dirs ≤ i → Goes told root dirs latest i → IfSome told (λ m. Some latest ≡ latest_of m root dirs)
looks_end None root dirs i latest h inv = tt
looks_end (Some m) root dirs i latest h inv = sym (ap (latest_from m root (Some latest)) (drop_all dirs i h)) ∙ inv

-- the paths that were looked at before the folder at a place
abbrev pub looked_before : List ℕ → List (List ℕ) → ℕ → List (List ℕ)
looked_before root dirs i = folder_paths root (take i dirs)

added_more : (before now next : Option (List (List ℕ))) (xs : List (List ℕ)) (y : List ℕ) → now ≡ added before xs → next ≡ added now (y ∷ []) → next ≡ added before (xs ++ y ∷ [])
added_more None now next xs y n e = e ∙ ap (λ b. added b (y ∷ [])) n
added_more (Some b) now next xs y n e = e ∙ ap (λ b. added b (y ∷ [])) n ∙ ap Some (append_assoc b xs (y ∷ []))

map_last : {A B : Type 0} (f : A → B) (xs : List A) (x : A) → map f (xs ++ x ∷ []) ≡ map f xs ++ f x ∷ []
map_last f [] x = refl
map_last f (y ∷ ys) x = ap (λ l. f y ∷ l) (map_last f ys x)

pub looked_on : (before now next : Option (List (List ℕ))) (root : List ℕ) (dirs : List (List ℕ)) (i : ℕ) (dir path : List ℕ) → i < length dirs → dir ≡ get_or dirs i dir → path ≡ stem_of root ++ dir
    → now ≡ added before (looked_before root dirs i) → next ≡ added now (path ∷ []) → next ≡ added before (looked_before root dirs (i + 1))
looked_on before now next root dirs i dir path lt is p n e =
    added_more before now next (looked_before root dirs i) path n e
    ∙ ap (λ q. added before (looked_before root dirs i ++ q ∷ [])) p
    ∙ ap (λ l. added before (root ∷ l)) (sym (ap (map (λ folder. stem_of root ++ folder)) (take_more dirs i dir lt ∙ ap (λ t. take i dirs ++ t ∷ []) (sym is)) ∙ map_last (λ folder. stem_of root ++ folder) (take i dirs) dir))

split_map : {A B : Type 0} (f : A → B) (xs : List A) (i : ℕ) → map f (take i xs) ++ map f (drop i xs) ≡ map f xs
split_map f [] zero = refl
split_map f [] (suc i) = refl
split_map f (x ∷ xs) zero = refl
split_map f (x ∷ xs) (suc i) = ap (λ l. f x ∷ l) (split_map f xs i)

pub looked_prefix : (before now : Option (List (List ℕ))) (root : List ℕ) (dirs : List (List ℕ)) (i : ℕ) → now ≡ added before (looked_before root dirs i) → AddsPrefix before now (folder_paths root dirs)
looked_prefix before now root dirs i n = record {
  rest = map (λ folder. stem_of root ++ folder) (drop i dirs);
  owes = record {
    came = looked_before root dirs i;
    split = ap (λ l. root ∷ l) (split_map (λ folder. stem_of root ++ folder) dirs i);
    told = n;
  };
}

take_none : {A : Type 0} (xs : List A) → take 0 xs ≡ []
take_none [] = refl
take_none (x ∷ xs) = refl

-- the root alone was looked at
pub looked_root : (before now : Option (List (List ℕ))) (root : List ℕ) (dirs : List (List ℕ)) → now ≡ added before (root ∷ []) → now ≡ added before (looked_before root dirs 0)
looked_root before now root dirs n = n ∙ ap (λ l. added before (folder_paths root l)) (sym (take_none dirs))

pub none_found : (told : Option SourceTree) (path : List ℕ) (time : Option ℕ) → time ≡ None → IfSome told (λ m. time ≡ folder_time (get m path)) → IfSome told (λ m. None ≡ folder_time (get m path))
none_found None path time e h = tt
none_found (Some m) path time e h = sym e ∙ h

pub some_found : (told : Option SourceTree) (path : List ℕ) (time : Option ℕ) (found : ℕ) → time ≡ Some found → IfSome told (λ m. time ≡ folder_time (get m path)) → IfSome told (λ m. Some found ≡ folder_time (get m path))
some_found None path time found e h = tt
some_found (Some m) path time found e h = sym e ∙ h

-- nothing was looked at
pub unchanged : (before now : Option (List (List ℕ))) (all : List (List ℕ)) → now ≡ before → AddsPrefix before now all
unchanged before now all e = subst (λ n. AddsPrefix before n all) (sym e) (none_came before all)
