use Rattle.std.proofs.Common.{◌≡◌, ℕ, List, [], ◌∷◌, ◌++◌, Option, Some, None, ap, append_assoc, append-nil}
use Rattle.std.specs.FinMap.{get, entries}
use Rattle.bs_outside.specs.SourceTree.{SourceTree, list_at, stem_of, name_below, names_below, put_name}
use Rattle.bs_outside.specs.declared.trees.Item.{Item}
use Rattle.bs_outside.specs.declared.trees.Item.TheVariants as item
use Rattle.bs_outside.specs.declared.trees.Listed.{Listed}

pub list_is : (tree : SourceTree) (path : List ℕ) (time : ℕ) (names : List Listed) → get tree path ≡ Some (item.Dir time) → names ≡ names_below (stem_of path) (entries tree) → Some names ≡ list_at tree path
list_is tree path time names g n = rw g (ap Some n)

put_name-append : (name : Option (List ℕ)) (found : Item) (names rest : List Listed) → (names ++ put_name name found []) ++ rest ≡ names ++ put_name name found rest
put_name-append None found names rest = ap (λ l. l ++ rest) (append-nil names)
put_name-append (Some name) found names rest = append_assoc names _ rest

-- one entry more: its name, where it has one, is the next of those that are left
pub names_step : (stem path : List ℕ) (found : Item) (names new : List Listed) (left next : List (List ℕ × Item)) → left ≡ (path, found) ∷ next
    → new ≡ names ++ put_name (name_below stem path) found [] → new ++ names_below stem next ≡ names ++ names_below stem left
names_step stem path found names new left next l n = rw (l, n) (put_name-append (name_below stem path) found names (names_below stem next))
