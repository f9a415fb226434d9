-- Whether an item of a list has a name, and the last that has it.
use Rattle.std.proofs.Common.{◌≡◌, Bool, true, false, ℕ, List, [], ◌∷◌, ◌++◌, Option, Some, None, is_some, ◌||◌, if◌then◌else◌, refl, sym, ◌∙◌, ap}
use Rattle.std.specs.Borrow.{Bor}
use Rattle.std.specs.Option.{option_copied}
use Rattle.bs_outside.specs.Cache.{CacheItem, same_name, or_else, last_of}
use Rattle.bs_outside.specs.declared.names.CacheName.{CacheName}
use Rattle.atomic_files.proofs.LookUps.{last_of-append}
use Rattle.mem_shelf.specs.Keeping.{is_named}

-- a list ends in an item of this name
pub last_of-here : (before all : List CacheItem) (item : CacheItem) (name : CacheName) → all ≡ before ++ item ∷ [] → same_name item.0 name ≡ true → last_of all name ≡ Some item.1
last_of-here before all item name is same =
    ap (λ (l : List CacheItem). last_of l name) is ∙ last_of-append before (item ∷ []) name
    ∙ ap (λ (t : Bool). or_else (if t then Some item.1 else None) (last_of before name)) same

-- or of another
pub last_of-before : (before all : List CacheItem) (item : CacheItem) (name : CacheName) → all ≡ before ++ item ∷ [] → same_name item.0 name ≡ false → last_of before name ≡ last_of all name
last_of-before before all item name is other =
    sym (ap (λ (l : List CacheItem). last_of l name) is ∙ last_of-append before (item ∷ []) name
    ∙ ap (λ (t : Bool). or_else (if t then Some item.1 else None) (last_of before name)) other)

is_some-or_else : (a b : Option (List ℕ)) → is_some (or_else a b) ≡ (is_some b || is_some a)
is_some-or_else None None = refl
is_some-or_else None (Some y) = refl
is_some-or_else (Some x) None = refl
is_some-or_else (Some x) (Some y) = refl

pub named-append : (xs ys : List CacheItem) (name : CacheName) → is_named (xs ++ ys) name ≡ (is_some (last_of xs name) || is_some (last_of ys name))
named-append xs ys name = ap is_some (last_of-append xs ys name) ∙ is_some-or_else (last_of ys name) (last_of xs name)

copied : (o : Option (Bor (List ℕ))) → is_some o ≡ is_some (option_copied o)
copied None = refl
copied (Some bytes) = refl

-- one of the first files has the name
pub named_first : (files after : List CacheItem) (name : CacheName) (found : Option (Bor (List ℕ))) (result : Bool) → option_copied found ≡ last_of files name → result ≡ is_some found → result ≡ true
    → result ≡ is_named (files ++ after) name
named_first files after name found result is tested some =
    let first : true ≡ is_some (last_of files name) = sym some ∙ tested ∙ copied found ∙ ap is_some is in
    some ∙ ap (λ (t : Bool). t || is_some (last_of after name)) first ∙ sym (named-append files after name)

-- or none has, and one of the others may
pub named_after : (files after : List CacheItem) (name : CacheName) (found then_found : Option (Bor (List ℕ))) (result then_result : Bool) → option_copied found ≡ last_of files name → result ≡ is_some found → result ≡ false
    → option_copied then_found ≡ last_of after name → then_result ≡ is_some then_found → then_result ≡ is_named (files ++ after) name
named_after files after name found then_found result then_result is tested none then_is then_tested =
    let first : false ≡ is_some (last_of files name) = sym none ∙ tested ∙ copied found ∙ ap is_some is in
    then_tested ∙ copied then_found ∙ ap is_some then_is ∙ ap (λ (t : Bool). t || is_some (last_of after name)) first ∙ sym (named-append files after name)
