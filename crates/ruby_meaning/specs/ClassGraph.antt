-- The graph of classes: what stands right above a class, and that no way upward comes back to where it began.
use Rattle.std.specs.Prelude.{◌≡◌, ℕ, ◌<◌, ◌≤◌, true, List, [], ◌∷◌, ◌++◌, length, Option, Some, None}
use Rattle.ruby_meaning.specs.Value.{Kind, Objects}
use Rattle.ruby_meaning.specs.Store.{is_one_of, kind_at, class_in, is_class_or_module}

abbrev pub number_if : Option ℕ → List ℕ
number_if None = []
number_if (Some c) = c ∷ []

-- the modules that a class includes, and its superclass
abbrev pub above_in : Kind → List ℕ
above_in k = (class_in k).modules ++ number_if (class_in k).superclass

abbrev pub above : Objects → ℕ → List ℕ
above store c = above_in (kind_at store c)

-- Each step upward leads to a class or a module, and a rank falls at it, so that no way upward comes back.
pub record IsGraph (store : Objects) : Type 0 where
  pub rank : ℕ → ℕ
  pub falls : (c p : ℕ) → is_one_of p (above store c) ≡ true → rank p < rank c
  pub leads : (c p : ℕ) → is_one_of p (above store c) ≡ true → is_class_or_module (kind_at store p) ≡ true

-- What a change of the store keeps: objects stay in their places, classes stay classes and nothing else becomes one, and a graph stays one.
pub record StoreLeads (store next : Objects) : Type 0 where
  pub longer : length store ≤ length next
  pub classes : (n : ℕ) → n < length store → is_class_or_module (kind_at next n) ≡ is_class_or_module (kind_at store n)
  pub graph : IsGraph store → IsGraph next
