-- The locals as their names, and how the index of the names stands to them.
use Rattle.std.specs.Prelude.{◌≡◌, ℕ, suc, ◌<◌, ◌≤◌, List, [], ◌∷◌, map, reverse, length, get_or, nat_eq, if◌then◌else◌}
use Rattle.std.specs.List.{AllByRecursion, IsDistinct}
use Rattle.ruby_lexer.specs.Bytes.{Bytes, same}
use Rattle.token_lookahead.specs.declared.locals.Locals.TheInside.{Inside}

-- the texts of the names, in the order of their numbers
abbrev pub texts_in : Inside → List Bytes
texts_in a = map (λ v. v.items) a.texts.keys

-- the numbers of the locals, the newest first
abbrev pub numbers_in : Inside → List ℕ
numbers_in a = reverse (map (λ d. d.number) a.declared.items)

abbrev pub befores_in : Inside → List ℕ
befores_in a = reverse (map (λ d. d.before) a.declared.items)

-- the name of a number
abbrev pub name_of : List Bytes → ℕ → Bytes
name_of texts n = get_or texts n []

abbrev pub locals_of : Inside → List Bytes
locals_of a = map (name_of (texts_in a)) (numbers_in a)

-- how many locals there are from the newest one of the number n on, or 0 where there is none
abbrev pub newest : ℕ → List ℕ → ℕ
newest n [] = 0
newest n (m ∷ ms) = if nat_eq n m then suc (length ms) else newest n ms

-- the same for each of the numbers, among those behind it
abbrev pub befores : List ℕ → List ℕ
befores [] = []
befores (m ∷ ms) = newest m ms ∷ befores ms

-- `places` has for each number of a text what is the newest place of it among the numbers, `before` what it was before each of them.
pub record Indexed (texts : List Bytes) (places numbers before : List ℕ) : Type 0 where
  pub apart : IsDistinct same texts
  pub fits : length places ≤ length texts
  pub within : AllByRecursion (λ n. n < length places) numbers
  pub newest_is : (n : ℕ) → get_or places n 0 ≡ newest n numbers
  pub before_is : before ≡ befores numbers

abbrev pub IsIndexed : Inside → Type 0
IsIndexed a = Indexed (texts_in a) a.newest.items (numbers_in a) (befores_in a)
