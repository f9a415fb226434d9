-- What every run keeps.
use Rattle.std.specs.Prelude.{◌≡◌, ℕ, suc, ◌+◌, ◌<◌, ◌≤◌, List, [], ◌∷◌, ◌++◌, length, IfSome, ⊤}
use Rattle.ruby_tree.specs.Names.{Bytes}
use Rattle.ruby_meaning.specs.Store.{cell_limit}
use Rattle.ruby_meaning.specs.Value.{Value}
use Rattle.ruby_meaning.specs.World.{Environment, Closure, World, Frame, Outcome, Done, Raise, Break, Next, Return, Retry, Spent, Full}
use Rattle.ruby_meaning.specs.PlainRun.{Program, Ending, exit, turns_spent, store_full}

-- the first text with something behind it
abbrev pub Grows : Bytes → Bytes → Type 0
Grows f g = (rest : Bytes) × (g ≡ f ++ rest)

-- Each environment's parent, where it has one, is below its own number. The first of these has this number.
abbrev pub ParentsBelow : ℕ → List Environment → Type 0
ParentsBelow n [] = ⊤
ParentsBelow n (e ∷ all) = IfSome e.parent (λ p. p < n) × ParentsBelow (suc n) all

-- each closure's environment is one of the first so many
abbrev pub EnvironmentsBelow : ℕ → List Closure → Type 0
EnvironmentsBelow n [] = ⊤
EnvironmentsBelow n (c ∷ all) = (c.environment < n) × EnvironmentsBelow n all

-- A world in which parents are below their children, and each closure has an environment.
pub record IsSound (w : World) : Type 0 where
  pub parents : ParentsBelow 0 w.environments
  pub closures : EnvironmentsBelow (length w.environments) w.closures

-- the names of locals, in order
abbrev pub names_in : List (Bytes × Value) → List Bytes
names_in [] = []
names_in (b ∷ all) = b.0 ∷ names_in all

-- Environments that stand keep their parents and the names of their locals; more may stand behind them.
abbrev pub EnvironmentsStay : List Environment → List Environment → Type 0
EnvironmentsStay [] after = ⊤
EnvironmentsStay (e ∷ all) [] = ⊥
EnvironmentsStay (e ∷ all) (d ∷ after) = (d.parent ≡ e.parent) × (names_in d.locals ≡ names_in e.locals) × EnvironmentsStay all after

-- closures stay; more may stand behind them
abbrev pub ClosuresStay : List Closure → List Closure → Type 0
ClosuresStay all after = (rest : List Closure) × (after ≡ all ++ rest)

-- What holds of the world before a run in a frame, and the world behind it: turns are never gained, cells only grow and do not pass the limit,
-- output and error text only grow, depth and the files that are loading are as they were, closures and environments stay, and a sound world
-- stays sound.
pub record Leads (frame : Frame) (w z : World) : Type 0 where
  pub turns : z.turns ≤ w.turns
  pub cells : w.cells ≤ z.cells
  pub within : w.cells ≤ cell_limit → z.cells ≤ cell_limit
  pub output : Grows w.output z.output
  pub error_text : Grows w.error_text z.error_text
  pub depth : z.depth ≡ w.depth
  pub loading : z.loading ≡ w.loading
  pub closures : ClosuresStay w.closures z.closures
  pub stay : EnvironmentsStay w.environments z.environments
  pub environments : length w.environments ≤ length z.environments
  pub sound : frame.environment < length w.environments → IsSound w → IsSound z

-- the same world with more turns
abbrev pub given : ℕ → World → World
given k w = record w { turns = w.turns + k }

abbrev pub given_out : ℕ → Outcome → Outcome
given_out k (Done v w) = Done v (given k w)
given_out k (Raise v w) = Raise v (given k w)
given_out k (Break t v w) = Break t v (given k w)
given_out k (Next v w) = Next v (given k w)
given_out k (Return n v w) = Return n v (given k w)
given_out k (Retry w) = Retry (given k w)
given_out k (Spent w) = Spent (given k w)
given_out k (Full w) = Full (given k w)

-- the run has come to its end, and not to the end of its turns
abbrev pub IsOver : Outcome → Type 0
IsOver (Done v w) = ⊤
IsOver (Raise v w) = ⊤
IsOver (Break t v w) = ⊤
IsOver (Next v w) = ⊤
IsOver (Return n v w) = ⊤
IsOver (Retry w) = ⊤
IsOver (Spent w) = ⊥
IsOver (Full w) = ⊤

-- the program with more turns
abbrev pub given_program : ℕ → Program → Program
given_program k p = record p { turns = p.turns + k }

-- the program came to an end, and not to the end of its turns
abbrev pub HasEnded : Ending → Type 0
HasEnded (exit n) = ⊤
HasEnded turns_spent = ⊥
HasEnded store_full = ⊤
