-- How the environments of a frame lie to what is in sight of a tree.
use Rattle.std.specs.Prelude.{◌≡◌, ◌<◌, ℕ, List, [], ◌∷◌, length, Option, Some, None, slice_get, ⊤}
use Rattle.ruby_meaning.specs.World.{Environment, World, Frame}
use Rattle.ruby_meaning.specs.Laws.{names_in}
use Rattle.ruby_meaning.specs.Levels.{Scopes, Sight}

-- The environments outward of this one, each below the one before, have these names.
abbrev pub HaveNames : ℕ → Scopes → List Environment → Option ℕ → Type 0
HaveNames below [] all p = ⊤
HaveNames below (xs ∷ scopes) all None = ⊥
HaveNames below (xs ∷ scopes) all (Some n) = (n < below) × (e : Environment) × (slice_get all n ≡ Some e) × (names_in e.locals ≡ xs) × HaveNames n scopes all e.parent

-- The frame's environments have these names.
abbrev pub HasScopes : Scopes → Frame → World → Type 0
HasScopes scopes frame w = HaveNames (length w.environments) scopes w.environments (Some frame.environment)

-- The frame runs the body in sight, which sees these names around it, and its environments have the names in sight.
pub record InSight (c : Sight) (frame : Frame) (w : World) : Type 0 where
  pub body : frame.code.body ≡ c.body
  pub seen : frame.code.seen ≡ c.seen
  pub scopes : HasScopes c.scopes frame w
