-- The environments of the bodies that are open, the innermost first, as the code keeps them.
use Rattle.std.specs.Prelude.{◌≡◌, ℕ, List, [], ◌∷◌, ◌++◌, map, take, ⊤}
use Rattle.ruby_tree.specs.Names.{Bytes}
use Rattle.ruby_tree.specs.Tree.{Tree}
use Rattle.ruby_meaning.specs.Locals.{so_far, names_in, of_tree, params_of, names_of_params}
use Rattle.ruby_meaning.specs.Levels.{Scopes, Sight}
use Rattle.local_scopes.specs.declared.kinds.BodyKind.{BodyKind}
use Rattle.local_scopes.specs.declared.kinds.BodyKind.TheVariants.{File, Home, Block}
use Rattle.local_scopes.specs.declared.environments.Environment.{Environment}
use Rattle.local_scopes.specs.Gathering.{gathered}
use Rattle.local_scopes.specs.Opened.{Open, sight_of, sight}

abbrev pub open_of : Environment → Open
open_of e = record { texts = e.symbols.now; node = e.body.now; kind = e.kind }

-- what stands around a body, as far as it is in sight within the body: for a block alone
abbrev pub visible : {X : Type 0} → BodyKind → List X → List X
visible File around = []
visible Home around = []
visible Block around = around

-- what a block sees that stands behind so many names of the innermost body
abbrev pub seen_names : ℕ → List Environment → List Bytes
seen_names count [] = []
seen_names count (e ∷ es) = take count e.known.names ++ visible e.kind (seen_names e.mark es)

-- what a block sees that stands at this place of the innermost body
abbrev pub seen_at : ℕ → List Environment → List Bytes
seen_at place [] = []
seen_at place (e ∷ es) = names_in (gathered e.known place) ++ visible e.kind (seen_names e.mark es)

-- the names of the environments in sight
abbrev pub scopes_in : List Environment → Scopes
scopes_in [] = []
scopes_in (e ∷ es) = e.locals ∷ visible e.kind (scopes_in es)

-- the names of the parameters of a body: a file has none
abbrev pub params_as : BodyKind → Tree → List Bytes
params_as File t = []
params_as Home t = names_of_params (params_of t)
params_as Block t = names_of_params (params_of t)

-- what is in sight within the body, which the others stand around
abbrev pub sight_in : Environment → List Environment → Sight
sight_in e es = sight_of (open_of e) (sight (map open_of es))

-- The environment is that of its body: what was gathered is all of it, and the names that it sees and those that are its own are those
-- of what is in sight.
pub record IsRight (e : Environment) (es : List Environment) : Type 0 where
  pub known : (place : ℕ) → gathered e.known place ≡ of_tree place (sight_in e es).body (so_far [])
  pub seen : visible e.kind (seen_names e.mark es) ≡ (sight_in e es).seen
  pub scopes : e.locals ∷ visible e.kind (scopes_in es) ≡ (sight_in e es).scopes

abbrev pub AreRight : List Environment → Type 0
AreRight [] = ⊤
AreRight (e ∷ es) = IsRight e es × AreRight es
