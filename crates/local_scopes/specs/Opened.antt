-- The bodies that are open, the innermost first, and what is in sight within each.
use Rattle.std.specs.Prelude.{List, [], ◌∷◌}
use Rattle.ruby_tree.specs.declared.node.Node.{Node}
use Rattle.ruby_tree.specs.Names.{Bytes, Texts}
use Rattle.ruby_tree.specs.Tree.{Tree, at, nil_value}
use Rattle.ruby_tree.specs.Read.{tree_of}
use Rattle.ruby_meaning.specs.Levels.{Scopes, Sight, file_sight, body_sight, block_sight}
use Rattle.local_scopes.specs.declared.kinds.BodyKind.{BodyKind}
use Rattle.local_scopes.specs.declared.kinds.BodyKind.TheVariants.{File, Home, Block}

-- A body: its node, the names in it, and what it is.
pub record Open : Type 0 where
  pub texts : Texts
  pub node : Node
  pub kind : BodyKind

abbrev pub sight_as : BodyKind → Tree → Sight → Sight
sight_as File t around = file_sight t
sight_as Home t around = body_sight t
sight_as Block t around = block_sight around t

-- what is in sight within a body, where this is in sight around it
abbrev pub sight_of : Open → Sight → Sight
sight_of o around = sight_as o.kind (tree_of o.texts o.node) around

-- nothing is in sight where no body is open
abbrev pub nothing : Sight
nothing = record { body = at (record { first = 0; line = 0; place = 0 }) nil_value; seen = []; scopes = [] }

abbrev pub innermost : List Sight → Sight
innermost [] = nothing
innermost (c ∷ cs) = c

abbrev pub sights : List Open → List Sight
sights [] = []
sights (o ∷ os) = sight_of o (innermost (sights os)) ∷ sights os

-- what is in sight within the innermost body
abbrev pub sight : List Open → Sight
sight os = innermost (sights os)

-- the names of the innermost environment
abbrev pub innermost_names : Scopes → List Bytes
innermost_names [] = []
innermost_names (names ∷ scopes) = names

-- the names in the innermost body
abbrev pub innermost_texts : List Open → Texts
innermost_texts [] = []
innermost_texts (o ∷ os) = o.texts
