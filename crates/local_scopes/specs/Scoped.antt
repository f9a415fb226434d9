-- What contracts see of the open environments.
use Rattle.std.specs.Prelude.{List, map, reverse}
use Rattle.local_scopes.specs.declared.scopes.LocalScopes.TheInside.{Inside}
use Rattle.local_scopes.specs.Opened.{Open}
use Rattle.local_scopes.specs.Environments.{open_of, AreRight}

abbrev pub opened : Inside → List Open
opened a = map open_of (reverse a.open.items)

abbrev pub AreScopes : Inside → Type 0
AreScopes a = AreRight (reverse a.open.items)
