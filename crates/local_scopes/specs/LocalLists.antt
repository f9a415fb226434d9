-- The names of an environment, as the code keeps them.
use Rattle.std.specs.Prelude.{◌≡◌, List, map}
use Rattle.std.specs.List.{position}
use Rattle.ruby_lexer.specs.Bytes.{Bytes, same}
use Rattle.local_scopes.specs.Slots.{slot_of}
use Rattle.local_scopes.specs.declared.locals.Locals.TheInside.{Inside}

abbrev pub names_of : Inside → List Bytes
names_of a = map (λ name. name.now) a.names.items

-- each name has its first place
abbrev pub IsIndexed : Inside → Type 0
IsIndexed a = (name : Bytes) → slot_of name a.slots.entries ≡ position (same name) (names_of a)
