-- What was gathered, as the code keeps it.
use Rattle.std.specs.Prelude.{map, length}
use Rattle.local_scopes.specs.Gathering.{Gathering, AreMarks}
use Rattle.local_scopes.specs.declared.known.Known.TheInside.{Inside}

abbrev pub gathering_of : Inside → Gathering
gathering_of a = record { names = map (λ name. name.now) a.names.keys; marks = a.marks.entries }

abbrev pub IsKnown : Inside → Type 0
IsKnown a = AreMarks (length a.names.keys) a.marks.entries
