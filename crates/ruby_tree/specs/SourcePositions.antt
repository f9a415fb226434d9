-- Where a node stands, as the reader holds it.
use Rattle.ruby_tree.specs.declared.positions.SourcePosition as declared_spot
use Rattle.ruby_tree.specs.Tree.{SourcePosition}

-- the position that the lines and the place of a node are
abbrev pub position_of : declared_spot.SourcePosition → SourcePosition
position_of o = record { first = o.first; line = o.line; place = o.place }
