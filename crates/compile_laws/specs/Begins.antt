-- A frame and a world in which a body begins, so that its sequence does what the body means; and the codes whose frames begin so.
use Rattle.std.specs.Prelude.{◌≡◌, false, ◌∷◌}
use Rattle.ruby_tree.specs.Tree.{Tree}
use Rattle.ruby_meaning.specs.Value.{Code}
use Rattle.ruby_meaning.specs.Locals.{first_line_of, locals_of}
use Rattle.ruby_meaning.specs.World.{World, Frame}
use Rattle.ruby_meaning.specs.Levels.{Scopes}
use Rattle.ruby_meaning.specs.InSight.{InSight}
use Rattle.code_meaning.specs.Frames.{Tables}
use Rattle.compile_table.specs.Shapes.{Where}
use Rattle.compile_laws.specs.Finds.{FindsBody, StandsIn}

-- The frame runs this body, whose nodes stand there: it is in no loop and in no clause, the frame stands in it and has the names in sight, and the
-- tables of its unit have all that is in it.
pub record Begins (unit : Tables) (l : Where) (t : Tree) (frame : Frame) (w : World) : Type 0 where
  pub no_loop : l.loop ≡ false
  pub no_clause : l.clause ≡ false
  pub stands : StandsIn l frame
  pub sight : InSight l.sight frame w
  pub finds : FindsBody unit.seqs unit.bodies l t
  pub outside : frame.in_loop ≡ false

-- A code of a file, whose nodes stand there: its body is what is in sight, it sees what is seen there, and its locals are those of the body,
-- before those of these scopes; and the tables of the unit have all that is in it.
pub record IsCodeAt (unit : Tables) (l : Where) (scopes : Scopes) (code : Code) : Type 0 where
  pub no_loop : l.loop ≡ false
  pub no_clause : l.clause ≡ false
  pub first : first_line_of code.body ≡ l.first
  pub path : code.source.path ≡ l.path
  pub places : code.source.places ≡ l.places
  pub body : code.body ≡ l.sight.body
  pub seen : code.seen ≡ l.sight.seen
  pub locals : code.locals ≡ locals_of code.seen code.body
  pub sight : l.sight.scopes ≡ code.locals ∷ scopes
  pub finds : FindsBody unit.seqs unit.bodies l code.body
