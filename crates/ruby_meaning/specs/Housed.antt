-- What a world holds of locals that a run of housed trees can reach: each code sees and holds the locals of its body, and each block was made
-- where its own are in sight; and the runs that keep this.
use Rattle.std.specs.Prelude.{◌≡◌, List, [], length, Option, Some}
use Rattle.std.specs.Prelude.{ℕ}
use Rattle.ruby_tree.specs.Names.{Bytes}
use Rattle.ruby_tree.specs.Tree.{Tree}
use Rattle.ruby_tree.specs.Placement.{Around}
use Rattle.ruby_meaning.specs.Value.{Source, Code}
use Rattle.ruby_meaning.specs.Locals.{locals_of}
use Rattle.ruby_meaning.specs.Sequences.{places}
use Rattle.ruby_meaning.specs.World.{Environment, Closure, World, Frame, Outcome, Run, world_of}
use Rattle.ruby_meaning.specs.Files.{Files, ruby_tree}
use Rattle.ruby_meaning.specs.ClassGraph.{StoreLeads}
use Rattle.ruby_meaning.specs.Laws.{EnvironmentsStay}
use Rattle.ruby_meaning.specs.Levels.{Sight, file_sight, body_sight, names_seen, block_sight, Telling, Told, IsHoused}
use Rattle.ruby_meaning.specs.InSight.{HaveNames, InSight}
use Rattle.reference_laws.specs.Placed.{IsPlaced}
use Rattle.ruby_meaning.specs.Stored.{EachCode, EachClosure, IsStored, FrameFits, StoredOut}

-- where the code of a file with this tree stands
abbrev pub source_of : Bytes → Option ℕ → Tree → Source
source_of path load t = record { path = path; load = load; places = places t }

-- Of each source, the bodies that are to be found.
module _ (told : Telling) where
  -- A method's code: it sees no locals around its body, has those of the body, and each local in it is held. The table of its file has its body.
  pub record CodeHoused (code : Code) : Type 0 where
    pub seen : code.seen ≡ []
    pub locals : code.locals ≡ locals_of [] code.body
    pub housed : IsHoused (told code.source) (body_sight code.body) code.body
    pub told_body : Told (told code.source) (body_sight code.body) code.body

  -- A block's code that was made where this is in sight: it sees the locals in sight, and has those of its body. The environments outward of the
  -- one in which it was made have the names in sight, and each local in it is held. The table of its file has its body.
  pub record MadeIn (around : Sight) (all : List Environment) (k : Closure) : Type 0 where
    pub seen : k.code.seen ≡ names_seen around k.code.body
    pub locals : k.code.locals ≡ locals_of (names_seen around k.code.body) k.code.body
    pub scopes : HaveNames (length all) around.scopes all (Some k.environment)
    pub housed : IsHoused (told k.code.source) (block_sight around k.code.body) k.code.body
    pub told_body : Told (told k.code.source) (block_sight around k.code.body) k.code.body

  abbrev pub ClosureHoused : List Environment → Closure → Type 0
  ClosureHoused all k = (around : Sight) × MadeIn around all k

  -- A world that a run of housed trees can reach: so is the code of each method, and each block.
  pub record WorldHoused (w : World) : Type 0 where
    pub rows : EachCode CodeHoused w.objects
    pub closures : EachClosure (ClosureHoused w.environments) w.closures

  -- What holds behind a run from such a world: the environments keep their parents and names, and the world is such a one.
  pub record HousedOut (w : World) (o : Outcome) : Type 0 where
    pub stay : EnvironmentsStay w.environments (world_of o).environments
    pub housed : WorldHoused (world_of o)

  -- What a change of a world keeps in which all stands: what was known of classes stays, environments keep their parents and names, and all that
  -- stands behind it is stored and housed.
  pub record StandsFrom (w z : World) : Type 0 where
    pub leads : StoreLeads w.objects z.objects
    pub stay : EnvironmentsStay w.environments z.environments
    pub stored : IsStored z
    pub housed : WorldHoused z

  -- A tree that may be evaluated in this frame from this world: it is placed where the frame fits and housed in what is in the frame's sight, and
  -- the world is one that a run of such trees can reach.
  pub record InPlace (c : Around) (s : Sight) (t : Tree) (frame : Frame) (w : World) : Type 0 where
    pub placed : IsPlaced c t
    pub housed : IsHoused (told frame.code.source) s t
    pub fits : FrameFits c frame w.objects
    pub sight : InSight s frame w
    pub stored : IsStored w
    pub world : WorldHoused w

  -- The runs of each tree that is in place lead to such a world, in which what was known stays.
  abbrev pub StaysHoused : (Tree → Frame → Run) → Type 0
  StaysHoused b = (c : Around) (s : Sight) (t : Tree) (frame : Frame) (w : World) → InPlace c s t frame w → StoredOut c w (b t frame w) × HousedOut w (b t frame w)

  -- in what each Ruby file is read as, each local is held
  abbrev pub AreHoused : Files → Type 0
  AreHoused files = (path : Bytes) (load : ℕ) (t : Tree) → files.ruby path ≡ ruby_tree t → IsHoused (told (source_of path (Some load) t)) (file_sight t) t
