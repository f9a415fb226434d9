-- What a world holds that a run of placed trees can reach: a graph of classes, code whose trees are placed and whose classes are classes; and
-- the frames and outcomes that fit such a tree.
use Rattle.std.specs.Prelude.{◌≡◌, ℕ, ◌<◌, true, false, ◌||◌, List, [], ◌∷◌, length, Option, Some, None, is_some, ⊤}
use Rattle.ruby_tree.specs.Names.{Bytes}
use Rattle.ruby_tree.specs.Tree.{Tree}
use Rattle.ruby_tree.specs.Placement.{Around, at_home, in_block}
use Rattle.ruby_tree.specs.Placement as placement
use Rattle.ruby_meaning.specs.Value.{Code, MethodBody, written, native, reader, writer, MethodRow, Class, Objects}
use Rattle.ruby_meaning.specs.Numbers.{object_class, features}
use Rattle.ruby_meaning.specs.Store.{is_one_of, kind_at, class_at, is_class_or_module, Place, rows_of, class_rows_of}
use Rattle.ruby_meaning.specs.World.{Home, in_file, in_method, in_class, Running, Closure, World, Frame, Outcome, Done, Raise, Break, Next, Return, Retry, Spent, Full, Run, world_of}
use Rattle.ruby_meaning.specs.Files.{Files, ruby_tree}
use Rattle.ruby_meaning.specs.ClassGraph.{IsGraph, StoreLeads}
use Rattle.reference_laws.specs.Placed.{home_of, IsPlaced}

-- Numbers of classes.

abbrev pub IsClass : Objects → ℕ → Type 0
IsClass store n = is_class_or_module (kind_at store n) ≡ true

abbrev pub AreClasses : Objects → List ℕ → Type 0
AreClasses store [] = ⊤
AreClasses store (c ∷ cs) = IsClass store c × AreClasses store cs

-- Code, rows and closures of which each is so.

-- a method's code is so where it is written in Ruby
abbrev pub BodyIs : (Code → Type 0) → MethodBody → Type 0
BodyIs so (written code) = so code
BodyIs so (native n) = ⊤
BodyIs so (reader x) = ⊤
BodyIs so (writer x) = ⊤

abbrev pub RowsAre : (Code → Type 0) → List MethodRow → Type 0
RowsAre so [] = ⊤
RowsAre so (r ∷ rows) = BodyIs so r.body × RowsAre so rows

-- the rows of a class
abbrev pub ClassIs : (Code → Type 0) → Class → Type 0
ClassIs so c = RowsAre so c.methods × RowsAre so c.class_methods

-- the rows of each class
abbrev pub EachCode : (Code → Type 0) → Objects → Type 0
EachCode so store = (n : ℕ) → ClassIs so (class_at store n)

abbrev pub EachClosure : (Closure → Type 0) → List Closure → Type 0
EachClosure so [] = ⊤
EachClosure so (k ∷ all) = so k × EachClosure so all

-- Code and closures that stand.

-- a method's body is placed as the home that it is, and the class bodies around it are of classes
pub record CodeStored (store : Objects) (code : Code) : Type 0 where
  pub placed : IsPlaced (at_home (home_of code.body)) code.body
  pub classes : AreClasses store code.classes

-- The home that a frame leaves by a return is of the sort that stands around the tree, and in a method there is a method that runs.
abbrev pub HomeFits : placement.Home → Home → Option Running → Type 0
HomeFits placement.file (in_file n) m = ⊤
HomeFits (placement.in_method r) (in_method n) (Some m) = ⊤
HomeFits placement.in_class in_class m = ⊤
HomeFits h k m = ⊥

-- the class that has the rows of this place
abbrev pub class_of_place : Place → ℕ
class_of_place (rows_of c) = c
class_of_place (class_rows_of c) = c

-- the method that runs was found among the rows of a class
abbrev pub RunningFits : Objects → Option Running → Type 0
RunningFits store None = ⊤
RunningFits store (Some r) = IsClass store (class_of_place r.place)

-- A block that was made where this stands around is placed there, its home is of the sort, and the class bodies around it are of classes.
pub record StoredIn (around : Around) (store : Objects) (k : Closure) : Type 0 where
  pub placed : IsPlaced (in_block around) k.code.body
  pub home : HomeFits around.home k.home k.method
  pub running : RunningFits store k.method
  pub classes : AreClasses store k.code.classes

abbrev pub ClosureStored : Objects → Closure → Type 0
ClosureStored store k = (around : Around) × StoredIn around store k

-- A world that a run of placed trees can reach: its classes are a graph, Object is one of them and the Array of the features is none, and the
-- methods and the blocks are placed.
pub record IsStored (w : World) : Type 0 where
  pub graph : IsGraph w.objects
  pub object : IsClass w.objects object_class
  pub there : features < length w.objects
  pub other : is_class_or_module (kind_at w.objects features) ≡ false
  pub rows : EachCode (CodeStored w.objects) w.objects
  pub closures : EachClosure (ClosureStored w.objects) w.closures

-- Frames, and outcomes.

-- the home has not ended
abbrev pub HomeRuns : Home → List ℕ → Type 0
HomeRuns (in_file n) running = is_one_of n running ≡ true
HomeRuns (in_method n) running = is_one_of n running ≡ true
HomeRuns in_class running = ⊤

-- The frame of a tree around which this stands: the class bodies around it are of classes, and so is what has the row of its method; its home
-- is of the sort, and has not ended where the frame is no block's; it is in a loop or a block where the tree is, in a loop only in one of
-- these, and in a block only in a block.
pub record FrameFits (c : Around) (frame : Frame) (store : Objects) : Type 0 where
  pub classes : AreClasses store frame.code.classes
  pub running : RunningFits store frame.method
  pub home : HomeFits c.home frame.home frame.method
  pub runs : is_some frame.in_block ≡ false → HomeRuns frame.home frame.running
  pub loop : c.loop ≡ true → (frame.in_loop || is_some frame.in_block) ≡ true
  pub in_loop : frame.in_loop ≡ true → c.loop ≡ true
  pub block : is_some frame.in_block ≡ c.block

-- a `next` comes only out of a loop or a block, and a `retry` only out of a clause
abbrev pub PlacedOut : Around → Outcome → Type 0
PlacedOut c (Done v w) = ⊤
PlacedOut c (Raise v w) = ⊤
PlacedOut c (Break t v w) = ⊤
PlacedOut c (Next v w) = c.loop ≡ true
PlacedOut c (Return n v w) = ⊤
PlacedOut c (Retry w) = c.clause ≡ true
PlacedOut c (Spent w) = ⊤
PlacedOut c (Full w) = ⊤

-- What holds of the outcome of a run from a stored world: its world is stored, and what was known of classes stays; and the outcome is placed.
pub record StoredOut (c : Around) (w : World) (o : Outcome) : Type 0 where
  pub leads : StoreLeads w.objects (world_of o).objects
  pub stored : IsStored (world_of o)
  pub placed : PlacedOut c o

-- So it is for each placed tree in a frame that fits, from each stored world.
abbrev pub StaysStored : (Tree → Frame → Run) → Type 0
StaysStored b = (c : Around) (t : Tree) (frame : Frame) (w : World) → IsPlaced c t → FrameFits c frame w.objects → IsStored w → StoredOut c w (b t frame w)

-- what each Ruby file is read as is placed
abbrev pub ArePlaced : Files → Type 0
ArePlaced files = (path : Bytes) (t : Tree) → files.ruby path ≡ ruby_tree t → IsPlaced (at_home placement.file) t

-- how a program ends: with a value, an exception, no turn left, or a full store
abbrev pub EndsAsProgram : Outcome → Type 0
EndsAsProgram (Done v w) = ⊤
EndsAsProgram (Raise v w) = ⊤
EndsAsProgram (Break t v w) = ⊥
EndsAsProgram (Next v w) = ⊥
EndsAsProgram (Return n v w) = ⊥
EndsAsProgram (Retry w) = ⊥
EndsAsProgram (Spent w) = ⊤
EndsAsProgram (Full w) = ⊤
