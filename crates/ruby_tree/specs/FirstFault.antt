-- The fault of placement that comes first in the text, and how the code writes what stands around a node.
use Rattle.std.specs.Prelude.{◌≡◌, nat_lt, List, [], ◌∷◌, Option, Some, None, if◌then◌else◌}
use Rattle.ruby_tree.specs.declared.surroundings.Home.{Home}
use Rattle.ruby_tree.specs.declared.surroundings.Home.TheVariants as home
use Rattle.ruby_tree.specs.declared.surroundings.Surroundings.{Surroundings}
use Rattle.ruby_tree.specs.declared.surroundings.Misplaced.{Misplaced}
use Rattle.ruby_tree.specs.declared.names.Name.{Name}
use Rattle.ruby_tree.specs.declared.node.Param.{Param}
use Rattle.ruby_tree.specs.declared.node.Param.TheVariants as param
use Rattle.ruby_tree.specs.Tree.{SourcePosition, Tree, at}
use Rattle.ruby_tree.specs.Placement.{Around, file, in_method, in_class, fault_if, is_fault}
use Rattle.ruby_tree.specs.Placement as placement
use Rattle.ruby_tree.specs.FaultLine.{IsFirst}

abbrev pub home_of : Home → placement.Home
home_of home.File = file
home_of (home.Method r) = in_method r
home_of home.Class = in_class

abbrev pub around_of : Surroundings → Around
around_of s = record { home = home_of s.home; loop = s.in_loop; block = s.in_block; clause = s.in_clause }

-- the fault that begins at this position
abbrev pub fault_at : SourcePosition → Misplaced
fault_at o = record { line = o.first; place = o.place }

-- Of two faults the one that comes first, and of two at one place the first of them.
unfoldable pub earlier : Option Misplaced → Option Misplaced → Option Misplaced
earlier None b = b
earlier (Some a) None = Some a
earlier (Some a) (Some b) = if nat_lt b.place a.place then Some b else Some a

-- the first of the faults at these positions
unfoldable pub first_of : List SourcePosition → Option Misplaced
first_of [] = None
first_of (o ∷ os) = earlier (Some (fault_at o)) (first_of os)

-- The line and the place are those of one of these positions, and none of them comes before it.
pub record IsFirstFault (os : List SourcePosition) (m : Misplaced) : Type 0 where
  pub position : SourcePosition
  pub first : IsFirst os position
  pub line : position.first ≡ m.line
  pub place : position.place ≡ m.place

abbrev pub param_name : {N : Type 0} → Param N → Name
param_name (param.Required n) = n
param_name (param.Optional n a) = n
param_name (param.Rest n) = n
param_name (param.Block n) = n

-- the position of a tree, where its root is a fault by itself
abbrev pub root_faults : Around → Tree → List SourcePosition
root_faults c (at o f) = fault_if (is_fault c f) o
