-- What a call is given, as a parser holds it.
use Rattle.std.specs.Prelude.{◌≡◌, [], ◌++◌}
use Rattle.ruby_tree.specs.Names.{Texts}
use Rattle.ruby_tree.specs.Tree.{Tree, no_more, trees_then}
use Rattle.ruby_tree.specs.Build.{Given, one}
use Rattle.tree_builder.specs.Subtrees.{Holds, HoldsAll, HoldsOther}
use Rattle.reference_parser.specs.ReadItems.{Element, KeyValue, Passing}
use Rattle.parse_parts.specs.declared.given.ArgumentParts.{ArgumentParts}
use Rattle.parse_parts.specs.declared.given.ElementPart.{ElementPart}
use Rattle.parse_parts.specs.declared.given.PassingParts.{PassingParts}
use Rattle.parse_parts.specs.declared.given.HashPart.{HashPart}
use Rattle.parse_parts.specs.declared.pairs.PairPart.{PairPart}

-- the first items, and then the others, of which the last is what is passed
abbrev pub given_then : Given → Given → Given
given_then g h = record { trees = trees_then g.trees h.trees; spread = g.spread ++ h.spread; value = h.value; block = h.block }

abbrev pub only_passing : Passing → Given
only_passing p = record { trees = no_more; spread = []; value = p.value; block = p.block }

-- The parts are, in the table T, what they hold.
module _ (T : Texts) where
  pub record HoldsGiven (x : ArgumentParts) (g : Given) : Type 0 where
    pub trees : HoldsAll T x.arguments g.trees
    pub spread : x.spread.items ≡ g.spread
    pub value : HoldsOther T x.value g.value
    pub block : HoldsOther T x.block g.block

  pub record HoldsElement (x : ElementPart) (e : Element) : Type 0 where
    pub spread : x.spread ≡ e.spread
    pub tree : Holds T x.part e.tree

  pub record HoldsPair (x : PairPart) (p : KeyValue) : Type 0 where
    pub key : Holds T x.key p.key
    pub value : Holds T x.value p.value

  pub record HoldsPassing (x : PassingParts) (p : Passing) : Type 0 where
    pub value : HoldsOther T x.value p.value
    pub block : HoldsOther T x.block p.block

  -- one hash, and what is passed
  pub record HoldsHash (x : HashPart) (g : Given) : Type 0 where
    pub tree : Tree
    pub passing : Passing
    pub hash : Holds T x.hash tree
    pub passed : HoldsPassing x.passing passing
    pub is : g ≡ record { trees = one tree; spread = []; value = passing.value; block = passing.block }
