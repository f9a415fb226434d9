-- What a call is given, with its block, as a reader holds it.
use Rattle.std.specs.Prelude.{◌≡◌}
use Rattle.ruby_tree.specs.Names.{Texts}
use Rattle.tree_builder.specs.Subtrees.{HoldsAll, HoldsOther}
use Rattle.reference_parser.specs.ReadBodies.{Called}
use Rattle.parse_parts.specs.declared.given.ArgumentParts.{ArgumentParts}

-- The block of the parts is the call's, whether it is written there or stands for `&:name`.
pub record HoldsCalled (T : Texts) (x : ArgumentParts) (c : Called) : Type 0 where
  pub trees : HoldsAll T x.arguments c.given.trees
  pub spread : x.spread.items ≡ c.given.spread
  pub value : HoldsOther T x.value c.given.value
  pub block : HoldsOther T x.block c.block
