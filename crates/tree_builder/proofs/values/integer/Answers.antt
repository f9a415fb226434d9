use Rattle.std.proofs.Common.{◌≡◌, ℤ, subst, to_z, of_z, w64}
use Rattle.std.proofs.lemmas.Int.{to_z-of_z}
use Rattle.ruby_tree.specs.Tree.{at, integer}
use Rattle.ruby_tree.specs.SourcePositions.{position_of}
use Rattle.tree_builder.specs.Subtrees.{Holds}
use Rattle.tree_builder.proofs.values.integer.Goals as goal
use Rattle.tree_builder.proofs.ValueKinds.{integer_kind}

pub returns : goal.returns
returns c = record {
  made = λ T.
      let same : to_z w64 (of_z w64 c.args.value) ≡ c.args.value = to_z-of_z w64 _ c.ranges.value in
      subst (λ (z : ℤ). Holds T c.grown.result (at (position_of c.args.position) (integer z))) same (c.grown.ensures T _ (integer_kind T _));
}
