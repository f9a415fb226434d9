use Rattle.std.proofs.Common.{take}
use Rattle.ruby_tree.specs.Names.{Texts}
use Rattle.ruby_tree.specs.Build.{texts_at}
use Rattle.ruby_tree.specs.SourcePositions.{position_of}
use Rattle.tree_builder.specs.Subtrees.{HoldsAll}
use Rattle.tree_builder.proofs.builds.texts_at.Given as goal

abbrev pub invariant-loop-bytes : goal.invariant-loop-bytes
invariant-loop-bytes l = (T : Texts) → HoldsAll T l.parts (texts_at (position_of l.here) (take l.bytes-index l.texts))
