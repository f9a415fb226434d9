use Rattle.std.proofs.Common.{List, take}
use Rattle.ruby_tree.specs.Names.{Bytes, Texts}
use Rattle.ruby_tree.specs.Build.{symbols_at}
use Rattle.ruby_tree.specs.SourcePositions.{position_of}
use Rattle.tree_builder.specs.Subtrees.{AreNamed, HoldsAll}
use Rattle.tree_builder.proofs.builds.symbols_at.Given as goal

abbrev pub invariant-loop-name : goal.invariant-loop-name
invariant-loop-name l = (T : Texts) (fs : List Bytes) → AreNamed T (take l.name-index l.names) fs → HoldsAll T l.parts (symbols_at (position_of l.here) fs)
