use Rattle.std.proofs.Common.{arith}
use Rattle.ruby_tree.specs.Tree.{at}
use Rattle.ruby_tree.specs.SourcePositions.{position_of}
use Rattle.tree_builder.proofs.kept.grown.Goals as goal

pub returns-then-depth-lt-MAX_DEPTH : goal.returns-then-depth-lt-MAX_DEPTH
returns-then-depth-lt-MAX_DEPTH c T f h = record {
  shows = omega (arith, h.shows);
  reads = λ small U on. c.node_at.ensures U f (h.reads (omega (arith, h.shows)) U on);
}

pub returns-else-depth-lt-MAX_DEPTH : goal.returns-else-depth-lt-MAX_DEPTH
returns-else-depth-lt-MAX_DEPTH c T f h = c.too_deep.ensures T (at (position_of c.args.position) f) (omega (arith, h.shows))
