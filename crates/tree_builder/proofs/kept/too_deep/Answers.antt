use Rattle.std.proofs.Common.{arith}
use Rattle.tree_builder.proofs.kept.too_deep.Goals as goal

pub returns : goal.returns
returns c T t deep = record {
  shows = omega (arith, deep);
  reads = λ small U on. absurd (omega (arith, deep, small));
}
