use Rattle.std.proofs.Common.{length, List}
use Rattle.ruby_tree.specs.Names.{Texts}
use Rattle.ruby_tree.specs.Tree.{Goal}
use Rattle.ruby_tree.specs.declared.node.Target.{Target}
use Rattle.std.specs.Prelude.{Vec}
use Rattle.std.specs.declared.alloc.Global.{Global}
use Rattle.tree_builder.specs.Subtrees.{AreTargets}
use Rattle.parse_parts.proofs.Turning.{Goes}
use Rattle.parse_parts.proofs.Gathering.{targets_rest}
use Rattle.parse_parts.proofs.variables.targets.Given as goal

abbrev pub invariant-loop-targets : goal.invariant-loop-targets
invariant-loop-targets l = Goes (λ (T : Texts) (v : Vec Target Global) (gs : List Goal). AreTargets T v.items gs) (targets_rest l.context.source.now) l.initial.parser l.initial.targets l.parser l.targets

abbrev pub decreases-loop-targets : goal.decreases-loop-targets
decreases-loop-targets l = length l.parser.rest.now
