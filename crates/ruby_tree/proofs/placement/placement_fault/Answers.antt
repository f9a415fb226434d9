use Rattle.ruby_tree.specs.Read.{tree_of}
use Rattle.ruby_tree.proofs.FirstFaults.{none_told, first_told}
use Rattle.ruby_tree.proofs.placement.placement_fault.Goals as goal

pub returns-clause-none : goal.returns-clause-none
returns-clause-none c = none_told _ _ _ (tree_of c.args.symbols.now c.args.root.now) c.at_home.ensures c.tree.ensures

pub returns-clause-first : goal.returns-clause-first
returns-clause-first c = first_told _ _ _ (tree_of c.args.symbols.now c.args.root.now) c.at_home.ensures c.tree.ensures
