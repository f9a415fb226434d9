use Rattle.std.proofs.Common.{◌≡◌, ◌+◌, ◌*◌, drop}
use Rattle.ruby_tree.specs.Placement.{trees_faults, pairs_faults, pieces_faults, whens_faults, rescues_faults, params_faults}
use Rattle.ruby_tree.specs.FirstFault.{around_of, earlier, first_of}
use Rattle.ruby_tree.specs.Views.{read_all, read_pairs, read_parts, read_whens, read_clauses, read_params}
use Rattle.ruby_tree.proofs.placement.Walk.+placement.Given as goal

abbrev pub invariant-trees-loop-node : goal.invariant-trees-loop-node
invariant-trees-loop-node l = earlier l.found (first_of (trees_faults (around_of l.self.around) (read_all l.self.symbols.now (drop l.node-index l.nodes)))) ≡ first_of (trees_faults (around_of l.self.around) (read_all l.self.symbols.now l.nodes))

abbrev pub invariant-pairs-loop-pair : goal.invariant-pairs-loop-pair
invariant-pairs-loop-pair l = earlier l.found (first_of (pairs_faults (around_of l.self.around) (read_pairs l.self.symbols.now (drop l.pair-index l.pairs)))) ≡ first_of (pairs_faults (around_of l.self.around) (read_pairs l.self.symbols.now l.pairs))

abbrev pub invariant-parts-loop-part : goal.invariant-parts-loop-part
invariant-parts-loop-part l = earlier l.found (first_of (pieces_faults (around_of l.self.around) (read_parts l.self.symbols.now (drop l.part-index l.parts)))) ≡ first_of (pieces_faults (around_of l.self.around) (read_parts l.self.symbols.now l.parts))

abbrev pub invariant-whens-loop-when : goal.invariant-whens-loop-when
invariant-whens-loop-when l = earlier l.found (first_of (whens_faults (around_of l.self.around) (read_whens l.self.symbols.now (drop l.when-index l.whens)))) ≡ first_of (whens_faults (around_of l.self.around) (read_whens l.self.symbols.now l.whens))

abbrev pub invariant-clauses-loop-clause : goal.invariant-clauses-loop-clause
invariant-clauses-loop-clause l = earlier l.found (first_of (rescues_faults (around_of l.self.around) (read_clauses l.self.symbols.now (drop l.clause-index l.clauses)))) ≡ first_of (rescues_faults (around_of l.self.around) (read_clauses l.self.symbols.now l.clauses))

abbrev pub invariant-params-loop-param : goal.invariant-params-loop-param
invariant-params-loop-param l = earlier l.found (first_of (params_faults (around_of l.self.around) (read_params l.self.symbols.now (drop l.param-index l.params)))) ≡ first_of (params_faults (around_of l.self.around) (read_params l.self.symbols.now l.params))

abbrev pub decreases-tree : goal.decreases-tree
decreases-tree l = 5 * goal.size-tree l

abbrev pub decreases-method : goal.decreases-method
decreases-method l = 5 * goal.size-method l

abbrev pub decreases-trees : goal.decreases-trees
decreases-trees l = 5 * goal.size-trees l + 1

abbrev pub decreases-other : goal.decreases-other
decreases-other l = 5 * goal.size-other l + 1

abbrev pub decreases-part : goal.decreases-part
decreases-part l = 5 * goal.size-part l + 1

abbrev pub decreases-param : goal.decreases-param
decreases-param l = 5 * goal.size-param l + 1

abbrev pub decreases-pairs : goal.decreases-pairs
decreases-pairs l = 5 * goal.size-pairs l + 2

abbrev pub decreases-parts : goal.decreases-parts
decreases-parts l = 5 * goal.size-parts l + 2

abbrev pub decreases-whens : goal.decreases-whens
decreases-whens l = 5 * goal.size-whens l + 2

abbrev pub decreases-clauses : goal.decreases-clauses
decreases-clauses l = 5 * goal.size-clauses l + 2

abbrev pub decreases-params : goal.decreases-params
decreases-params l = 5 * goal.size-params l + 2

abbrev pub decreases-collection : goal.decreases-collection
decreases-collection l = 5 * goal.size-collection l + 3

abbrev pub decreases-assignment : goal.decreases-assignment
decreases-assignment l = 5 * goal.size-assignment l + 3

abbrev pub decreases-call : goal.decreases-call
decreases-call l = 5 * goal.size-call l + 3

abbrev pub decreases-control : goal.decreases-control
decreases-control l = 5 * goal.size-control l + 3

abbrev pub decreases-exit : goal.decreases-exit
decreases-exit l = 5 * goal.size-exit l + 3

abbrev pub decreases-handler : goal.decreases-handler
decreases-handler l = 5 * goal.size-handler l + 3

abbrev pub decreases-definition : goal.decreases-definition
decreases-definition l = 5 * goal.size-definition l + 3

abbrev pub decreases-method_body : goal.decreases-method_body
decreases-method_body l = 5 * goal.size-method_body l + 3

abbrev pub decreases-kind : goal.decreases-kind
decreases-kind l = 5 * goal.size-kind l + 4

abbrev pub decreases-method_kind : goal.decreases-method_kind
decreases-method_kind l = 5 * goal.size-method_kind l + 4
