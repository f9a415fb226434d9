use Rattle.std.proofs.Common.{◌≡◌, ◌+◌, ◌*◌, [], ◌++◌, drop}
use Rattle.ruby_meaning.specs.Sequences.{trees_places, pairs_places, pieces_places, whens_places, clauses_places, params_places}
use Rattle.ruby_tree.specs.Views.{read_all, read_pairs, read_parts, read_whens, read_clauses, read_params}
use Rattle.sequence_numbers.proofs.+walk.Given as goal

abbrev pub invariant-lists::add_trees-loop-node : goal.invariant-lists::add_trees-loop-node
invariant-lists::add_trees-loop-node l = l.found.items ++ trees_places (read_all [] (drop l.node-index l.nodes)) ≡ l.initial.found.items ++ trees_places (read_all [] l.nodes)

abbrev pub invariant-lists::add_pairs-loop-pair : goal.invariant-lists::add_pairs-loop-pair
invariant-lists::add_pairs-loop-pair l = l.found.items ++ pairs_places (read_pairs [] (drop l.pair-index l.pairs)) ≡ l.initial.found.items ++ pairs_places (read_pairs [] l.pairs)

abbrev pub invariant-lists::add_parts-loop-part : goal.invariant-lists::add_parts-loop-part
invariant-lists::add_parts-loop-part l = l.found.items ++ pieces_places (read_parts [] (drop l.part-index l.parts)) ≡ l.initial.found.items ++ pieces_places (read_parts [] l.parts)

abbrev pub invariant-lists::add_whens-loop-when : goal.invariant-lists::add_whens-loop-when
invariant-lists::add_whens-loop-when l = l.found.items ++ whens_places (read_whens [] (drop l.when-index l.whens)) ≡ l.initial.found.items ++ whens_places (read_whens [] l.whens)

abbrev pub invariant-lists::add_clauses-loop-clause : goal.invariant-lists::add_clauses-loop-clause
invariant-lists::add_clauses-loop-clause l = l.found.items ++ clauses_places (read_clauses [] (drop l.clause-index l.clauses)) ≡ l.initial.found.items ++ clauses_places (read_clauses [] l.clauses)

abbrev pub invariant-lists::add_params-loop-param : goal.invariant-lists::add_params-loop-param
invariant-lists::add_params-loop-param l = l.found.items ++ params_places (read_params [] (drop l.param-index l.params)) ≡ l.initial.found.items ++ params_places (read_params [] l.params)

abbrev pub decreases-walk::add_tree : goal.decreases-walk::add_tree
decreases-walk::add_tree l = 5 * goal.size-walk::add_tree l

abbrev pub decreases-lists::add_trees : goal.decreases-lists::add_trees
decreases-lists::add_trees l = 5 * goal.size-lists::add_trees l + 1

abbrev pub decreases-lists::add_other : goal.decreases-lists::add_other
decreases-lists::add_other l = 5 * goal.size-lists::add_other l + 1

abbrev pub decreases-lists::add_part : goal.decreases-lists::add_part
decreases-lists::add_part l = 5 * goal.size-lists::add_part l + 1

abbrev pub decreases-lists::add_param : goal.decreases-lists::add_param
decreases-lists::add_param l = 5 * goal.size-lists::add_param l + 1

abbrev pub decreases-lists::add_pairs : goal.decreases-lists::add_pairs
decreases-lists::add_pairs l = 5 * goal.size-lists::add_pairs l + 2

abbrev pub decreases-lists::add_parts : goal.decreases-lists::add_parts
decreases-lists::add_parts l = 5 * goal.size-lists::add_parts l + 2

abbrev pub decreases-lists::add_whens : goal.decreases-lists::add_whens
decreases-lists::add_whens l = 5 * goal.size-lists::add_whens l + 2

abbrev pub decreases-lists::add_clauses : goal.decreases-lists::add_clauses
decreases-lists::add_clauses l = 5 * goal.size-lists::add_clauses l + 2

abbrev pub decreases-lists::add_params : goal.decreases-lists::add_params
decreases-lists::add_params l = 5 * goal.size-lists::add_params l + 2

abbrev pub decreases-walk::add_collection : goal.decreases-walk::add_collection
decreases-walk::add_collection l = 5 * goal.size-walk::add_collection l + 3

abbrev pub decreases-walk::add_assignment : goal.decreases-walk::add_assignment
decreases-walk::add_assignment l = 5 * goal.size-walk::add_assignment l + 3

abbrev pub decreases-walk::add_call : goal.decreases-walk::add_call
decreases-walk::add_call l = 5 * goal.size-walk::add_call l + 3

abbrev pub decreases-walk::add_control : goal.decreases-walk::add_control
decreases-walk::add_control l = 5 * goal.size-walk::add_control l + 3

abbrev pub decreases-walk::add_exit : goal.decreases-walk::add_exit
decreases-walk::add_exit l = 5 * goal.size-walk::add_exit l + 3

abbrev pub decreases-walk::add_handler : goal.decreases-walk::add_handler
decreases-walk::add_handler l = 5 * goal.size-walk::add_handler l + 3

abbrev pub decreases-walk::add_definition : goal.decreases-walk::add_definition
decreases-walk::add_definition l = 5 * goal.size-walk::add_definition l + 3

abbrev pub decreases-walk::add_kind : goal.decreases-walk::add_kind
decreases-walk::add_kind l = 5 * goal.size-walk::add_kind l + 4
