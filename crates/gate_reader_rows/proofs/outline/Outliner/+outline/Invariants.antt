use Rattle.std.proofs.Common.{◌+◌, ◌*◌}
use Rattle.gate_reader_rows.proofs.outline.Outliner.+outline.Given as goal

abbrev pub decreases-tree : goal.decreases-tree
decreases-tree l = 5 * goal.size-tree l

abbrev pub decreases-part : goal.decreases-part
decreases-part l = 5 * goal.size-part l + 1

abbrev pub decreases-nodes : goal.decreases-nodes
decreases-nodes l = 5 * goal.size-nodes l + 1

abbrev pub decreases-other : goal.decreases-other
decreases-other l = 5 * goal.size-other l + 1

abbrev pub decreases-text : goal.decreases-text
decreases-text l = 5 * goal.size-text l + 1

abbrev pub decreases-param : goal.decreases-param
decreases-param l = 5 * goal.size-param l + 1

abbrev pub decreases-pairs : goal.decreases-pairs
decreases-pairs l = 5 * goal.size-pairs l + 2

abbrev pub decreases-texts : goal.decreases-texts
decreases-texts l = 5 * goal.size-texts l + 2

abbrev pub decreases-whens : goal.decreases-whens
decreases-whens l = 5 * goal.size-whens l + 2

abbrev pub decreases-clauses : goal.decreases-clauses
decreases-clauses l = 5 * goal.size-clauses l + 2

abbrev pub decreases-params : goal.decreases-params
decreases-params l = 5 * goal.size-params l + 2

abbrev pub decreases-collection : goal.decreases-collection
decreases-collection l = 5 * goal.size-collection l + 3

abbrev pub decreases-assignment : goal.decreases-assignment
decreases-assignment l = 5 * goal.size-assignment l + 3

abbrev pub decreases-call : goal.decreases-call
decreases-call l = 5 * goal.size-call l + 3

abbrev pub decreases-control : goal.decreases-control
decreases-control l = 5 * goal.size-control l + 3

abbrev pub decreases-exit : goal.decreases-exit
decreases-exit l = 5 * goal.size-exit l + 3

abbrev pub decreases-handler : goal.decreases-handler
decreases-handler l = 5 * goal.size-handler l + 3

abbrev pub decreases-definition : goal.decreases-definition
decreases-definition l = 5 * goal.size-definition l + 3

abbrev pub decreases-kind : goal.decreases-kind
decreases-kind l = 5 * goal.size-kind l + 4
