use Rattle.std.proofs.Common.{◌≡◌, ℕ, ◌+◌, ◌*◌, drop, max}
use Rattle.ruby_tree.specs.declared.node.Node.TheViews.{size-Node}
use Rattle.ruby_tree.specs.Views.{read_all, read_pairs, read_parts, read_whens, read_clauses, read_params}
use Rattle.ruby_meaning.specs.Locals.{of_trees, of_pairs, of_pieces, of_whens, of_clauses, of_params}
use Rattle.local_scopes.specs.Gathering.{gathered}
use Rattle.local_scopes.proofs.gather.+gather.Given as goal

abbrev pub invariant-lists::trees-loop-node : goal.invariant-lists::trees-loop-node
invariant-lists::trees-loop-node l = (place : ℕ) → of_trees place (read_all l.symbols (drop l.node-index l.nodes)) (gathered l.known place) ≡ of_trees place (read_all l.symbols l.nodes) (gathered l.initial.known place)

abbrev pub invariant-lists::pairs-loop-pair : goal.invariant-lists::pairs-loop-pair
invariant-lists::pairs-loop-pair l = (place : ℕ) → of_pairs place (read_pairs l.symbols (drop l.pair-index l.pairs)) (gathered l.known place) ≡ of_pairs place (read_pairs l.symbols l.pairs) (gathered l.initial.known place)

abbrev pub invariant-lists::parts-loop-each : goal.invariant-lists::parts-loop-each
invariant-lists::parts-loop-each l = (place : ℕ) → of_pieces place (read_parts l.symbols (drop l.each-index l.parts)) (gathered l.known place) ≡ of_pieces place (read_parts l.symbols l.parts) (gathered l.initial.known place)

abbrev pub invariant-lists::whens-loop-when : goal.invariant-lists::whens-loop-when
invariant-lists::whens-loop-when l = (place : ℕ) → of_whens place (read_whens l.symbols (drop l.when-index l.whens)) (gathered l.known place) ≡ of_whens place (read_whens l.symbols l.whens) (gathered l.initial.known place)

abbrev pub invariant-lists::clauses-loop-clause : goal.invariant-lists::clauses-loop-clause
invariant-lists::clauses-loop-clause l = (place : ℕ) → of_clauses place (read_clauses l.symbols (drop l.clause-index l.clauses)) (gathered l.known place) ≡ of_clauses place (read_clauses l.symbols l.clauses) (gathered l.initial.known place)

abbrev pub invariant-lists::params-loop-each : goal.invariant-lists::params-loop-each
invariant-lists::params-loop-each l = (place : ℕ) → of_params place (read_params l.symbols (drop l.each-index l.params)) (gathered l.known place) ≡ of_params place (read_params l.symbols l.params) (gathered l.initial.known place)

abbrev pub decreases-tree : goal.decreases-tree
decreases-tree l = 5 * goal.size-tree l

abbrev pub decreases-lists::trees : goal.decreases-lists::trees
decreases-lists::trees l = 5 * goal.size-lists::trees l + 1

abbrev pub decreases-lists::other : goal.decreases-lists::other
decreases-lists::other l = 5 * goal.size-lists::other l + 1

abbrev pub decreases-lists::part : goal.decreases-lists::part
decreases-lists::part l = 5 * goal.size-lists::part l + 1

abbrev pub decreases-lists::param : goal.decreases-lists::param
decreases-lists::param l = 5 * goal.size-lists::param l + 1

abbrev pub decreases-lists::pairs : goal.decreases-lists::pairs
decreases-lists::pairs l = 5 * goal.size-lists::pairs l + 2

abbrev pub decreases-lists::parts : goal.decreases-lists::parts
decreases-lists::parts l = 5 * goal.size-lists::parts l + 2

abbrev pub decreases-lists::whens : goal.decreases-lists::whens
decreases-lists::whens l = 5 * goal.size-lists::whens l + 2

abbrev pub decreases-lists::clauses : goal.decreases-lists::clauses
decreases-lists::clauses l = 5 * goal.size-lists::clauses l + 2

abbrev pub decreases-lists::params : goal.decreases-lists::params
decreases-lists::params l = 5 * goal.size-lists::params l + 2

abbrev pub decreases-collection : goal.decreases-collection
decreases-collection l = 5 * goal.size-collection l + 3

abbrev pub decreases-assignment : goal.decreases-assignment
decreases-assignment l = 5 * goal.size-assignment l + 3

abbrev pub decreases-call : goal.decreases-call
decreases-call l = 5 * goal.size-call l + 3

abbrev pub decreases-control : goal.decreases-control
decreases-control l = 5 * goal.size-control l + 3

abbrev pub decreases-exit : goal.decreases-exit
decreases-exit l = 5 * goal.size-exit l + 3

abbrev pub decreases-handler : goal.decreases-handler
decreases-handler l = 5 * goal.size-handler l + 3

abbrev pub decreases-definition : goal.decreases-definition
decreases-definition l = 5 * goal.size-definition l + 3

abbrev pub decreases-kind : goal.decreases-kind
decreases-kind l = 5 * goal.size-kind l + 4

abbrev pub decreases-two : goal.decreases-two
decreases-two l = 5 * max (size-Node l.first.now) (size-Node l.second.now) + 1

abbrev pub decreases-three : goal.decreases-three
decreases-three l = 5 * max (size-Node l.first.now) (max (size-Node l.second.now) (size-Node l.third.now)) + 2
