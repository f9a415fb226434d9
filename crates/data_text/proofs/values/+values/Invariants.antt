use Rattle.std.proofs.Common.{◌+◌, ◌*◌, length}
use Rattle.data_text.specs.Json.{ValueAt, ElementAt}
use Rattle.data_text.proofs.Runs.{Behind}
use Rattle.data_text.proofs.Nests.{Members}
use Rattle.data_text.proofs.values.+values.Given as goal

abbrev pub decreases-element : goal.decreases-element
decreases-element l = 4 * l.levels + 1

abbrev pub decreases-items : goal.decreases-items
decreases-items l = 4 * l.levels + 2

abbrev pub decreases-list : goal.decreases-list
decreases-list l = 4 * l.levels + 3

abbrev pub decreases-map : goal.decreases-map
decreases-map l = 4 * l.levels + 3

abbrev pub decreases-members : goal.decreases-members
decreases-members l = 4 * l.levels + 2

abbrev pub decreases-value : goal.decreases-value
decreases-value l = 4 * l.levels

abbrev pub invariant-items-loop-items : goal.invariant-items-loop-items
invariant-items-loop-items l = Behind (ElementAt (ValueAt l.levels) 93) l.items.items l.bytes l.rest

abbrev pub decreases-items-loop-items : goal.decreases-items-loop-items
decreases-items-loop-items l = length l.rest

abbrev pub invariant-members-loop-members : goal.invariant-members-loop-members
invariant-members-loop-members l = Members l.levels l.members.entries l.bytes l.rest

abbrev pub decreases-members-loop-members : goal.decreases-members-loop-members
decreases-members-loop-members l = length l.rest
