use Rattle.std.proofs.Common.{◌≡◌, ◌+◌, ◌*◌, length, take, Ok}
use Rattle.ruby_lexer.specs.Pieces.{Toks}
use Rattle.ruby_tree.specs.Tree.{Tree}
use Rattle.ruby_tree.specs.Rules.{Scope, position}
use Rattle.ruby_tree.specs.SourcePositions.{position_of}
use Rattle.token_lookahead.specs.Lookaheads.{do_owner_of}
use Rattle.tree_builder.specs.Subtrees.{Holds}
use Rattle.reference_parser.specs.ReadLevels.{read_rest, read_level, climb}
use Rattle.parse_state.specs.Standing.{At}
use Rattle.parse_state.specs.Gives.{Gives}
use Rattle.parse_operators.specs.Levels.{levels_of, operation_of, joins, make_of}
use Rattle.parse_operators.proofs.Joining.{Going}
use Rattle.parse_operators.proofs.climbing.+levels.Given as goal

abbrev pub decreases-operand : goal.decreases-operand
decreases-operand g l = 10 * length l.levels.now + 1

abbrev pub decreases-over : goal.decreases-over
decreases-over g l = 10 * length l.levels.now

abbrev pub decreases-at_level : goal.decreases-at_level
decreases-at_level g l = 10 * length l.below.now + 5

abbrev pub decreases-rest : goal.decreases-rest
decreases-rest g l = 10 * length l.below.now + 4

abbrev pub decreases-compared : goal.decreases-compared
decreases-compared g l = 10 * length l.below.now + 4

abbrev pub decreases-ranged : goal.decreases-ranged
decreases-ranged g l = 10 * length l.below.now + 4

abbrev pub decreases-turn : goal.decreases-turn
decreases-turn g l = 10 * length l.below.now + 3

-- What was read so far is what the definition makes of the levels that were gone over, wherever the operand begins and whatever it is.
abbrev pub invariant-over-loop-index : goal.invariant-over-loop-index
invariant-over-loop-index g l =
    (o : Toks) (a : Tree) → position_of l.here ≡ position o → Holds l.initial.parser.symbols l.initial.left a → (w : Toks) (s : Scope) → At l.initial.parser w s → Gives Holds l.initial.parser l.parser (Ok l.left) (climb l.context.source.now (g.N.Nested.readers l.nested l.context.source.now) (levels_of (take l.index l.levels)) (do_owner_of l.do_owner) o a w s)

-- What was read so far is what the operators up to here make, wherever the first operand begins and whatever it is.
abbrev pub invariant-rest-loop-do_owner : goal.invariant-rest-loop-do_owner
invariant-rest-loop-do_owner g l =
    (o : Toks) (a : Tree) → position_of l.here ≡ position o → Holds l.initial.parser.symbols l.initial.left a → (w : Toks) (s : Scope) → At l.initial.parser w s → Going l.context.source.now (joins l.context.source.now l.level) (make_of l.context.source.now (operation_of l.level)) (read_level l.context.source.now (g.N.Nested.readers l.nested l.context.source.now) (levels_of l.below) (do_owner_of l.do_owner)) o l.initial.parser l.parser l.left (read_rest l.context.source.now (joins l.context.source.now l.level) (make_of l.context.source.now (operation_of l.level)) (read_level l.context.source.now (g.N.Nested.readers l.nested l.context.source.now) (levels_of l.below) (do_owner_of l.do_owner)) o a w s)

abbrev pub decreases-rest-loop-do_owner : goal.decreases-rest-loop-do_owner
decreases-rest-loop-do_owner g l = length l.parser.rest.now
