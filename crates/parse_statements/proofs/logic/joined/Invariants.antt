use Rattle.std.proofs.Common.{◌≡◌, ◌<◌, ℕ, length}
use Rattle.ruby_lexer.specs.Pieces.{Toks}
use Rattle.ruby_tree.specs.FaultLine.{count_of}
use Rattle.ruby_tree.specs.Rules.{Scope, position}
use Rattle.ruby_tree.specs.SourcePositions.{position_of}
use Rattle.ruby_tree.specs.Tree.{Tree}
use Rattle.token_lookahead.specs.Lookaheads.{do_owner_of}
use Rattle.tree_builder.specs.Subtrees.{Holds}
use Rattle.reference_parser.specs.ReadStatements.{tests}
use Rattle.parse_state.specs.Standing.{At}
use Rattle.parse_statements.proofs.Growing.{Growing}
use Rattle.parse_statements.proofs.logic.joined.Given as goal

-- What was read so far is what the tests up to here make, wherever the first one begins and whatever it is.
abbrev pub invariant-loop-joining : goal.invariant-loop-joining
invariant-loop-joining g l =
    (o : Toks) (a : Tree) → position_of l.here ≡ position o → Holds l.initial.parser.symbols l.initial.left a → (m : ℕ) (w : Toks) (s : Scope) → At l.initial.parser w s → count_of w < m → Growing Holds (λ (k : ℕ) (t : Tree). tests l.context.source.now (g.N.Nested.readers l.nested l.context.source.now) k (do_owner_of l.do_owner) o t) l.initial.parser l.parser l.left (tests l.context.source.now (g.N.Nested.readers l.nested l.context.source.now) m (do_owner_of l.do_owner) o a w s)

abbrev pub decreases-loop-joining : goal.decreases-loop-joining
decreases-loop-joining g l = length l.parser.rest.now
