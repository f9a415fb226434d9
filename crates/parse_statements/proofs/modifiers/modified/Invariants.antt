use Rattle.std.proofs.Common.{◌≡◌, ◌<◌, ◌≤◌, ℕ, Bool, length}
use Rattle.ruby_lexer.specs.Pieces.{Toks}
use Rattle.ruby_tree.specs.Depth.{depth}
use Rattle.ruby_tree.specs.FaultLine.{count_of}
use Rattle.ruby_tree.specs.Rules.{Scope, position}
use Rattle.ruby_tree.specs.SourcePositions.{position_of}
use Rattle.ruby_tree.specs.Tree.{Tree}
use Rattle.token_lookahead.specs.Lookaheads.{do_owner_of}
use Rattle.tree_builder.specs.Subtrees.{Holds}
use Rattle.reference_parser.specs.ReadStatements.{modifiers_from}
use Rattle.parse_state.specs.Standing.{At}
use Rattle.parse_statements.proofs.Growing.{Growing}
use Rattle.parse_statements.proofs.StatementLoops.{HoldsTold}
use Rattle.parse_statements.proofs.modifiers.modified.Given as goal

-- What was read so far is what the modifiers up to here make, wherever the statement begins, whatever it is, and whether it is a body.
abbrev pub invariant-loop-modifier : goal.invariant-loop-modifier
invariant-loop-modifier g l =
    (o : Toks) (b : Bool) (a : Tree) → position_of l.here ≡ position o → (depth a ≤ 200 → l.initial.is_body ≡ b) → Holds l.initial.parser.symbols l.initial.statement a → (m : ℕ) (w : Toks) (s : Scope) → At l.initial.parser w s → count_of w < m → Growing HoldsTold (λ (k : ℕ) (t : Bool × Tree). modifiers_from l.context.source.now (g.N.Nested.readers l.nested l.context.source.now) k (do_owner_of l.do_owner) o t.0 t.1) l.initial.parser l.parser (l.is_body, l.statement) (modifiers_from l.context.source.now (g.N.Nested.readers l.nested l.context.source.now) m (do_owner_of l.do_owner) o b a w s)

abbrev pub decreases-loop-modifier : goal.decreases-loop-modifier
decreases-loop-modifier g l = length l.parser.rest.now
