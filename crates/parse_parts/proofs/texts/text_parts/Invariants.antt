use Rattle.std.proofs.Common.{length}
use Rattle.ruby_lexer.specs.Pieces.{Toks, seen_parts}
use Rattle.ruby_tree.specs.Rules.{Scope}
use Rattle.parse_state.specs.Standing.{At}
use Rattle.parse_parts.specs.Parts.{text_from}
use Rattle.parse_parts.proofs.Pieces.{Piecing}
use Rattle.parse_parts.proofs.texts.text_parts.Given as goal

abbrev pub invariant-loop-left : goal.invariant-loop-left
invariant-loop-left g l =
    (w : Toks) (s : Scope) → At l.initial.parser w s → Piecing l.context.source.now (g.N.Nested.readers l.nested l.context.source.now) l.initial.parser l.parser l.pieces (seen_parts l.left) (text_from l.context.source.now (g.N.Nested.readers l.nested l.context.source.now) (seen_parts l.parts) w s)

abbrev pub decreases-loop-left : goal.decreases-loop-left
decreases-loop-left g l = length l.left
