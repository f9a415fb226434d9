-- Two faults at one place of a text are in one line, and what is read is placed.
use Rattle.std.proofs.Common.{◌≡◌, ℕ, zero, suc, ◌<◌, List, length, get_or, sym, ap, ◌∙◌, arith, subst, Contains}
use Rattle.ruby_lexer.specs.Bytes.{Bytes}
use Rattle.ruby_lexer.specs.Pieces.{Toks}
use Rattle.ruby_lexer.specs.Tokens.{AreTokens, before_end}
use Rattle.ruby_tree.specs.Tree.{SourcePosition, Tree}
use Rattle.ruby_tree.specs.Grammar.{Derives}
use Rattle.ruby_tree.specs.Placement.{faults, at_home, file}
use Rattle.ruby_tree.specs.Reading.{Reads}
use Rattle.reference_laws.specs.Placed.{IsPlaced}
use Rattle.reference_laws.proofs.Sited.{Sits, AllSit, nothing, also}
use Rattle.reference_laws.proofs.SitedStatements.{sitting}
use Rattle.reference_laws.proofs.LinedText.{line_at, tokens_lined}

one_sits : (L : ℕ → ℕ) (o : SourcePosition) (os : List SourcePosition) → AllSit L os → (k : ℕ) → k < length os → get_or os k o ≡ o → Sits L o
one_sits L o _ nothing k less is = absurd (omega arith)
one_sits L o _ (also s h) zero less is = subst (Sits L) is s
one_sits L o _ (also {os = os} s h) (suc k) less is = one_sits L o os h k (omega arith) is

pub one_site : (source : Bytes) (ts : Toks) (t : Tree) → AreTokens source ts → Derives (before_end source) ts t → (o p : SourcePosition) → Contains (faults (at_home file) t) o → Contains (faults (at_home file) t) p → o.place ≡ p.place → o.first ≡ p.first
one_site source ts t a D o p c d e =
    let L = line_at (before_end source) in
    let all = ((sitting L (before_end source) D.depth).stmts D.derived (tokens_lined source ts a)).part.all (at_home file) in
    (one_sits L o _ all c.0 c.1 c.2).line ∙ ap L e ∙ sym (one_sits L p _ all d.0 d.1 d.2).line

-- what a text is read as is placed
pub placed_tree : (source : Bytes) (t : Tree) → Reads source t → IsPlaced (at_home file) t
placed_tree source t h = ((sitting (line_at (before_end source)) (before_end source) h.derived.depth).stmts h.derived.derived (tokens_lined source h.tokens h.are_tokens)).part.placed (at_home file) h.placed
