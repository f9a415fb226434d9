-- The sequences of a text's tree nest, and begin within the text.
use Rattle.std.proofs.Common.{length}
use Rattle.ruby_lexer.specs.Bytes.{Bytes}
use Rattle.ruby_lexer.specs.Pieces as token
use Rattle.ruby_lexer.specs.Tokens.{before_end}
use Rattle.ruby_tree.specs.Tree.{Tree}
use Rattle.ruby_tree.specs.Reading.{Reads}
use Rattle.tree_laws.specs.Nesting.{Nested}
use Rattle.tree_laws.proofs.Ascending.{tokens_ascend}
use Rattle.tree_laws.proofs.Spans.{GotTree}
use Rattle.tree_laws.proofs.SpanStatements.{spanning}

pub text_spans : (source : Bytes) (t : Tree) → Reads source t → GotTree (length (before_end source)) t 0 token.none
text_spans source t R = (spanning (before_end source) R.derived.depth).stmts {top = length (before_end source)} {l = 0} R.derived.derived (record { holds = tokens_ascend source R.tokens R.are_tokens })

pub nested : (source : Bytes) (t : Tree) → Reads source t → Nested t
nested source t R = (text_spans source t R).part.known
