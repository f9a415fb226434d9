-- The reading of a text: its tree, or the line of its fault.
use Rattle.std.specs.Prelude.{◌≡◌, ◌≤◌, []}
use Rattle.ruby_lexer.specs.Bytes.{Bytes}
use Rattle.ruby_lexer.specs.Pieces.{Toks}
use Rattle.ruby_lexer.specs.Tokens.{AreTokens, before_end}
use Rattle.ruby_tree.specs.Tree.{Tree}
use Rattle.ruby_tree.specs.Grammar.{Derives}
use Rattle.ruby_tree.specs.Depth.{depth}
use Rattle.ruby_tree.specs.Placement.{faults, at_home, file}

-- The text has these tokens, they are derived as these statements, which are at most 200 nodes deep, and everything stands where it may.
pub record Reads (source : Bytes) (t : Tree) : Type 0 where
  pub tokens : Toks
  pub are_tokens : AreTokens source tokens
  pub derived : Derives (before_end source) tokens t
  pub depth_fits : depth t ≤ 200
  pub placed : faults (at_home file) t ≡ []
