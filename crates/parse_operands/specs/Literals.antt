-- Parts of what is read at a mark, and at a token that holds its value.
use Rattle.std.specs.Prelude.{suc, true, [], ◌∷◌, codes, Option, Some}
use Rattle.ruby_lexer.specs.Bytes.{Bytes}
use Rattle.ruby_lexer.specs.Forms.{text_of}
use Rattle.ruby_lexer.specs.Pieces.{Kind, Toks}
use Rattle.ruby_lexer.specs.Pieces as token
use Rattle.ruby_tree.specs.Tree.{Tree, at, integer, symbol, array, hash, constant_path, without}
use Rattle.ruby_tree.specs.Build.{texts_at, symbols_at}
use Rattle.ruby_tree.specs.Rules.{Scope, own, next, position, word}
use Rattle.ruby_tree.specs.FaultLine.{count_of}
use Rattle.reference_parser.specs.Answers.{Answer, taken, fault, Parse, ◌>>=◌}
use Rattle.reference_parser.specs.ReadItems.{Readers, closed, elements, pair_list}
use Rattle.reference_parser.specs.ReadOperands.{literal_by}

module _ (source : Bytes) where
  abbrev pub top_constant : Parse Tree
  top_constant w s = taken (at (position w) (constant_path without true (word source (next w) ∷ []))) (next (next w)) s

  module _ (Q : Readers) where
    abbrev pub full_list : Parse Tree
    full_list w s = elements source Q (suc (count_of w)) 0 (next w) s >>= λ g q z. closed source (codes "]") (at (position w) (array g.trees g.spread)) q z

    abbrev pub full_hash : Parse Tree
    full_hash w s = pair_list source Q (suc (count_of w)) own (next w) s >>= λ ps q z. closed source (codes "}") (at (position w) (hash ps)) q z

    -- an operand that its first token holds, by what that is
    abbrev pub held_by : Toks → Scope → Option Kind → Answer Tree
    held_by w s (Some (token.integer n)) = taken (at (position w) (integer n)) (next w) s
    held_by w s (Some (token.literal ps)) = literal_by source Q w s ps (text_of ps)
    held_by w s (Some (token.symbol f)) = taken (at (position w) (symbol f)) (next w) s
    held_by w s (Some (token.words fs)) = taken (at (position w) (array (texts_at (position w) fs) [])) (next w) s
    held_by w s (Some (token.symbols fs)) = taken (at (position w) (array (symbols_at (position w) fs) [])) (next w) s
    held_by w s _ = fault
