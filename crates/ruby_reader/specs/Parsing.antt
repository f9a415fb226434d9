-- What was taken of the tokens of a text, and the fault in it.
use Rattle.std.specs.Prelude.{◌≡◌, ℕ, Bool, true, false, length, Option, Some, None, Result, Ok, Err}
use Rattle.ruby_lexer.specs.Bytes.{Bytes}
use Rattle.ruby_lexer.specs.Pieces.{Toks, none, more, seen_all}
use Rattle.ruby_tree.specs.Tree.{Tree}
use Rattle.ruby_tree.specs.Rules.{Scope}
use Rattle.ruby_tree.specs.Read.{tree_of}
use Rattle.ruby_tree.specs.NamesFit.{names_fit}
use Rattle.tree_builder.specs.Subtrees.{Holds}
use Rattle.reference_parser.specs.Answers.{taken, fault, deep}
use Rattle.parse_state.specs.declared.failures.Failure.{Failure}
use Rattle.parse_state.specs.declared.failures.Failure.TheVariants as failure
use Rattle.ruby_reader.specs.declared.parsing.Parsed.{Parsed}
use Rattle.reference_parser.specs.HasFault.{read_open}
use Rattle.reference_parser.specs.ReadingOf.{tree, reading_of}
use Rattle.reference_parser.specs.ReadingOf as reading

-- no token is left, and the text ends behind the last one
abbrev pub is_whole : Toks → Option ℕ → Bool
is_whole (more t ts) stop = false
is_whole none (Some line) = false
is_whole none None = true

module _ (text : Bytes) where
  -- the reader on lists takes a tree, which the part holds, and leaves what is left
  pub record IsTaken (ts : Toks) (p : Parsed) : Type 0 where
    pub tree : Tree
    pub behind : Scope
    pub is : read_open text ts ≡ taken tree (seen_all p.rest.now) behind
    pub holds : Holds p.symbols p.part tree

  -- what was taken, or that nothing is derived, or that symbols nest too deep
  abbrev pub Parses : Toks → Result Parsed Failure → Type 0
  Parses ts (Ok p) = IsTaken ts p
  Parses ts (Err failure.Syntax) = read_open text ts ≡ fault
  Parses ts (Err failure.TooDeep) = read_open text ts ≡ deep
  Parses ts (Err failure.Memory) = Unit {0}

  -- it is the reading of the text, and its names are of its table
  pub record IsWhole (p : Parsed) : Type 0 where
    pub names : names_fit (length p.symbols) p.part.node ≡ true
    pub is : reading_of text ≡ tree (tree_of p.symbols p.part.node)

  -- by the line of the fault, if there is one
  abbrev pub Judges : Parsed → Option ℕ → Type 0
  Judges p None = IsWhole p
  Judges p (Some line) = reading_of text ≡ reading.fault line
