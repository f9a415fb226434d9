-- A `case`, with a value or without.
use Rattle.std.specs.Prelude.{suc}
use Rattle.ruby_lexer.specs.Bytes.{Bytes}
use Rattle.ruby_lexer.specs.Pieces.{Toks}
use Rattle.ruby_tree.specs.Tree.{Tree, Form, at, Other, without, with, Whens, case_of, case_tests}
use Rattle.ruby_tree.specs.Rules.{DoBlockOwner, within, next, position}
use Rattle.ruby_tree.specs.FaultLine.{count_of}
use Rattle.reference_parser.specs.Answers.{Parse, ◌>>=◌}
use Rattle.reference_parser.specs.Fronts.{skip_newlines}
use Rattle.reference_parser.specs.ReadItems.{Readers}
use Rattle.reference_parser.specs.ReadBodies.{ended, read_else, when_list}
use Rattle.reference_parser.specs.ReadOperands.{read_whens}

abbrev pub case_form : Other → Whens → Other → Form
case_form without = case_tests
case_form (with a) = case_of a

module _ (source : Bytes) (Q : Readers) where
  abbrev pub all_whens : (Whens → Other → Form) → DoBlockOwner → Toks → Parse Tree
  all_whens make d w v s = when_list source Q (suc (count_of v)) (within d) v s >>= λ ws p x. read_else source Q (within d) p x >>= λ e r z. ended source Q (at (position w) (make ws e)) r z

  abbrev pub lone_case : DoBlockOwner → Parse Tree
  lone_case d w s = read_whens source Q case_tests d w (skip_newlines source (next w)) s

  abbrev pub valued_case : DoBlockOwner → Parse Tree
  valued_case d w s = Q.expr (within d) (next w) s >>= λ a q y. read_whens source Q (case_of a) d w (skip_newlines source q) y
