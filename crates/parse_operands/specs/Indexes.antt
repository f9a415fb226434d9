-- A call and an index behind an operand.
use Rattle.std.specs.Prelude.{Bool, suc, false, ◌&&◌, codes, if◌then◌else◌}
use Rattle.ruby_lexer.specs.Bytes.{Bytes}
use Rattle.ruby_lexer.specs.Pieces.{Toks}
use Rattle.ruby_tree.specs.Tree.{SourcePosition, Tree, at}
use Rattle.ruby_tree.specs.Rules.{DoBlockOwner, own, next, position_with, is_mark, assigns}
use Rattle.ruby_tree.specs.Build.{call_form}
use Rattle.ruby_tree.specs.FaultLine.{count_of}
use Rattle.reference_parser.specs.Answers.{taken, Parse, ◌>>=◌}
use Rattle.reference_parser.specs.ReadItems.{Readers, items, items_from}
use Rattle.reference_parser.specs.ReadBodies.{call_items}
use Rattle.reference_parser.specs.ReadOperands.{Start, element, end_index}

module _ (source : Bytes) (Q : Readers) where
  -- what a call of the method m is given, of the operand a, which may be nil or not; the whole stands at u
  abbrev pub called : (Tree → Parse Start) → DoBlockOwner → SourcePosition → Bool → Tree → Bytes → Parse Start
  called further d u b a m w s = call_items source Q d w s >>= λ c p y. further (at u (call_form b a c.given m c.block)) p y

  -- an index at w that begins with an argument
  abbrev pub index_from : (Tree → Parse Start) → Toks → Tree → Parse Start
  index_from further o a w s = Q.arg own (next w) s >>= λ i q x.
      if is_mark source (codes "]") q && assigns source (next q) then taken (element a (position_with o w) i) (next q) x
      else (items_from source Q (items source Q (suc (count_of w)) own 1) own 0 (next w) (record { spread = false; tree = i }) q x >>= λ g p y. end_index source Q further o a w g p y)
