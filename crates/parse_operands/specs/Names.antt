-- Parts of what is read at a name, a constant, `yield` and `super`.
use Rattle.std.specs.Prelude.{false, [], ◌∷◌, if◌then◌else◌}
use Rattle.ruby_lexer.specs.Bytes.{Bytes}
use Rattle.ruby_tree.specs.Tree.{Tree, at, local, constant_path, send, yield, super, bare_super, no_more, without, with}
use Rattle.ruby_tree.specs.Rules.{DoBlockOwner, is_local, next, position, word}
use Rattle.ruby_tree.specs.Build.{nothing, has_block, bare_form}
use Rattle.reference_parser.specs.Answers.{taken, fault, Parse, ◌>>=◌}
use Rattle.reference_parser.specs.ReadItems.{Readers, in_brackets}
use Rattle.reference_parser.specs.ReadBodies.{read_block, call_block}

module _ (source : Bytes) where
  abbrev pub plain_name : Parse Tree
  plain_name w s =
      if is_local s (word source w) then taken (at (position w) (local (word source w))) (next w) s
      else taken (at (position w) (bare_form s (word source w))) (next w) s

  abbrev pub plain_constant : Parse Tree
  plain_constant w s = taken (at (position w) (constant_path without false (word source w ∷ []))) (next w) s

  module _ (Q : Readers) where
    abbrev pub blocked_name : Parse Tree
    blocked_name w s = read_block source Q (next w) s >>= λ b r z. taken (at (position w) (send without no_more [] without (word source w) false (with b))) r z

    abbrev pub given_yield : Parse Tree
    given_yield w s = in_brackets source Q (next w) s >>= λ g r z. if has_block g then fault else taken (at (position w) (yield g.trees g.spread)) r z

    abbrev pub given_super : DoBlockOwner → Parse Tree
    given_super d w s = in_brackets source Q (next w) s >>= λ g q y. call_block source Q d g q y >>= λ b r z. taken (at (position w) (super g.trees g.spread g.value b)) r z

    abbrev pub lone_super : DoBlockOwner → Parse Tree
    lone_super d w s = call_block source Q d nothing (next w) s >>= λ b r z. taken (at (position w) (bare_super b)) r z
