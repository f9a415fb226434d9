-- What a parser sees of the tokens that are left.
use Rattle.std.specs.Prelude.{ℤ, Bool, true, false, List, Option, Some, None}
use Rattle.ruby_lexer.specs.Bytes.{Bytes}
use Rattle.ruby_lexer.specs.Pieces.{Kind, integer, variable, global, label, literal, symbol, words, symbols, Parts, Toks, none, more}
use Rattle.token_lookahead.specs.declared.lookahead.do_owner.DoBlockOwner.{DoBlockOwner as Taken}
use Rattle.token_lookahead.specs.declared.lookahead.do_owner.DoBlockOwner.TheVariants as do_owner
use Rattle.token_lookahead.specs.declared.lookahead.Settable.{Settable}
use Rattle.token_lookahead.specs.declared.lookahead.Settable.TheVariants as settable
use Rattle.ruby_tree.specs.Tree.{Goal, to_local, to_instance, to_global}
use Rattle.ruby_tree.specs.Rules.{DoBlockOwner, own, commands, loops}

-- whose a `do` is
abbrev pub do_owner_of : Taken → DoBlockOwner
do_owner_of do_owner.Own = own
do_owner_of do_owner.Commands = commands
do_owner_of do_owner.Loops = loops

-- the variable of this kind and name, as something that is set
abbrev pub goal_with : Bytes → Settable → Goal
goal_with f settable.Local = to_local f
goal_with f settable.Instance = to_instance f
goal_with f settable.Global = to_global f

abbrev pub is_empty : Toks → Bool
is_empty none = true
is_empty (more t ts) = false

abbrev pub is_kind_variable : Option Kind → Bool
is_kind_variable (Some variable) = true
is_kind_variable _ = false

abbrev pub is_kind_global : Option Kind → Bool
is_kind_global (Some global) = true
is_kind_global _ = false

-- what the first token holds, where it is of the kind
abbrev pub integer_in : Option Kind → Option ℤ
integer_in (Some (integer z)) = Some z
integer_in _ = None

abbrev pub label_in : Option Kind → Option Parts
label_in (Some (label ps)) = Some ps
label_in _ = None

abbrev pub literal_in : Option Kind → Option Parts
literal_in (Some (literal ps)) = Some ps
literal_in _ = None

abbrev pub symbol_in : Option Kind → Option Bytes
symbol_in (Some (symbol f)) = Some f
symbol_in _ = None

abbrev pub words_in : Option Kind → Option (List Bytes)
words_in (Some (words fs)) = Some fs
words_in _ = None

abbrev pub symbols_in : Option Kind → Option (List Bytes)
symbols_in (Some (symbols fs)) = Some fs
symbols_in _ = None
