-- Trees of some lists of tokens, as the grammar derives them, and what it does not derive.
use Rattle.std.proofs.Common.{◌≡◌, ℕ, Bool, true, false, ◌||◌, [], ◌∷◌, pos, codes, refl, ap, ◌&&◌, Option, Some, None}
use Rattle.ruby_lexer.specs.Bytes.{Bytes}
use Rattle.ruby_lexer.specs.Pieces.{Kind, Toks, tok, name, integer, mark, newline, none}
use Rattle.ruby_lexer.specs.Pieces as token
use Rattle.ruby_tree.specs.Tree.{SourcePosition, Tree, Params, at, statements, send, local, assign, to_local, no_more, more, without}
use Rattle.ruby_tree.specs.Tree as tree
use Rattle.ruby_tree.specs.Rules.{Scope, fresh, nowhere, next, front, is_kind_mark, begins_params, sets, goes_on, DoBlockOwner, own, mark_in, is_mark, assigns, product_marks, sum_marks, shift_marks, intersection_marks, union_marks, order_marks, equality_marks}
use Rattle.ruby_tree.specs.Grammar.{Rels, Derives, derives, NoMark, NoWord, Primary, Minus, Arg, MethodName}
use Rattle.ruby_tree.specs.Grammar as g
use Rattle.ruby_tree.specs.FaultLine.{Header}
use Rattle.ruby_tree.specs.FaultLine as fault
use Rattle.ruby_tree.proofs.Begins.{parameters_begin}

module _ (source : Bytes) (R : Rels) where
  -- an operand of binary operators, before what does not go on with it
  whole_operand : {d : DoBlockOwner} {w r : Toks} {s z : Scope} {t : Tree} → sets source w ≡ false → Minus source R d w s t r z → mark_in source product_marks r ≡ false → mark_in source sum_marks r ≡ false → mark_in source shift_marks r ≡ false → mark_in source intersection_marks r ≡ false → mark_in source union_marks r ≡ false → mark_in source order_marks r ≡ false → (mark_in source equality_marks r || is_mark source (codes "!=") r) ≡ false → NoMark source (codes "&&") r → NoMark source (codes "||") r → NoMark source (codes "..") r → NoMark source (codes "...") r → NoMark source (codes "?") r → assigns source r ≡ false → Arg source R d w s t r z
  whole_operand e0 p e2 e3 e4 e5 e6 e7 e8 e9 e10 e11 e12 e13 e14 =
      g.Arg.other e0 (g.Unset.plain (g.Conditional.plain (g.Range.plain (g.chain (g.chain (g.Equality.plain (g.chain (g.chain (g.chain (g.chain (g.chain (g.chain p (g.Rest.end e2)) (g.Rest.end e3)) (g.Rest.end e4)) (g.Rest.end e5)) (g.Rest.end e6)) (g.Rest.end e7)) e8) (g.Rest.end e9)) (g.Rest.end e10)) e11 e12) e13) e14)

  -- one that has no operator of its own
  operand : {d : DoBlockOwner} {w r : Toks} {s z : Scope} {t : Tree} → sets source w ≡ false → Primary source R d w s t r z → goes_on source r ≡ false → NoMark source (codes "**") r → mark_in source product_marks r ≡ false → mark_in source sum_marks r ≡ false → mark_in source shift_marks r ≡ false → mark_in source intersection_marks r ≡ false → mark_in source union_marks r ≡ false → mark_in source order_marks r ≡ false → (mark_in source equality_marks r || is_mark source (codes "!=") r) ≡ false → NoMark source (codes "&&") r → NoMark source (codes "||") r → NoMark source (codes "..") r → NoMark source (codes "...") r → NoMark source (codes "?") r → assigns source r ≡ false → Arg source R d w s t r z
  operand e0 p e p1 = whole_operand e0 (g.Minus.plain (g.Power.plain (g.UnaryOperand.plain (g.postfix p g.Postfixes.end) e) p1))

-- a name is no mark
no_mark : (k : Option Kind) (b : Bool) → k ≡ Some name → (is_kind_mark k && b) ≡ true → ⊥
no_mark k b named is = let other : (is_kind_mark k && b) ≡ false = ap (λ x. is_kind_mark x && b) named in absurd cc

module _ (source : Bytes) (w : Toks) where
  -- `def` and a name begin no header where no parameters and no newline follow.
  no_header : NoWord source (codes "class") w → NoWord source (codes "module") w → NoWord source (codes "self") (next w) → front (next w) ≡ Some name → NoMark source (codes "=") (next (next w)) → begins_params source (next (next w)) ≡ false → (s z : Scope) (r : Toks) → Header source s w r z → ⊥
  no_header c m o named e b s z r (fault.of_class n is h k l) = absurd cc
  no_header c m o named e b s z r (fault.of_module is h l) = absurd cc
  no_header c m o named e b s z r (fault.of_method n is (g.on_self self dot) k ps) = absurd cc
  no_header c m o named e b s z r (fault.of_method n is (g.OnSelf.plain other) (g.MethodName.name f h) ps) = let begun = parameters_begin source (derives source n) own _ _ _ _ _ ps in absurd cc
  no_header c m o named e b s z r (fault.of_method n is (g.OnSelf.plain other) (g.setter d f h i) ps) = absurd cc
  no_header c m o named e b s z r (fault.of_method n is (g.OnSelf.plain other) (g.MethodName.constant f) ps) = absurd cc
  no_header c m o named e b s z r (fault.of_method n is (g.OnSelf.plain other) (g.MethodName.operator f) ps) = no_mark _ _ named f
  no_header c m o named e b s z r (fault.of_method n is (g.OnSelf.plain other) (g.MethodName.index f h i j) ps) = no_mark _ _ named f
  no_header c m o named e b s z r (fault.of_method n is (g.OnSelf.plain other) (g.index_setter f h i j k) ps) = no_mark _ _ named f

-- `puts 1` is a command with one argument.
abbrev puts_one : Bytes
puts_one = codes "puts 1"

abbrev puts_one_tokens : Toks
puts_one_tokens = token.more (tok name 0 4 1 false) (token.more (tok (integer (pos 1)) 5 6 1 true) none)

abbrev spot_at : ℕ → SourcePosition
spot_at p = record { first = 1; line = 1; place = p }

pub puts_one_is : Derives puts_one puts_one_tokens (at (spot_at 0) (statements (more (at (spot_at 0) (send without (more (at (spot_at 5) (tree.integer (pos 1))) no_more) [] without (codes "puts") false without)) no_more)))
unfolding derives
puts_one_is = record {
  depth = 2;
  behind = fresh;
  derived =
      g.Stmts.some refl (g.StmtList.last (g.head (g.Head.plain refl (g.tests (g.Test.plain (g.command (g.Command.named refl refl
      (g.items (g.Items.element (g.Element.plain
      (operand puts_one (derives puts_one 0) refl (g.literal (g.number refl)) refl refl refl refl refl refl refl refl refl refl refl refl refl refl refl)) refl) refl)
      (g.CommandBlock.missing refl)))) (g.Tests.end refl refl))) (g.Modifiers.end refl)) refl);
}

-- In `x = y rescue 1` the `rescue` is the value's.
abbrev saved_value : Bytes
saved_value = codes "x = y rescue 1"

abbrev saved_value_tokens : Toks
saved_value_tokens =
    token.more (tok name 0 1 1 false) (token.more (tok mark 2 3 1 true) (token.more (tok name 4 5 1 true) (token.more (tok token.keyword 6 12 1 true) (token.more (tok (integer (pos 1)) 13 14 1 true) none))))

pub saved_value_is : Derives saved_value saved_value_tokens (at (spot_at 0) (statements (tree.more (at (spot_at 0) (tree.assign
    (at (spot_at 4) (tree.rescue
    (at (spot_at 4) (statements (tree.more (at (spot_at 4) (send without no_more [] without (codes "y") true without)) no_more)))
    without
    (at (spot_at 6) (tree.rescue_sequence (tree.clause no_more None (at (spot_at 13) (statements (tree.more (at (spot_at 13) (tree.integer (pos 1))) no_more))) tree.no_clause)))))
    (tree.to_local (codes "x")))) no_more)))
unfolding derives
saved_value_is = record {
  depth = 3;
  behind = record { locals = codes "x" ∷ []; clause = false };
  derived =
      g.Stmts.some refl (g.StmtList.last (g.head (g.Head.plain refl (g.tests (g.Test.plain (g.CommandOrArg.arg
      (g.Arg.variable refl refl (g.Value.saved
      (g.CommandOrArg.arg (operand saved_value (derives saved_value 1) refl (g.bare_name refl refl refl refl refl) refl refl refl refl refl refl refl refl refl refl refl refl refl refl refl))
      refl
      (operand saved_value (derives saved_value 1) refl (g.literal (g.number refl)) refl refl refl refl refl refl refl refl refl refl refl refl refl refl refl)))))
      (g.Tests.end refl refl))) (g.Modifiers.end refl)) refl);
}

-- In `f x do end` the block is the command's, though x could take one.
abbrev block_of_command : Bytes
block_of_command = codes "f x do end"

abbrev block_of_command_tokens : Toks
block_of_command_tokens =
    token.more (tok name 0 1 1 false) (token.more (tok name 2 3 1 true) (token.more (tok token.keyword 4 6 1 true) (token.more (tok token.keyword 7 10 1 true) none)))

pub block_of_command_is : Derives block_of_command block_of_command_tokens (at (spot_at 0) (statements (tree.more (at (spot_at 0) (send without
    (tree.more (at (spot_at 2) (send without no_more [] without (codes "x") true without)) no_more) [] without (codes "f") false
    (tree.with (at (spot_at 4) (tree.body tree.no_param (at nowhere (statements no_more))))))) no_more)))
unfolding derives
block_of_command_is = record {
  depth = 2;
  behind = fresh;
  derived =
      g.Stmts.some refl (g.StmtList.last (g.head (g.Head.plain refl (g.tests (g.Test.plain (g.command (g.Command.named refl refl
      (g.items (g.Items.element (g.Element.plain
      (operand block_of_command (derives block_of_command 0) refl (g.bare_name refl refl refl refl refl) refl refl refl refl refl refl refl refl refl refl refl refl refl refl refl)) refl) refl)
      (g.CommandBlock.given refl refl (g.block refl (g.Bars.missing refl) (g.Body.plain (g.Rescued.plain (g.Stmts.none refl refl) refl) refl) refl)))))
      (g.Tests.end refl refl))) (g.Modifiers.end refl)) refl);
}

-- In `x = -`, a newline and `1`, the `-` is no part of the number: it is sent to it.
abbrev sent_minus : Bytes
sent_minus = codes "x = -\n1"

abbrev sent_minus_tokens : Toks
sent_minus_tokens =
    token.more (tok name 0 1 1 false) (token.more (tok mark 2 3 1 true) (token.more (tok mark 4 5 1 true) (token.more (tok (integer (pos 1)) 6 7 2 false) none)))

pub sent_minus_is : Derives sent_minus sent_minus_tokens (at (spot_at 0) (statements (tree.more (at (spot_at 0) (assign
    (at (spot_at 4) (send (tree.with (at (record { first = 2; line = 2; place = 6 }) (tree.integer (pos 1)))) no_more [] without (codes "-@") false without))
    (to_local (codes "x")))) no_more)))
unfolding derives
sent_minus_is = record {
  depth = 4;
  behind = record { locals = codes "x" ∷ []; clause = false };
  derived =
      g.Stmts.some refl (g.StmtList.last (g.head (g.Head.plain refl (g.tests (g.Test.plain (g.CommandOrArg.arg
      (g.Arg.variable refl refl (g.Value.plain (g.CommandOrArg.arg
      (whole_operand sent_minus (derives sent_minus 2) refl (g.Minus.minus refl refl (g.Minus.plain (g.Power.plain (g.UnaryOperand.plain (g.postfix (g.literal (g.number refl)) g.Postfixes.end) refl) refl))) refl refl refl refl refl refl refl refl refl refl refl refl refl)) refl))))
      (g.Tests.end refl refl))) (g.Modifiers.end refl)) refl);
}

-- `def f 1` and a newline, which is no header, since the body stands right behind the name
abbrev body_in_line : Bytes
body_in_line = codes "def f 1\n2 2\nend"

abbrev body_in_line_tokens : Toks
body_in_line_tokens =
    token.more (tok token.keyword 0 3 1 false) (token.more (tok name 4 5 1 true) (token.more (tok (integer (pos 1)) 6 7 1 true) (token.more (tok newline 7 8 1 false) (token.more (tok (integer (pos 2)) 8 9 2 false) (token.more (tok (integer (pos 2)) 10 11 2 true) (token.more (tok newline 11 12 2 false) (token.more (tok token.keyword 12 15 3 false) none)))))))

pub body_in_line_is_no_header : (s z : Scope) (r : Toks) → Header body_in_line s body_in_line_tokens r z → ⊥
body_in_line_is_no_header = no_header body_in_line body_in_line_tokens refl refl refl refl refl refl

-- `def a`, a newline that is none, `.b` and a newline
abbrev point_behind : Bytes
point_behind = codes "def a\n.b\nend"

abbrev point_behind_tokens : Toks
point_behind_tokens =
    token.more (tok token.keyword 0 3 1 false) (token.more (tok name 4 5 1 true) (token.more (tok mark 6 7 2 false) (token.more (tok name 7 8 2 false) (token.more (tok newline 8 9 2 false) (token.more (tok token.keyword 9 12 3 false) none)))))

pub point_behind_is_no_header : (s z : Scope) (r : Toks) → Header point_behind s point_behind_tokens r z → ⊥
point_behind_is_no_header = no_header point_behind point_behind_tokens refl refl refl refl refl refl

-- `[`, a newline and `]`, which are no method's name
abbrev parted_brackets : Bytes
parted_brackets = codes "[\n]"

abbrev parted_brackets_tokens : Toks
parted_brackets_tokens = token.more (tok mark 0 1 1 false) (token.more (tok mark 2 3 2 false) none)

pub parted_brackets_are_no_name : (b : Bool) (m : Bytes) (r : Toks) → MethodName parted_brackets b parted_brackets_tokens m r → ⊥
parted_brackets_are_no_name b m r (g.MethodName.name e f) = absurd cc
parted_brackets_are_no_name b m r (g.setter d e f h) = absurd cc
parted_brackets_are_no_name b m r (g.MethodName.constant e) = absurd cc
parted_brackets_are_no_name b m r (g.MethodName.operator e) = absurd cc
parted_brackets_are_no_name b m r (g.MethodName.index e f h i) = absurd cc
parted_brackets_are_no_name b m r (g.index_setter e f h i j) = absurd cc
