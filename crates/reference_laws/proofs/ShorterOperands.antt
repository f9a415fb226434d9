-- What is derived takes tokens and keeps the locals: operands, and what stands behind them.
use Rattle.std.proofs.Common.{Bool, codes, arith}
use Rattle.ruby_lexer.specs.Bytes.{Bytes}
use Rattle.ruby_lexer.specs.Pieces.{Toks}
use Rattle.ruby_tree.specs.Tree.{Tree}
use Rattle.ruby_tree.specs.Rules.{DoBlockOwner, own, loops, within}
use Rattle.ruby_tree.specs.Grammar.{Rels, Literal, Primary, Postfixes, Postfix}
use Rattle.ruby_tree.specs.Grammar as g
use Rattle.reference_laws.proofs.Moves.{◌▷◌, least, stays, inside, at_kind, at_mark, at_word, at_line, at_negative, Moving, Movers}
use Rattle.reference_laws.proofs.ShorterItems.{moves_trailing, moves_then, moves_loop_start, moves_newlines, moves_dot, moves_method_name, moves_on_self, moves_elements, moves_pair_list, moves_items, moves_in_brackets}
use Rattle.reference_laws.proofs.ShorterBodies.{moves_else, moves_body, moves_block, moves_call_block, moves_call_items, moves_text_parts, moves_when_list, moves_parameters, moves_superclass}

module _ (source : Bytes) (b : Bool) (R : Rels) (M : Movers b R) where
  pub moves_literal : Moving b 1 (Literal source R)
  moves_literal w s t r z (g.Literal.nil_word e) = at_word source (codes "nil") w e
  moves_literal w s t r z (g.Literal.true_word e) = at_word source (codes "true") w e
  moves_literal w s t r z (g.Literal.false_word e) = at_word source (codes "false") w e
  moves_literal w s t r z (g.Literal.file_word e) = at_word source (codes "__FILE__") w e
  moves_literal w s t r z (g.Literal.folder_word e) = at_word source (codes "__dir__") w e
  moves_literal w s t r z (g.Literal.line_word e) = at_word source (codes "__LINE__") w e
  moves_literal w s t r z (g.Literal.number e) = at_kind e
  moves_literal w s t r z (g.Literal.negative_number e h) = least (at_negative source w e ▷ at_kind h) (omega arith)
  moves_literal w s t r z (g.Literal.plain_text e h) = at_kind e
  moves_literal w s t r z (g.Literal.text_with_code e h i) = at_kind e ▷ moves_text_parts source b R M _ _ _ _ _ i
  moves_literal w s t r z (g.Literal.symbol_name e) = at_kind e
  moves_literal w s t r z (g.Literal.word_list e) = at_kind e
  moves_literal w s t r z (g.Literal.symbol_list e) = at_kind e

  pub moves_primary : (d : DoBlockOwner) → Moving b 1 (Primary source R d)
  moves_primary d w s t r z (g.Primary.literal h) = moves_literal _ _ _ _ _ h
  moves_primary d w s t r z (g.Primary.empty_list e h) = least (at_mark source (codes "[") w e ▷ at_mark source (codes "]") _ h) (omega arith)
  moves_primary d w s t r z (g.Primary.list e h f c) = least (at_mark source (codes "[") w e ▷ moves_elements source b R M own _ _ _ _ _ _ _ h ▷ moves_trailing source b _ _ _ f ▷ at_mark source (codes "]") _ c) (omega arith)
  moves_primary d w s t r z (g.Primary.empty_hash e h) = least (at_mark source (codes "{") w e ▷ at_mark source (codes "}") _ h) (omega arith)
  moves_primary d w s t r z (g.Primary.pairs e h f c) = least (at_mark source (codes "{") w e ▷ moves_pair_list source b R M own _ _ _ _ _ h ▷ moves_trailing source b _ _ _ f ▷ at_mark source (codes "}") _ c) (omega arith)
  moves_primary d w s t r z (g.Primary.brackets e h c) = least (at_mark source (codes "(") w e ▷ M.stmts own _ _ _ _ _ h ▷ at_mark source (codes ")") _ c) (omega arith)
  moves_primary d w s t r z (g.Primary.self_word e) = at_word source (codes "self") w e
  moves_primary d w s t r z (g.Primary.local_name e o p i) = at_kind e
  moves_primary d w s t r z (g.Primary.bare_name e o p i j) = at_kind e
  moves_primary d w s t r z (g.Primary.name_with_block e o i h) = least (at_kind e ▷ moves_block source b R M d _ _ _ _ _ h) (omega arith)
  moves_primary d w s t r z (g.Primary.called_name e o h i) = least (at_kind e ▷ moves_in_brackets source b R M _ _ _ _ _ h ▷ moves_call_block source b R M d _ _ _ _ _ _ i) (omega arith)
  moves_primary d w s t r z (g.Primary.instance_name e) = at_kind e
  moves_primary d w s t r z (g.Primary.global_name e) = at_kind e
  moves_primary d w s t r z (g.Primary.constant e o) = at_kind e
  moves_primary d w s t r z (g.Primary.called_constant e o h i) = least (at_kind e ▷ moves_in_brackets source b R M _ _ _ _ _ h ▷ moves_call_block source b R M d _ _ _ _ _ _ i) (omega arith)
  moves_primary d w s t r z (g.Primary.top_constant e h) = least (at_mark source (codes "::") w e ▷ at_kind h) (omega arith)
  moves_primary d w s t r z (g.Primary.bare_yield e o i) = at_word source (codes "yield") w e
  moves_primary d w s t r z (g.Primary.called_yield e o h i) = least (at_word source (codes "yield") w e ▷ moves_in_brackets source b R M _ _ _ _ _ h) (omega arith)
  moves_primary d w s t r z (g.Primary.super_alone e o i h) = least (at_word source (codes "super") w e ▷ moves_call_block source b R M d _ _ _ _ _ _ h) (omega arith)
  moves_primary d w s t r z (g.Primary.called_super e o h i) = least (at_word source (codes "super") w e ▷ moves_in_brackets source b R M _ _ _ _ _ h ▷ moves_call_block source b R M d _ _ _ _ _ _ i) (omega arith)
  moves_primary d w s t r z (g.Primary.if_form e c f h i o) =
      least (at_word source (codes "if") w e ▷ M.expr (within d) _ _ _ _ _ c ▷ moves_then source b _ _ _ f ▷ M.stmts (within d) _ _ _ _ _ h ▷ M.else_branches (within d) _ _ _ _ _ i ▷ at_word source (codes "end") _ o) (omega arith)
  moves_primary d w s t r z (g.Primary.unless_form e c f h i o) =
      least (at_word source (codes "unless") w e ▷ M.expr (within d) _ _ _ _ _ c ▷ moves_then source b _ _ _ f ▷ M.stmts (within d) _ _ _ _ _ h ▷ M.else_branches (within d) _ _ _ _ _ i ▷ at_word source (codes "end") _ o) (omega arith)
  moves_primary d w s t r z (g.Primary.while_form e c f h o) =
      least (at_word source (codes "while") w e ▷ M.expr loops _ _ _ _ _ c ▷ moves_loop_start source b _ _ _ f ▷ M.stmts (within d) _ _ _ _ _ h ▷ at_word source (codes "end") _ o) (omega arith)
  moves_primary d w s t r z (g.Primary.until_form e c f h o) =
      least (at_word source (codes "until") w e ▷ M.expr loops _ _ _ _ _ c ▷ moves_loop_start source b _ _ _ f ▷ M.stmts (within d) _ _ _ _ _ h ▷ at_word source (codes "end") _ o) (omega arith)
  moves_primary d w s t r z (g.Primary.begin_form e h o) = least (at_word source (codes "begin") w e ▷ moves_body source b R M (within d) _ _ _ _ _ _ h ▷ at_word source (codes "end") _ o) (omega arith)
  moves_primary d w s t r z (g.Primary.case_form e c f h i o) =
      least (at_word source (codes "case") w e ▷ M.expr (within d) _ _ _ _ _ c ▷ moves_newlines source b _ _ _ f ▷ moves_when_list source b R M (within d) _ _ _ _ _ h ▷ moves_else source b R M (within d) _ _ _ _ _ i ▷ at_word source (codes "end") _ o) (omega arith)
  moves_primary d w s t r z (g.Primary.case_of_tests e f h i o) =
      least (at_word source (codes "case") w e ▷ moves_newlines source b _ _ _ f ▷ moves_when_list source b R M (within d) _ _ _ _ _ h ▷ moves_else source b R M (within d) _ _ _ _ _ i ▷ at_word source (codes "end") _ o) (omega arith)
  moves_primary d w s t r z (g.Primary.method_form {y = y} e i m p h o) =
      least (at_word source (codes "def") w e ▷ moves_on_self source b R M _ _ _ _ i ▷ moves_method_name source b _ _ _ _ _ m ▷ inside s (moves_parameters source b R M (within d) _ _ _ _ _ p ▷ moves_body source b R M (within d) _ _ _ _ _ _ h) ▷ at_word source (codes "end") _ o) (omega arith)
  moves_primary d w s t r z (g.Primary.class_form e c i f h o) =
      least (at_word source (codes "class") w e ▷ at_kind c ▷ moves_superclass source b R M (within d) _ _ _ _ _ i ▷ at_line source _ f ▷ inside z (moves_body source b R M (within d) _ _ _ _ _ _ h) ▷ at_word source (codes "end") _ o) (omega arith)
  moves_primary d w s t r z (g.Primary.module_form e c f h o) =
      least (at_word source (codes "module") w e ▷ at_kind c ▷ at_line source _ f ▷ inside s (moves_body source b R M (within d) _ _ _ _ _ _ h) ▷ at_word source (codes "end") _ o) (omega arith)
  moves_primary d w s t r z (g.Primary.retry_word e) = at_word source (codes "retry") w e

  pub moves_postfixes : (d : DoBlockOwner) (o : Toks) (a : Tree) → Moving b 0 (Postfixes source R d o a)
  moves_postfixes d o a w s t r z (g.Postfixes.called e m i j h hs) =
      least (moves_dot source b _ _ _ e ▷ moves_method_name source b _ _ _ _ _ m ▷ moves_call_items source b R M d _ _ _ _ _ _ h ▷ moves_postfixes d o _ _ _ _ _ _ hs) (omega arith)
  moves_postfixes d o a w s t r z (g.Postfixes.constant e h hs) = least (at_mark source (codes "::") w e ▷ at_kind h ▷ moves_postfixes d o _ _ _ _ _ _ hs) (omega arith)
  moves_postfixes d o a w s t r z (g.Postfixes.index e i h c j hs) =
      least (at_mark source (codes "[") w e ▷ moves_items source b R M own _ _ _ _ _ _ h ▷ at_mark source (codes "]") _ c ▷ moves_postfixes d o _ _ _ _ _ _ hs) (omega arith)
  moves_postfixes d o a w s t r z g.Postfixes.end = stays

  pub moves_postfix : (d : DoBlockOwner) → Moving b 1 (Postfix source R d)
  moves_postfix d w s t r z (g.Postfix.postfix h hs) = moves_primary d _ _ _ _ _ h ▷ moves_postfixes d _ _ _ _ _ _ _ hs
