-- What is derived takes tokens and keeps the locals: assignments, commands and statements.
use Rattle.std.proofs.Common.{Bool, codes, refl, arith}
use Rattle.ruby_lexer.specs.Bytes.{Bytes}
use Rattle.ruby_lexer.specs.Pieces.{Toks}
use Rattle.ruby_tree.specs.Tree.{Tree}
use Rattle.ruby_tree.specs.Rules.{DoBlockOwner, own, loops, sending_assignments}
use Rattle.ruby_tree.specs.Grammar.{Rels, Values, Command, Value, Unset, Arg, CommandOrArg, Test, Tests, Expr, Head, Modifiers, Stmt, StmtList, Stmts}
use Rattle.ruby_tree.specs.Grammar as g
use Rattle.reference_laws.proofs.Moves.{◌▷◌, least, stays, enters, leaves, sets_goal, at_kind, at_mark, at_word, at_line, at_one_of, at_goal, Moving, Movers}
use Rattle.reference_laws.proofs.ShorterItems.{moves_dot, moves_method_name, moves_targets, moves_several, moves_command_items}
use Rattle.reference_laws.proofs.ShorterBodies.{moves_command_block}
use Rattle.reference_laws.proofs.ShorterOperands.{moves_postfix}
use Rattle.reference_laws.proofs.ShorterLevels.{moves_conditional}

module _ (source : Bytes) (b : Bool) (R : Rels) (M : Movers b R) where
  pub moves_values : (d : DoBlockOwner) → Moving b 0 (Values source R d)
  moves_values d w s t r z (g.Values.missing e) = stays
  moves_values d w s t r z (g.Values.given e h) = least (moves_several source b R M d _ _ _ _ _ h) (omega arith)

  pub moves_command : (d : DoBlockOwner) → Moving b 1 (Command source R d)
  moves_command d w s t r z (g.Command.named e i h c) = least (at_kind e ▷ moves_command_items source b R M d _ _ _ _ _ h ▷ moves_command_block source b R M d _ _ _ _ _ _ c) (omega arith)
  moves_command d w s t r z (g.Command.called i h e m j f c) =
      least (moves_postfix source b R M d _ _ _ _ _ h ▷ moves_dot source b _ _ _ e ▷ moves_method_name source b _ _ _ _ _ m ▷ moves_command_items source b R M d _ _ _ _ _ f ▷ moves_command_block source b R M d _ _ _ _ _ _ c) (omega arith)
  moves_command d w s t r z (g.Command.yielded e i h j) = least (at_word source (codes "yield") w e ▷ moves_command_items source b R M d _ _ _ _ _ h) (omega arith)
  moves_command d w s t r z (g.Command.super_with e i h c) = least (at_word source (codes "super") w e ▷ moves_command_items source b R M d _ _ _ _ _ h ▷ moves_command_block source b R M d _ _ _ _ _ _ c) (omega arith)
  moves_command d w s t r z (g.Command.returned e h) = at_word source (codes "return") w e ▷ moves_values d _ _ _ _ _ h
  moves_command d w s t r z (g.Command.broken e h) = at_word source (codes "break") w e ▷ moves_values d _ _ _ _ _ h
  moves_command d w s t r z (g.Command.nexted e h) = at_word source (codes "next") w e ▷ moves_values d _ _ _ _ _ h

  pub moves_value : (d : DoBlockOwner) → Moving b 1 (Value source R d)
  moves_value d w s t r z (g.Value.plain h e) = M.assigned_value d _ _ _ _ _ h
  moves_value d w s t r z (g.Value.saved {y = y} h e i) = least (M.assigned_value d _ _ _ _ _ h ▷ at_word source (codes "rescue") _ e ▷ enters {s = y} refl (leaves refl (M.arg d _ _ _ _ _ i))) (omega arith)

  pub moves_unset : (d : DoBlockOwner) → Moving b 1 (Unset source R d)
  moves_unset d w s t r z (g.Unset.attribute h e i c v) = least (moves_postfix source b R M d _ _ _ _ _ h ▷ at_mark source (codes ".") _ e ▷ at_kind i ▷ at_mark source (codes "=") _ c ▷ moves_value d _ _ _ _ _ v) (omega arith)
  moves_unset d w s t r z (g.Unset.operated_attribute h e i c v) = least (moves_postfix source b R M d _ _ _ _ _ h ▷ at_mark source (codes ".") _ e ▷ at_kind i ▷ at_one_of source sending_assignments _ c ▷ moves_value d _ _ _ _ _ v) (omega arith)
  moves_unset d w s t r z (g.Unset.either_attribute h e i c v) = least (moves_postfix source b R M d _ _ _ _ _ h ▷ at_mark source (codes ".") _ e ▷ at_kind i ▷ at_mark source (codes "||=") _ c ▷ moves_value d _ _ _ _ _ v) (omega arith)
  moves_unset d w s t r z (g.Unset.both_attribute h e i c v) = least (moves_postfix source b R M d _ _ _ _ _ h ▷ at_mark source (codes ".") _ e ▷ at_kind i ▷ at_mark source (codes "&&=") _ c ▷ moves_value d _ _ _ _ _ v) (omega arith)
  moves_unset d w s t r z (g.Unset.element h e i x f c v) =
      least (moves_postfix source b R M d _ _ _ _ _ h ▷ at_mark source (codes "[") _ e ▷ M.arg own _ _ _ _ _ x ▷ at_mark source (codes "]") _ f ▷ at_mark source (codes "=") _ c ▷ moves_value d _ _ _ _ _ v) (omega arith)
  moves_unset d w s t r z (g.Unset.operated_element h e i x f c v) =
      least (moves_postfix source b R M d _ _ _ _ _ h ▷ at_mark source (codes "[") _ e ▷ M.arg own _ _ _ _ _ x ▷ at_mark source (codes "]") _ f ▷ at_one_of source sending_assignments _ c ▷ moves_value d _ _ _ _ _ v) (omega arith)
  moves_unset d w s t r z (g.Unset.either_element h e i x f c v) =
      least (moves_postfix source b R M d _ _ _ _ _ h ▷ at_mark source (codes "[") _ e ▷ M.arg own _ _ _ _ _ x ▷ at_mark source (codes "]") _ f ▷ at_mark source (codes "||=") _ c ▷ moves_value d _ _ _ _ _ v) (omega arith)
  moves_unset d w s t r z (g.Unset.both_element h e i x f c v) =
      least (moves_postfix source b R M d _ _ _ _ _ h ▷ at_mark source (codes "[") _ e ▷ M.arg own _ _ _ _ _ x ▷ at_mark source (codes "]") _ f ▷ at_mark source (codes "&&=") _ c ▷ moves_value d _ _ _ _ _ v) (omega arith)
  moves_unset d w s t r z (g.Unset.plain h e) = moves_conditional source b R M d _ _ _ _ _ h

  pub moves_arg : (d : DoBlockOwner) → Moving b 1 (Arg source R d)
  moves_arg d w s t r z (g.Arg.variable {g = x} e c v) = least (at_goal source w _ e ▷ at_mark source (codes "=") _ c ▷ sets_goal x s ▷ moves_value d _ _ _ _ _ v) (omega arith)
  moves_arg d w s t r z (g.Arg.operated_variable {g = x} e c v) = least (at_goal source w _ e ▷ at_one_of source sending_assignments _ c ▷ sets_goal x s ▷ moves_value d _ _ _ _ _ v) (omega arith)
  moves_arg d w s t r z (g.Arg.either_variable {g = x} e c v) = least (at_goal source w _ e ▷ at_mark source (codes "||=") _ c ▷ sets_goal x s ▷ moves_value d _ _ _ _ _ v) (omega arith)
  moves_arg d w s t r z (g.Arg.both_variable {g = x} e c v) = least (at_goal source w _ e ▷ at_mark source (codes "&&=") _ c ▷ sets_goal x s ▷ moves_value d _ _ _ _ _ v) (omega arith)
  moves_arg d w s t r z (g.Arg.constant e c v) = least (at_kind e ▷ at_mark source (codes "=") _ c ▷ moves_value d _ _ _ _ _ v) (omega arith)
  moves_arg d w s t r z (g.Arg.other e h) = moves_unset d _ _ _ _ _ h

  pub moves_whole : (d : DoBlockOwner) → Moving b 1 (CommandOrArg source R d)
  moves_whole d w s t r z (g.CommandOrArg.command h) = moves_command d _ _ _ _ _ h
  moves_whole d w s t r z (g.CommandOrArg.arg h) = moves_arg d _ _ _ _ _ h

  pub moves_test : (d : DoBlockOwner) → Moving b 1 (Test source R d)
  moves_test d w s t r z (g.Test.inverted e h) = least (at_word source (codes "not") w e ▷ M.test d _ _ _ _ _ h) (omega arith)
  moves_test d w s t r z (g.Test.plain h) = moves_whole d _ _ _ _ _ h

  pub moves_tests : (d : DoBlockOwner) (o : Toks) (a : Tree) → Moving b 0 (Tests source R d o a)
  moves_tests d o a w s t r z (g.Tests.and_test e h hs) = least (at_word source (codes "and") w e ▷ M.test d _ _ _ _ _ h ▷ moves_tests d o _ _ _ _ _ _ hs) (omega arith)
  moves_tests d o a w s t r z (g.Tests.or_test e h hs) = least (at_word source (codes "or") w e ▷ M.test d _ _ _ _ _ h ▷ moves_tests d o _ _ _ _ _ _ hs) (omega arith)
  moves_tests d o a w s t r z (g.Tests.end e h) = stays

  pub moves_expr : (d : DoBlockOwner) → Moving b 1 (Expr source R d)
  moves_expr d w s t r z (g.Expr.tests h hs) = moves_test d _ _ _ _ _ h ▷ moves_tests d _ _ _ _ _ _ _ hs

  pub moves_head : (d : DoBlockOwner) → Moving b 1 (Head source R d)
  moves_head d w s t r z (g.Head.several h e hs) = least (moves_targets source b _ _ _ _ _ h ▷ at_mark source (codes "=") _ e ▷ moves_several source b R M d _ _ _ _ _ hs) (omega arith)
  moves_head d w s t r z (g.Head.plain e h) = moves_expr d _ _ _ _ _ h

  pub moves_modifiers : (d : DoBlockOwner) (o : Toks) (c : Bool) (a : Tree) → Moving b 0 (Modifiers source R d o c a)
  moves_modifiers d o c a w s t r z (g.Modifiers.if_holds e h hs) = least (at_word source (codes "if") w e ▷ M.expr d _ _ _ _ _ h ▷ moves_modifiers d o _ _ _ _ _ _ _ hs) (omega arith)
  moves_modifiers d o c a w s t r z (g.Modifiers.unless_holds e h hs) = least (at_word source (codes "unless") w e ▷ M.expr d _ _ _ _ _ h ▷ moves_modifiers d o _ _ _ _ _ _ _ hs) (omega arith)
  moves_modifiers d o c a w s t r z (g.Modifiers.while_holds e h hs) = least (at_word source (codes "while") w e ▷ M.expr loops _ _ _ _ _ h ▷ moves_modifiers d o _ _ _ _ _ _ _ hs) (omega arith)
  moves_modifiers d o c a w s t r z (g.Modifiers.until_holds e h hs) = least (at_word source (codes "until") w e ▷ M.expr loops _ _ _ _ _ h ▷ moves_modifiers d o _ _ _ _ _ _ _ hs) (omega arith)
  moves_modifiers d o c a w s t r z (g.Modifiers.saved e h hs) = least (at_word source (codes "rescue") w e ▷ enters {s = s} refl (leaves refl (M.expr d _ _ _ _ _ h)) ▷ moves_modifiers d o _ _ _ _ _ _ _ hs) (omega arith)
  moves_modifiers d o c a w s t r z (g.Modifiers.end e) = stays

  pub moves_stmt : (d : DoBlockOwner) → Moving b 1 (Stmt source R d)
  moves_stmt d w s t r z (g.Stmt.head h hs) = moves_head d _ _ _ _ _ h ▷ moves_modifiers d _ _ _ _ _ _ _ _ hs

  pub moves_stmt_list : (d : DoBlockOwner) → Moving b 0 (StmtList source R d)
  moves_stmt_list d w s t r z (g.StmtList.line e h) = least (at_line source w e ▷ moves_stmt_list d _ _ _ _ _ h) (omega arith)
  moves_stmt_list d w s t r z (g.StmtList.last h e) = least (moves_stmt d _ _ _ _ _ h) (omega arith)
  moves_stmt_list d w s t r z (g.StmtList.another h e hs) = least (moves_stmt d _ _ _ _ _ h ▷ at_line source _ e ▷ moves_stmt_list d _ _ _ _ _ hs) (omega arith)
  moves_stmt_list d w s t r z (g.StmtList.empty e i) = stays

  pub moves_stmts : (d : DoBlockOwner) → Moving b 0 (Stmts source R d)
  moves_stmts d w s t r z (g.Stmts.none e i) = stays
  moves_stmts d w s t r z (g.Stmts.lines e h) = moves_stmt_list d _ _ _ _ _ h
  moves_stmts d w s t r z (g.Stmts.some e h) = moves_stmt_list d _ _ _ _ _ h
